-- The decoding calls with a number as the answer, and counts and record in lent slices. These are written with every answer; one that is lent at another size is refused as 7, where 7
-- stands in the table's order, and keeps what it held; the other is zeros then, as with every refusal from 1 to 9. Assumes nothing.
use Rattle.std.specs.Prelude.{◌≡◌, List, ℕ, length, Some, None}
use Rattle.codebook.specs.Refusals.{outcome_number}
use Rattle.machine.specs.declared.Reads.TheVariants.{Data, Record}
use Rattle.machine.specs.declared.Manner.{Manner}
use Rattle.machine.specs.declared.HookDecoded.{HookDecoded}
use Rattle.machine.specs.Calls.{Input, Lent}
use Rattle.decoder.specs.Decodes.{Decodes}
use Rattle.answers.specs.Slices.{counts_slice, record_slice, filled}

-- the plain call with counts of this size beside, and the hook call with counts and record
abbrev pub counting : ℕ → Manner
counting counts = record { reads = Data; steps = None; counts = Some counts; hook = None }

abbrev pub recording : ℕ → ℕ → Manner
recording counts hook = record { reads = Record; steps = None; counts = Some counts; hook = Some hook }

-- Of the plain call, with counts₀ in the slice before: its number and its counts are those of the call's answer, and that answer and the buffers afterwards are all that a decoding call promises.
pub record PlainSlices (c : Input) (l : Lent) (counts₀ : List ℕ) (number : ℕ) (after : Lent) (counts : List ℕ) : Type 0 where
  pub answer : HookDecoded
  pub decodes : Decodes (counting (length counts₀)) c l answer after
  pub numbered : number ≡ outcome_number answer.outcome
  pub counted : counts ≡ filled (counts_slice answer.counts) counts₀

-- Of the hook call, with the record besides.
pub record HookSlices (c : Input) (l : Lent) (counts₀ hook₀ : List ℕ) (number : ℕ) (after : Lent) (counts hook : List ℕ) : Type 0 where
  pub answer : HookDecoded
  pub decodes : Decodes (recording (length counts₀) (length hook₀)) c l answer after
  pub numbered : number ≡ outcome_number answer.outcome
  pub counted : counts ≡ filled (counts_slice answer.counts) counts₀
  pub read : hook ≡ filled (record_slice answer.hook) hook₀
