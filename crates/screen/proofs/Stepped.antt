-- What decode_step says, from what the decoding call leaves: entry i of the walk's buffers is the record of extraction i, of the machine's and so of the
-- reader's. By whether there is such an extraction. Assumes nothing.
use mathlib.Core.Path.{◌≡◌, refl, ap, ◌∙◌}
use mathlib.Core.Bool.{Bool, true, false, cond}
use mathlib.Core.List.{List}
use Prim.Native.Nat.{ℕ, ◌≤◌}
use native.Mathlib.Omega.{arith}
use lib.Dec.{ltb}
use lib.ListN.{length}
use borrow.Author.Tests.{ltb-true, ltb-false}
use Rattle.machine.specs.declared.Decoded.{Decoded}
use Rattle.queue.specs.Queue.{Step}
use Rattle.machine.specs.Calls.{Input, Lent, call_of, plain, unread}
use Rattle.decoder.specs.Decodes.{Decodes}
use Rattle.decoder.proofs.Walked.{extracted, left-long}
use Rattle.steprecords.specs.declared.StepRecord.{StepRecord}
use Rattle.steprecords.specs.Records.{blank, nth_record, record_at}
use Rattle.steprecords.proofs.Copied.{past, record-at}
use Rattle.screen.specs.Screen.{DecodesStep}
use Rattle.screen.proofs.Shown.{reader-steps}

-- the call's answer and what it leaves
module _ (c : Input) (l : Lent) (r : Decoded) (after : Lent) (d : Decodes plain c l (unread r) after) where
  pub step_fits : let n = r.counts.extractions in (n ≤ length after.walk_path) × (n ≤ length after.walk_blocks) × (n ≤ length after.walk_score)
  step_fits = left-long plain c l (unread r) after d

  abbrev steps : List Step
  steps = (call_of plain c l).steps

  module _ (i : ℕ) (s : StepRecord) (e : s ≡ cond (ltb i r.counts.extractions) (record_at after.walk_path after.walk_blocks after.walk_score i) blank) where
    -- the record is that of the machine's extraction i
    stepped : s ≡ nth_record steps i
    stepped = e ∙ go (ltb i r.counts.extractions) refl
      where
        go : (b : Bool) → ltb i r.counts.extractions ≡ b → cond b (record_at after.walk_path after.walk_blocks after.walk_score i) blank ≡ nth_record steps i
        go true t =
            let a = extracted plain c l (unread r) after d in
            rw (a.paths, a.blocks, a.scores) (record-at steps l.walk_path l.walk_blocks l.walk_score i (omega (arith, ltb-true i r.counts.extractions t, a.counted)))
        go false t =
            let a = extracted plain c l (unread r) after d in
            past steps i (omega (arith, ltb-false i r.counts.extractions t, a.counted))

    pub decodes-step : DecodesStep c l i (record { outcome = r.outcome; counts = r.counts; step = s }) after
    decodes-step = record { decodes = d; shown = stepped; whole = λ B m. stepped ∙ ap (λ (ss : List Step). nth_record ss i) (reader-steps plain c l B m) }
