-- All that a decoding call promises, in its manner: of what it is given (c) and lent (l), its answer, and the buffers afterwards. Assumes nothing.
use Rattle.std.specs.Prelude.{◌≡◌}
use Rattle.codebook.specs.Refusals.{outcome_number}
use Rattle.machine.specs.declared.Manner.{Manner}
use Rattle.machine.specs.declared.HookDecoded.{HookDecoded}
use Rattle.machine.specs.Calls.{Input, Lent, call_of}
use Rattle.machine.specs.Numbers.{call_number}
use Rattle.runs.specs.Handed.{Handed}
use Rattle.attempts.specs.WholeRun.{WholeRun}

-- Answer and buffers are document 01's call, by the plain machine. The others follow: demand 2 (runs/proofs/Handed) and the number of the refusal table (machine/proofs/Numbers) from
-- these two alone, demand 3 from these and the whole-run theorem; they stand here so that the contract itself says them.
pub record Decodes (k : Manner) (c : Input) (l : Lent) (answer : HookDecoded) (after : Lent) : Type 0 where
  pub answered : answer ≡ (call_of k c l).answer
  pub left : after ≡ (call_of k c l).lent
  pub whole : WholeRun k c l answer.counts after
  pub handed : Handed k c l answer after
  pub number : outcome_number answer.outcome ≡ call_number k c l
