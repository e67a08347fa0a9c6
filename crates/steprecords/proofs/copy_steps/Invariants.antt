-- The loop of `steprecords::copy_steps`: the records below i are copied into the part of the slice. Assumes nothing.
use Rattle.std.proofs.Common.{◌≡◌, take}
use Rattle.steprecords.specs.Records.{copied}
use Rattle.steprecords.proofs.copy_steps.Given as goal

abbrev pub invariant-loop-i : goal.invariant-loop-i
invariant-loop-i l = l.step-items ≡ copied (take l.n l.fn.steps) l.paths l.blocks l.scores l.i
