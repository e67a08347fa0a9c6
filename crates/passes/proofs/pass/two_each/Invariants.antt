-- The loop of pass.two_each: the two least of the first w settings.
use mathlib.Core.Path.{◌≡◌}
use Rattle.passes.specs.Pass.{two_least, summed_key}
use Rattle.passes.proofs.pass.two_each.Given as goal

abbrev pub invariant-loop-w : goal.invariant-loop-w
invariant-loop-w l = l.two ≡ two_least (summed_key l.table.sums.now l.table.runs l.words) l.bound l.w
