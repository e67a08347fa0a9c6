-- The loop of pass.two_turned: the two least of the first 2k settings.
use mathlib.Core.Path.{◌≡◌}
use Prim.Native.Nat.{◌*◌}
use Rattle.passes.specs.Pass.{two_least, summed_key}
use Rattle.passes.proofs.pass.two_turned.Given as goal

abbrev pub invariant-loop-k : goal.invariant-loop-k
invariant-loop-k g l = l.two ≡ two_least (summed_key l.table.sums.now l.table.runs l.words) l.bound (2 * l.k)
