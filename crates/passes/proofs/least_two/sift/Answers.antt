-- `passes::least_two::sift` meets its contract: a key whose cost is above the second's changes nothing; any other goes the way of `among`. Assumes
-- nothing.
use native.Mathlib.Omega.{arith}
use Rattle.passes.proofs.LeastTwo.{costly}
use Rattle.passes.proofs.least_two.sift.Goals as goal

pub returns-then-two-cost : goal.returns-then-two-cost
returns-then-two-cost c = λ k t e.
    let a = c.args in
    costly k a.bound a.setting a.two t c.requires c.ranges.number.fits e (omega (arith, c.if-two-cost.true))
