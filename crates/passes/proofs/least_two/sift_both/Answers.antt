-- `passes::least_two::sift_both` meets its contract: two keys whose costs are above the second's change nothing; any others go the way of `among`, one
-- after the other. Assumes nothing.
use mathlib.Core.Path.{ap, ◌∙◌}
use native.Mathlib.Omega.{arith}
use Rattle.passes.specs.Pass.{two_least}
use Rattle.passes.proofs.LeastTwo.{costly}
use Rattle.passes.proofs.least_two.sift_both.Goals as goal

pub returns-then-cost-limit : goal.returns-then-cost-limit
returns-then-cost-limit c = λ k t e f. c.among.ensures k (c.among-one.ensures k t e) f ∙ ap (two_least k _) (omega arith)

pub returns : goal.returns
returns c = λ k t e f.
    let a = c.args in
    let one = costly k a.bound a.setting a.two t c.requires.0 c.ranges.number.fits e (omega (arith, c.if-cost-limit.false)) in
    costly k a.bound _ a.two one c.requires.1 c.ranges.next.fits f c.if-other-limit.false ∙ ap (two_least k _) (omega arith)
