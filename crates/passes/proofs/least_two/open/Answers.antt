-- `passes::least_two::open` meets its contract, by its tests. Assumes nothing.
use Rattle.passes.proofs.LeastTwo.{opened-first, opened-other}
use Rattle.passes.proofs.least_two.open.Goals as goal

pub returns-then-later-first : goal.returns-then-later-first
returns-then-later-first c = let a = c.args in opened-first a.key a.bound a.first c.either-later.result c.either-later.ensures.0 c.if-later-first.true

pub returns-else-later-first : goal.returns-else-later-first
returns-else-later-first c = let a = c.args in opened-other a.key a.bound a.first c.either-later.result c.either-later.ensures.0 c.if-later-first.false
