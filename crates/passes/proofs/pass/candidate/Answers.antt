-- `passes::pass::candidate` meets its contract: what the key and the directions say of the setting. Assumes nothing.
use borrow.Author.Tests.{eq-eqb, ne_eqb}
use Rattle.passes.specs.Pass.{chosen}
use Rattle.passes.proofs.pass.candidate.Goals as goal

pub returns-then-key-eq18446744073709551615 : goal.returns-then-key-eq18446744073709551615
unfolding chosen
returns-then-key-eq18446744073709551615 c = rw (eq-eqb _ _ c.if-key-eq18446744073709551615.true)

pub returns : goal.returns
unfolding chosen
returns c = rw (ne_eqb _ _ c.if-key-eq18446744073709551615.false, c.spread_at.ensures)
