-- `passes::least_two::either` meets its contract, by its test. Assumes nothing.
use mathlib.Core.Path.{refl}
use native.Mathlib.Omega.{arith}
use borrow.Author.Tests.{lt-ltb, le-ltb}
use Rattle.passes.proofs.least_two.either.Goals as goal

pub returns-then-a-b : goal.returns-then-a-b
returns-then-a-b g c = let a = c.args in (rw (lt-ltb a.a a.b c.if-a-b.true) refl, omega (arith, c.ranges.b))

pub returns-else-a-b : goal.returns-else-a-b
returns-else-a-b g c = let a = c.args in (rw (le-ltb a.a a.b c.if-a-b.false) refl, omega (arith, c.ranges.b))
