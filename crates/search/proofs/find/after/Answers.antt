-- `search::find::after` meets its contract: a key has room above it. Assumes nothing.
use native.Mathlib.Omega.{arith}
use Rattle.outer.specs.Search.{key_of}
use Rattle.search.proofs.find.after.Goals as goal

pub overflow_add-result : goal.overflow_add-result
unfolding key_of
overflow_add-result c = omega (arith, c.key.ensures, c.ranges.number)
