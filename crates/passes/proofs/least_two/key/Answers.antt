-- `passes::least_two::key` meets its contract. Assumes nothing.
use mathlib.Core.Path.{refl}
use Rattle.outer.specs.Search.{key_of}
use Rattle.passes.proofs.least_two.key.Goals as goal

pub returns : goal.returns
unfolding key_of
returns c = refl
