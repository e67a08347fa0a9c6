-- `passes::least_two::none` meets its contract: nothing is found among no settings. Assumes nothing.
use mathlib.Core.Path.{refl}
use Rattle.machine.specs.Choice.{first_of}
use Rattle.outer.specs.Search.{least_from}
use Rattle.passes.specs.Pass.{above, after_first, found_key, found_setting, two_of, two_least}
use Rattle.passes.proofs.least_two.none.Goals as goal

pub returns : goal.returns
unfolding two_least two_of after_first above least_from first_of found_key found_setting
returns c = λ k bound. refl
