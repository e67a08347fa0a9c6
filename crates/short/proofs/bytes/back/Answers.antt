-- `short::bytes::back` meets its contract: the literal. Assumes nothing.
use mathlib.Core.Path.{refl}
use Rattle.short.specs.Short.{back_rows}
use Rattle.short.proofs.bytes.back.Goals as goal

pub returns : goal.returns
unfolding back_rows
returns c = refl
