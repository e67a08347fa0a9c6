-- `short::bytes::setting_of` meets its contract, by what `back` and `spread_at` ensure. Assumes nothing.
use mathlib.Core.Path.{ap, ◌∙◌}
use mathlib.Core.List.{List}
use Prim.Native.Nat.{ℕ}
use Rattle.outer.specs.Search.{spread}
use Rattle.short.proofs.bytes.setting_of.Goals as goal

pub returns : goal.returns
returns c = c.spread_at.ensures ∙ ap (λ (l : List ℕ). spread l 0 8 c.args.byte) c.back-steps.ensures
