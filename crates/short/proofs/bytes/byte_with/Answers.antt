-- `short::bytes::byte_with` meets its contract, by what `setting_of` and `word_with` ensure. Assumes nothing.
use mathlib.Core.Path.{ap, ◌∙◌}
use Prim.Native.Nat.{ℕ}
use Rattle.short.specs.Short.{word_with}
use Rattle.short.proofs.bytes.byte_with.Goals as goal

pub returns : goal.returns
returns c = let a = c.args in c.word_with.ensures ∙ ap (λ (w : ℕ). word_with a.sets.now 8 w a.key) c.setting_of.ensures
