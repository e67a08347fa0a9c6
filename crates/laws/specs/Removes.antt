-- What is removed from a list of numbers. Assumes nothing.
use mathlib.Core.List.{List, Memᴰ}
use Rattle.std.specs.Prelude.{◌↔◌, ℕ}

-- x is one of xs
abbrev pub In : ℕ → List ℕ → Type 0
In x xs = Memᴰ x xs

-- gone are exactly those of old that are not in new
abbrev pub Removes : List ℕ → List ℕ → List ℕ → Type 0
Removes gone old new = (x : ℕ) → In x gone ↔ (In x old × (In x new → ⊥))
