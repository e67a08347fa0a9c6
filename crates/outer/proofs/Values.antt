-- A block's values as a part of the numbers. Assumes nothing.
use mathlib.Core.List.{List}
use Prim.Native.Nat.{ℕ, ◌^◌}
use lib.IntN.{ℤ}
use Rattle.polar.specs.Layers.{part}
use Rattle.polar.proofs.Writes.{part_length}
use Rattle.outer.specs.Search.{Searchable, SearchableValues}

-- the part that a block's values are can be searched
pub searchable-values : (numbers : List ℤ) (at : ℕ) (kinds : List ℕ) (start j : ℕ) → Searchable numbers at kinds start j → SearchableValues (part at (2 ^ j) numbers) kinds start j
searchable-values numbers at kinds start j s = record { low = s.low; walk = s.walk; count = part_length at (2 ^ j) numbers s.within; small = s.small }
