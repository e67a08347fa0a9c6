-- The arrays in the lent workspace. Array i, counted from 1, has 2^(m+1) cells in a row; of these, the 2^h from cell 2^h on are its values, or its
-- sums, of height h. Assumes nothing.
use Rattle.std.specs.Prelude.{◌≡◌, List, [], ◌∷◌, ℕ, zero, suc, ◌+◌, ◌-◌, ◌*◌, ◌/◌, ◌%◌, ◌^◌, ◌≤◌, length}
use Rattle.polar.specs.Layers.{part}

-- where height h of array i begins
unfoldable pub spot : ℕ → ℕ → ℕ → ℕ
spot m i h = (i - 1) * (2 * 2 ^ m) + 2 ^ h

-- N arrays lie within a list; and i is the id of one of them
unfoldable pub Room : {A : Type 0} → ℕ → ℕ → List A → Type 0
Room m N l = N * (2 * 2 ^ m) ≤ length l

pub record Id (N i : ℕ) : Type 0 where
  pub some : 1 ≤ i
  pub most : i ≤ N

-- a list holds these contents of the N arrays, by height and id
unfoldable pub Parts : {A : Type 0} → ℕ → ℕ → List A → (ℕ → ℕ → List A) → Type 0
Parts m N l f = (h i : ℕ) → h ≤ m → Id N i → part (spot m i h) (2 ^ h) l ≡ f h i

-- n bits of a number, the lowest first: position i counts 2^i
unfoldable pub bits_of : ℕ → ℕ → List ℕ
bits_of zero w = []
bits_of (suc n) w = w % 2 ∷ bits_of n (w / 2)
