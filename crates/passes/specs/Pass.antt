-- The two least keys of a pass over all settings of a block's free bits: the key of each setting by the table of its words and that of the costs
-- of half bytes, and the keys found as an answer. Assumes nothing.
use Rattle.std.specs.Prelude.{◌≡◌, true, false, cond, List, ℕ, ◌+◌, ◌*◌, ◌/◌, ◌%◌, ◌<◌, ltb, eqb, get_or}
use Rattle.std.proofs.Math.Option.{Option, none, some}
use Rattle.outer.specs.declared.Candidate.{Candidate}
use Rattle.outer.specs.Search.{spread, picked, key_of, least_from}
use Rattle.passes.specs.declared.Two.{Two}

-- the first with the least key above that of a setting, if there is one
unfoldable pub above : (ℕ → ℕ) → ℕ → Option ℕ → Option ℕ
above key n none = none
above key n (some w) = least_from key (key w + 1) n

-- of the first n settings, the first with the least key after the first's
unfoldable pub after_first : (ℕ → ℕ) → ℕ → ℕ → Option ℕ
after_first key bound n = above key n (least_from key bound n)

-- the key of what is found; the greatest number of 64 bits for none
unfoldable pub found_key : (ℕ → ℕ) → Option ℕ → ℕ
found_key key none = 18446744073709551615
found_key key (some w) = key w

-- its setting; 0 for none
unfoldable pub found_setting : Option ℕ → ℕ
found_setting none = 0
found_setting (some w) = w

-- two that are found, as the pass keeps them
unfoldable pub two_of : (ℕ → ℕ) → Option ℕ → Option ℕ → Two
two_of key o p = record { first = found_key key o; second = found_key key p; at = found_setting o; next = found_setting p }

-- of the first n settings, the two with the least keys from a bound on
unfoldable pub two_least : (ℕ → ℕ) → ℕ → ℕ → Two
two_least key bound n = two_of key (least_from key bound n) (after_first key bound n)

-- a key as the pass takes it: the greatest number where it is below the bound, or is the first
unfoldable pub opened : ℕ → ℕ → ℕ → ℕ
opened key bound first =
    let later = cond (ltb key bound) 18446744073709551615 key in
    cond (eqb later first) 18446744073709551615 later

-- ---- the pass

-- the first n settings are pairs of an even one and the next, whose words' costs have one sum
pub record Turned (sums : List ℕ) (runs : ℕ) (words : List ℕ) (n total : ℕ) : Type 0 where
  pub even : n % 2 ≡ 0
  pub sum : (k : ℕ) → 2 * k + 1 < n → picked sums 0 runs (get_or words (2 * k) 0) + picked sums 0 runs (get_or words (2 * k + 1) 0) ≡ total

-- the key of word w of a table, its cost by a table of the costs of half bytes
unfoldable pub summed_key : List ℕ → ℕ → List ℕ → ℕ → ℕ
summed_key sums runs words w = key_of (picked sums 0 runs (get_or words w 0)) (get_or words w 0)

-- a key and its setting as an answer, the sets by directions; none for the greatest number
unfoldable pub chosen : List ℕ → ℕ → ℕ → ℕ → Candidate
chosen sets free key w =
    cond (eqb key 18446744073709551615)
    (record { some = false; setting = 0; parities = 0; cost = 0; number = 0 })
    (record { some = true; setting = w; parities = spread sets 0 free w; cost = key / 4294967296; number = key % 4294967296 })
