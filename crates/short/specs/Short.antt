-- The search of a block of 8 positions whose words are all bytes, or all of one parity, as its code goes: a word's key is 256 times its cost and
-- its number, the sum of the keys of its two half bytes; the least key from a bound on; the setting by the byte. Assumes nothing.
use Rattle.std.specs.Prelude.{◌≡◌, true, cond, List, [], ◌∷◌, ℕ, zero, suc, ◌+◌, ◌*◌, ◌/◌, ◌%◌, ◌≤◌, ◌<◌, min, ltb, ℤ, length, get_or}
use Rattle.polar.specs.Layers.{part}
use Rattle.outer.specs.declared.Candidate.{Candidate}
use Rattle.outer.specs.Search.{Entry, spread, cost_of}

-- a key that is not below the bound; else the greatest number, which is no key
unfoldable pub kept : ℕ → ℕ → ℕ
kept bound key = cond (ltb key bound) 4294967295 key

-- the least of the first n keys that are not below a bound
unfoldable pub least_key : (ℕ → ℕ) → ℕ → ℕ → ℕ
least_key key bound zero = 4294967295
least_key key bound (suc n) = min (kept bound (key n)) (least_key key bound n)

-- the key of a byte, by a table of the keys of its low and its high half
unfoldable pub byte_key : List ℕ → ℕ → ℕ
byte_key t x = get_or t (x % 16) 0 + get_or t (16 + x / 16) 0

-- a table has the keys of all half bytes at these values, zeros past them
pub record Halves (t : List ℕ) (vs : List ℤ) : Type 0 where
  pub short : length vs ≤ 8
  pub low : (v : ℕ) → v < 16 → get_or t v 0 ≡ cost_of v (part 0 4 vs) * 256 + v
  pub high : (v : ℕ) → v < 16 → get_or t (16 + v) 0 ≡ cost_of v (part 4 4 vs) * 256 + v * 16
  pub small : (k : ℕ) → k < 32 → get_or t k 0 ≤ 1073217776

-- the words of 8 free indices, by directions: the rows of the matrix A; and back, the settings by the bits of a byte
unfoldable pub byte_rows : List ℕ
byte_rows = 0 ∷ 0x01 ∷ 0x03 ∷ 0x05 ∷ 0x0f ∷ 0x11 ∷ 0x33 ∷ 0x55 ∷ 0xff ∷ []

unfoldable pub back_rows : List ℕ
back_rows = 0 ∷ 0xff ∷ 0xaa ∷ 0xcc ∷ 0x88 ∷ 0xf0 ∷ 0xa0 ∷ 0xc0 ∷ 0x80 ∷ []

-- the words of the first `count` settings are bytes in the order of the settings of 8 free indices, from one of these on, with the sets by
-- directions: all 256 from 0 on where 8 are free, 128 from 0 or 128 on where all but the first are
pub record Octets (from count free : ℕ) (sets : List ℕ) (e : ℕ → Entry) : Type 0 where
  pub words : (w : ℕ) → w < count → (e w).word ≡ spread byte_rows 0 8 (from + w)
  pub spans : (w : ℕ) → spread sets 0 free w ≡ (e w).set

-- the word of a setting, with its key
unfoldable pub word_with : List ℕ → ℕ → ℕ → ℕ → Candidate
word_with sets free setting key = record { some = true; setting = setting; parities = spread sets 0 free setting; cost = key / 256; number = key % 256 }
