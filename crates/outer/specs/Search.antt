-- The search of a block's words as its code goes: tables with an entry for each setting of the free bits, costs by half bytes, and the least
-- key among the settings. The contracts of `nearest_pair` and `next_after` (crate search) speak of specs/Words.antt; those of their
-- parts, in the crates tables, passes, short and search, speak of this. Assumes nothing.
use Rattle.std.specs.Prelude.{◌≡◌, Bool, true, false, List, [], ◌∷◌, ◌++◌, ℕ, zero, suc, ◌+◌, ◌-◌, ◌*◌, ◌/◌, ◌%◌, ◌^◌, ◌≤◌, ◌<◌, ltb, leb, ℤ, length, get_or, replicate}
use Rattle.std.proofs.Math.Option.{Option, none, some}
use Rattle.std.specs.Int.Bits.{bit_xor}
use Rattle.polar.specs.Bits.{number}
use Rattle.polar.specs.Transform.{transform}
use Rattle.polar.specs.Soft.{cost}
use Rattle.laws.specs.Lists.{All}
use Rattle.polar.specs.Layers.{part, Within}
use Rattle.machine.specs.Choice.{first_of}
use Rattle.outer.specs.declared.Candidate.{Candidate}
use Rattle.outer.specs.declared.Pair.{Pair}

-- ---- the words and parities of all settings

-- n bits, 1 at position i alone
unfoldable pub unit : ℕ → ℕ → List ℕ
unit n i = replicate i 0 ++ 1 ∷ replicate (n - suc i) 0

-- row i of the matrix A, as a number: the word that bit i alone makes
unfoldable pub row_of : ℕ → ℕ
row_of i = number (transform 5 (unit 32 i))

-- the number of the word so far, and the set of the parities after it
pub record Entry : Type 0 where
  pub word : ℕ
  pub set : ℕ

-- bit b at an index with this row and set of ties
unfoldable pub put : ℕ → ℕ → ℕ → Entry → Entry
put row ties b e = record { word = bit_xor e.word (row * b); set = bit_xor e.set (ties * b) }

-- the entries one index later, by the code of the index: 0 free, where setting w becomes 2w and 2w + 1; 1 zero; 2 + t the t-th tie
unfoldable pub later : ℕ → ℕ → ℕ → (ℕ → Entry) → ℕ → Entry
later zero row ties e w = put row ties (w % 2) (e (w / 2))
later (suc zero) row ties e w = e w
later (suc (suc t)) row ties e w = put row ties ((e w).set / 2 ^ t % 2) (e w)

-- and the number of them
unfoldable pub grown : ℕ → ℕ → ℕ
grown zero n = n + n
grown (suc c) n = n

-- the number of settings of the first i indices from `start` on
unfoldable pub settings : List ℕ → ℕ → ℕ → ℕ
settings kinds start zero = 1
settings kinds start (suc i) = grown (get_or kinds (start + i) 0) (settings kinds start i)

-- the entry of setting w of the first i indices, after the set of parities p
unfoldable pub entry : List ℕ → List ℕ → ℕ → ℕ → ℕ → ℕ → Entry
entry kinds terms start p zero w = record { word = 0; set = p }
entry kinds terms start p (suc i) w = later (get_or kinds (start + i) 0) (row_of i) (get_or terms (start + i) 0) (entry kinds terms start p i) w

-- A short table holds the entry of setting 0 and then directions: what each free bit adds where it is 1. This is its first entry with n of its
-- directions added, those after `from`, where the bits of w are 1: the last one's bit is lowest.
unfoldable pub spread : List ℕ → ℕ → ℕ → ℕ → ℕ
spread ds from zero w = get_or ds 0 0
spread ds from (suc n) w = bit_xor (spread ds from n (w / 2)) (get_or ds (from + suc n) 0 * (w % 2))

-- two short tables span these entries: the entry of setting 0, and one direction for each of n free indices
unfoldable pub Spans : List ℕ → List ℕ → ℕ → (ℕ → Entry) → Type 0
Spans words sets n e = (w : ℕ) → (spread words 0 n w ≡ (e w).word) × (spread sets 0 n w ≡ (e w).set)

-- n indices from `start` on lie within the tables, have codes, and at most 256 settings
pub record Walkable (kinds : List ℕ) (start n : ℕ) : Type 0 where
  pub short : n ≤ 32
  pub within : start + n ≤ 512
  pub codes : (i : ℕ) → i < n → get_or kinds (start + i) 0 < 34
  pub few : settings kinds start n ≤ 256

-- a block of height j: its indices, and its values, 2^j of the numbers from `at` on
pub record Searchable (numbers : List ℤ) (at : ℕ) (kinds : List ℕ) (start j : ℕ) : Type 0 where
  pub low : j ≤ 5
  pub walk : Walkable kinds start (2 ^ j)
  pub within : at + 2 ^ j ≤ length numbers
  pub small : All (Within 1048064) (part at (2 ^ j) numbers)

-- the same of the block's values alone
pub record SearchableValues (values : List ℤ) (kinds : List ℕ) (start j : ℕ) : Type 0 where
  pub low : j ≤ 5
  pub walk : Walkable kinds start (2 ^ j)
  pub count : length values ≡ 2 ^ j
  pub small : All (Within 1048064) values

-- ---- costs

-- the cost of the word with this number at these values
unfoldable pub cost_of : ℕ → List ℤ → ℕ
cost_of w [] = 0
cost_of w (s ∷ ss) = cost (w % 2) s + cost_of (w / 2) ss

-- the sum of the k entries of a table that the half bytes of a word pick, the lowest half byte in the table's p-th run of 16
unfoldable pub picked : List ℕ → ℕ → ℕ → ℕ → ℕ
picked t p zero w = 0
picked t p (suc k) w = get_or t (16 * p + w % 16) 0 + picked t (suc p) k (w / 16)

-- a table has 2 runs, 4 or 8
pub record Runs (runs : ℕ) : Type 0 where
  pub some : 0 < runs
  pub few : runs ≤ 8
  pub even : runs % 2 ≡ 0
  pub power : runs ≡ 6 → ⊥

-- a table has the costs of all half bytes at these values, in so many runs
pub record Costs (t : List ℕ) (runs : ℕ) (vs : List ℤ) : Type 0 where
  pub count : Runs runs
  pub all : length vs ≤ 4 * runs
  pub at : (p v : ℕ) → p < runs → v < 16 → get_or t (16 * p + v) 0 ≡ cost_of v (part (4 * p) 4 vs)

-- no entry of its runs is above 4 magnitudes
abbrev pub Small : List ℕ → ℕ → Type 0
Small t runs = (k : ℕ) → k < 16 * runs → get_or t k 0 ≤ 4192256

-- ---- the least key

-- a cost and a number as one key, in the order of words: nearest first, equals by the smaller number
unfoldable pub key_of : ℕ → ℕ → ℕ
key_of cost number = cost * 4294967296 + number

-- the order in which settings are tried: 0, 1, ..
unfoldable pub tried : ℕ → ℕ
tried w = w

-- whether setting a has a lesser key than setting b
unfoldable pub lesser : (ℕ → ℕ) → ℕ → ℕ → Bool
lesser key a b = ltb (key a) (key b)

-- of the first n settings, the first with the least key from a bound on
unfoldable pub least_from : (ℕ → ℕ) → ℕ → ℕ → Option ℕ
least_from key bound n = first_of (lesser key) (λ (w : ℕ). leb bound (key w)) tried n

-- ---- the answer

-- the setting that is found, as a candidate; zeros for none
unfoldable pub answer : (ℕ → Entry) → List ℤ → Option ℕ → Candidate
answer e vs none = record { some = false; setting = 0; parities = 0; cost = 0; number = 0 }
answer e vs (some w) = record { some = true; setting = w; parities = (e w).set; cost = cost_of (e w).word vs; number = (e w).word }

-- the key of a setting
unfoldable pub setting_key : (ℕ → Entry) → List ℤ → ℕ → ℕ
setting_key e vs w = key_of (cost_of (e w).word vs) (e w).word

-- the first word with the least key from a bound on, of the n indices from `start` on, after the set of parities p, at the values vs
unfoldable pub found : List ℕ → List ℕ → ℕ → ℕ → ℕ → List ℤ → ℕ → Candidate
found kinds terms start p n vs bound =
    let e = entry kinds terms start p n in
    answer e vs (least_from (setting_key e vs) bound (settings kinds start n))

-- the first of all words, and the first after it
unfoldable pub found_pair : List ℕ → List ℕ → ℕ → ℕ → ℕ → List ℤ → Pair
found_pair kinds terms start p n vs =
    let c = found kinds terms start p n vs 0 in
    record { first = c; second = found kinds terms start p n vs (key_of c.cost c.number + 1) }
