-- Kinds as the loader's tables hold them, and one step of filling by the tables. The ties are kept as one set of parities: member t is the sum
-- modulo 2 of the t-th tie's named bits so far. Assumes nothing.
use Rattle.std.specs.Prelude.{◌≡◌, cond, List, ℕ, ◌-◌, ◌/◌, ◌%◌, ◌^◌, ◌≤◌, ◌<◌, ltb, eqb, length, get_or, take}
use Rattle.std.specs.Int.Bits.{bit_xor}
use Rattle.codebook.specs.Book.{Kind, tied_count}
use Rattle.codebook.specs.Limits.{KindsOk}
use Rattle.codebook.specs.Tables.{kind_codes, tie_set}

-- a table holds the codes of these kinds
pub record Coded (ks : List Kind) (kinds : List ℕ) : Type 0 where
  pub size : length ks ≤ 512
  pub codes : take (length ks) kinds ≡ kind_codes 0 ks

-- and another the set of ties that each index is a term of; the kinds keep the limits
pub record Tabled (ks : List Kind) (kinds terms : List ℕ) : Type 0 where
  pub coded : Coded ks kinds
  pub sets : (i : ℕ) → i < length ks → get_or terms i 0 ≡ tie_set 0 ks i
  pub few : tied_count ks ≤ 32
  pub ok : KindsOk 0 ks

-- there are kinds with the property P
abbrev pub Some : (List Kind → Type 0) → Type 0
Some P = (ks : List Kind) × P ks

-- the bit that an index with this code, zero or tied, must have
unfoldable pub forced : ℕ → ℕ → ℕ
forced code parities = cond (ltb code 2) 0 (parities / 2 ^ (code - 2) % 2)

-- the parities once a term of these ties has bit b
unfoldable pub absorbed : ℕ → ℕ → ℕ → ℕ
absorbed parities b ties = cond (eqb b 1) (bit_xor parities ties) parities
