-- The entries' words are below 2^32. Index by index: each row of the matrix A is below that power of two. Assumes nothing.
use mathlib.Core.List.{List, zip_with}
use Prim.Native.Nat.{ℕ, zero, suc, ◌+◌, ◌*◌, ◌/◌, ◌%◌, ◌^◌, ◌≤◌, ◌<◌}
use native.Mathlib.Nat.{mul-zero, mul-one}
use native.Mathlib.Omega.{arith}
use lib.Bits.{xor_lt}
use lib.Dec.{ltb, ltb→lt}
use lib.ListN.{get_or}
use lib.Pow.{pow_pos}
use Rattle.polar.specs.Bits.{add_bits, number}
use Rattle.polar.specs.Transform.{transform}
use Rattle.outer.specs.Search.{unit, row_of, Entry, put, later, entry}
use Rattle.outer.proofs.Rows.{every-at}

row_word : (i : ℕ) → i < 32 → row_of i < 4294967296
unfolding row_of unit transform number add_bits zip_with
row_word i h = ltb→lt (row_of i) 4294967296 (every-at (λ (k : ℕ). ltb (row_of k) 4294967296) 32 tt i h)

put-lt : (b row ties v : ℕ) (e : Entry) → row < 2 ^ b → v < 2 → e.word < 2 ^ b → (put row ties v e).word < 2 ^ b
unfolding put
put-lt b row ties zero e h k l = xor_lt b e.word (row * 0) l (omega (arith, mul-zero row))
put-lt b row ties (suc zero) e h k l = xor_lt b e.word (row * 1) l (omega (arith, mul-one row))
put-lt b row ties (suc (suc v)) e h k l = absurd (omega arith)

later-lt : (b c row ties : ℕ) (e : ℕ → Entry) → row < 2 ^ b → ((w : ℕ) → (e w).word < 2 ^ b) → (w : ℕ) → (later c row ties e w).word < 2 ^ b
unfolding later
later-lt b zero row ties e h k w = put-lt b row ties (w % 2) (e (w / 2)) h (omega arith) (k (w / 2))
later-lt b (suc zero) row ties e h k w = k w
later-lt b (suc (suc t)) row ties e h k w = put-lt b row ties ((e w).set / 2 ^ t % 2) (e w) h (omega arith) (k w)

module _ (kinds terms : List ℕ) (start : ℕ) where
  entry_lt : (b n p i : ℕ) → ((k : ℕ) → k < n → row_of k < 2 ^ b) → i ≤ n → (w : ℕ) → (entry kinds terms start p i w).word < 2 ^ b
  unfolding entry
  entry_lt b n p zero r h w = pow_pos b
  entry_lt b n p (suc i) r h w =
      later-lt b (get_or kinds (start + i) 0) (row_of i) (get_or terms (start + i) 0) (entry kinds terms start p i) (r i (omega arith)) (entry_lt b n p i r (omega arith)) w

  pub entry-word : (p i : ℕ) → i ≤ 32 → (w : ℕ) → (entry kinds terms start p i w).word < 4294967296
  entry-word p i h w = entry_lt 32 32 p i row_word h w
