-- The rows of A as numbers: one row for every height, by a test that is computed over all positions of all heights. Assumes nothing.
use mathlib.Core.Path.{◌≡◌}
use mathlib.Core.Bool.{Bool, true, ◌&&◌}
use mathlib.Core.List.{zip_with}
use mathlib.Core.Logic.{◌⊎◌, inl, inr}
use Prim.Native.Nat.{ℕ, zero, suc, ◌^◌, ◌≤◌, ◌<◌}
use native.Mathlib.Omega.{arith}
use lib.Dec.{T, eqb, eqb→eq}
use Rattle.laws.proofs.Tests.{and_left, and_right, lt-or}
use Rattle.polar.specs.Bits.{add_bits, number}
use Rattle.polar.specs.Transform.{transform}
use Rattle.outer.specs.Search.{unit, row_of}

-- a test is passed by every number below n
abbrev pub every : (ℕ → Bool) → ℕ → Bool
every f zero = true
every f (suc n) = f n && every f n

pub every-at : (f : ℕ → Bool) (n : ℕ) → T (every f n) → (i : ℕ) → i < n → T (f i)
every-at f zero t i h = absurd (omega arith)
every-at f (suc n) t i h = go (lt-or i n) (every-at f n (and_right (f n) (every f n) t) i)
  where
    go : (i < n) ⊎ (n ≤ i) → (i < n → T (f i)) → T (f i)
    go (inl l) ih = ih l
    go (inr l) ih = let e : i ≡ n = omega arith in rw e (and_left (f n) (every f n) t)

-- row i at height j is the row that the table has
right : ℕ → ℕ → Bool
right j i = eqb (number (transform j (unit (2 ^ j) i))) (row_of i)

all : ℕ → Bool
all j = every (right j) (2 ^ j)

pub row_any : (j i : ℕ) → j ≤ 5 → i < 2 ^ j → number (transform j (unit (2 ^ j) i)) ≡ row_of i
unfolding right all row_of unit transform number add_bits zip_with
row_any j i h l = eqb→eq (number (transform j (unit (2 ^ j) i))) (row_of i) (every-at (right j) (2 ^ j) (every-at all 6 tt j (omega arith)) i l)
