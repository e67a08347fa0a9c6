-- Parts of the lent workspace, what a loop leaves that writes one part from others, and one stage of the transform in place: the contracts of
-- the steps between heights and of the transform. Assumes nothing.
use Rattle.std.specs.Prelude.{List, ◌++◌, ◌⊎◌, ℕ, zero, suc, ◌+◌, ◌≤◌, length, take, drop, ℤ, nat_abs}
use Rattle.polar.specs.Bits.{add_bits}

module _ {A : Type 0} where
  -- the n elements of a list from index `at` on
  unfoldable pub part : ℕ → ℕ → List A → List A
  part at n l = take n (drop at l)

  -- a list written over another from index `at` on
  unfoldable pub over_at : ℕ → List A → List A → List A
  over_at at new old = take at old ++ new ++ drop (at + length new) old

-- k elements at `from` can be read while n are written at `to`: both lie within the list, and `to` is not after `from` or else behind the k,
-- so that a loop that goes up finds what it reads as it was
pub record Clear {A : Type 0} (from k to n : ℕ) (l : List A) : Type 0 where
  pub source : from + k ≤ length l
  pub room : to + n ≤ length l
  pub ahead : (to ≤ from) ⊎ (from + k ≤ to)

-- a value's magnitude is at most M
abbrev pub Within : ℕ → ℤ → Type 0
Within M y = nat_abs y ≤ M

-- one stage of the transform in place: of each of k runs of 2h bits the last half is added to the first
unfoldable pub stage : ℕ → ℕ → List ℕ → List ℕ
stage zero h l = l
stage (suc k) h l = add_bits (take h l) (part h h l) ++ part h h l ++ stage k h (drop (h + h) l)
