-- The blocks of a book that keeps the limits, in terms of the tree: each starts where a node of its height starts, and the next where it ends.
-- From alignment and the sum of the lengths. Assumes nothing.
use mathlib.Core.Path.{◌≡◌}
use mathlib.Core.Logic.{◌⊎◌, inl, inr}
use Prim.Native.Nat.{ℕ, suc, ◌+◌, ◌-◌, ◌^◌, ◌≤◌, ◌<◌}
use native.Mathlib.Omega.{arith}
use lib.ListN.{length, drop, length-drop}
use lib.Seq.{length-take-le}
use lib.Pow.{pow-lt, pow_pos}
use Rattle.laws.proofs.Tests.{lt-or}
use Rattle.polar.proofs.Node.{Starts, starts-aligned}
use Rattle.codebook.specs.Book.{Book, start_of, block_at, kinds_of}
use Rattle.codebook.specs.Limits.{BlockOk, Valid}
use Rattle.codebook.proofs.Blocks.{start-next}

-- block b starts where a node of its height does, the next block where it ends, and it has a kind for each of its indices
pub record Placed (B : Book) (b : ℕ) : Type 0 where
  pub small : B.m ≡ B.m - (block_at B b).j + (block_at B b).j
  pub starts : Starts (B.m - (block_at B b).j) B.m (start_of B.blocks b)
  pub next : start_of B.blocks (suc b) ≡ start_of B.blocks b + 2 ^ (block_at B b).j
  pub size : length (kinds_of B b) ≡ 2 ^ (block_at B b).j

module _ (B : Book) (ok : Valid B) (b : ℕ) (l : b < length B.blocks) where
  pub placed : Placed B b
  unfolding kinds_of
  placed =
      let j : ℕ = (block_at B b).j in
      let m : ℕ = B.m in
      let s : ℕ = start_of B.blocks b in
      let o : BlockOk B b = ok.blocks b l in
      let e : m ≡ m - j + j = omega (arith, lower j m o.within (lt-or m j)) in
      record {
        small = e;
        starts = starts-aligned (m - j) j m s e o.aligned o.within;
        next = start-next B b l;
        size = length-take-le (2 ^ j) (drop s B.kinds) (omega (arith, length-drop s B.kinds, ok.indices, o.within));
      }
    where
      lower : (j m : ℕ) → start_of B.blocks b + 2 ^ j ≤ 2 ^ m → (m < j) ⊎ (j ≤ m) → j ≤ m
      lower j m h (inl x) = absurd (omega (arith, pow-lt x))
      lower j m h (inr x) = x

  pub start-less : start_of B.blocks b < 2 ^ B.m
  start-less = omega (arith, (ok.blocks b l).within, pow_pos (block_at B b).j)
