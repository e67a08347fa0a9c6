-- What the next extraction of a queued path relies on, in the reader's own terms: arrays where it will look, values within range, sums of bits.
-- Nothing here says what the values mean; that is for specs/Reached and proofs/Agree. Assumes nothing.
use Rattle.std.specs.Prelude.{◌≡◌, ℕ, zero, suc, ◌+◌, ◌≤◌, ◌<◌, length}
use Rattle.laws.specs.Lists.{All}
use Rattle.polar.specs.Bits.{Bit}
use Rattle.polar.specs.Layers.{Within}
use Rattle.codebook.specs.Book.{Book, block_at}
use Rattle.outer.specs.Blocks.{Bits}
use Rattle.reader.specs.Arrays.{Arrays, vals_of, sums_of}
use Rattle.reader.specs.Paths.{Path, place, view_of}

-- a path with last block b: it has arrays from the block's height up to the root; the block's own values are within range, and those of the height
-- above the place of its word within half of it, since P may double them; the sums that its word will be joined with are bits; its total is within
-- range, and its parities are bits
pub record Fit (B : Book) (A : Arrays) (p : Path) (b : ℕ) : Type 0 where
  pub within : b < length B.blocks
  pub has : (h : ℕ) → (block_at B b).j ≤ h → h ≤ B.m → 1 ≤ p.ids h
  pub own : All (Within 1048064) (vals_of (view_of A p) (block_at B b).j)
  pub above : place B b < B.m → All (Within 524032) (vals_of (view_of A p) (suc (place B b)))
  pub sums : (k : ℕ) → (block_at B b).j ≤ k → k < place B b → All Bit (sums_of (view_of A p) k)
  pub total : p.spent + p.cost ≤ 1048064
  pub earlier : Bits p.earlier
  pub parities : Bits p.parities

-- path 0, before its first block
pub record FitFirst (B : Book) (A : Arrays) (p : Path) : Type 0 where
  pub has : 1 ≤ p.ids B.m
  pub root : All (Within 1048064) (vals_of (view_of A p) B.m)
  pub spent : p.spent ≡ 0
  pub cost : p.cost ≡ 0
  pub parities : Bits p.parities

-- p with so many blocks
unfoldable pub FitFor : Book → Arrays → Path → ℕ → Type 0
FitFor B A p zero = FitFirst B A p
FitFor B A p (suc b) = Fit B A p b
