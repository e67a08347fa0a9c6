-- The words of a block after a path's earlier bits, nearest first: document 01, "Soft values and scores" and "The marker's plain machine".
-- Assumes nothing.
use Rattle.std.specs.Prelude.{Bool, true, not, ◌&&◌, ◌||◌, List, ℕ, ◌^◌, take, drop, ℤ, ltb}
use Rattle.std.proofs.Math.Option.{Option}
use Rattle.std.specs.Int.Signed.{lt_z}
use Rattle.polar.specs.Bits.{number, to_bits}
use Rattle.polar.specs.Transform.{transform}
use Rattle.polar.specs.Value.{penalties}
use Rattle.codebook.specs.Book.{Book, free_count, start_of, block_at, kinds_of}
use Rattle.codec.specs.Code.{fill}
use Rattle.machine.specs.Choice.{first_of}

-- a path's bits with a word in their last block: the sum of that block's penalties, and the word's number
pub record Ranked : Type 0 where
  pub bits : List ℕ
  pub sum : ℤ
  pub word : ℕ

-- the bits u, whose last block is b: the word is that block's bits times the A of its size
unfoldable pub rank : Book → List ℤ → ℕ → List ℕ → Ranked
rank B ys b u =
    let i = start_of B.blocks b in
    let j = (block_at B b).j in
    record { bits = u; sum = penalties B.m ys u i (2 ^ j); word = number (transform j (drop i u)) }

-- the highest sum of the block's penalties comes first, equals by the smaller number
unfoldable pub nearer : Ranked → Ranked → Bool
nearer x y =
    let higher = lt_z y.sum x.sum in
    let lower = lt_z x.sum y.sum in
    higher || not lower && ltb x.word y.word

-- the w-th setting of the free bits of block b after the bits u: zeros and ties follow
unfoldable pub setting : Book → List ℤ → List ℕ → ℕ → ℕ → Ranked
setting B ys u b w = rank B ys b (fill u (kinds_of B b) (to_bits (free_count (kinds_of B b)) w))

-- the nearest word of block b after the bits u that passes a test: every setting of the block's free bits is tried
unfoldable pub nearest_with : (Ranked → Bool) → Book → List ℤ → List ℕ → ℕ → Option Ranked
nearest_with test B ys u b = first_of nearer test (setting B ys u b) (2 ^ free_count (kinds_of B b))

-- the nearest word of block b after the bits u
unfoldable pub nearest : Book → List ℤ → List ℕ → ℕ → Option Ranked
nearest B ys u b = nearest_with (λ _. true) B ys u b

-- the next word of block b, the last of the bits u: the one after their own
unfoldable pub next_after : Book → List ℤ → List ℕ → ℕ → Option Ranked
next_after B ys u b = nearest_with (nearer (rank B ys b u)) B ys (take (start_of B.blocks b) u) b
