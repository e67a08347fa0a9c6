-- The words of a block by the values of its node: document 01, "Soft values and scores": nearest first, by the least sum of |S| at disagreeing
-- positions, equals by the smaller number. Assumes nothing.
use Rattle.std.specs.Prelude.{Bool, true, ◌&&◌, ◌||◌, List, ℕ, ◌^◌, ℤ, ltb, eqb}
use Rattle.std.proofs.Math.Option.{Option}
use Rattle.polar.specs.Bits.{number}
use Rattle.polar.specs.Transform.{transform}
use Rattle.polar.specs.Soft.{discrepancy}
use Rattle.codebook.specs.Book.{Book, free_count, block_at, kinds_of}
use Rattle.machine.specs.Choice.{first_of}
use Rattle.codec.specs.Ties.{Parities, fill_block}

-- a word of a block: the setting of the free bits that makes it, the parities after it, its cost and its number
pub record Word : Type 0 where
  pub setting : ℕ
  pub parities : Parities
  pub cost : ℕ
  pub number : ℕ

-- the word of block b that the w-th setting makes, at the node values vs, with the parities x before the block
unfoldable pub word_of : Book → List ℤ → Parities → ℕ → ℕ → Word
word_of B vs x b w =
    let f = fill_block B x b w in
    let c = transform (block_at B b).j f.bits in
    record { setting = w; parities = f.parities; cost = discrepancy c vs; number = number c }

-- nearest first, equals by the smaller number
unfoldable pub nearer : Word → Word → Bool
nearer x y = ltb x.cost y.cost || eqb x.cost y.cost && ltb x.number y.number

-- the nearest word of block b that passes a test, among those of every setting
unfoldable pub nearest_with : (Word → Bool) → Book → List ℤ → Parities → ℕ → Option Word
nearest_with test B vs x b = first_of nearer test (word_of B vs x b) (2 ^ free_count (kinds_of B b))

-- the nearest word, and the next word after one
unfoldable pub nearest : Book → List ℤ → Parities → ℕ → Option Word
nearest B vs x b = nearest_with (λ _. true) B vs x b

unfoldable pub next_after : Word → Book → List ℤ → Parities → ℕ → Option Word
next_after own B vs x b = nearest_with (nearer own) B vs x b
