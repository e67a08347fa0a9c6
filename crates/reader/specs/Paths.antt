-- A path as the reader stores it, and what the queue goes by. Assumes nothing.
use Rattle.std.specs.Prelude.{List, map, ℕ, zero, suc, ◌+◌, ◌^◌, ℤ, pos, neg_ℤ, ◌-ℤ◌}
use Rattle.polar.specs.Bits.{number}
use Rattle.polar.specs.Transform.{transform}
use Rattle.codebook.specs.Book.{Book, start_of, block_at}
use Rattle.queue.specs.Queue.{Key}
use Rattle.reader.specs.Arrays.{Arrays, View, upd, turn}
use Rattle.codec.specs.Ties.{Parities, fill_block}
use Rattle.outer.specs.Words.{Word}

-- its number and blocks; the cost of its bits before its last block, and of that block; the setting of that block's free bits, the parities
-- before and after it; its array at each height. It keeps no bits.
pub record Path : Type 0 where
  pub number : ℕ
  pub blocks : ℕ
  pub spent : ℕ
  pub cost : ℕ
  pub setting : ℕ
  pub earlier : Parities
  pub parities : Parities
  pub ids : ℕ → ℕ

-- R less the bias of its last block; the empty path scores 0
unfoldable pub score_of : Book → Path → ℕ → ℤ
score_of B p zero = pos 0
score_of B p (suc b) = neg_ℤ (pos (p.spent + p.cost)) -ℤ (block_at B b).bias

-- what the queue goes by
unfoldable pub key_of : Book → Path → Key
key_of B p = record { score = score_of B p p.blocks; blocks = p.blocks; number = p.number }

-- path 0 is empty: it has array 1 at the root, which holds the received values, and none elsewhere
unfoldable pub first_path : Book → Path
first_path B =
    record {
      number = 0;
      blocks = 0;
      spent = 0;
      cost = 0;
      setting = 0;
      earlier = λ _. 0;
      parities = λ _. 0;
      ids = upd (λ _. 0) B.m 1;
    }

-- the word of its last block b
unfoldable pub last_word : Book → Path → ℕ → List ℕ
last_word B p b = transform (block_at B b).j (fill_block B p.earlier b p.setting).bits

-- the same as one of the block's words
unfoldable pub own_word : Book → Path → ℕ → Word
own_word B p b = record { setting = p.setting; parities = p.parities; cost = p.cost; number = number (last_word B p b) }

-- the height where block b's word goes: the turn of the block's end, the root counted as a first half
unfoldable pub place : Book → ℕ → ℕ
place B b = turn (suc B.m) (start_of B.blocks b + 2 ^ (block_at B b).j)

-- the ids of paths
abbrev pub ids_of : List Path → List (ℕ → ℕ)
ids_of ps = map (λ (p : Path). p.ids) ps

-- what a path has in view: the arrays, by its ids
abbrev pub view_of : Arrays → Path → View
view_of A p = record { arrays = A; ids = p.ids }
