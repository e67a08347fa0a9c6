-- What the end of a run needs: the path in hand has all blocks, and its last one is known. Assumes nothing.
use Rattle.std.specs.Prelude.{◌≡◌, List, ℕ, suc, length}
use Rattle.codebook.specs.Limits.{Valid}
use Rattle.standing.specs.Seen.{Memory}
use Rattle.standing.specs.Standing.{InHand}
use Rattle.words.specs.declared.Block.{Block}
use Rattle.steps.specs.Steps.{Last}

-- a path in hand whose last block, b, is `last` and the book's last
pub record Ending (m D N : ℕ) (x : Memory) (e : ℕ) (es vs : List ℕ) (last : Block) : Type 0 where
  pub hand : InHand m D N x e es vs
  pub valid : Valid hand.book
  pub b : ℕ
  pub own : Last hand last b
  pub whole : suc b ≡ length hand.book.blocks
