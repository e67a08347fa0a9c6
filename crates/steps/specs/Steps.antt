-- What each step of an extraction needs, and what it does to the reader's state that the memory stands for. A path with entry e is in hand; es are
-- the entries queued, vs the vacant slots. Assumes nothing.
use Rattle.std.specs.Prelude.{◌≡◌, List, ◌∷◌, ℕ, suc, ◌+◌, ◌≤◌, length}
use Rattle.std.proofs.Math.Option.{some}
use Rattle.polar.specs.Bits.{number}
use Rattle.polar.specs.Transform.{transform}
use Rattle.codebook.specs.Book.{Book, start_of, block_at}
use Rattle.codebook.specs.Limits.{Valid}
use Rattle.codec.specs.Tabled.{Tabled}
use Rattle.codec.specs.Ties.{fill_block}
use Rattle.outer.specs.declared.Next.{Next}
use Rattle.outer.specs.Words.{Word, next_after}
use Rattle.outer.specs.Blocks.{Nexts}
use Rattle.reader.specs.Arrays.{Arrays, View, vals_of}
use Rattle.reader.specs.Paths.{Path, own_word, place, ids_of, view_of}
use Rattle.reader.specs.Reader.{Cut, commit}
use Rattle.reader.specs.Fit.{Fit, FitFor}
use Rattle.standing.specs.Seen.{Memory}
use Rattle.standing.specs.Standing.{Stands, InHand}
use Rattle.words.specs.declared.Block.{Block}
use Rattle.words.specs.Kept.{Table, Kepts}

-- x is block b of the book
pub record BlockIs (B : Book) (b : ℕ) (x : Block) : Type 0 where
  pub within : suc b ≤ length B.blocks
  pub start : x.start ≡ start_of B.blocks b
  pub height : x.height ≡ (block_at B b).j
  pub bias : x.bias ≡ (block_at B b).bias
  pub word : x.place ≡ place B b

-- the book keeps the limits, and the tables of kinds and terms are the book's
pub record Booked (B : Book) (kinds terms : List ℕ) : Type 0 where
  pub valid : Valid B
  pub tabled : Tabled B.kinds kinds terms

-- the path in hand has b + 1 blocks, the last of which is `last`, and is fit
pub record Last {m D N : ℕ} {x : Memory} {e : ℕ} {es vs : List ℕ} (c : InHand m D N x e es vs) (last : Block) (b : ℕ) : Type 0 where
  pub blocks : c.taken.blocks ≡ suc b
  pub block : BlockIs c.book b last
  pub fit : Fit c.book c.arrays c.taken b

-- what the path in hand sees once its last word is in the sums
abbrev pub committed : {m D N : ℕ} {x : Memory} {e : ℕ} {es vs : List ℕ} → InHand m D N x e es vs → View
committed h = commit h.book (ids_of h.rest) h.taken h.taken.blocks (view_of h.arrays h.taken)

-- ---- the copy

-- another word of the last block, for a copy in the vacant slot t, and where it is known the next after it; there is room for the copy
pub record Forking (m D N : ℕ) (x : Memory) (e t : ℕ) (es vs : List ℕ) (last : Block) (found : Next) (b : ℕ) : Type 0 where
  pub hand : InHand m D N x e es (t ∷ vs)
  pub valid : Valid hand.book
  pub own : Last hand last b
  pub word : Word
  pub is : Nexts hand.book (vals_of (view_of hand.arrays hand.taken) (block_at hand.book b).j) hand.taken.earlier b (some word) found
  pub made : word.number ≡ number (transform (block_at hand.book b).j (fill_block hand.book hand.taken.earlier b word.setting).bits)
  pub total : hand.taken.spent + word.cost ≤ 1048064
  pub room : length hand.rest + 2 ≤ D

-- a path in hand whose last block may have a next word, and the words kept; no next word costs too much
pub record Copying (m D N : ℕ) (x : Memory) (e : ℕ) (es vs : List ℕ) (kinds terms : List ℕ) (last : Block) (kept : Table) (b : ℕ) : Type 0 where
  pub hand : InHand m D N x e es vs
  pub booked : Booked hand.book kinds terms
  pub own : Last hand last b
  pub known : Kepts hand.book hand.arrays kept (e ∷ es) (hand.taken ∷ hand.rest)
  pub total : (y : Word) → next_after (own_word hand.book hand.taken b) hand.book (vals_of (view_of hand.arrays hand.taken) (block_at hand.book b).j) hand.taken.earlier b ≡ some y
      → hand.taken.spent + y.cost ≤ 1048064

-- what the step has come to, from so many crowded out before: so many queued, the next number, the count, memory, and the words kept
abbrev pub CopiedTo : Book → ℕ → ℕ → ℕ → Path → Cut → ℕ → ℕ → ℕ → ℕ → Memory → List ℕ → List ℕ → Table → Type 0
CopiedTo B D N e p k before queued next crowded x es vs kept =
    (queued ≡ length k.queue) × (next ≡ k.next) × (crowded ≡ before + length k.crowded)
    × Stands B D N x (e ∷ es) vs k.arrays (p ∷ k.queue) × Kepts B k.arrays kept es k.queue

-- ---- the next block

-- a path in hand that has a next block, `at`; where it has a last one, that is `last`
pub record Moving (m D N : ℕ) (x : Memory) (e : ℕ) (es vs : List ℕ) (last at : Block) : Type 0 where
  pub hand : InHand m D N x e es vs
  pub valid : Valid hand.book
  pub next : BlockIs hand.book hand.taken.blocks at
  pub last-is : (b : ℕ) → hand.taken.blocks ≡ suc b → BlockIs hand.book b last
  pub fit : FitFor hand.book hand.arrays hand.taken hand.taken.blocks

-- ---- the visit

-- no path is in hand: es are queued and vs vacant, for some book of depth m, arrays, and paths
pub record Queued (m D N : ℕ) (x : Memory) (es vs : List ℕ) : Type 0 where
  pub book : Book
  pub arrays : Arrays
  pub paths : List Path
  pub deep : book.m ≡ m
  pub stands : Stands book D N x es vs arrays paths
