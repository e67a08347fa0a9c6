-- A block of a book as the tables hold it, the set of parities before it, and a word of it as the search answers it: what the contracts of
-- `nearest_pair` and `next_after` (crate search) cite beside specs/Words.antt. Assumes nothing.
use Rattle.std.specs.Prelude.{◌≡◌, true, false, List, [], ◌∷◌, ℕ, zero, suc, ◌<◌, ℤ, length}
use Rattle.std.proofs.Math.Option.{Option, none, some}
use Rattle.laws.specs.Sets.{set_of}
use Rattle.codebook.specs.Book.{Book, Kind, free, frozen, tied, tied_count, start_of, block_at}
use Rattle.codebook.specs.Limits.{Valid}
use Rattle.codec.specs.Ties.{Parities}
use Rattle.codec.specs.Tabled.{Tabled}
use Rattle.outer.specs.declared.Candidate.{Candidate}
use Rattle.outer.specs.declared.Next.{Next}
use Rattle.outer.specs.Words.{Word, next_after}

-- the index of the t-th tie
unfoldable pub tie_index : List Kind → ℕ → ℕ
tie_index [] t = 0
tie_index (free ∷ ks) t = suc (tie_index ks t)
tie_index (frozen ∷ ks) t = suc (tie_index ks t)
tie_index (tied ts ∷ ks) zero = 0
tie_index (tied ts ∷ ks) (suc t) = suc (tie_index ks t)

-- the parities of the ties as one set: the t-th tie counts 2^t
unfoldable pub parity_set : Book → Parities → ℕ
parity_set B x = set_of (tied_count B.kinds) (λ t. x (tie_index B.kinds t))

-- parities are bits
abbrev pub Bits : Parities → Type 0
Bits x = (i : ℕ) → x i < 2

-- the tables are the book's, and the block of height j at `start` is its b-th
pub record BlockTabled (B : Book) (b : ℕ) (kinds terms : List ℕ) (start j : ℕ) : Type 0 where
  pub valid : Valid B
  pub inside : b < length B.blocks
  pub tabled : Tabled B.kinds kinds terms
  pub first : start ≡ start_of B.blocks b
  pub height : j ≡ (block_at B b).j

-- a word as the search answers it, zeros for none
unfoldable pub candidate_of : Book → Option Word → Candidate
candidate_of B none = record { some = false; setting = 0; parities = 0; cost = 0; number = 0 }
candidate_of B (some w) = record { some = true; setting = w.setting; parities = parity_set B w.parities; cost = w.cost; number = w.number }

-- an answer of the next word `next` of block b at the values vs, after the parities x: it, and where it is known too, the next after it
pub record Nexts (B : Book) (vs : List ℤ) (x : Parities) (b : ℕ) (next : Option Word) (r : Next) : Type 0 where
  pub first : r.first ≡ candidate_of B next
  pub second : r.known ≡ true → (w : Word) → next ≡ some w → r.second ≡ candidate_of B (next_after w B vs x b)
