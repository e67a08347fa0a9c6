-- The limits of document 01, "The code" and "The code book". The books that load are exactly those that keep them: proofs/Loaded.antt and proofs/Written.antt show it. Assumes nothing.
use Rattle.std.specs.Prelude.{◌≡◌, List, [], ◌∷◌, ℕ, suc, ◌+◌, ◌^◌, ◌%◌, ◌≤◌, ◌<◌, length, nat_abs}
use Rattle.laws.specs.Lists.{All, Distinct}
use Rattle.codebook.specs.Book.{Kind, free, frozen, tied, Book, free_count, tied_count, start_of, block_at, kinds_of}

-- a tie at index i names earlier indices, at least one, none twice
pub record TieOk (i : ℕ) (terms : List ℕ) : Type 0 where
  pub some : 0 < length terms
  pub earlier : All (λ (t : ℕ). t < i) terms
  pub once : Distinct terms

-- a kind at index i keeps the limits: only a tie has any
unfoldable pub KindOk : ℕ → Kind → Type 0
KindOk i free = Unit {0}
KindOk i frozen = Unit {0}
KindOk i (tied terms) = TieOk i terms

-- so do the kinds of the indices from i on
unfoldable pub KindsOk : ℕ → List Kind → Type 0
KindsOk i [] = Unit {0}
KindsOk i (k ∷ ks) = KindOk i k × KindsOk (suc i) ks

-- block b has j at most 5, starts at a multiple of its length, lies within n, holds at most 8 free indices, and has a bias in range
pub record BlockOk (B : Book) (b : ℕ) : Type 0 where
  pub short : (block_at B b).j ≤ 5
  pub aligned : start_of B.blocks b % 2 ^ (block_at B b).j ≡ 0
  pub within : start_of B.blocks b + 2 ^ (block_at B b).j ≤ 2 ^ B.m
  pub light : free_count (kinds_of B b) ≤ 8
  pub bias : nat_abs (block_at B b).bias ≤ 1048576

-- m from 2 to 9; a kind for each of the 2^m indices, at most 32 of them tied; blocks that cover the indices without gaps
pub record Valid (B : Book) : Type 0 where
  pub low : 2 ≤ B.m
  pub high : B.m ≤ 9
  pub indices : length B.kinds ≡ 2 ^ B.m
  pub kinds : KindsOk 0 B.kinds
  pub ties : tied_count B.kinds ≤ 32
  pub blocks : (b : ℕ) → b < length B.blocks → BlockOk B b
  pub covered : start_of B.blocks (length B.blocks) ≡ 2 ^ B.m
