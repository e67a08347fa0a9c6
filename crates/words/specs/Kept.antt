-- The words kept: for the slot of each path, the next word of its last block, where it was found beside the path's own. Assumes nothing.
use Rattle.std.specs.Prelude.{◌≡◌, List, ◌≢◌, ℕ, suc, ◌≤◌, length, get_or, Option as Maybe, Some, None}
use Rattle.std.proofs.Math.Option.{Option}
use Rattle.laws.specs.Pairs.{Paired}
use Rattle.codebook.specs.Book.{Book, block_at}
use Rattle.outer.specs.declared.Candidate.{Candidate}
use Rattle.outer.specs.Words.{Word, next_after}
use Rattle.outer.specs.Blocks.{candidate_of}
use Rattle.reader.specs.Arrays.{Arrays, vals_of}
use Rattle.reader.specs.Paths.{Path, key_of, own_word, view_of}
use Rattle.order.specs.Entries.{key_at, slot_at}

-- ---- the table

-- the words kept, a place for each slot
abbrev pub Table : Type 0
Table = List (Maybe Candidate)

-- the table has places for the first D slots
abbrev pub Cells : ℕ → Table → Type 0
Cells D kept = D ≤ length kept

-- the word kept for slot s, as the search answers it, if one is
abbrev pub kept_at : Table → ℕ → Maybe Candidate
kept_at kept s = get_or kept s None

-- if a word is kept for slot s, it is c
unfoldable pub Keeps : Table → ℕ → Candidate → Type 0
Keeps kept s c = (w : Candidate) → kept_at kept s ≡ Some w → w ≡ c

-- the place of slot s alone may have changed
pub record OneKept (s : ℕ) (old new : Table) : Type 0 where
  pub size : length new ≡ length old
  pub others : (t : ℕ) → s ≢ t → kept_at new t ≡ kept_at old t

-- ---- whose words they are

-- the next word of the last block b of p, by the values that p sees in A
abbrev pub next_of : Book → Arrays → Path → ℕ → Option Word
next_of B A p b = next_after (own_word B p b) B (vals_of (view_of A p) (block_at B b).j) p.earlier b

-- entry e has the key of p, and if a word is kept in its slot, it is the next of p's last block
pub record KeptFor (B : Book) (A : Arrays) (kept : Table) (e : ℕ) (p : Path) : Type 0 where
  pub key : key_at e ≡ key_of B p
  pub next : (b : ℕ) → p.blocks ≡ suc b → Keeps kept (slot_at e) (candidate_of B (next_of B A p b))

-- so it is of each entry of a queue and its path
abbrev pub Kepts : Book → Arrays → Table → List ℕ → List Path → Type 0
Kepts B A kept es ps = Paired (KeptFor B A kept) es ps
