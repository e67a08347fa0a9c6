-- The words kept, when one slot's is written, and when the queue and the arrays change: a word stays its path's as long as its slot's place does, and the
-- path sees what it saw; and pairs of entries and paths stay so where both queues change alike. Assumes nothing.
use mathlib.Core.Path.{◌≡◌, sym, ◌∙◌, subst}
use mathlib.Core.Bool.{Bool, true, false, cond}
use mathlib.Core.List.{List, [], ◌∷◌, map}
use mathlib.Core.Logic.{◌≢◌}
use Prim.Native.Nat.{ℕ, ◌<◌}
use lib.Dec.{eqb}
use lib.IntN.{ℤ}
use Rattle.std.specs.Prelude.{Option as Maybe, Some, None}
use lib.ListN.{length, get_or, set, length-set}
use lib.Seq.{get_or-set_same, get_or-set_other}
use Rattle.laws.specs.Lists.{All}
use Rattle.laws.specs.Pairs.{Paired}
use Rattle.laws.proofs.Lists.{all-unmapped}
use Rattle.laws.proofs.Pairs.{paired-with}
use Rattle.codebook.specs.Book.{Book, block_at}
use Rattle.queue.specs.Queue.{insert, ahead, staying}
use Rattle.outer.specs.declared.Candidate.{Candidate}
use Rattle.outer.specs.Words.{next_after}
use Rattle.outer.specs.Blocks.{candidate_of}
use Rattle.reader.specs.Arrays.{Arrays}
use Rattle.reader.specs.Paths.{Path, key_of, own_word, ids_of}
use Rattle.reader.proofs.Arrays.{Sees, Kept}
use Rattle.reader.proofs.Queue.{insert-paired, ahead-paired}
use Rattle.order.specs.Entries.{key_at, slot_at}
use Rattle.words.specs.Kept.{Table, Keeps, OneKept, KeptFor, Kepts}

-- ---- one slot

-- a write changes its place alone
pub one_kept : (s : ℕ) (kept : Table) (v : Maybe Candidate) → OneKept s kept (set kept s v)
one_kept s kept v = record { size = length-set kept s v; others = λ t n. get_or-set_other kept s t v None (λ q. n (sym q)) }

-- where it writes no word but c, that is the word kept there
pub keeps_set : {s : ℕ} (kept : Table) {v : Maybe Candidate} {c : Candidate} → s < length kept → ((w : Candidate) → v ≡ Some w → w ≡ c) → Keeps (set kept s v) s c
unfolding Keeps
keeps_set {s} kept {v} l h = λ w q. h w (sym (get_or-set_same kept s v None l) ∙ q)

-- the words of the other slots
keeps-other : {s : ℕ} {old new : Table} → OneKept s old new → (t : ℕ) (c : Candidate) → s ≢ t → Keeps old t c → Keeps new t c
unfolding Keeps
keeps-other o t c n k = λ w e. k w (sym (o.others t n) ∙ e)

module _ (B : Book) where
  -- the paths in other slots
  pub kepts-other : {s : ℕ} {old new : Table} (A : Arrays) → OneKept s old new → (es : List ℕ) (ps : List Path) → All (λ (t : ℕ). s ≢ t) (map slot_at es) →
      Kepts B A old es ps → Kepts B A new es ps
  unfolding Paired All
  kepts-other A o [] [] n k = tt
  kepts-other A o [] (p ∷ ps) n k = absurd k
  kepts-other A o (e ∷ es) [] n k = absurd k
  kepts-other A o (e ∷ es) (p ∷ ps) n k =
      (record { key = k.0.key; next = λ b q. keeps-other o (slot_at e) _ n.0 (k.0.next b q) }, kepts-other A o es ps n.1 k.1)

  module _ (kept : Table) where
    -- ---- other arrays

    -- a path that sees what it saw
    kept_frame : (A A' : Arrays) (e : ℕ) (p : Path) → Sees A A' p.ids → KeptFor B A kept e p → KeptFor B A' kept e p
    kept_frame A A' e p s k =
        record {
          key = k.key;
          next = λ b q.
              let Next : (ℕ → List ℤ) → Type 0 = λ vs. Keeps kept (slot_at e) (candidate_of B (next_after (own_word B p b) B (vs (block_at B b).j) p.earlier b)) in
              subst Next (sym s.vals) (k.next b q);
        }

    pub kepts-frame : (A A' : Arrays) (es : List ℕ) (ps : List Path) → Kept (ids_of ps) A A' → Kepts B A kept es ps → Kepts B A' kept es ps
    kepts-frame A A' es ps s k = paired-with (kept_frame A A') es ps (all-unmapped (λ (p : Path). p.ids) (Sees A A') ps s) k

    -- ---- another queue

    pub kepts-insert : (A : Arrays) (e : ℕ) (p : Path) (es : List ℕ) (ps : List Path) → KeptFor B A kept e p → Kepts B A kept es ps →
        Kepts B A kept (insert key_at e es) (insert (key_of B) p ps)
    kepts-insert A e p es ps h k = insert-paired key_at (key_of B) (KeptFor B A kept) (λ d q r. r.key) e p es ps h k

    pub kepts-staying : (A : Arrays) (L b : ℕ) (visits : List ℕ) (es : List ℕ) (ps : List Path) → Kepts B A kept es ps →
        Kepts B A kept (staying key_at L b visits es) (staying (key_of B) L b visits ps)
    unfolding staying
    kepts-staying A L b visits es ps k = go (eqb (get_or visits b 0) L)
      where
        go : (t : Bool) → Kepts B A kept (cond t (ahead key_at b es) es) (cond t (ahead (key_of B) b ps) ps)
        go true = ahead-paired key_at (key_of B) (KeptFor B A kept) (λ d q r. r.key) b es ps k
        go false = k
