-- A decoding call by cases of loading and of what bars it, whatever run it makes: what it comes to, its record where none is read, its count of extractions and its walk. By unfolding. Assumes nothing.
use mathlib.Core.Path.{◌≡◌, refl}
use mathlib.Core.List.{List}
use mathlib.Core.Option.{Option, none, some}
use Prim.Native.Nat.{ℕ}
use lib.ListN.{length}
use lib.IntN.{ℤ, pos}
use Rattle.codebook.specs.declared.Refusal.{Refusal}
use Rattle.codebook.specs.Book.{Book}
use Rattle.codebook.specs.Loading.{Load, load, refused, loaded, book_shape}
use Rattle.settings.specs.declared.Settings.{Settings}
use Rattle.codec.specs.Record.{no_record}
use Rattle.queue.specs.Queue.{Step, Final, Run}
use Rattle.machine.specs.declared.Reads.TheVariants.{Data}
use Rattle.machine.specs.declared.Manner.{Manner}
use Rattle.machine.specs.Calls.{Input, Lent, barred, readied, hook_of, counts_of, no_counts, walked, after_run, refused_as, refused_call, ran_call, unbarred, call_with, call_by}

-- so many extractions are counted, and the walk's buffers hold these
pub record Extracted (steps : List Step) (l : Lent) (count : ℕ) (after : Lent) : Type 0 where
  pub counted : count ≡ length steps
  pub paths : after.walk_path ≡ walked (λ (s : Step). pos s.path) steps l.walk_path
  pub blocks : after.walk_blocks ≡ walked (λ (s : Step). pos s.blocks) steps l.walk_blocks
  pub scores : after.walk_score ≡ walked (λ (s : Step). s.score) steps l.walk_score

module _ (run : Book → Settings → List ℤ → Lent → Run Final) (k : Manner) (c : Input) (l : Lent) where
  pub call-refused : (r : Refusal) → load c.book ≡ refused r → call_by run k c l ≡ refused_call r l
  unfolding call_by call_with
  call-refused r e = rw e refl

  pub call-barred : (B : Book) (r : Refusal) → load c.book ≡ loaded B → barred k B c l ≡ some r → call_by run k c l ≡ refused_call r l
  unfolding call_by call_with unbarred
  call-barred B r e b = rw (e, b) refl

  pub call-ran : (B : Book) → load c.book ≡ loaded B → barred k B c l ≡ none →
      call_by run k c l ≡ ran_call k.reads (book_shape B) c.settings l (run B c.settings (readied k c) l)
  unfolding call_by call_with unbarred
  call-ran B e b = rw (e, b) refl

  -- a call that reads no record answers none
  pub data-unread : k.reads ≡ Data → (call_by run k c l).answer.hook ≡ no_record
  unfolding call_by call_with unbarred refused_call refused_as ran_call hook_of
  data-unread e = go (load c.book)
    where
      no-hook : (v : Option Refusal) (f : Final) → hook_of k.reads v f ≡ no_record
      no-hook v f = rw e refl

      checked : (B : Book) (o : Option Refusal) → (unbarred run k B c l o).answer.hook ≡ no_record
      checked B (some r) = refl
      checked B none = no-hook _ _

      go : (x : Load) → (call_with run k x c l).answer.hook ≡ no_record
      go (refused r) = refl
      go (loaded B) = checked B (barred k B c l)

  -- the count of extractions and the walk are those of the call's extractions, of which there are none without a run
  pub call-walked : let w = call_by run k c l in Extracted w.steps l w.answer.counts.extractions w.lent
  unfolding call_by call_with unbarred refused_call refused_as ran_call counts_of no_counts after_run walked
  call-walked = go (load c.book)
    where
      checked : (B : Book) (o : Option Refusal) → let w = unbarred run k B c l o in Extracted w.steps l w.answer.counts.extractions w.lent
      checked B (some r) = record { counted = refl; paths = refl; blocks = refl; scores = refl }
      checked B none = record { counted = refl; paths = refl; blocks = refl; scores = refl }

      go : (x : Load) → let w = call_with run k x c l in Extracted w.steps l w.answer.counts.extractions w.lent
      go (refused r) = record { counted = refl; paths = refl; blocks = refl; scores = refl }
      go (loaded B) = checked B (barred k B c l)
