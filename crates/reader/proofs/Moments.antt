-- The moments of the reader's run (specs/Moments): the run's steps are those of its moments, and what each extraction keeps holds at every moment. By the laws of
-- traces (queue/proofs/Run). Assumes nothing.
use mathlib.Core.Path.{◌≡◌, refl}
use mathlib.Core.List.{List, [], ◌∷◌, map}
use Prim.Native.Nat.{ℕ}
use lib.ListN.{length, replicate}
use lib.Dec.{eqb}
use borrow.Author.Tests.{ne_eqb}
use Rattle.laws.specs.Lists.{All}
use Rattle.laws.proofs.Tests.{cond-case, neqb→ne}
use Rattle.codebook.specs.Book.{Book}
use Rattle.queue.specs.Queue.{run_in}
use Rattle.queue.proofs.Run.{Leads, states-all}
use Rattle.reader.specs.Arrays.{Arrays}
use Rattle.reader.specs.Paths.{Path, first_path}
use Rattle.reader.specs.Reader.{taking_from, taking, next_at, first_state, trace_of, run_of}
use Rattle.reader.specs.Moments.{Moment, moments_of, extract_at, step_at}

-- ---- the run's steps

-- while the run goes on
pub step-more : (B : Book) (L D : ℕ) (t : Moment) → (t.path.blocks ≡ length B.blocks → ⊥) → step_at B L D t ≡ (extract_at B L D t).step
unfolding step_at
step-more B L D t n = rw (ne_eqb t.path.blocks (length B.blocks) n)

pub run-steps-are : (B : Book) (L D : ℕ) (A : Arrays) → (run_of B L D A).steps ≡ map (step_at B L D) (moments_of B L D A)
unfolding run_of run_in moments_of
run-steps-are B L D A = refl

-- ---- what holds at the start and is kept by each extraction holds at every moment

-- P holds once the first path is taken, if there is one
abbrev pub Taken : (Moment → Type 0) → Arrays → List Path → ℕ → List ℕ → Type 0
Taken P A ps n visits = Leads P (λ _. Unit {0}) (taking_from A ps n visits)

module _ (B : Book) (L D : ℕ) (P : Moment → Type 0) where
  -- kept by the extraction of each path that has not all blocks
  abbrev pub Stays : Type 0
  Stays = (t : Moment) → (t.path.blocks ≡ length B.blocks → ⊥) → P t → let x = (extract_at B L D t).state in Taken P x.arrays x.queue x.next x.visits

  next-taken : Stays → (t : Moment) → P t → Leads P (λ _. Unit {0}) (next_at B L D t)
  unfolding next_at taking Leads
  next-taken k t h =
      cond-case (Leads P (λ _. Unit {0})) (eqb t.path.blocks (length B.blocks)) (λ _. tt)
      (λ e. k t (neqb→ne t.path.blocks (length B.blocks) e) h)

  pub run-all : Stays → (A : Arrays) → Taken P A (first_path B ∷ []) 1 (replicate (length B.blocks) 0) → All P (moments_of B L D A)
  unfolding moments_of trace_of taking first_state
  run-all k A h = states-all (next_at B L D) P (λ _. Unit {0}) (next-taken k) _ _ h
