-- What holds of the machine at the start and is kept by each extraction holds before every extraction of the run, and of the path with which
-- it stops; and each extraction takes its moment's path. By the laws of traces (queue/proofs/Run). Assumes nothing.
use mathlib.Core.Path.{◌≡◌, refl}
use mathlib.Core.Bool.{not}
use mathlib.Core.List.{List, [], ◌∷◌, map}
use mathlib.Core.Option.{Option, none, some}
use Prim.Native.Nat.{ℕ}
use lib.ListN.{length}
use lib.IntN.{ℤ}
use lib.Dec.{T, eqb, eqb→eq}
use Rattle.laws.specs.Lists.{All, May}
use Rattle.laws.specs.Pairs.{Paired}
use Rattle.laws.proofs.Tests.{cond-case}
use Rattle.codebook.specs.Book.{Book}
use Rattle.queue.specs.Run.{Next}
use Rattle.queue.specs.Queue.{End, end_in, run_in}
use Rattle.queue.proofs.Run.{Leads, states-all, end-may}
use Rattle.machine.specs.Machine.{Path, State, Moment, extract, taking_from, taking, extract_at, step_at, next_at, first_state, trace_of, moments_of, run_of}
use Rattle.runs.specs.Runs.{state_of, state_at, Takes, Finds}

module _ (B : Book) (L D : ℕ) (ys : List ℤ) (Inv : State → Type 0) where
  -- kept by the extraction of each path that has not all blocks
  abbrev pub Kept : Type 0
  Kept = (p : Path) (qs : List Path) (n : ℕ) (visits : List ℕ) → T (not (eqb p.blocks (length B.blocks))) → Inv (state_of (p ∷ qs) n visits) → Inv (extract B L D ys p qs n visits).state

  -- of a path that has all blocks P follows
  abbrev pub Gives : (Path → Type 0) → Type 0
  Gives P = (p : Path) (qs : List Path) (n : ℕ) (visits : List ℕ) → p.blocks ≡ length B.blocks → Inv (state_of (p ∷ qs) n visits) → P p

  module _ (P : Path → Type 0) where
    -- so it is at a moment, and at the end
    abbrev Holds : Next Moment (End Path) → Type 0
    Holds = Leads (λ t. Inv (state_at t)) (Finds P)

    taking-holds : (qs : List Path) (n : ℕ) (visits : List ℕ) → Inv (state_of qs n visits) → Holds (taking_from qs n visits)
    unfolding taking_from Leads Finds
    taking-holds [] n visits h = tt
    taking-holds (p ∷ qs) n visits h = h

    next-holds : Kept → Gives P → (t : Moment) → Inv (state_at t) → Holds (next_at B L D ys t)
    unfolding next_at taking extract_at Leads Finds
    next-holds k f t h =
        cond-case Holds (eqb t.path.blocks (length B.blocks))
        (λ e. f t.path t.state.queue t.state.next t.state.visits (eqb→eq t.path.blocks (length B.blocks) e) h)
        (λ e. taking-holds _ _ _ (k t.path t.state.queue t.state.next t.state.visits e h))

    finds-end : (o : Option (End Path)) → May (Finds P) o → Finds P (end_in o)
    unfolding May end_in Finds
    finds-end none h = tt
    finds-end (some e) h = h

    -- the path taken last comes from such a state, and has all blocks
    pub run-final : Kept → Gives P → Inv (first_state B) → Finds P (run_of B L D ys).end
    unfolding run_of run_in trace_of taking first_state
    run-final k f h = finds-end _ (end-may (next_at B L D ys) (λ t. Inv (state_at t)) (Finds P) (next-holds k f) _ _ (taking-holds _ _ _ h))

  -- before every extraction
  pub run-moments : Kept → Inv (first_state B) → All (λ (t : Moment). Inv (state_at t)) (moments_of B L D ys)
  unfolding moments_of trace_of taking first_state
  run-moments k h =
      states-all (next_at B L D ys) (λ t. Inv (state_at t)) _ (next-holds (λ _. Unit {0}) k (λ _ _ _ _ _ _. tt)) _ _ (taking-holds (λ _. Unit {0}) _ _ _ h)

-- ---- the moments and the extractions

module _ (B : Book) (L D : ℕ) (ys : List ℤ) where
  step-takes : (t : Moment) → Takes t (step_at B L D ys t)
  unfolding step_at extract_at extract
  step-takes t =
      cond-case (Takes t) (eqb t.path.blocks (length B.blocks)) (λ _. record { path = refl; blocks = refl; score = refl })
      (λ _. record { path = refl; blocks = refl; score = refl })

  steps-take : (ts : List Moment) → Paired Takes ts (map (step_at B L D ys) ts)
  unfolding Paired
  steps-take [] = tt
  steps-take (t ∷ ts) = (step-takes t, steps-take ts)

  -- each extraction of the run takes the path of its moment
  pub run-takes : Paired Takes (moments_of B L D ys) (run_of B L D ys).steps
  unfolding moments_of run_of run_in
  run-takes = steps-take _
