-- Before every extraction the score kept beside each queued path's bits is that of its bits, and so it is of the path with which the run stops. Kept by each
-- extraction: the copy and the path with its next block are made with their scores. Assumes nothing.
use mathlib.Core.Path.{refl}
use mathlib.Core.List.{List, ◌∷◌}
use mathlib.Core.Option.{Option, none, some}
use Prim.Native.Nat.{ℕ, zero, suc}
use lib.IntN.{ℤ}
use Rattle.laws.specs.Lists.{All, May}
use Rattle.codebook.specs.Book.{Book}
use Rattle.machine.specs.Words.{Ranked, nearest}
use Rattle.machine.specs.Machine.{Path, Moment, score_of, path, empty_path, copy_with, copy_of, advance_with, advance, extract, first_state, moments_of, run_of}
use Rattle.runs.specs.Runs.{state_of, state_at, Finds, OwnScore, Scored}
use Rattle.runs.proofs.Steps.{all-extract}
use Rattle.runs.proofs.Moments.{run-moments, run-final}

-- ---- one extraction

module _ (B : Book) (ys : List ℤ) where
  copy_with-scored : (n b : ℕ) (o : Option Ranked) → May (OwnScore B ys) (copy_with B ys n b o)
  unfolding copy_with path May
  copy_with-scored n b none = tt
  copy_with-scored n b (some x) = refl

  copy-scored : (n b : ℕ) (u : List ℕ) → May (OwnScore B ys) (copy_of B ys n b u)
  unfolding copy_of May
  copy-scored n zero u = tt
  copy-scored n (suc b) u = copy_with-scored n (suc b) _

  advance-scored : (p : Path) → OwnScore B ys p → OwnScore B ys (advance B ys p)
  unfolding advance
  advance-scored p h = go (nearest B ys p.bits p.blocks)
    where
      go : (o : Option Ranked) → OwnScore B ys (advance_with B ys p o)
      go none = unfold advance_with in h
      go (some x) = unfold advance_with path in refl

  extract-scored : (L D : ℕ) (p : Path) (qs : List Path) (n : ℕ) (visits : List ℕ) → Scored B ys (state_of (p ∷ qs) n visits) → Scored B ys (extract B L D ys p qs n visits).state
  unfolding All
  extract-scored L D p qs n visits h =
      record { queued = all-extract (OwnScore B ys) B L D ys p qs n visits h.queued.1 (copy-scored n p.blocks p.bits) (advance-scored p h.queued.0) }

  first-scored : Scored B ys (first_state B)
  unfolding first_state empty_path score_of All
  first-scored = record { queued = (refl, tt) }

  -- ---- the run

  pub run-scored : (L D : ℕ) → All (λ (t : Moment). Scored B ys (state_at t)) (moments_of B L D ys)
  run-scored L D = run-moments B L D ys (Scored B ys) (λ p qs n visits _ h. extract-scored L D p qs n visits h) first-scored

  pub final-scored : (L D : ℕ) → Finds (OwnScore B ys) (run_of B L D ys).end
  unfolding All
  final-scored L D =
      run-final B L D ys (Scored B ys) (OwnScore B ys) (λ p qs n visits _ h. extract-scored L D p qs n visits h) (λ p qs n visits _ h. h.queued.0) first-scored
