-- What holds of the reader's queue at every extraction (specs/Reached) holds of path 0 alone, and is kept by each extraction; so it holds at every
-- moment of the run. Assumes nothing.
use mathlib.Core.Path.{◌≡◌}
use mathlib.Core.List.{List, [], ◌∷◌}
use Prim.Native.Nat.{ℕ, ◌^◌, ◌≤◌, ◌<◌}
use native.Mathlib.Omega.{arith}
use lib.ListN.{length}
use lib.IntN.{ℤ}
use Rattle.laws.specs.Lists.{All}
use Rattle.laws.specs.Pairs.{Paired}
use Rattle.polar.specs.Layers.{Within}
use Rattle.codebook.specs.Book.{Book}
use Rattle.codebook.specs.Limits.{Valid}
use Rattle.queue.proofs.Run.{Leads}
use Rattle.machine.specs.Machine as M
use Rattle.reader.specs.Arrays.{Arrays}
use Rattle.reader.specs.Paths.{Path, first_path, view_of}
use Rattle.reader.specs.Fit.{FitFor}
use Rattle.reader.specs.Reader.{extract, taking_from}
use Rattle.reader.specs.Reached.{StandsFor, Reached}
use Rattle.reader.proofs.Good.{sized}
use Rattle.reader.proofs.Step.{StepIs, stands-blocks, extract-is}
use Rattle.reader.proofs.Run.{first-stands}
use Rattle.reader.specs.Moments.{Moment, moments_of, extract_at}
use Rattle.reader.proofs.Moments.{Taken, Stays, run-all}
use Rattle.reader.proofs.Bounds.{alive, extract-length}
use Rattle.reader.proofs.Held.{housed, extract-housed, first-within}
use Rattle.reader.proofs.Rooted.{first-rooted, extract-rooted}
use Rattle.reader.proofs.Fit.{fit_of}

pub first-reached : (B : Book) (ys : List ℤ) (D : ℕ) (A : Arrays) → A.vals B.m 1 ≡ ys → 1 ≤ D → Reached B ys D A (first_path B ∷ [])
unfolding Paired All
first-reached B ys D A e l =
    record {
      machine = M.empty_path ∷ [];
      stands = (first-stands B ys A e, tt);
      rooted = (first-rooted B, tt);
      few = l;
      housed = (first-within B D l, tt);
    }

-- the machine's queue that it stands for, taken apart: the path that step 1 takes, and the rest
pub record Headed (B : Book) (ys : List ℤ) (A : Arrays) (p : Path) (ps : List Path) : Type 0 where
  pub path : M.Path
  pub queue : List M.Path
  pub stands : StandsFor B ys A path p
  pub others : Paired (StandsFor B ys A) queue ps

headed : (B : Book) (ys : List ℤ) (A : Arrays) (p : Path) (ps : List Path) (qs : List M.Path) → Paired (StandsFor B ys A) qs (p ∷ ps) →
    Headed B ys A p ps
unfolding Paired
headed B ys A p ps [] h = absurd h
headed B ys A p ps (q ∷ qs) h = record { path = q; queue = qs; stands = h.0; others = h.1 }

pub reached-headed : (B : Book) (ys : List ℤ) (D : ℕ) (A : Arrays) (p : Path) (ps : List Path) → Reached B ys D A (p ∷ ps) → Headed B ys A p ps
reached-headed B ys D A p ps r = headed B ys A p ps r.machine r.stands

module _ (B : Book) (ys : List ℤ) (ok : Valid B) where
  pub reached-within : (D : ℕ) (A : Arrays) (p : Path) (ps : List Path) → Reached B ys D A (p ∷ ps) → p.blocks ≤ length B.blocks
  reached-within D A p ps r =
      let s : Headed B ys A p ps = reached-headed B ys D A p ps r in
      (sized B ys (view_of A p) s.path.bits p ok p.blocks s.stands.holds.inv).within

  module _ (ly : length ys ≡ 2 ^ B.m) where
    -- it is fit for its extraction
    pub reached-fit : All (Within 2047) ys → (D : ℕ) (A : Arrays) (p : Path) (ps : List Path) → Reached B ys D A (p ∷ ps) → FitFor B A p p.blocks
    unfolding All
    reached-fit w D A p ps r =
        let s : Headed B ys A p ps = reached-headed B ys D A p ps r in
        fit_of B ys ok ly w A s.path p s.stands r.rooted.0

    module _ (L D : ℕ) (two : 2 ≤ D) (A : Arrays) (p : Path) (ps : List Path) (n : ℕ) (visits : List ℕ) where
      -- the moment of the extraction
      now : Moment
      now = record { path = p; state = record { arrays = A; queue = ps; next = n; visits = visits } }

      pub extract-reached : Reached B ys D A (p ∷ ps) → p.blocks < length B.blocks →
          let x = (extract B L D A p ps n visits).state in Reached B ys D x.arrays x.queue
      unfolding extract_at now All
      extract-reached r l =
          let s : Headed B ys A p ps = reached-headed B ys D A p ps r in
          let i : StepIs B ys (M.extract B L D ys s.path s.queue n visits) (extract B L D A p ps n visits) =
          extract-is B ys ok ly L D A s.path p s.queue ps n visits s.stands s.others
          (λ e. omega (arith, stands-blocks B ys A s.path p s.stands)) in
          record {
            machine = (M.extract B L D ys s.path s.queue n visits).state.queue;
            stands = i.queue;
            rooted = extract-rooted B ok L D A p ps n visits r.rooted l;
            few = extract-length B L D two now (alive B L D two now r.few);
            housed = extract-housed B L D two now (housed B L D two now r.few r.housed.0 r.housed.1);
          }

    -- ---- at every moment of the run

    module _ (L D : ℕ) (two : 2 ≤ D) where
      abbrev ReachedAt : Moment → Type 0
      ReachedAt t = Reached B ys D t.state.arrays (t.path ∷ t.state.queue)

      taken-reached : (A : Arrays) (ps : List Path) (n : ℕ) (visits : List ℕ) → Reached B ys D A ps → Taken ReachedAt A ps n visits
      unfolding taking_from Leads
      taken-reached A [] n visits r = tt
      taken-reached A (p ∷ ps) n visits r = r

      stays-reached : Stays B L D ReachedAt
      unfolding extract_at
      stays-reached t d r =
          taken-reached _ _ _ _
          (extract-reached L D two t.state.arrays t.path t.state.queue t.state.next t.state.visits r
          (omega (arith, reached-within D t.state.arrays t.path t.state.queue r)))

      pub run-reached : (A : Arrays) → A.vals B.m 1 ≡ ys →
          All (λ (t : Moment). Reached B ys D t.state.arrays (t.path ∷ t.state.queue)) (moments_of B L D A)
      run-reached A e = run-all B L D ReachedAt stays-reached A (taken-reached _ _ _ _ (first-reached B ys D A e (omega arith)))
