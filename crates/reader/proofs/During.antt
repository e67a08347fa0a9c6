-- What holds at a moment of a run, since it holds at all of them: the path taken is fit, and the words that it will find cost no more than any path does; and where it has a next block,
-- the step removes what it says. Assumes nothing.
use mathlib.Core.Path.{◌≡◌, subst}
use mathlib.Core.List.{List, [], ◌∷◌, ◌++◌}
use mathlib.Core.Option.{some}
use Prim.Native.Nat.{ℕ, suc, ◌+◌, ◌≤◌, ◌<◌}
use lib.ListN.{length}
use Rattle.laws.specs.Lists.{All}
use Rattle.codebook.specs.Book.{Book, block_at}
use Rattle.codebook.specs.Limits.{Valid}
use Rattle.outer.specs.Words.{Word, next_after}
use Rattle.reader.specs.Arrays.{Arrays, vals_of}
use Rattle.reader.specs.Paths.{Path, own_word, ids_of, view_of}
use Rattle.reader.specs.Reader.{copy}
use Rattle.reader.specs.Moments.{Moment, moments_of, RunMoment, Removed}
use Rattle.reader.specs.Fit.{FitFor}
use Rattle.reader.specs.Reached.{Reached}
use Rattle.reader.proofs.Reached.{reached-fit, run-reached}
use Rattle.reader.proofs.Removed.{run-removed}
use Rattle.reader.proofs.Found.{MoveFound, copy-total, move-found-copied}

-- what holds of all of some moments holds of one among them
pub among : (P : Moment → Type 0) (made : List Moment) (here : Moment) (later : List Moment) → All P (made ++ here ∷ later) → P here
unfolding All
among P [] here later h = h.0
among P (t ∷ made) here later h = among P made here later h.1

module _ {B : Book} {L D k : ℕ} {here : Moment} (ok : Valid B) (r : RunMoment B L D k here) where
  during : (P : Moment → Type 0) → All P (moments_of B L D r.arrays) → P here
  during P h = among P r.moment.made here r.moment.later (subst (All P) r.moment.moments h)

  pub during-reached : 2 ≤ D → Reached B r.values D here.state.arrays (here.path ∷ here.state.queue)
  during-reached two =
      during (λ (t : Moment). Reached B r.values D t.state.arrays (t.path ∷ t.state.queue))
      (run-reached B r.values ok r.size L D two r.arrays r.root)

  pub during-removed : (here.path.blocks ≡ length B.blocks → ⊥) → Removed B L D here
  during-removed =
      during (λ (t : Moment). (t.path.blocks ≡ length B.blocks → ⊥) → Removed B L D t)
      (run-removed B r.values ok r.size L D r.arrays r.root)

  module _ (two : 2 ≤ D) where
    abbrev A : Arrays
    A = here.state.arrays

    abbrev p : Path
    p = here.path

    abbrev ps : List Path
    ps = here.state.queue

    pub during-fit : FitFor B A p p.blocks
    during-fit = reached-fit B r.values ok r.size r.range D A p ps (during-reached two)

    -- step 2: the copy's word
    pub during-copy : (b : ℕ) → p.blocks ≡ suc b → b < length B.blocks → (y : Word) →
        next_after (own_word B p b) B (vals_of (view_of A p) (block_at B b).j) p.earlier b ≡ some y → p.spent + y.cost ≤ 1048064
    during-copy b = copy-total B r.values ok r.size r.range D A p ps b (during-reached two)

    -- step 3: the path's next word, after step 2
    pub during-move : p.blocks < length B.blocks → (n : ℕ) → let c = copy B D A p ps n p.blocks in MoveFound B (ids_of c.queue) c.arrays p
    during-move = move-found-copied B r.values ok r.size r.range D A p ps (during-reached two)
