-- The moments of the reader's run (specs/Reader): the one at which so many extractions are done; what step 2 leaves of the queue and what step 4 finds; and what a step says of
-- the numbers that the queue loses. Of the reader alone. Assumes nothing.
use Rattle.std.specs.Prelude.{◌≡◌, List, ◌∷◌, ◌++◌, ℕ, ◌^◌, length, ℤ}
use Rattle.laws.specs.Lists.{All}
use Rattle.laws.specs.Removes.{Removes}
use Rattle.polar.specs.Layers.{Within}
use Rattle.codebook.specs.Book.{Book}
use Rattle.queue.specs.Queue.{insert, numbers}
use Rattle.reader.specs.Arrays.{Arrays}
use Rattle.reader.specs.Paths.{Path, key_of}
use Rattle.reader.specs.Reader.{Cut, copy, move}
pub use Rattle.reader.specs.Reader.{Moment}
unfoldable pub use Rattle.reader.specs.Reader.{extract_at, step_at, moments_of}

-- `here` is the moment of the run from the arrays A at which k extractions are done
pub record MomentOf (B : Book) (L D : ℕ) (A : Arrays) (k : ℕ) (here : Moment) : Type 0 where
  pub made : List Moment
  pub later : List Moment
  pub moments : moments_of B L D A ≡ made ++ here ∷ later
  pub extractions : k ≡ length made

-- so it is in a run from received values within range, which are the root values of array 1
pub record RunMoment (B : Book) (L D k : ℕ) (here : Moment) : Type 0 where
  pub values : List ℤ
  pub size : length values ≡ 2 ^ B.m
  pub range : All (Within 2047) values
  pub arrays : Arrays
  pub root : arrays.vals B.m 1 ≡ values
  pub moment : MomentOf B L D arrays k here

-- ---- within an extraction

-- what step 2 leaves, the path after step 3, and the queue that step 4 finds
unfoldable pub copy_at : Book → ℕ → Moment → Cut
copy_at B D t = copy B D t.state.arrays t.path t.state.queue t.state.next t.path.blocks

unfoldable pub moved_at : Book → ℕ → Moment → Path
moved_at B D t = let second = copy_at B D t in (move B second.arrays t.path second.queue).path

unfoldable pub queued_at : Book → ℕ → Moment → List Path
queued_at B D t = insert (key_of B) (moved_at B D t) (copy_at B D t).queue

-- ---- what it removes

-- what the step at a moment says of the queue before and after step 2, and before and after step 4
pub record Removed (B : Book) (L D : ℕ) (t : Moment) : Type 0 where
  pub crowded : Removes (step_at B L D t).crowded (numbers (key_of B) t.state.queue) (numbers (key_of B) (copy_at B D t).queue)
  pub outrun : Removes (step_at B L D t).outrun (numbers (key_of B) (queued_at B D t)) (numbers (key_of B) (extract_at B L D t).state.queue)
