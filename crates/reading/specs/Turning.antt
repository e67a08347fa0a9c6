-- What one extraction of a run on its tables starts from. Assumes nothing.
use Rattle.std.specs.Prelude.{◌≡◌, List, ℕ, ◌≤◌, length, ℤ}
use Rattle.codebook.specs.declared.Shape.{Shape}
use Rattle.codebook.specs.declared.Tables.{Tables}
use Rattle.settings.specs.declared.Settings.{Settings}
use Rattle.queue.specs.Run.{most_extractions}
use Rattle.reader.specs.Arrays.{Arrays}
use Rattle.standing.specs.Seen.{Memory}
use Rattle.steps.specs.declared.Tally.{Tally}
use Rattle.words.specs.Kept.{Table}
use Rattle.reading.specs.Before.{Before}
use Rattle.reading.specs.Running.{Running}

-- A run of an input, from arrays whose root holds the received values and from walk buffers with room for every entry, is before an extraction (Before), and the
-- path that is next has a next block.
pub record Turning (shape : Shape) (s : Settings) (N : ℕ) (tables : Tables) (x : Memory) (order vacant visits : List ℕ) (kept : Table) (t : Tally) (e : ℕ)
    (path blocks score : List ℤ) : Type 0 where
  pub values : List ℤ
  pub input : Running shape values tables
  pub arrays : Arrays
  pub root : arrays.vals shape.m 1 ≡ values
  pub path₀ : List ℤ
  pub blocks₀ : List ℤ
  pub score₀ : List ℤ
  pub room : (most_extractions s.visits shape.blocks ≤ length path₀) × (most_extractions s.visits shape.blocks ≤ length blocks₀) × (most_extractions s.visits shape.blocks ≤ length score₀)
  pub at : Before input.book s.visits s.paths N arrays t.extractions x order vacant visits kept t e path₀ blocks₀ score₀ path blocks score
  pub more : at.here.path.blocks ≡ length input.book.blocks → ⊥
