-- The reader's run on the lent workspace: what it needs, and what it leaves. Assumes nothing.
use Rattle.std.specs.Prelude.{◌≡◌, List, ℕ, ◌^◌, length, ℤ}
use Rattle.laws.specs.Lists.{All}
use Rattle.polar.specs.Layers.{part, over_at, Within}
use Rattle.codebook.specs.declared.Shape.{Shape}
use Rattle.codebook.specs.declared.Tables.{Tables}
use Rattle.codebook.specs.Book.{Book}
use Rattle.queue.specs.Queue.{Final, found, Run}
use Rattle.machine.specs.Calls.{counts_of}
use Rattle.reader.specs.Arrays.{Arrays}
use Rattle.heights.specs.Workspace.{spot, Id}
pub use Rattle.start.specs.Start.{InTables}
use Rattle.reading.specs.declared.Ran.{Ran}

-- the arrays that a workspace holds
unfoldable pub arrays_of : ℕ → List ℤ → List ℕ → Arrays
arrays_of m numbers bytes =
    record { vals = λ h i. part (spot m i h) (2 ^ h) numbers; sums = λ h i. part (spot m i h) (2 ^ h) bytes }

-- the numbers of a workspace once the received values are the root values of array 1
unfoldable pub received : ℕ → List ℤ → List ℤ → List ℤ
received m values numbers = over_at (spot m 1 m) values numbers

-- a run's input: a book in tables, its shape, and received values within range
pub record Running (shape : Shape) (values : List ℤ) (tables : Tables) : Type 0 where
  pub book : Book
  pub in_tables : InTables book tables
  pub deep : book.m ≡ shape.m
  pub blocks : length book.blocks ≡ shape.blocks
  pub size : length values ≡ 2 ^ shape.m
  pub range : All (Within 2047) values

-- what a run answers, and in which of the N arrays of the root it leaves the final word
pub record RanIs (m N : ℕ) (run : Run Final) (x : Ran) (bytes : List ℕ) : Type 0 where
  pub final : Final
  pub ends : run.end ≡ found final
  pub counts : x.counts ≡ counts_of run.steps final
  pub id : Id N x.id
  pub word : part (spot m x.id m) (2 ^ m) bytes ≡ final.word
