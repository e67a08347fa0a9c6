-- The whole-run theorem's statement: the reader's run and the machine's are the same run. Neither is defined by the other. Assumes nothing.
use Rattle.std.specs.Prelude.{◌≡◌, List, ℕ, ℤ}
use Rattle.codebook.specs.Book.{Book}
use Rattle.queue.specs.Queue.{found}
use Rattle.machine.specs.Machine as M
use Rattle.machine.specs.Calls.{end_of, final_in}
use Rattle.reader.specs.Arrays.{Arrays}
use Rattle.reader.specs.Reader as R

-- Of the run from the arrays A and the run on the values ys: every extraction is the same, with its path number, blocks and score and the numbers crowded out and outrun, and
-- so is the end. They find a word.
pub record Agree (B : Book) (L D : ℕ) (ys : List ℤ) (A : Arrays) : Type 0 where
  pub steps : (R.run_of B L D A).steps ≡ (M.run_of B L D ys).steps
  pub end : (R.run_of B L D A).end ≡ end_of B ys (M.run_of B L D ys).end
  pub finds : (R.run_of B L D A).end ≡ found (final_in (end_of B ys (M.run_of B L D ys).end))
