-- Demand 3, of one call: the reader's run on the memory that this call was lent, and the plain machine's run on its values, are the same run, and the
-- call's counts and walk are those of the reader's. The reader (reader/specs/Reader) and the machine (machine/specs/Machine) are not defined by each other. Assumes nothing.
use Rattle.std.specs.Prelude.{◌≡◌, List, map, ℕ, ◌≤◌, ◌<◌, length, ℤ, pos}
use Rattle.laws.specs.Lists.{All}
use Rattle.codebook.specs.Book.{Book}
use Rattle.codebook.specs.Loading.{book_shape}
use Rattle.settings.specs.declared.Settings.{Settings}
use Rattle.machine.specs.declared.Manner.{Manner}
use Rattle.machine.specs.declared.Counts.{Counts}
use Rattle.queue.specs.Run.{most_extractions}
use Rattle.queue.specs.Queue.{Step}
use Rattle.machine.specs.Calls.{Input, Lent, readied, final_in, counts_of, walked}
use Rattle.runs.specs.Runs.{entries}
use Rattle.runs.specs.Handed.{Made}
use Rattle.reader.specs.Moments.{Moment, moments_of, step_at, Removed}
use Rattle.reader.specs.Agree.{Agree}
use Rattle.attempts.specs.Reading.{arrays_lent, reader_run}

-- The reader's run with book B, settings s and values ys is the machine's: every extraction, with its path number, blocks and score and the numbers crowded out and outrun; and the end, with the final word, its
-- data and its discrepancy, which is found. The extractions are those of the run's moments; at each but the last, which removes nothing, the numbers crowded out are exactly those
-- that the reader's queue holds before step 2 and not after, the numbers outrun those that it holds before step 4 and not after. There are at most L x V + 1,
-- and no block is entered more than L times: of both runs, since their extractions are the same. The counts that are answered and the walk that is left are those of the reader's run.
pub record Agreed (B : Book) (s : Settings) (ys : List ℤ) (l : Lent) (counts : Counts) (after : Lent) : Type 0 where
  pub runs : Agree B s.visits s.paths ys (arrays_lent (book_shape B) s ys l)
  pub moments : (reader_run B s ys l).steps ≡ map (step_at B s.visits s.paths) (moments_of B s.visits s.paths (arrays_lent (book_shape B) s ys l))
  pub removed : All (λ (t : Moment). (t.path.blocks ≡ length B.blocks → ⊥) → Removed B s.visits s.paths t)
      (moments_of B s.visits s.paths (arrays_lent (book_shape B) s ys l))
  pub few : length (reader_run B s ys l).steps ≤ most_extractions s.visits (length B.blocks)
  pub entered : (b : ℕ) → b < length B.blocks → entries b (reader_run B s ys l).steps ≤ s.visits
  pub counted : counts ≡ counts_of (reader_run B s ys l).steps (final_in (reader_run B s ys l).end)
  pub paths : after.walk_path ≡ walked (λ (t : Step). pos t.path) (reader_run B s ys l).steps l.walk_path
  pub blocks : after.walk_blocks ≡ walked (λ (t : Step). pos t.blocks) (reader_run B s ys l).steps l.walk_blocks
  pub scores : after.walk_score ≡ walked (λ (t : Step). t.score) (reader_run B s ys l).steps l.walk_score

-- so it is of every call that makes a run
unfoldable pub WholeRun : Manner → Input → Lent → Counts → Lent → Type 0
WholeRun k c l counts after = (B : Book) → Made k c l B → Agreed B c.settings (readied k c) l counts after
