-- What step 4 starts from. Assumes nothing.
use Rattle.std.specs.Prelude.{◌≡◌, List, ℕ, length, get_or}
use Rattle.codebook.specs.Limits.{Valid}
use Rattle.queue.specs.Queue.{visit}
use Rattle.reader.specs.Moments.{Moment, RunMoment, queued_at}
use Rattle.standing.specs.Seen.{Memory}
use Rattle.steps.specs.Steps.{Queued}

-- Memory x, with the entries es queued and the slots vs vacant, stands for the paths that the reader's step 4 finds at the moment `here` of a run, k extractions being done; nothing is
-- asked of its arrays, which step 4 does not change. The path taken, which has a next block, visits block b, and the table counts this visit as the reader does.
pub record Outrunning (m L D N k b : ℕ) (x : Memory) (es vs visits : List ℕ) : Type 0 where
  pub queued : Queued m D N x es vs
  pub valid : Valid queued.book
  pub here : Moment
  pub at : RunMoment queued.book L D k here
  pub more : here.path.blocks ≡ length queued.book.blocks → ⊥
  pub block : here.path.blocks ≡ b
  pub paths : queued_at queued.book D here ≡ queued.paths
  pub visited : get_or (visit here.state.visits b) b 0 ≡ get_or (visit visits b) b 0
