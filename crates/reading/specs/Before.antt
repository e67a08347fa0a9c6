-- The memory of a run before an extraction: which of the run's moments (reader/specs/Moments) it stands for. It is a fact of the code's own tables: each entry
-- of the order is a path of the reader's queue at that moment, the first of the queue last in the array, and the entry in hand is the path that step 1 takes. Assumes nothing.
use Rattle.std.specs.Prelude.{◌≡◌, List, ◌∷◌, map, ℕ, ◌+◌, ◌-◌, ◌*◌, ◌≤◌, ◌<◌, length, get_or, ℤ, pos}
use Rattle.laws.specs.Lists.{sum}
use Rattle.codebook.specs.Book.{Book}
use Rattle.queue.specs.Run.{most_extractions}
use Rattle.queue.specs.Queue.{Step}
use Rattle.machine.specs.Calls.{walked}
use Rattle.reader.specs.Arrays.{Arrays}
use Rattle.reader.specs.Moments.{Moment, MomentOf, step_at}
use Rattle.order.specs.Entries.{queue_of, Rising}
use Rattle.standing.specs.Seen.{Memory}
use Rattle.standing.specs.Standing.{Stands}
use Rattle.words.specs.Kept.{Table, Kepts}
use Rattle.steps.specs.declared.Tally.{Tally}

-- Of the run from arrays A, as many extractions as the counts t say are done, at most `most`, and the one at the moment `here` is next: memory, with entry e in hand, the
-- entries of the order queued and the slots of `vacant` left, stands for what the reader holds at that moment, its path taken: entry by entry, the order has the number, the blocks and the score
-- of each path of the reader's queue (`EntryOf`, standing/specs/Standing). Fewer than `most` are done only where that path has all blocks, so that the run stops there. The
-- counts and the three walk buffers are those of the extractions done, and no count is beyond what so many extractions can make it. The words kept are those that a
-- search would find, and the order's entries never fall, both of which the next extraction asks for; all else that it asks for (extraction/specs) holds at
-- every moment of a run (reader/proofs/During).
pub record Before (B : Book) (L D N : ℕ) (A : Arrays) (most : ℕ) (x : Memory) (order vacant visits : List ℕ) (kept : Table) (t : Tally) (e : ℕ)
    (path₀ blocks₀ score₀ path blocks score : List ℤ) : Type 0 where
  pub here : Moment
  pub moment : MomentOf B L D A t.extractions here
  pub bound : t.extractions ≤ most
  pub stops : t.extractions < most → here.path.blocks ≡ length B.blocks
  pub few : t.extractions < most_extractions L (length B.blocks)
  pub stands : Stands B D N x (e ∷ queue_of order t.queued) (queue_of vacant (D - (t.queued + 1))) here.state.arrays (here.path ∷ here.state.queue)
  pub next : t.next ≡ here.state.next
  pub visited : (b : ℕ) → b < length B.blocks → get_or visits b 0 ≡ get_or here.state.visits b 0
  pub crowded : t.crowded ≡ sum (map (λ (s : Step). length s.crowded) (map (step_at B L D) moment.made))
  pub outrun : t.outrun ≡ sum (map (λ (s : Step). length s.outrun) (map (step_at B L D) moment.made))
  pub path-is : path ≡ walked (λ (s : Step). pos s.path) (map (step_at B L D) moment.made) path₀
  pub blocks_is : blocks ≡ walked (λ (s : Step). pos s.blocks) (map (step_at B L D) moment.made) blocks₀
  pub score-is : score ≡ walked (λ (s : Step). s.score) (map (step_at B L D) moment.made) score₀
  pub known : Kepts B here.state.arrays kept (e ∷ queue_of order t.queued) (here.path ∷ here.state.queue)
  pub next-few : t.next ≤ t.extractions + 1
  pub crowded-few : t.crowded ≤ t.extractions
  pub outrun-few : t.outrun ≤ 256 * t.extractions
  pub visits-few : (b : ℕ) → get_or visits b 0 ≤ t.extractions
  pub rising : Rising order t.queued
