-- What the loop of extractions keeps: the memory is large enough, memory and walk are the same, for every input the run is before an extraction (specs/Before),
-- and no more are done than the bound allows; and what falls: the extractions that are still to come.
use Rattle.std.proofs.Common.{◌-◌, ◌≤◌}
use Rattle.queue.specs.Run.{most_extractions}
use Rattle.machine.specs.Calls.{SameWalk}
use Rattle.standing.specs.Seen.{contents, Lent, SameMemory}
use Rattle.words.specs.Kept.{Cells}
use Rattle.reading.specs.Before.{Before}
use Rattle.reading.specs.Running.{arrays_of, received, Running}
use Rattle.reading.proofs.run.extractions.Given as goal

abbrev pub invariant-loop-stage : goal.invariant-loop-stage
invariant-loop-stage l = record {
  lent : Lent l.x.m l.s.paths l.arrays (contents l.memory) × Cells l.s.paths l.kept;
  same : SameMemory l.memory l.fn.memory × SameWalk l.walk l.fn.walk;
  runs : (c : Running l.x l.values l.tables) →
      Before c.book l.s.visits l.s.paths l.arrays (arrays_of l.x.m (received l.x.m l.values l.fn.memory.numbers.now) l.fn.memory.bytes.now) l.stage.tally.extractions
      (contents l.memory) l.queue.order l.queue.vacant l.visits l.kept l.stage.tally l.stage.entry
      l.fn.walk.path.now l.fn.walk.blocks.now l.fn.walk.score.now l.walk.path.now l.walk.blocks.now l.walk.score.now;
  bound : l.stage.tally.extractions ≤ l.most;
}

abbrev pub decreases-loop-stage : goal.decreases-loop-stage
decreases-loop-stage l = most_extractions l.s.visits l.x.blocks - l.stage.tally.extractions
