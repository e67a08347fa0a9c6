-- The loop's invariant in outruns.dismiss: the paths of the first entries are passed, and those of them with b blocks or fewer are gone.
use Prim.Native.Nat.{ℕ, ◌+◌, ◌-◌, ◌≤◌}
use Rattle.order.specs.Entries.{queue_of}
use Rattle.sharing.specs.Sharing.{Held}
use Rattle.standing.specs.Seen.{contents, SameMemory, HoldersOnly}
use Rattle.steps.specs.Steps.{Queued}
use Rattle.advance.proofs.Dismissals.{Passed}
use Rattle.advance.proofs.outruns.dismiss.Given as goal

abbrev pub invariant-loop-e : goal.invariant-loop-e
invariant-loop-e l = record {
  few : l.gone ≤ l.e-index;
  held : Held l.memory.holders;
  rest : HoldersOnly l.memory l.fn.memory;
  same : SameMemory l.memory l.fn.memory;
  passed : (arrays : ℕ)
      (c : Queued l.m l.paths arrays (contents l.fn.memory) (queue_of l.fn.queue.order l.queued) (queue_of l.fn.queue.vacant (l.paths - l.queued))) → arrays ≤ 256 →
      Passed c.book l.paths arrays (contents l.memory) l.fn.queue.order (queue_of l.vacant (l.paths - l.queued + l.gone)) c.arrays c.paths l.b (l.queued - l.e-index) l.e-index l.gone;
}
