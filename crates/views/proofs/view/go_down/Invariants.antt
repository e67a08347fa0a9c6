-- The loop's invariant in view.go_down: the path sees what the way down to height h makes of what it saw, and the rest of the rows is as it was.
use mathlib.Core.Path.{◌≡◌}
use Prim.Native.Nat.{◌≤◌}
use Rattle.standing.specs.Seen.{contents, SameMemory, HasArrays, StepSeen, IdsOnly}
use Rattle.views.specs.Steps.{Upper}
use Rattle.views.proofs.Down.{down}
use Rattle.views.proofs.view.go_down.Given as goal

abbrev pub invariant-loop-h : goal.invariant-loop-h
invariant-loop-h l = record {
  above : l.low ≤ l.h;
  below : l.h ≤ l.top;
  has : HasArrays l.layout.m l.layout.arrays (contents l.memory);
  only : IdsOnly l.layout.m l.slot l.fn.memory.rows.now l.memory.rows.now;
  seen : StepSeen l.layout.m l.layout.arrays l.slot (contents l.fn.memory) (contents l.memory) (Upper l.top) (down l.top l.h);
  same : SameMemory l.memory l.fn.memory;
  bytes : l.memory.bytes.now ≡ l.fn.memory.bytes.now;
}
