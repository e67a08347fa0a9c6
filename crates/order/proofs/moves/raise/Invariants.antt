-- The loop invariant of moves.raise: the entries from k on have moved up by one, and e comes before none of them. Each turn lowers k.
use Prim.Native.Nat.{◌≤◌}
use Rattle.order.specs.Entries.{Moved}
use Rattle.order.proofs.moves.raise.Given as goal

abbrev pub invariant-loop-order : goal.invariant-loop-order
invariant-loop-order l = (l.k ≤ l.queued) × Moved l.initial.order l.order l.e l.k l.queued

abbrev pub decreases-loop-order : goal.decreases-loop-order
decreases-loop-order l = l.k
