-- The loop invariant of moves.insert: the entries from k on have moved up by one since it began, and e comes before none of them. Each turn lowers k.
use Prim.Native.Nat.{◌≤◌}
use Rattle.order.specs.Entries.{Moved}
use Rattle.order.proofs.moves.insert.Given as goal

abbrev pub invariant-loop-order : goal.invariant-loop-order
invariant-loop-order l = (l.k ≤ l.initial.k) × Moved l.initial.order l.order l.e l.k l.initial.k

abbrev pub decreases-loop-order : goal.decreases-loop-order
decreases-loop-order l = l.k
