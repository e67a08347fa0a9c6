-- The loop invariant of moves.sift: of the first i entries those with more than b blocks stand first, and the entries from i on are as they were.
use Rattle.order.proofs.Queues.{Sifted}
use Rattle.order.proofs.moves.sift.Given as goal

abbrev pub invariant-loop-i : goal.invariant-loop-i
invariant-loop-i l = Sifted l.initial.order l.order l.b l.kept l.i
