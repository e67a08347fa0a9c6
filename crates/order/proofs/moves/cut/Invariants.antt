-- The loop invariant of moves.cut: the first i entries are those from `by` on, and the others are as they were.
use Prim.Native.Nat.{◌+◌}
use lib.ListN.{get_or}
use Rattle.laws.proofs.Stores.{Stored}
use Rattle.order.proofs.moves.cut.Given as goal

abbrev pub invariant-loop-i : goal.invariant-loop-i
invariant-loop-i l = Stored l.initial.order l.order 0 (λ k. get_or l.initial.order (k + l.by) 0) l.i
