-- The loop's invariant in view.join: the word joined with the sums of the heights below k stands at the end of the cells, and nothing changed elsewhere.
use Rattle.sharing.specs.Sharing.{id_at}
use Rattle.views.proofs.Joining.{Progress}
use Rattle.views.proofs.view.join.Given as goal

abbrev pub invariant-loop-k : goal.invariant-loop-k
invariant-loop-k l = Progress l.layout.m l.h l.id l.j (id_at l.rows l.slot) l.fn.bytes l.k l.bytes
