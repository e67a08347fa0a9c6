-- The loop of costs.prepare: the first p runs are there.
use Rattle.outer.proofs.Sums.{RunsFilled}
use Rattle.tables.proofs.costs.prepare.Given as goal

abbrev pub invariant-loop-p : goal.invariant-loop-p
invariant-loop-p l = RunsFilled l.sums l.p l.values
