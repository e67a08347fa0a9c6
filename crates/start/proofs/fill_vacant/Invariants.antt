-- The invariant of fill_vacant's loop: the numbers below i are stored, and the rest is as it was.
use Rattle.std.proofs.Common.{◌+◌, ◌-◌}
use Rattle.laws.proofs.Stores.{Stored}
use Rattle.start.proofs.fill_vacant.Given as goal

abbrev pub invariant-loop-i : goal.invariant-loop-i
invariant-loop-i l = Stored l.initial.vacant l.vacant 0 (λ k. k + 1) (l.i - 1)
