-- `obeying::tie` meets its contract: each return is the refusal of the test that led there, or the tie that fits. Assumes nothing.
use mathlib.Core.Path.{refl}
use native.Mathlib.Omega.{arith}
use Rattle.codebook.specs.declared.Refusal.TheVariants.{OutOfRange}
use Rattle.obeying.proofs.Verdicts.{refuse, proceed, tie-later, tie-fits}
use Rattle.obeying.proofs.Growing.{tie-holds}
use Rattle.obeying.proofs.tie.Goals as goal

pub returns-then-p-i : goal.returns-then-p-i
returns-then-p-i c old s h = refuse _ _ OutOfRange (tie-later c.args.p s h.counts c.args.i c.if-p-i.true) refl

pub returns : goal.returns
returns c old s h =
    let a = c.args in
    proceed _ _ _ _ (tie-fits a.p s h.counts a.i c.if-p-i.false (omega arith))
    (rw c.word_power.ensures (tie-holds a.p a.tables.now old s h _ a.i c.requires c.if-p-i.false (omega arith) (record { m = refl; n = refl; free = refl; blocks = refl; covered = refl }) refl refl refl))
