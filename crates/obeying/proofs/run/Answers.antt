-- `obeying::run` meets its contract: each return is the refusal of the test that led there, or the run that fits. Assumes nothing.
use mathlib.Core.Path.{refl, ◌∙◌}
use native.Mathlib.Omega.{arith}
use Rattle.codebook.specs.declared.Refusal.TheVariants.{OutOfRange}
use Rattle.obeying.proofs.Verdicts.{refuse, proceed, run-goes, run-empty, run_past, run_fits}
use Rattle.obeying.proofs.Growing.{run_holds}
use Rattle.obeying.proofs.run.Goals as goal
use Rattle.obeying.proofs.run.Goals.{then-count-lt1-via-then-count-lt1, then-count-lt1-via-else-count-lt1+then-p-count}

pub returns-then-count-lt1 : goal.returns-then-count-lt1
returns-then-count-lt1 c old s h =
    let a = c.args in
    let run = run-goes s a.code a.count in
    elim c.then-count-lt1.branch [
      | then-count-lt1-via-then-count-lt1 w ↦ refuse _ _ OutOfRange (run.0 ∙ run-empty a.p s h.counts a.count w.if-count-lt1.true) refl
      | then-count-lt1-via-else-count-lt1+then-p-count w ↦ refuse _ _ OutOfRange (run.0 ∙ run_past a.p s h.counts a.count w.if-count-lt1.false w.if-p-count.true) refl
    ]

pub returns : goal.returns
returns c old s h =
    let a = c.args in
    let run = run-goes s a.code a.count in
    rw run.1 (proceed _ _ _ _ (run.0 ∙ run_fits a.p s h.counts a.count c.if-count-lt1.false c.if-p-count.false c.requires.0)
    (run_holds a.p a.tables.now old s h _ a.count a.code _ _ c.requires.1 c.requires.0 (omega arith) (omega arith) (record { m = refl; n = refl; free = refl; blocks = refl; covered = refl }) refl refl refl (c.fill.ensures.after (λ y e. e))))
