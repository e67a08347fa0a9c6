-- `obeying::fits` meets its contract: at each return the tests have the answers of the code's. Assumes nothing.
use mathlib.Core.Path.{sym, ◌∙◌}
use Prim.Native.Nat.{◌%◌}
use mir.Syntax.{w32}
use mir.ValLaws.{to_z-of_z}
use borrow.Author.Tests.{eq-eqb, ne_eqb, le-leb, lt-leb}
use Rattle.laws.proofs.Tests.{apart}
use Rattle.codebook.specs.Progress.{block_fits}
use Rattle.obeying.proofs.fits.Goals as goal
use Rattle.obeying.proofs.fits.Goals.{then-covered-length-eq0, else-covered-length-eq0}

pub returns-then-j-gt5-clause-value : goal.returns-then-j-gt5-clause-value
unfolding block_fits
returns-then-j-gt5-clause-value c = rw (lt-leb c.args.j 5 c.if-j-gt5.true)

pub returns-then-covered-length-clause-value : goal.returns-then-covered-length-clause-value
unfolding block_fits
returns-then-covered-length-clause-value c =
    let a = c.args in
    let power = c.word_power-length.ensures in
    let all = c.if-covered-length.true in
    elim c.if-covered-length-eq0.branch [
      | then-covered-length-eq0 w ↦ rw (c.unsigned_abs.ensures.value, to_z-of_z w32 a.bias c.ranges.bias, le-leb a.j 5 c.if-j-gt5.false, ← power, eq-eqb (a.covered % c.word_power-length.result) 0 w.if-covered-length-eq0.true, sym w.value-is ∙ all)
      | else-covered-length-eq0 w ↦ apart (sym all ∙ w.value-is ∙ ne_eqb (a.covered % c.word_power-length.result) 0 w.if-covered-length-eq0.false)
    ]

pub returns-else-covered-length-clause-value : goal.returns-else-covered-length-clause-value
unfolding block_fits
returns-else-covered-length-clause-value c =
    let a = c.args in
    let power = c.word_power-length.ensures in
    let some = c.if-covered-length.false in
    elim c.if-covered-length-eq0.branch [
      | then-covered-length-eq0 w ↦ rw (some, le-leb a.j 5 c.if-j-gt5.false, ← power, eq-eqb (a.covered % c.word_power-length.result) 0 w.if-covered-length-eq0.true, sym w.value-is ∙ some)
      | else-covered-length-eq0 w ↦ rw (some, le-leb a.j 5 c.if-j-gt5.false, ← power, ne_eqb (a.covered % c.word_power-length.result) 0 w.if-covered-length-eq0.false)
    ]
