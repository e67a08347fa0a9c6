-- `obeying::begin` meets its contract: each return is the refusal of the test that led there, or the length that fits. Assumes nothing.
use native.Mathlib.Omega.{arith}
use mathlib.Core.Path.{refl}
use lib.Pow.{pow_mono}
use Rattle.codebook.specs.declared.Refusal.TheVariants.{OutOfRange}
use Rattle.obeying.proofs.Verdicts.{refuse, proceed, length-low, length-fits}
use Rattle.obeying.proofs.Growing.{begin-holds}
use Rattle.obeying.proofs.begin.Goals as goal

pub returns-then-m-lt2 : goal.returns-then-m-lt2
returns-then-m-lt2 c old s h = refuse _ _ OutOfRange (length-low c.args.p s h.counts c.args.m c.if-m-lt2.true) refl

pub slice_bounds-fill-end : goal.slice_bounds-fill-end
slice_bounds-fill-end c = omega (arith, c.word_power-n.ensures, pow_mono {i = c.args.m} {j = 9} (omega arith))

pub returns : goal.returns
returns c old s h =
    let a = c.args in
    let n = c.word_power-n.ensures in
    proceed _ _ _ _ (length-fits a.p s h.counts a.m c.if-m-lt2.false (omega arith))
    (begin-holds a.p a.tables.now old s h _ a.m c.word_power-n.result _ c.requires c.if-m-lt2.false n (omega (arith, n, pow_mono {i = a.m} {j = 9} (omega arith))) (record { m = refl; n = refl; filled = refl; ties = refl; tying = refl; free = refl; blocks = refl; covered = refl }) (c.fill.ensures.after (λ y e. e)))
