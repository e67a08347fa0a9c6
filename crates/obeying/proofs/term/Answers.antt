-- `obeying::term` meets its contract: each return is the refusal of the test that led there, or the term that fits. Assumes nothing.
use mathlib.Core.Path.{refl, sym, subst, ◌∙◌}
use Prim.Native.Nat.{◌<◌}
use native.Mathlib.Omega.{arith}
use lib.Dec.{T}
use Rattle.codebook.specs.declared.Refusal.TheVariants.{OutOfRange}
use Rattle.obeying.proofs.Verdicts.{refuse, proceed, term-later, term-again, term_fits}
use Rattle.obeying.proofs.Growing.{named, unnamed, term-holds}
use Rattle.obeying.proofs.term.Goals as goal

pub returns-then-saturating_sub-le1 : goal.returns-then-saturating_sub-le1
returns-then-saturating_sub-le1 c old s h = refuse _ _ OutOfRange (term-later c.args.p s h.counts c.args.i (omega arith)) refl

pub returns-then-bit-tables : goal.returns-then-bit-tables
returns-then-bit-tables c old s h =
    let a = c.args in
    let y = subst T (sym (sym h.counts.tying ∙ c.requires)) tt in
    let member = named a.p a.tables.now old s h y a.i (omega (arith, a.p.within)) (rw c.word_power-bit.ensures at c.if-bit-tables.true) in
    refuse _ _ OutOfRange (term-again a.p s h.counts a.i (omega arith) member) refl

pub returns : goal.returns
returns c old s h =
    let a = c.args in
    let y = subst T (sym (sym h.counts.tying ∙ c.requires)) tt in
    let within : a.i < a.p.n = omega (arith, a.p.within) in
    let fresh = unnamed a.p a.tables.now old s h y a.i within (rw c.word_power-bit.ensures at c.if-bit-tables.false) in
    proceed _ _ _ _ (term_fits a.p s h.counts a.i (omega arith) fresh)
    (rw c.word_power-bit.ensures (term-holds a.p a.tables.now old s h y a.i within fresh))
