-- `short::flips::pair_checked` meets its contract: the bytes of the two least keys of one parity are the words found. Assumes nothing.
use native.Mathlib.Omega.{arith}
use Rattle.short.proofs.Weights.{led-is}
use Rattle.short.proofs.Answers.{keys-fit, even-answers, odd-answers}
use Rattle.short.proofs.flips.pair_checked.Goals as goal

pub overflow_add-x : goal.overflow_add-x
overflow_add-x c = omega (arith, (keys-fit c.told-values (led-is c.args.values.now c.told-values c.requires.0 c.lead-x.ensures) c.requires.0).0)

pub overflow_add-x-then-x-directions : goal.overflow_add-x-then-x-directions
overflow_add-x-then-x-directions c = omega (arith, (keys-fit c.told-values (led-is c.args.values.now c.told-values c.requires.0 c.lead-x.ensures) c.requires.0).2)

pub returns-then-x-directions : goal.returns-then-x-directions
returns-then-x-directions c = λ e k.
    even-answers c.told-values (led-is c.args.values.now c.told-values c.requires.0 c.lead-x.ensures) c.requires.1 k c.if-x-directions.true _ _ c.checked_with.ensures c.checked_with-then-x-directions.ensures

pub overflow_add-x-2 : goal.overflow_add-x-2
overflow_add-x-2 c = omega (arith, (keys-fit c.told-values (led-is c.args.values.now c.told-values c.requires.0 c.lead-x.ensures) c.requires.0).0)

pub overflow_add-x-3 : goal.overflow_add-x-3
overflow_add-x-3 c = omega (arith, (keys-fit c.told-values (led-is c.args.values.now c.told-values c.requires.0 c.lead-x.ensures) c.requires.0).1)

pub returns : goal.returns
returns c = λ e k.
    odd-answers c.told-values (led-is c.args.values.now c.told-values c.requires.0 c.lead-x.ensures) c.requires.1 k c.if-x-directions.false _ _ c.checked_with-2.ensures c.checked_with-3.ensures
