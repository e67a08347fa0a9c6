-- `filling::absorbed` meets its contract: its test is the definition's. Assumes nothing.
use mathlib.Core.Path.{sym, ap}
use mathlib.Core.Bool.{cond}
use lib.Bits.{bit_xor}
use borrow.Author.Tests.{eq-eqb, ne_eqb}
use Rattle.codec.specs.Tabled.{absorbed}
use Rattle.filling.proofs.absorbed.Goals as goal

pub returns-then-bit-eq1 : goal.returns-then-bit-eq1
unfolding absorbed
returns-then-bit-eq1 c = sym (ap (λ b. cond b (bit_xor c.args.parities c.args.ties) c.args.parities) (eq-eqb c.args.bit 1 c.if-bit-eq1.true))

pub returns-else-bit-eq1 : goal.returns-else-bit-eq1
unfolding absorbed
returns-else-bit-eq1 c = sym (ap (λ b. cond b (bit_xor c.args.parities c.args.ties) c.args.parities) (ne_eqb c.args.bit 1 c.if-bit-eq1.false))
