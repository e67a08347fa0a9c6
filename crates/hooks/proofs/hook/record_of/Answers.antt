-- `hooks::hook::record_of` meets its contract: by the status's number and the spare bits. Assumes nothing.
use mathlib.Core.Path.{sym, ◌∙◌}
use Rattle.codec.specs.Record.{field_at}
use Rattle.hooks.proofs.Parts.{part_bits, no-status, not-spare, read}
use Rattle.hooks.proofs.hook.record_of.Goals as goal

pub field-requires-clause-bits : goal.field-requires-clause-bits
field-requires-clause-bits c = part_bits c.args.bits.now 27 3 c.requires.1

pub field-requires-2-clause-bits : goal.field-requires-2-clause-bits
field-requires-2-clause-bits c = part_bits c.args.bits.now 30 2 c.requires.1

pub field-requires-3-clause-bits : goal.field-requires-3-clause-bits
field-requires-3-clause-bits c = part_bits c.args.bits.now 0 6 c.requires.1

pub field-requires-4-clause-bits : goal.field-requires-4-clause-bits
field-requires-4-clause-bits c = part_bits c.args.bits.now 6 20 c.requires.1

pub field-requires-5-clause-bits : goal.field-requires-5-clause-bits
field-requires-5-clause-bits c = part_bits c.args.bits.now 26 1 c.requires.1

pub returns-in_default : goal.returns-in_default
unfolding field_at
returns-in_default c = no-status c.args.bits.now c.field.result c.field.ensures c.in_default.ensures

pub returns-then-field-ne0 : goal.returns-then-field-ne0
unfolding field_at
returns-then-field-ne0 c =
    not-spare c.args.bits.now c.field.result c.field.ensures c.in-Ok.status c.in-Ok.ensures (λ e. c.if-field-ne0.true (c.field-2.ensures ∙ e))

pub returns : goal.returns
unfolding field_at
returns c =
    rw (c.field-3.ensures, c.field-4.ensures, c.field-5.ensures)
    (read c.args.bits.now c.field.result c.field.ensures c.in-Ok.status c.in-Ok.ensures (sym c.field-2.ensures ∙ c.if-field-ne0.false))
