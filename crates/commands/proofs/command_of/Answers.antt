-- `commands::command_of` meets its contract: the operands of a block are its first byte and the others. Assumes nothing.
use mir.Syntax.{w32}
use mir.ValLaws.{to_z-of_z}
use Rattle.codebook.specs.Loading.{command}
use Rattle.commands.proofs.Operands.{first-byte, other-bytes, signed-is}
use Rattle.commands.proofs.command_of.Goals as goal

pub returns-in-5 : goal.returns-in-5
unfolding command
returns-in-5 c =
    let bytes = c.args.operands.now in
    let bias = c.operand-in-5-2 in
    rw (c.in-5.is, to_z-of_z w32 c.cast_signed.result (record { sfits = c.cast_signed.type_inv }), c.cast_signed.ensures, signed-is bias.result bias.type_inv, bias.ensures.value, c.operand-in-5.ensures.value, c.split_at.ensures.front, c.split_at.ensures.back, c.min.ensures, first-byte bytes, other-bytes bytes)
