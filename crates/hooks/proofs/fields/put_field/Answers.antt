-- `hooks::fields::put_field` meets its contract. Assumes nothing.
use mathlib.Core.Path.{sym, ◌∙◌}
use native.Mathlib.Omega.{arith}
use lib.ListN.{length, length-set}
use lib.Seq.{take_all}
use Rattle.polar.specs.Bits.{to_bits}
use Rattle.polar.proofs.Bits.{to_bits-length}
use Rattle.hooks.proofs.Parts.{to_more}
use Rattle.hooks.proofs.fields.put_field.Goals as goal

pub loop-i-preserved : goal.loop-i-preserved
loop-i-preserved c =
    let l = c.loop-i in
    (simp length-set l.invariant.0, to_more l.bits (length c.args.bits.now) c.args.x l.i l.invariant.0 (omega arith) l.invariant.1)

pub returns : goal.returns
returns c =
    let l = c.loop-i in
    let w = length c.args.bits.now in
    sym (take_all l.i l.bits (omega arith)) ∙ l.invariant.1 ∙ take_all l.i (to_bits w c.args.x) (omega (arith, to_bits-length w c.args.x))
