-- `polar::layers::lower_p` meets its contract. Assumes nothing.
use mir.Syntax.{w32}
use mathlib.Core.Path.{◌∙◌}
use native.Mathlib.Omega.{arith}
use mir.Facts.{to_z-of_z}
use borrow.Author.Rules.{sfits_of}
use Rattle.polar.proofs.Writes.{p-small, p-next, p-written}
use Rattle.polar.proofs.layers.lower_p.Goals as goal

pub p-requires : goal.p-requires
p-requires c = p-small c.requires.clear c.requires.all c.args.sums c.args.bytes.now c.requires.n_in_bounds c.loop-i.i c.loop-i.invariant (omega arith)

pub loop-i-preserved : goal.loop-i-preserved
loop-i-preserved c =
    p-next c.requires.clear c.requires.all c.args.sums c.args.bytes.now c.requires.n_in_bounds c.loop-i.i c.loop-i.invariant (omega arith)
    (to_z-of_z {w = w32} (sfits_of c.p.type_inv) ∙ c.p.ensures)

pub returns : goal.returns
returns c = p-written c.requires.clear c.requires.all c.args.sums c.args.bytes.now c.requires.n_in_bounds c.loop-i.i c.loop-i.invariant (omega arith) (omega arith)
