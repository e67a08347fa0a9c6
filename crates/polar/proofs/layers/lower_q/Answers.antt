-- `polar::layers::lower_q` meets its contract. Assumes nothing.
use mir.Syntax.{w32}
use mathlib.Core.Path.{◌∙◌}
use native.Mathlib.Omega.{arith}
use mir.Facts.{to_z-of_z}
use borrow.Author.Rules.{sfits_of}
use Rattle.polar.proofs.Writes.{q-small, q-next, q-written}
use Rattle.polar.proofs.layers.lower_q.Goals as goal

pub q-requires : goal.q-requires
q-requires c =
    let s = q-small c.requires.clear c.requires.all c.loop-i.i c.loop-i.invariant (omega arith) in
    (omega (arith, s), omega (arith, s))

pub loop-i-preserved : goal.loop-i-preserved
loop-i-preserved c =
    q-next c.requires.clear c.requires.all c.loop-i.i c.loop-i.invariant (omega arith)
    (to_z-of_z {w = w32} (sfits_of c.q.type_inv) ∙ c.q.ensures)

pub returns : goal.returns
returns c = q-written c.requires.clear c.requires.all c.loop-i.i c.loop-i.invariant (omega arith) (omega arith)
