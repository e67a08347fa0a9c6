-- `polar::layers::add_sums` meets its contract. Assumes nothing.
use native.Mathlib.Omega.{arith}
use Rattle.polar.proofs.Writes.{sums_next, sums-written}
use Rattle.polar.proofs.layers.add_sums.Goals as goal

pub loop-i-preserved : goal.loop-i-preserved
loop-i-preserved c =
    sums_next c.requires.clear c.requires.clear_2 c.requires.all c.requires.all_2 c.loop-i.i c.loop-i.invariant (omega arith)

pub returns : goal.returns
returns c =
    sums-written c.requires.clear c.requires.clear_2 c.requires.all c.requires.all_2 c.loop-i.i c.loop-i.invariant (omega arith) (omega arith)
