-- `sharing::holders::drop_one` meets its contract: where the search begins is lowered to the id, so that nothing is said of the id any more, and then it
-- is counted once less. Assumes nothing.
use native.Mathlib.Omega.{arith}
use Rattle.sharing.specs.Sharing.{held_at, low_at}
use Rattle.sharing.proofs.Tables.{held-past, held-drop}
use Rattle.sharing.proofs.holders.drop_one.Goals as goal

pub overflow_sub-holders : goal.overflow_sub-holders
unfolding held_at
overflow_sub-holders c =
    let a = c.args in
    omega (arith, c.requires.3, held-past a.holders.now a.height c.min.result a.height a.id c.requires.1 c.requires.2)

pub returns : goal.returns
unfolding held_at low_at
returns c =
    let a = c.args in
    held-drop a.holders.now a.height a.id c.min.result c.requires.0 c.requires.1 c.requires.2 c.requires.3 (omega (arith, c.min.ensures)) (omega (arith, c.min.ensures))
