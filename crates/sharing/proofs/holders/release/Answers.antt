-- `sharing::holders::release` meets its contract. Assumes nothing.
use mathlib.Core.Path.{◌≡◌}
use Prim.Native.Nat.{◌+◌, ◌*◌}
use native.Mathlib.Omega.{arith}
use lib.ListN.{get_or}
use Rattle.sharing.specs.Sharing.{id_at, LessBy}
use Rattle.sharing.proofs.Tables.{more-none, more-drop}
use Rattle.sharing.proofs.holders.release.Goals as goal

pub loop-h-init : goal.loop-h-init
loop-h-init c = (c.requires.held.0, more-none _ _ _)

-- the row's id at this height is an id, and held still
pub drop_one-requires : goal.drop_one-requires
unfolding id_at
drop_one-requires c =
    let x = c.loop-h in
    let id = get_or c.args.rows.now (c.args.slot * 16 + x.h) 0 in
    let k = c.requires.by_index x.h (omega arith) in
    (x.invariant.0, omega arith, k.0, omega (arith, k.1, x.invariant.1.rest x.h id (omega arith) (omega arith) k.0))

pub loop-h-preserved : goal.loop-h-preserved
unfolding id_at
loop-h-preserved c = (c.drop_one.ensures.0, more-drop (omega arith) c.drop_one.ensures.1 c.loop-h.invariant.1)

pub returns-clause-less_by : goal.returns-clause-less_by
unfolding LessBy
returns-clause-less_by c =
    let e : c.loop-h.h ≡ c.args.m + 1 = omega arith in
    rw e at c.loop-h.invariant.1
