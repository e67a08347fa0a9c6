-- `order::moves::raise` meets its contract: a turn moves four more entries, which are at least as high as the last of them. Assumes nothing.
use Prim.Native.Nat.{◌-◌, ◌/◌, ◌≤◌}
use native.Mathlib.Omega.{arith}
use lib.ListN.{get_or}
use Rattle.order.proofs.Queues.{moved_none, moved-next}
use Rattle.order.proofs.moves.raise.Goals as goal

pub loop-order-init : goal.loop-order-init
loop-order-init c = (omega arith, moved_none _ _ _)

pub loop-order-preserved : goal.loop-order-preserved
loop-order-preserved c =
    let x = c.loop-order in
    let g = c.four_above.ensures c.loop-order-test.true in
    let k = x.k in
    let old = c.args.order.now in
    let i = x.invariant.1 in
    let r = c.requires.rising in
    let last : c.args.e / 256 ≤ get_or old (k - 4) 0 / 256 = omega (arith, g.1, i.low (k - 4) (omega (arith, g.0))) in
    let one = moved-next (k - 4) (k - 1) r last i (omega (arith, g.0)) (omega arith) (omega arith) (omega arith) in
    let two = moved-next (k - 4) (k - 2) r last one (omega (arith, g.0)) (omega arith) (omega arith) (omega arith) in
    let three = moved-next (k - 4) (k - 3) r last two (omega (arith, g.0)) (omega arith) (omega arith) (omega arith) in
    (omega arith, moved-next (k - 4) (k - 4) r last three (omega (arith, g.0)) (omega arith) (omega arith) (omega arith))
