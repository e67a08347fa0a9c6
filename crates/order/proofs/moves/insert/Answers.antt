-- `order::moves::insert` meets its contract. Assumes nothing.
use mathlib.Core.Path.{◌≡◌, sym, ◌∙◌}
use Prim.Native.Nat.{suc, ◌-◌, ◌/◌, ◌≤◌, ◌<◌}
use native.Mathlib.Omega.{arith}
use lib.ListN.{length, get_or, length-set}
use Rattle.order.proofs.Queues.{moved_none, moved_more, moved_then, test-passed, test-failed, moved-put, moved-rising}
use Rattle.order.proofs.moves.insert.Goals as goal

pub loop-order-init : goal.loop-order-init
loop-order-init c = (omega arith, moved_none _ _ _)

pub loop-order-preserved : goal.loop-order-preserved
loop-order-preserved c =
    let x = c.loop-order in
    let g = test-passed x.k (c.args.e / 256) (get_or x.order (x.k - 1) 0 / 256) (sym c.above.ensures ∙ c.loop-order-test.true) in
    let e : x.k ≡ suc (x.k - 1) = omega (arith, g.0) in
    (omega arith, moved_more (x.k - 1) x.invariant.1 e x.invariant.0 (omega (arith, c.raise-k.ensures.1.size, c.requires.order_len, c.raise-k.ensures.0)) g.1)

pub returns : goal.returns
returns c =
    let x = c.loop-order in
    let f = c.raise-k.ensures in
    let s = moved_then x.invariant.0 f.0 f.1 x.invariant.1 in
    let k : x.k ≤ c.args.queued = omega (arith, x.invariant.0, f.0) in
    let b : x.k < length c.args.order.now = omega (arith, c.requires.order_len) in
    let below = test-failed s k c.requires.rising (sym c.above.ensures ∙ c.loop-order-test.false) in
    record {
      order_len_2 = (simp length-set (s.size ∙ c.requires.order_len.0), moved-put s b below c.args.queued k (omega arith));
      rising_2 = moved-rising s b below k c.requires.rising;
    }
