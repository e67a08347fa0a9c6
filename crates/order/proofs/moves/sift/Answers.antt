-- `order::moves::sift` meets its contract. Assumes nothing.
use mathlib.Core.Path.{◌≡◌, ap, ◌∙◌}
use native.Mathlib.Omega.{arith}
use Rattle.queue.specs.Queue.{ahead}
use Rattle.order.specs.Entries.{key_at, queue_of}
use Rattle.order.proofs.Queues.{sifted-none, sifted-in, sifted-out, sifted-rising}
use Rattle.order.proofs.moves.sift.Goals as goal
use Rattle.order.proofs.moves.sift.Goals.{then-blocks_of-b, else-blocks_of-b}

pub loop-i-init : goal.loop-i-init
loop-i-init c = sifted-none _ _

pub loop-i-preserved : goal.loop-i-preserved
loop-i-preserved c =
    let x = c.loop-i in
    let e = c.blocks_of.ensures in
    elim c.if-blocks_of-b.branch [
      | then-blocks_of-b w ↦ rw (w.order-is, w.kept-is) (sifted-in x.invariant (omega arith) (omega arith))
      | else-blocks_of-b w ↦ rw (w.order-is, w.kept-is) (sifted-out x.invariant (omega arith))
    ]

pub returns : goal.returns
returns c =
    let a = c.args in
    let s = c.loop-i.invariant in
    let e : c.loop-i.i ≡ a.queued = omega arith in
    record { order_len = (s.size ∙ c.requires.0, omega (arith, s.few), s.first ∙ ap (λ n. ahead key_at a.b (queue_of a.order.now n)) e); rising = λ r. sifted-rising s (rw e r) }
