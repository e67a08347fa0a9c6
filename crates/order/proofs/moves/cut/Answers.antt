-- `order::moves::cut` meets its contract. Assumes nothing.
use mathlib.Core.Path.{◌≡◌, ap, ◌∙◌}
use Prim.Native.Nat.{ℕ, ◌+◌, ◌-◌, ◌<◌}
use native.Mathlib.Nat.{zero-add}
use native.Mathlib.Omega.{arith}
use lib.ListN.{get_or, take}
use Rattle.laws.proofs.Stores.{stored-none}
use Rattle.order.specs.Entries.{queue_of}
use Rattle.order.proofs.Queues.{cut-more, cut-first, cut-rising}
use Rattle.order.proofs.moves.cut.Goals as goal

pub loop-i-init : goal.loop-i-init
loop-i-init c = stored-none _ _ _

pub loop-i-preserved : goal.loop-i-preserved
loop-i-preserved c = cut-more _ c.loop-i.invariant (omega arith)

pub returns : goal.returns
returns c =
    let a = c.args in
    let s = c.loop-i.invariant in
    let by = a.queued - a.kept in
    let e : a.kept + by ≡ a.queued = omega arith in
    let done : (k : ℕ) → k < a.kept → get_or c.loop-i.order k 0 ≡ get_or a.order.now (k + by) 0 = λ k h. rw zero-add at (s.done k (omega arith)) in
    let first = cut-first a.order.now c.loop-i.order by a.kept done in
    record { order_len = (s.size ∙ c.requires.0, first ∙ ap (λ n. take a.kept (queue_of a.order.now n)) e); rising = λ r. cut-rising a.order.now c.loop-i.order by a.kept done (rw e r) }
