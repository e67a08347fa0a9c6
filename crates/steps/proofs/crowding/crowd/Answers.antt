-- `steps::crowding::crowd` meets its contract. Where there is room for two the paths are all left; else there is room for one, the last path is
-- removed, and the others are those that there is room for. Assumes nothing.
use mathlib.Core.Path.{◌≡◌, sym, ap, ◌∙◌}
use mathlib.Core.List.{◌∷◌}
use Prim.Native.Nat.{suc, ◌+◌, ◌-◌}
use native.Mathlib.Omega.{arith}
use lib.ListN.{length, set}
use lib.Seq.{length-take-le}
use Rattle.queue.specs.Queue.{room_for}
use Rattle.order.specs.Entries.{queue_of}
use Rattle.order.proofs.Queues.{queue-length, queue-put}
use Rattle.standing.specs.Seen.{memory}
use Rattle.standing.proofs.Sizes.{stands-length}
use Rattle.steps.proofs.Crowds.{room-all, room_cut, last-slot, last-held, last-remove}
use Rattle.steps.proofs.crowding.crowd.Goals as goal

pub returns-then-queued-paths-clause-held : goal.returns-then-queued-paths-clause-held
returns-then-queued-paths-clause-held c =
    let a = c.args in
    let order = a.queue.now.order in
    (c.requires.rows.1, omega arith, omega arith, sym (room-all a.paths (queue_of order a.queued) (omega (arith, queue-length a.queued order))))

pub returns-then-queued-paths-clause-by_index_2 : goal.returns-then-queued-paths-clause-by_index_2
returns-then-queued-paths-clause-by_index_2 c = λ arrays e x small.
    let a = c.args in
    let level : length x.rest ≡ a.queued = omega (arith, stands-length x.stands, queue-length a.queued a.queue.now.order) in
    let room : room_for a.paths x.rest ≡ x.rest = room-all a.paths x.rest (omega arith) in
    (rw room (sym level), rw room x.stands)

pub release-requires : goal.release-requires
unfolding memory
release-requires c =
    let a = c.args in
    let order = a.queue.now.order in
    let x = c.requires.by_index.3 in
    let q : a.queued ≡ suc (a.queued - 1) = omega arith in
    let low = last-slot order a.queued (a.queued - 1) q x.stands in
    let held = last-held order a.queued (a.queued - 1) q x.stands in record {
      held = (c.requires.rows.1, c.requires.rows.2, (omega arith, omega (arith, low, c.slot_of-slot.ensures.0)));
      by_index = λ h l.
          let k = held h (omega (arith, x.deep)) in
          rw c.slot_of-slot.ensures.0 (omega (arith, k.0), k.1);
    }

pub returns-clause-held : goal.returns-clause-held
returns-clause-held c =
    let a = c.args in
    let d : a.paths ≡ suc (suc (a.queued - 1)) = omega arith in
    (c.release.ensures.held_2, omega arith, omega arith, c.cut.ensures.order_len.1 ∙ sym (room_cut a.paths (a.queued - 1) (queue_of a.queue.now.order a.queued) d))

pub returns-clause-by_index_2 : goal.returns-clause-by_index_2
unfolding memory
returns-clause-by_index_2 c = λ arrays e x small.
    let a = c.args in
    let order = a.queue.now.order in
    let vacant = a.queue.now.vacant in
    let slot = c.slot_of-slot in
    let v = a.paths - (a.queued + 1) in
    let q : a.queued ≡ suc (a.queued - 1) = omega arith in
    let d : a.paths ≡ suc (suc (a.queued - 1)) = omega arith in
    let u : a.paths - (a.queued - 1 + 1) ≡ suc v = omega arith in
    let put : queue_of (set vacant v slot.result) (a.paths - (a.queued - 1 + 1)) ≡ slot.result ∷ queue_of vacant v =
    ap (queue_of (set vacant v slot.result)) u ∙ queue-put v vacant slot.result (omega arith) in
    let level : length x.rest ≡ a.queued = omega (arith, stands-length x.stands, queue-length a.queued order) in
    let less = rw (sym x.deep, slot.ensures.0) at c.release.ensures.less_by in
    let left = last-remove order a.queued (a.queued - 1) q x.stands c.release.new.holders (omega arith) less in
    let room = room_cut a.paths (a.queued - 1) x.rest d in
    (rw room (sym (length-take-le (a.queued - 1) x.rest (omega arith))), rw (room, put, c.cut.ensures.order_len.1, slot.ensures.0) left)
