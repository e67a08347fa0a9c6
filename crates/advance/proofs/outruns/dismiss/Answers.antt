-- `advance::outruns::dismiss` meets its contract: an entry with b blocks or fewer gives its slot back, the others stay. Assumes nothing.
use mathlib.Core.Path.{◌≡◌, refl, sym, ap, ◌∙◌}
use mathlib.Core.List.{◌∷◌}
use Prim.Native.Nat.{ℕ, suc, ◌+◌, ◌-◌, ◌<◌}
use native.Mathlib.Nat.{sub-zero}
use native.Mathlib.Omega.{arith}
use lib.ListN.{length, set}
use lib.Seq.{get_or-take}
use Rattle.std.proofs.Common.{length-take}
use Rattle.order.specs.Entries.{queue_of}
use Rattle.order.proofs.Queues.{queue-put}
use Rattle.standing.specs.Seen.{memory}
use Rattle.advance.proofs.Dismissals.{passed_none, passed-all, next-slot, next-held, passed-out, passed-in}
use Rattle.advance.proofs.outruns.dismiss.Goals as goal
use Rattle.advance.proofs.outruns.dismiss.Goals.{then-blocks_of-b, else-blocks_of-b}

pub loop-e-init : goal.loop-e-init
loop-e-init c =
    let a = c.args in
    let z : a.paths - a.queued + 0 ≡ a.paths - a.queued = omega arith in
    record {
      few = omega arith;
      held = c.requires.rows.1;
      rest = (refl, refl, refl);
      same = (refl, refl, refl, refl, refl, refl);
      passed = λ arrays x small. rw (z, sub-zero a.queued) (passed_none a.queue.now.order a.b a.queued x.stands);
    }

pub release-requires : goal.release-requires
unfolding memory
release-requires c =
    let a = c.args in
    let y = c.loop-e in
    let p = c.requires.by_index in
    let lt : y.e-index < a.queued = omega (arith, length-take a.queued a.queue.now.order) in
    let e = get_or-take a.queued a.queue.now.order y.e-index 0 lt in
    let q : a.queued - y.e-index ≡ suc (a.queued - (y.e-index + 1)) = omega arith in
    let slot = rw e at c.slot_of-slot.ensures.0 in
    let passed = y.invariant.passed p.0 p.2 p.1 in
    let low = next-slot (a.queued - (y.e-index + 1)) q passed in
    let held = next-held (a.queued - (y.e-index + 1)) q passed in
    record {
      held = (y.invariant.held, c.requires.rows.2, (omega arith, omega (arith, low, slot, ap length y.invariant.rest.0)));
      by_index = λ h l.
          let k = held h (omega (arith, p.2.deep)) in
          rw slot (omega (arith, k.0, p.1), k.1);
    }

pub loop-e-preserved : goal.loop-e-preserved
unfolding memory
loop-e-preserved c =
    let a = c.args in
    let y = c.loop-e in
    let i = y.invariant in
    let lt : y.e-index < a.queued = omega (arith, length-take a.queued a.queue.now.order) in
    let e = get_or-take a.queued a.queue.now.order y.e-index 0 lt in
    let blocks = rw e at c.blocks_of.ensures in
    let v : ℕ = a.paths - a.queued + y.gone in
    let n : ℕ = a.queued - (y.e-index + 1) in
    let q : a.queued - y.e-index ≡ suc n = omega arith in
    let u : a.paths - a.queued + (y.gone + 1) ≡ suc v = omega arith in
    elim c.if-blocks_of-b.branch [
      | then-blocks_of-b w ↦
          let at = rw e at w.slot_of-slot.ensures.0 in
          let slot = w.slot_of-slot.result in
          let put : queue_of (set y.vacant v slot) (a.paths - a.queued + (y.gone + 1)) ≡ slot ∷ queue_of y.vacant v =
          ap (queue_of (set y.vacant v slot)) u ∙ queue-put v y.vacant slot (omega arith) in
          rw (w.memory-is, w.vacant-is, w.gone-is)
          record {
            few = omega arith;
            held = w.release.ensures.held_2;
            rest = i.rest;
            same = i.same;
            passed = λ arrays x small.
                let less = rw (sym x.deep, at) at w.release.ensures.less_by in
                rw (put, at)
                (passed-out n q (i.passed arrays x small) w.release.new.holders (omega arith) (omega (arith, blocks, w.if-blocks_of-b.true)) less);
          }
      | else-blocks_of-b w ↦
          rw (w.memory-is, w.vacant-is, w.gone-is)
          record {
            few = omega arith;
            held = i.held;
            rest = i.rest;
            same = i.same;
            passed = λ arrays x small. passed-in n q (i.passed arrays x small) (omega (arith, blocks, w.if-blocks_of-b.false));
          }
    ]

pub returns-clause-by_index_2 : goal.returns-clause-by_index_2
returns-clause-by_index_2 c =
    let a = c.args in
    let l = length-take a.queued a.queue.now.order in
    λ arrays x small. passed-all a.queued (omega arith) (omega arith) (c.loop-e.invariant.passed arrays x small)
