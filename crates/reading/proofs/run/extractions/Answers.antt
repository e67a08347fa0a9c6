-- `reading::run::extractions` meets its contract: each turn goes from one moment to the next; where the loop is left, by the bound or by a path with all
-- blocks, that is what the contract says. Assumes nothing.
use mathlib.Core.Path.{◌≡◌, refl, sym, ap, ◌∙◌}
use Prim.Native.Nat.{◌≤◌}
use borrow.Author.Rules.{rules}
use native.Mathlib.Omega.{arith}
use lib.ListN.{length, length-set}
use Rattle.order.proofs.Queues.{rising_none}
use Rattle.standing.specs.Seen.{memory}
use Rattle.reading.specs.Running.{received}
use Rattle.reading.proofs.Received.{root-spot, root-within, received_is, received-root, received-room}
use Rattle.reading.proofs.Turns.{run-deep, run-first, run-before}
use Rattle.reading.proofs.Stops.{stop-left, stop-room}
use Rattle.reading.proofs.Resumed.{before-most, before-turning}
use Rattle.reading.proofs.run.extractions.Goals as goal

pub receive-requires : goal.receive-requires
receive-requires c =
    let a = c.args in
    let w = root-within a.x.m a.arrays a.values.now a.memory.now.numbers.now c.requires.room.0 (omega arith) c.requires.running.size in
    omega (arith, w, root-spot a.x.m, c.power.ensures)

pub loop-stage-init : goal.loop-stage-init
unfolding memory
loop-stage-init c =
    let a = c.args in
    let old = a.memory.now in
    let p = c.requires.ranged in
    let q = c.requires.room in
    let r = c.requires.running in
    let some : 1 ≤ a.arrays = omega arith in
    let new : c.receive.new.numbers ≡ received a.x.m a.values.now old.numbers.now = c.receive.ensures ∙ received_is a.x.m c.power.result a.values.now old.numbers.now c.power.ensures in record {
      lent = (
        record {
          few = p.paths;
          rows = omega (arith, c.requires.rows.0, ap length c.begin.ensures.0, length-set old.rows.now a.x.m 1);
          has = record { deep = run-deep r; many = q.3; held = c.begin.ensures.1; numbers = rw new (received-room a.x.m a.arrays a.values.now old.numbers.now q.0 some r.size); bytes = q.1 };
          enough = q.2;
        },
        c.requires.rows.2,
      );
      same = ((refl, refl, refl, c.begin.auto.rows, c.receive.auto.numbers, refl), (refl, refl, refl, refl, refl, refl));
      runs = λ r.
          let first =
          run-first r a.s.visits a.s.paths a.arrays c.begin.new.rows c.begin.new.holders c.fill_vacant.new.vacant (received a.x.m a.values.now old.numbers.now) old.bytes.now c.entry.result
          a.queue.now.order a.kept.now a.walk.now.path.now a.walk.now.blocks.now a.walk.now.score.now (omega arith) q.2 q.3 old.rows.now c.requires.rows.1 (omega arith) c.begin.ensures.0
          c.begin.ensures.2 c.fill_vacant.ensures c.entry.ensures (received-root a.x.m a.arrays a.values.now old.numbers.now q.0 some r.size old.bytes.now) in
          rw (new, c.requires.holders_value.1) (run-before r first (rising_none _) 0 (omega arith) (λ k. absurd (omega arith)));
      bound = omega arith;
    }

pub turn-stage-requires-clause-blocks_in_bounds : goal.turn-stage-requires-clause-blocks_in_bounds
turn-stage-requires-clause-blocks_in_bounds c =
    let r = c.requires.running in
    stop-room r (c.loop-stage.invariant.runs r) c.requires.blocks_in_bounds

pub turn-stage-requires-clause-turning : goal.turn-stage-requires-clause-turning
turn-stage-requires-clause-turning c =
    let a = c.args in
    let r = c.requires.running in
    let root = received-root a.x.m a.arrays a.values.now a.memory.now.numbers.now c.requires.room.0 (omega arith) r.size a.memory.now.bytes.now in
    before-turning r root c.requires.blocks_in_bounds (c.loop-stage.invariant.runs r) (λ q. c.if-blocks_of-x.true (c.blocks_of.ensures ∙ q))

pub loop-stage-smaller : goal.loop-stage-smaller
loop-stage-smaller c =
    let r = c.requires.running in
    omega (arith, c.turn-stage.ensures.extractions_value, stop-left r (c.loop-stage.invariant.runs r))

pub loop-stage-preserved : goal.loop-stage-preserved
loop-stage-preserved c =
    let a = c.args in
    let o = c.turn-stage.ensures in
    let i = c.loop-stage.invariant in
    let root = received-root a.x.m a.arrays a.values.now a.memory.now.numbers.now c.requires.room.0 (omega arith) c.requires.running.size a.memory.now.bytes.now in record {
      lent = o.lent_2;
      same = search rules;
      runs = λ r.
          let turned = o.before (before-turning r root c.requires.blocks_in_bounds (i.runs r) (λ q. c.if-blocks_of-x.true (c.blocks_of.ensures ∙ q))) in
          before-most turned c.turn-stage.result.tally.extractions (omega arith) (λ k. absurd (omega arith));
      bound = omega (arith, o.extractions_value, c.loop-stage-test.true);
    }

pub returns-else-blocks_of-x-clause-before : goal.returns-else-blocks_of-x-clause-before
returns-else-blocks_of-x-clause-before c r =
    let i = c.loop-stage.invariant in
    before-most (i.runs r) c.args.most i.bound (λ _. sym c.blocks_of.ensures ∙ c.if-blocks_of-x.false ∙ sym r.blocks)

pub returns-after-loop-stage-clause-before : goal.returns-after-loop-stage-clause-before
returns-after-loop-stage-clause-before c r =
    let i = c.loop-stage.invariant in
    before-most (i.runs r) c.args.most i.bound (λ k. absurd (omega (arith, c.loop-stage-test.false)))
