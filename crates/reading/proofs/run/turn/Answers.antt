-- `reading::run::turn` meets its contract: memory that stands for a moment of the run is a run under way (Resumed), which one extraction keeps (Going); what that says of
-- memory is the contract again, one extraction on. Assumes nothing.
use Prim.Native.Nat.{◌+◌}
use native.Mathlib.Omega.{arith}
use Rattle.order.proofs.Queues.{rising-less}
use Rattle.standing.specs.Seen.{memory}
use Rattle.reading.proofs.Going.{going-small, going-room, going-limits}
use Rattle.reading.proofs.Turns.{table_fits, run-found, run-left, run-within, run-extracting, run-some, run-turn, run-before}
use Rattle.reading.proofs.Resumed.{turning-going, turning-more}
use Rattle.reading.proofs.run.turn.Goals as goal

pub note-requires : goal.note-requires
note-requires c =
    let r = c.requires.turning in
    let g = turning-going r c.requires.ranged.alive (omega arith) in
    let l = run-left r.input g in
    let w = c.requires.blocks_in_bounds in
    ((omega (arith, l, w.0), omega (arith, l, w.1), omega (arith, l, w.2)), going-small g)

pub block_at-last-requires : goal.block_at-last-requires
block_at-last-requires c =
    let r = c.requires.turning in
    let l = run-within r.input (turning-going r c.requires.ranged.alive (omega arith)) (turning-more r) in
    record { b_bound = table_fits r.input c.saturating_sub.result (omega (arith, c.saturating_sub.ensures, c.blocks_of-b.ensures)) }

pub block_at-at-requires : goal.block_at-at-requires
block_at-at-requires c =
    let r = c.requires.turning in
    let l = run-within r.input (turning-going r c.requires.ranged.alive (omega arith)) (turning-more r) in
    record { b_bound = table_fits r.input c.blocks_of-b.result (omega (arith, c.blocks_of-b.ensures)) }

pub extract-after-requires-clause-le_paths : goal.extract-after-requires-clause-le_paths
extract-after-requires-clause-le_paths c =
    let r = c.requires.turning in
    let g = turning-going r c.requires.ranged.alive (omega arith) in
    let l = going-limits g r.input.in_tables.booked.valid c.requires.ranged.visits in
    (c.requires.ranged.alive, going-room g, l.1, l.2, l.3)

pub extract-after-requires-clause-by_index : goal.extract-after-requires-clause-by_index
extract-after-requires-clause-by_index c =
    let r = c.requires.turning in
    (going-limits (turning-going r c.requires.ranged.alive (omega arith)) r.input.in_tables.booked.valid c.requires.ranged.visits).4

pub extract-after-requires-clause-extracting : goal.extract-after-requires-clause-extracting
extract-after-requires-clause-extracting c =
    let r = c.requires.turning in
    run-extracting r.input (turning-going r c.requires.ranged.alive (omega arith)) r.root _ _ _ _ c.blocks_of-b.ensures c.saturating_sub.ensures (turning-more r)
    c.block_at-last.ensures c.block_at-at.ensures

pub overflow_add-after : goal.overflow_add-after
overflow_add-after c =
    let r = c.requires.turning in
    let l = going-limits (turning-going r c.requires.ranged.alive (omega arith)) r.input.in_tables.booked.valid c.requires.ranged.visits in
    record { fits = omega (arith, l.0, c.extract-after.ensures.extractions_value.0) }

pub overflow_sub-left : goal.overflow_sub-left
overflow_sub-left c =
    let r = c.requires.turning in
    let p = c.requires.ranged in
    let g = turning-going r p.alive (omega arith) in
    let x =
    run-extracting r.input g r.root _ _ _ _ c.blocks_of-b.ensures c.saturating_sub.ensures (turning-more r)
    c.block_at-last.ensures c.block_at-at.ensures in
    run-some r.input g p.alive p.paths (run-found r.input c.args.s.visits c.args.s.paths r.arrays p.visited r.root) (turning-more r) c.extract-after.result
    (c.extract-after.ensures.fact x).0

pub returns-clause-before : goal.returns-clause-before
unfolding memory
returns-clause-before c r =
    let p = c.requires.ranged in
    let g = turning-going r p.alive (omega arith) in
    let after = c.extract-after.result in
    let new = c.extract-after.new in
    let o = c.extract-after.ensures in
    let made =
    o.fact (run-extracting r.input g r.root _ _ _ _ c.blocks_of-b.ensures c.saturating_sub.ensures (turning-more r)
    c.block_at-last.ensures c.block_at-at.ensures) in
    let n = c.note.ensures.noted in
    run-before r.input
    (run-turn r.input g p.alive p.paths (run-found r.input c.args.s.visits c.args.s.paths r.arrays p.visited r.root) (turning-more r)
    (record { queued = after.queued; next = after.next; extractions = after.extractions + 1; crowded = after.crowded; outrun = after.outrun })
    (memory new.memory.rows.now new.memory.holders new.memory.numbers.now new.memory.bytes.now) new.queue.order new.queue.vacant new.visits new.kept
    made (omega (arith, o.extractions_value.0)) r.room (record { path-set = n.0; blocks-set = n.1; score-set = n.2 }))
    (rising-less new.queue.order after.queued _ o.rising_2 (omega arith)) (c.args.stage.tally.extractions + 1) (omega (arith, o.extractions_value.0))
    (λ k. absurd (omega (arith, o.extractions_value.0)))
