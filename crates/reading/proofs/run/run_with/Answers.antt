-- `reading::run::run_with` meets its contract: no run has more extractions than the bound, so the extractions stop at a path with all blocks; its word is the
-- final one. Assumes nothing.
use borrow.Author.Rules.{rules}
use native.Mathlib.Nat.{mul-le-mul}
use native.Mathlib.Omega.{arith}
use Rattle.queue.specs.Run.{most_extractions}
use Rattle.reading.proofs.Received.{received-root}
use Rattle.reading.proofs.Turns.{run-blocks, table_fits}
use Rattle.reading.proofs.Stops.{stop-small, stop-left, stop-room, stop-ending, stop-walks, stop-ran}
use Rattle.reading.proofs.run.run_with.Goals as goal

pub overflow_mul-most : goal.overflow_mul-most
overflow_mul-most c = record { fits = omega (arith, mul-le-mul c.requires.ranged.visits (run-blocks c.requires.running).1) }

pub overflow_add-most : goal.overflow_add-most
overflow_add-most c = record { fits = omega (arith, mul-le-mul c.requires.ranged.visits (run-blocks c.requires.running).1) }

pub note-requires : goal.note-requires
note-requires c =
    let r = c.requires.running in
    let g = c.extractions-stage.ensures.before r in
    let l = stop-left r g in
    let w = stop-room r g c.requires.blocks_in_bounds in
    ((omega (arith, l, w.0), omega (arith, l, w.1), omega (arith, l, w.2)), stop-small r g)

pub block_at-last-requires : goal.block_at-last-requires
block_at-last-requires c =
    let r = c.requires.running in
    record { b_bound = table_fits r c.saturating_sub.result (omega (arith, c.saturating_sub.ensures, (run-blocks r).0)) }

pub finish-requires-clause-lent : goal.finish-requires-clause-lent
unfolding most_extractions
finish-requires-clause-lent c =
    let r = c.requires.running in
    let l = stop-left r (c.extractions-stage.ensures.before r) in
    (c.extractions-stage.ensures.lent, omega (arith, l, mul-le-mul c.requires.ranged.visits (run-blocks r).1))

pub finish-requires-clause-by_index : goal.finish-requires-clause-by_index
unfolding most_extractions
finish-requires-clause-by_index c =
    let a = c.args in
    let r = c.requires.running in
    let q = c.requires.room in
    let g = c.extractions-stage.ensures.before r in
    let root = received-root a.x.m a.arrays a.values.now a.numbers.now q.0 (omega arith) r.size a.bytes.now in
    (_, _, stop-ending r g (stop-left r g) root c.requires.ranged.alive _ _ c.saturating_sub.ensures c.block_at-last.ensures)

pub returns-clause-ran : goal.returns-clause-ran
unfolding most_extractions
returns-clause-ran c r =
    let a = c.args in
    let q = c.requires.room in
    let g = c.extractions-stage.ensures.before r in
    let fewer = stop-left r g in
    let root = received-root a.x.m a.arrays a.values.now a.numbers.now q.0 (omega arith) r.size a.bytes.now in
    let last = stop-ending r g fewer root c.requires.ranged.alive _ _ c.saturating_sub.ensures c.block_at-last.ensures in
    let n = c.note.ensures.noted in
    let w = stop-walks r g fewer c.requires.blocks_in_bounds (record { path-set = n.0; blocks-set = n.1; score-set = n.2 }) in
    (stop-ran r g fewer c.finish.result _ (c.finish.ensures.ran _ _ last) (search rules), w.path-is, w.blocks_is, w.score-is)
