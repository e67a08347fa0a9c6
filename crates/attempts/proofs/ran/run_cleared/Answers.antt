-- `attempts::ran::run_cleared` meets its contract: the run's counts, walk and final word are the reader's, and the workspace is cleared at its whole length.
-- Assumes nothing.
use mathlib.Core.Path.{ap₂, ◌∙◌}
use native.Mathlib.Omega.{arith}
use lib.ListN.{take, drop}
use Rattle.polar.specs.Layers.{part}
use Rattle.heights.proofs.Spots.{spot-room}
use Rattle.attempts.proofs.Cleared.{deep-enough, ran-counts, ran-word}
use Rattle.attempts.proofs.ran.run_cleared.Goals as goal

pub spot_of-at-requires : goal.spot_of-at-requires
spot_of-at-requires c =
    let p = c.requires in
    let d = (c.run-r.ensures.ran p.running).0.id in
    (deep-enough p.running, omega arith, record { some = d.some; most = omega (arith, d.most, p.ranged.0.paths) })

pub overflow_add-end : goal.overflow_add-end
overflow_add-end c =
    let a = c.args in
    let p = c.requires in
    omega (arith, spot-room {m = a.x.m} {h = a.x.m} (omega arith) (c.run-r.ensures.ran p.running).0.id a.bytes.now p.room.1)

pub slice_bounds-copy_from_slice-end : goal.slice_bounds-copy_from_slice-end
slice_bounds-copy_from_slice-end c =
    let a = c.args in
    let p = c.requires in
    omega (arith, spot-room {m = a.x.m} {h = a.x.m} (omega arith) (c.run-r.ensures.ran p.running).0.id a.bytes.now p.room.1)

pub returns-clause-fact : goal.returns-clause-fact
unfolding part
returns-clause-fact c = λ x.
    let o = c.run-r.ensures.ran x in
    let word = ap₂ (λ i n. take n (drop i c.run-r.new.bytes)) c.spot_of-at.ensures (omega (arith, c.requires.ranged.1)) in
    (ran-counts o.0, c.copy_from_slice.ensures.after ∙ word ∙ ran-word o.0, o.1, o.2, o.3)
