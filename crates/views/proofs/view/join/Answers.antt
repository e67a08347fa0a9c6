-- `views::view::join` meets its contract. Assumes nothing.
use mathlib.Core.Path.{ap, ap₂, ◌∙◌}
use Prim.Native.Nat.{◌+◌}
use native.Mathlib.Omega.{arith}
use Rattle.heights.specs.Workspace.{spot}
use Rattle.heights.proofs.Spots.{spot-room}
use Rattle.views.proofs.Joining.{twice-fits, progress-none, progress-done, turn-needs, progress-more}
use Rattle.views.proofs.view.join.Goals as goal

pub overflow_add-end : goal.overflow_add-end
overflow_add-end c = let p = c.requires.has_row in omega (arith, spot-room p.4 p.6 c.args.bytes.now p.5)

pub loop-k-init : goal.loop-k-init
loop-k-init c = progress-none c.requires.has_row.3 c.requires.all

pub overflow_sub-end : goal.overflow_sub-end
overflow_sub-end c = omega (arith, twice-fits c.loop-k-test.true)

pub overflow_sub-end-in-loop-k : goal.overflow_sub-end-in-loop-k
overflow_sub-end-in-loop-k c = omega (arith, twice-fits c.loop-k-test.true)

pub add_sums-requires : goal.add_sums-requires
add_sums-requires c =
    let p = c.requires.has_row in
    let y = c.loop-k in
    let own = c.requires.by_index y.k y.invariant.low c.loop-k-test.true in
    let n = turn-needs p.4 p.6 p.5 c.loop-k-test.true own.0 y.invariant (c.spot_of-low.ensures ∙ ap (λ i. spot c.args.layout.m i y.k) c.id_of.ensures)
    (ap₂ ◌+◌ c.spot_of.ensures c.power.ensures) c.power-n.ensures own.1 in
    record { clear = n.0; clear_2 = n.1; all = n.2; all_2 = n.3 }

pub loop-k-preserved : goal.loop-k-preserved
loop-k-preserved c =
    let p = c.requires.has_row in
    let y = c.loop-k in
    let own = c.requires.by_index y.k y.invariant.low c.loop-k-test.true in
    progress-more p.4 p.6 p.5 c.loop-k-test.true own.0 y.invariant (c.spot_of-low.ensures ∙ ap (λ i. spot c.args.layout.m i y.k) c.id_of.ensures)
    (ap₂ ◌+◌ c.spot_of.ensures c.power.ensures) c.power-n.ensures c.add_sums.ensures

pub returns : goal.returns
returns c = record { joined = c.loop-k.invariant.inside; bytes_after = progress-done (omega arith) c.loop-k.invariant }
