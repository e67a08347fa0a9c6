-- `passes::pass::two_each` meets its contract: each key goes the way of `sift`. Assumes nothing.
use mathlib.Core.Path.{ap}
use lib.ListN.{get_or}
use Rattle.outer.specs.Search.{key_of}
use Rattle.passes.specs.Pass.{summed_key}
use Rattle.passes.proofs.pass.two_each.Goals as goal

pub loop-w-preserved : goal.loop-w-preserved
unfolding summed_key
loop-w-preserved c =
    let a = c.args in
    c.sift-two.ensures (summed_key a.table.sums.now a.table.runs a.words.now) c.loop-w.invariant (ap (λ i. key_of i (get_or a.words.now c.loop-w.w 0)) c.cost_of.ensures.0)
