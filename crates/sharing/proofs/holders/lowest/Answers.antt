-- `sharing::holders::lowest` meets its contract: each id below the height's number is held. Assumes nothing.
use native.Mathlib.Omega.{arith}
use Rattle.sharing.specs.Sharing.{low_at}
use Rattle.sharing.proofs.holders.lowest.Goals as goal

pub returns : goal.returns
unfolding low_at
returns c =
    let e = c.clamp.ensures in
    let p = c.requires in
    (omega arith, omega arith, λ k some b. p.0.below c.args.height k p.1 some (omega (arith, e, b, p.2)) (omega (arith, e, b, some)))
