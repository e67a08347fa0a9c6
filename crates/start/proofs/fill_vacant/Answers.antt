-- `start::fill_vacant` meets its contract: cell k gets k + 1. Assumes nothing.
use Prim.Native.Nat.{◌+◌, ◌-◌}
use mathlib.Core.Path.{subst}
use native.Mathlib.Nat.{zero-add}
use native.Mathlib.Omega.{arith}
use lib.ListN.{set}
use Rattle.laws.proofs.Stores.{Stored, stored-none, stored_more}
use Rattle.start.proofs.fill_vacant.Goals as goal

pub loop-i-init : goal.loop-i-init
loop-i-init c = stored-none _ _ _

pub loop-i-preserved : goal.loop-i-preserved
loop-i-preserved c =
    let i = c.loop-i.i in
    let s = rw zero-add at (stored_more i c.loop-i.invariant (omega arith) (omega arith)) in
    subst (Stored c.args.vacant.now (set c.loop-i.vacant (i - 1) i) 0 (λ k. k + 1)) (omega arith) s

pub returns : goal.returns
returns c k h = rw zero-add at (c.loop-i.invariant.done k (omega arith))
