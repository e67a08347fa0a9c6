-- `sharing::holders::find_from` meets its contract. Assumes nothing.
use Prim.Native.Nat.{ℕ, ◌≤◌}
use native.Mathlib.Omega.{arith}
use borrow.Author.Count.{below_more}
use Rattle.sharing.specs.Sharing.{held_at}
use Rattle.sharing.proofs.holders.find_from.Goals as goal

pub returns-then-holders-height-eq0 : goal.returns-then-holders-height-eq0
unfolding held_at
returns-then-holders-height-eq0 c = let x = c.loop-id in (omega arith, omega arith, x.invariant.2, λ _. c.if-holders-height-eq0.true)

pub loop-id-preserved : goal.loop-id-preserved
unfolding held_at
loop-id-preserved c =
    let x = c.loop-id in
    let a = c.args in
    let held : (k : ℕ) → Type 0 = λ k. 1 ≤ k → 1 ≤ held_at a.holders.now a.height k in
    (omega arith, omega arith, λ k a b. below_more held x.id (λ i l s. x.invariant.2 i s l) (λ _. omega (arith, c.if-holders-height-eq0.false)) k b a)
