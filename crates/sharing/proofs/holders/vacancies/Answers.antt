-- `sharing::holders::vacancies` meets its contract. Assumes nothing.
use mathlib.Core.Path.{◌≡◌, refl, ap, ◌∙◌}
use Prim.Native.Nat.{◌+◌, ◌-◌}
use native.Mathlib.Omega.{arith}
use lib.ListN.{get_or, drop, length-take, length-drop}
use Rattle.laws.specs.Sets.{set_of}
use Rattle.sharing.specs.Sharing.{vacant_bit}
use Rattle.sharing.proofs.Vacant.{in-group, group-next, group-small}
use Rattle.sharing.proofs.holders.vacancies.Goals as goal

pub loop-k-init : goal.loop-k-init
unfolding set_of
loop-k-init c = refl

pub overflow_add-set : goal.overflow_add-set
overflow_add-set c =
    let a = c.args in
    let x = c.loop-k in
    omega (
      arith,
      group-next a.holders.now a.at x.k c.loop-k-test.true x.invariant c.mark-set.ensures,
      group-small a.holders.now a.at (x.k + 1) (omega (arith, in-group a.holders.now a.at x.k c.loop-k-test.true)),
    )

pub loop-k-preserved : goal.loop-k-preserved
loop-k-preserved c =
    let a = c.args in
    group-next a.holders.now a.at c.loop-k.k c.loop-k-test.true c.loop-k.invariant c.mark-set.ensures

pub returns : goal.returns
returns c =
    let a = c.args in
    let e : c.loop-k.k ≡ 16 = omega (arith, length-take (a.at + 16 - a.at) (drop a.at a.holders.now), length-drop a.at a.holders.now) in
    c.loop-k.invariant ∙ ap (λ n. set_of n (λ k. vacant_bit (get_or a.holders.now (a.at + k) 0))) e
