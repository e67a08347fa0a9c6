-- `polar::distance::discrepancy` meets its contract. Assumes nothing.
use mathlib.Core.Path.{◌≡◌, ap, ◌∙◌}
use mathlib.Core.Logic.{⊎_elim}
use Prim.Native.Nat.{◌≤◌}
use native.Mathlib.Omega.{arith}
use lib.ListN.{length}
use Rattle.std.specs.Iterator.Adapters.{zip_first, zip_second}
use Rattle.std.specs.Slice.Iter.{iter_rest}
use Rattle.polar.proofs.Soft.{here-small, cost-small, rest-small, discrepancy-turn, discrepancy-end}
use Rattle.polar.proofs.distance.discrepancy.Goals as goal

pub cost-sum-requires : goal.cost-sum-requires
cost-sum-requires c =
    let e = c.in-Some.ensures.steps in
    omega (arith, here-small e.0 e.1 c.loop-v.invariant.within)

pub overflow_add-sum : goal.overflow_add-sum
overflow_add-sum c =
    let x = c.loop-v.invariant in
    let e = c.in-Some.ensures.steps in
    let d : c.cost-sum.result ≤ 1048064 = omega (arith, c.cost-sum.ensures, cost-small e.0 e.1 x.within) in
    omega (arith, x.small, ap length e.0, c.requires.word_len.1)

pub loop-v-preserved : goal.loop-v-preserved
loop-v-preserved c =
    let x = c.loop-v.invariant in
    let e = c.in-Some.ensures.steps in
    let d : c.cost-sum.result ≤ 1048064 = omega (arith, c.cost-sum.ensures, cost-small e.0 e.1 x.within) in
    record {
      whole = omega (arith, x.whole, c.cost-sum.ensures, discrepancy-turn e.0 e.1 x.within);
      small = omega (arith, x.small, ap length e.0);
      same = omega (arith, x.same, ap length e.0, ap length e.1);
      within = rest-small e.0 e.1 x.within;
    }

pub returns : goal.returns
returns c =
    let x = c.loop-v.invariant in
    let bits = iter_rest (zip_first c.loop-v.v-iterator) in
    let none : length bits ≡ 0 = ⊎_elim (λ p. p.1.0) (λ p. x.same ∙ p.1.0) c.in-None.ensures.steps in
    omega (arith, x.whole, discrepancy-end bits (iter_rest (zip_second c.loop-v.v-iterator)) none)
