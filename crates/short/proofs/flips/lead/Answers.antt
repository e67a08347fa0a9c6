-- `short::flips::lead` meets its contract, value by value from the last on. Assumes nothing.
use mathlib.Core.Path.{◌≡◌, sym, ap, ap₂, ◌∙◌}
use mathlib.Core.List.{List, ◌∷◌}
use Prim.Native.Nat.{ℕ, zero, suc, ◌+◌, ◌-◌, ◌/◌, ◌^◌, ◌≤◌, ◌<◌}
use mathlib.Core.Path.{refl}
use native.Mathlib.Nat.{two-pow-succ}
use native.Mathlib.Omega.{arith}
use lib.IntN.{ℤ, pos}
use lib.ListN.{length, get_or, drop, drop_of_length-le}
use lib.Pow.{pow_mono}
use lib.Seq.{drop-cons}
use Rattle.laws.specs.Lists.{All}
use Rattle.laws.proofs.Signed.{back}
use Rattle.polar.specs.Layers.{Within}
use Rattle.outer.proofs.Sums.{read_back}
use Rattle.short.specs.declared.Lead.{Lead}
use Rattle.short.specs.Flips.{led_more, led}
use Rattle.short.proofs.flips.lead.Goals as goal

pub loop-i-init : goal.loop-i-init
unfolding led
loop-i-init c = (refl, omega arith, omega arith, ap (led 256) (sym (drop_of_length-le c.args.values.now {i = 8} (omega (arith, c.told-values)))))

halved : (i : ℕ) → 0 < i → 2 ^ i / 2 ≡ 2 ^ (i - 1)
halved zero l = absurd (omega arith)
halved (suc i) l = let e : suc i - 1 ≡ i = omega arith in omega (arith, two-pow-succ i, ap (λ (k : ℕ). 2 ^ k) e)

-- one value more is led
module _ (i : ℕ) (vs : List ℤ) (z : 0 < i) (l : i ≤ length vs) (w : All (Within 1048064) vs) where
  abbrev own : ℤ
  own = back (get_or vs (i - 1) (pos 0))

  led-one : led (2 ^ (i - 1)) (drop (i - 1) vs) ≡ led_more own (2 ^ (i - 1)) (led (2 ^ i) (drop i vs))
  unfolding led
  led-one =
      let n : suc (i - 1) ≡ i = omega arith in
      let same : own ≡ get_or vs (i - 1) (pos 0) = (read_back vs (i - 1) w refl).0 in
      let d : drop (i - 1) vs ≡ own ∷ drop i vs = drop-cons vs (i - 1) (pos 0) (omega arith) ∙ ap₂ (λ (v : ℤ) (k : ℕ). v ∷ drop k vs) (sym same) n in
      let twice : 2 ^ (i - 1) + 2 ^ (i - 1) ≡ 2 ^ i = omega (arith, two-pow-succ (i - 1), ap (λ (k : ℕ). 2 ^ k) n) in
      ap (led (2 ^ (i - 1))) d ∙ ap (λ (k : ℕ). led_more own (2 ^ (i - 1)) (led k (drop i vs))) twice

pub more-x-requires : goal.more-x-requires
more-x-requires c =
    let x = c.loop-i in
    let n : x.i ≤ 8 = x.auto.i in
    let p : 2 ^ x.i ≤ 2 ^ 8 = pow_mono n in
    ((read_back c.args.values.now (x.i - 1) c.requires refl).1, omega (arith, x.invariant.0), omega (arith, x.invariant.1), x.invariant.2)

pub loop-i-preserved : goal.loop-i-preserved
loop-i-preserved c =
    let vs = c.args.values.now in
    let x = c.loop-i in
    let z : 0 < x.i = c.loop-i-test.true in
    let b : x.bit / 2 ≡ 2 ^ (x.i - 1) = ap (λ (k : ℕ). k / 2) x.invariant.0 ∙ halved x.i z in
    let r = c.more-x.ensures in (
      b,
      omega (arith, r.1, x.invariant.0, x.invariant.1, halved x.i z),
      r.2,
      r.0 ∙ ap₂ (λ (k : ℕ) (y : Lead). led_more (back (get_or vs (x.i - 1) (pos 0))) k y) b x.invariant.3 ∙ sym (led-one x.i vs z (omega (arith, c.told-values, x.auto.i)) c.requires),
    )
