-- Signed locals of 32 bits. A local holds bits, so its value z stands in a need as what is read back from them, `back z`; these laws say that a
-- test, a sum, a difference and a negation of such readings fit and are those of the values. Bounds are facts on `nat_abs z`, which
-- omega reads. Assumes nothing.
use mathlib.Core.Path.{◌≡◌, refl, sym, ap, ap₂, ◌∙◌, subst}
use mathlib.Core.Bool.{true, false, not}
use Prim.Native.Nat.{◌+◌, ◌≤◌, ◌<◌}
use native.Mathlib.Omega.{arith}
use lib.IntN.{ℤ, pos, negsuc, neg_ℤ, nat_abs, ◌+ℤ◌, ◌-ℤ◌, +ℤ_idl}
use lib.Signed.{mag, lt_z, non_neg}
use lib.Dec.{T}
use mir.Syntax.{w32}
use mir.Val.{SFits, to_z, of_z}
use mir.Facts.{to_z-of_z}
use borrow.Author.Tests.{le-ltb, not-false}
use Rattle.laws.proofs.Integers.{neg-abs, add-abs}

-- what a local that holds z reads as
abbrev pub back : ℤ → ℤ
back z = to_z w32 (of_z w32 z)

-- ---- what fits

mag-le : (z : ℤ) → mag z ≤ nat_abs z
mag-le (pos n) = omega arith
mag-le (negsuc n) = omega arith

pub abs-fits : (z : ℤ) → nat_abs z < 2147483648 → SFits w32 z
abs-fits z h = record { sfits = omega (arith, mag-le z) }

-- a value that is not below 0 has a negative
pub fits-abs : (z : ℤ) → SFits w32 z → T (non_neg z) → nat_abs z < 2147483648
fits-abs (pos n) f t = f.sfits
fits-abs (negsuc n) f t = absurd t

-- ---- the test for being below 0

pub below-zero : {z : ℤ} → SFits w32 z → lt_z (back z) (pos 0) ≡ not (non_neg z)
below-zero {z} f = ap (λ (y : ℤ). lt_z y (pos 0)) (to_z-of_z f) ∙ sign z
  where
    sign : (y : ℤ) → lt_z y (pos 0) ≡ not (non_neg y)
    sign (pos n) = le-ltb n 0 (omega arith)
    sign (negsuc n) = refl

pub is_below : {z : ℤ} → SFits w32 z → lt_z (back z) (pos 0) ≡ true → T (not (non_neg z))
is_below f e = subst T (sym (sym (below-zero f) ∙ e)) tt

pub not-below : {z : ℤ} → SFits w32 z → lt_z (back z) (pos 0) ≡ false → T (non_neg z)
not-below {z} f e = subst T (sym (not-false (non_neg z) (sym (below-zero f) ∙ e))) tt

-- ---- an operation on two locals whose magnitudes together are below 2^31

module _ {a b : ℤ} (fa : SFits w32 a) (fb : SFits w32 b) (h : nat_abs a + nat_abs b < 2147483648) where
  add_back : back a +ℤ back b ≡ a +ℤ b
  add_back = ap₂ ◌+ℤ◌ (to_z-of_z fa) (to_z-of_z fb)

  sub_back : back a -ℤ back b ≡ a -ℤ b
  sub_back = ap₂ ◌-ℤ◌ (to_z-of_z fa) (to_z-of_z fb)

  pub add-fits : SFits w32 (back a +ℤ back b)
  add-fits = subst (SFits w32) (sym add_back) (abs-fits (a +ℤ b) (omega (arith, add-abs a b)))

  pub sub-fits : SFits w32 (back a -ℤ back b)
  sub-fits = subst (SFits w32) (sym sub_back) (abs-fits (a -ℤ b) (omega (arith, add-abs a (neg_ℤ b), neg-abs b)))

  pub add_is : back (back a +ℤ back b) ≡ a +ℤ b
  add_is = to_z-of_z add-fits ∙ add_back

  pub sub_is : back (back a -ℤ back b) ≡ a -ℤ b
  sub_is = to_z-of_z sub-fits ∙ sub_back

-- ---- a local with the other sign

module _ {a : ℤ} (fa : SFits w32 a) (h : nat_abs a < 2147483648) where
  zero-fits : SFits w32 (pos 0)
  zero-fits = abs-fits (pos 0) (omega arith)

  pub neg_is : back (pos 0 -ℤ back a) ≡ neg_ℤ a
  neg_is = sub_is zero-fits fa (omega arith) ∙ +ℤ_idl (neg_ℤ a)
