-- The hard decisions and the two least weights, as the code finds them: which is kept of three weights, and what a value below 0, or not below it,
-- makes of them. By the tests of the definitions. Assumes nothing.
use mathlib.Core.Path.{◌≡◌, refl}
use mathlib.Core.Bool.{not}
use mathlib.Core.Logic.{◌⊎◌, inl, inr}
use Prim.Native.Nat.{ℕ, ◌+◌, ◌-◌, ◌*◌, ◌≤◌, ◌<◌}
use native.Mathlib.Omega.{arith}
use lib.Dec.{T}
use lib.IntN.{ℤ, pos, negsuc, nat_abs}
use lib.Signed.{non_neg}
use borrow.Author.Tests.{lt-ltb, le-ltb}
use Rattle.laws.proofs.Tests.{lt-or}
use Rattle.short.specs.declared.Lead.{Lead}
use Rattle.short.specs.Flips.{weighed, led_more}

module _ (w : ℕ) (x : Lead) where
  pub weighed-first : w < x.least → record { base = x.base; odd = x.odd; least = w; next = x.least } ≡ weighed w x
  unfolding weighed
  weighed-first l = rw (lt-ltb w x.least l) refl

  pub weighed-second : x.least ≤ w → w < x.next → record { base = x.base; odd = x.odd; least = x.least; next = w } ≡ weighed w x
  unfolding weighed
  weighed-second l m = rw (le-ltb w x.least l, lt-ltb w x.next m) refl

  pub weighed-neither : x.least ≤ w → x.next ≤ w → x ≡ weighed w x
  unfolding weighed
  weighed-neither l m = rw (le-ltb w x.least l, le-ltb w x.next m) refl

  -- a weight changes neither the hard decisions nor their parity
  pub weighed-same : ((weighed w x).base ≡ x.base) × ((weighed w x).odd ≡ x.odd)
  unfolding weighed
  weighed-same = go (lt-or w x.least) (lt-or w x.next)
    where
      go : (w < x.least) ⊎ (x.least ≤ w) → (w < x.next) ⊎ (x.next ≤ w) → ((weighed w x).base ≡ x.base) × ((weighed w x).odd ≡ x.odd)
      go (inl l) m = rw (lt-ltb w x.least l) (refl, refl)
      go (inr l) (inl m) = rw (le-ltb w x.least l, lt-ltb w x.next m) (refl, refl)
      go (inr l) (inr m) = rw (le-ltb w x.least l, le-ltb w x.next m) (refl, refl)

-- a value below 0, and one that is not
pub more-below : (s : ℤ) (c : ℕ) (x : Lead) → T (not (non_neg s))
    → weighed (nat_abs s * 256 - c) (record { base = x.base + c; odd = 1 - x.odd; least = x.least; next = x.next }) ≡ led_more s c x
unfolding led_more
more-below (pos a) c x t = absurd t
more-below (negsuc a) c x t = refl

pub more-above : (s : ℤ) (c : ℕ) (x : Lead) → T (non_neg s) → weighed (nat_abs s * 256 + c) x ≡ led_more s c x
unfolding led_more
more-above (pos a) c x t = refl
more-above (negsuc a) c x t = absurd t
