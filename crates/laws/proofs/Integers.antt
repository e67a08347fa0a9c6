-- The order of the integers by its test, magnitudes of sums, and negated sums: by cases on the signs. Assumes nothing.
use mathlib.Core.Path.{◌≡◌, refl, ap, sym, ◌∙◌}
use mathlib.Core.Bool.{not}
use Prim.Native.Nat.{ℕ, zero, suc, ◌+◌, ◌≤◌, ◌<◌}
use mathlib.Core.Logic.{◌⊎◌, inl, inr}
use native.Mathlib.Nat.{le_antisymm, lt_irrefl}
use native.Mathlib.Omega.{arith}
use lib.IntN.{ℤ, pos, negsuc, neg_ℤ, nat_abs, sub_ℕ, ◌+ℤ◌, ◌-ℤ◌}
use lib.Signed.{lt_z, le_z, ◌≤ℤ◌, ◌<ℤ◌, le_z_yes, lt_z_yes}
use lib.Dec.{T, ltb, ltb→lt, lt→ltb, leb→le, le→leb, nltb→le}
use borrow.Author.Tests.{lt-ltb, le-ltb}
use Rattle.laws.proofs.Tests.{cond-case, lt-or}

pub lt_z-irrefl : (a : ℤ) → T (lt_z a a) → ⊥
lt_z-irrefl (pos a) t = lt_irrefl a (ltb→lt a a t)
lt_z-irrefl (negsuc a) t = lt_irrefl a (ltb→lt a a t)

pub lt_z-trans : (a b c : ℤ) → T (lt_z a b) → T (lt_z b c) → T (lt_z a c)
lt_z-trans (pos a) (pos b) (pos c) h k = lt→ltb a c (omega (arith, ltb→lt a b h, ltb→lt b c k))
lt_z-trans (pos a) (pos b) (negsuc c) h k = k
lt_z-trans (pos a) (negsuc b) c h k = absurd h
lt_z-trans (negsuc a) (pos b) (pos c) h k = tt
lt_z-trans (negsuc a) (pos b) (negsuc c) h k = absurd k
lt_z-trans (negsuc a) (negsuc b) (pos c) h k = tt
lt_z-trans (negsuc a) (negsuc b) (negsuc c) h k = lt→ltb c a (omega (arith, ltb→lt b a h, ltb→lt c b k))

pub lt_z-total : (a b : ℤ) → T (not (lt_z a b)) → T (not (lt_z b a)) → a ≡ b
lt_z-total (pos a) (pos b) h k = ap pos (le_antisymm (nltb→le b a k) (nltb→le a b h))
lt_z-total (pos a) (negsuc b) h k = absurd k
lt_z-total (negsuc a) (pos b) h k = absurd h
lt_z-total (negsuc a) (negsuc b) h k = ap negsuc (le_antisymm (nltb→le b a h) (nltb→le a b k))

-- numbers with the other sign come in the other order
pub neg-lt_z : (a b : ℕ) → lt_z (neg_ℤ (pos b)) (neg_ℤ (pos a)) ≡ ltb a b
neg-lt_z zero zero = refl
neg-lt_z zero (suc b) = sym (lt-ltb 0 (suc b) (omega arith))
neg-lt_z (suc a) zero = sym (le-ltb (suc a) 0 (omega arith))
neg-lt_z (suc a) (suc b) = go (lt-or a b)
  where
    go : (a < b) ⊎ (b ≤ a) → ltb a b ≡ ltb (suc a) (suc b)
    go (inl l) = lt-ltb a b l ∙ sym (lt-ltb (suc a) (suc b) (omega arith))
    go (inr l) = le-ltb a b l ∙ sym (le-ltb (suc a) (suc b) (omega arith))

pub neg-≤ℤ : {a b : ℤ} → a ≤ℤ b → neg_ℤ b ≤ℤ neg_ℤ a
neg-≤ℤ {a} {b} h = le_z_yes (go a b h.le)
  where
    go : (a b : ℤ) → T (le_z a b) → T (le_z (neg_ℤ b) (neg_ℤ a))
    go (pos zero) (pos zero) t = t
    go (pos zero) (pos (suc b)) t = tt
    go (pos zero) (negsuc b) t = absurd t
    go (pos (suc a)) (pos zero) t = absurd (omega (arith, leb→le (suc a) 0 t))
    go (pos (suc a)) (pos (suc b)) t = le→leb a b (omega (arith, leb→le (suc a) (suc b) t))
    go (pos (suc a)) (negsuc b) t = absurd t
    go (negsuc a) (pos zero) t = le→leb 0 (suc a) (omega arith)
    go (negsuc a) (pos (suc b)) t = tt
    go (negsuc a) (negsuc b) t = le→leb (suc b) (suc a) (omega (arith, leb→le b a t))

-- a number below 0, less z, is below minus z
pub less-below : (k : ℕ) (z : ℤ) → (negsuc k -ℤ z) <ℤ neg_ℤ z
less-below k z = lt_z_yes (go z)
  where
    go : (z : ℤ) → T (lt_z (negsuc k -ℤ z) (neg_ℤ z))
    go (pos zero) = cond-case (λ (y : ℤ). T (lt_z y (pos 0))) (ltb 0 (suc k)) (λ t. tt) (λ t. absurd (omega (arith, nltb→le 0 (suc k) t)))
    go (pos (suc n)) = lt→ltb n (suc (k + n)) (omega arith)
    go (negsuc n) = cond-case (λ (y : ℤ). T (lt_z y (pos (suc n)))) (ltb (suc n) (suc k)) (λ t. tt) (λ t. lt→ltb _ (suc n) (omega arith))

-- ---- magnitudes

pub neg-abs : (z : ℤ) → nat_abs (neg_ℤ z) ≡ nat_abs z
neg-abs (pos zero) = refl
neg-abs (pos (suc n)) = refl
neg-abs (negsuc n) = refl

sub-abs : (a b : ℕ) → nat_abs (sub_ℕ a b) ≤ a + b
sub-abs a b = cond-case (λ (z : ℤ). nat_abs z ≤ a + b) (ltb a b) (λ t. omega (arith, ltb→lt a b t)) (λ t. omega arith)

pub add-abs : (a b : ℤ) → nat_abs (a +ℤ b) ≤ nat_abs a + nat_abs b
add-abs (pos a) (pos b) = omega arith
add-abs (pos a) (negsuc b) = sub-abs a (suc b)
add-abs (negsuc a) (pos b) = omega (arith, sub-abs b (suc a))
add-abs (negsuc a) (negsuc b) = omega arith
