-- Sets as numbers: a set is below 2^n, its members are read off by division, and the exclusive or of two sets takes each member's sum modulo 2.
-- By induction on n, the highest member first. Assumes nothing.
use mathlib.Core.Path.{◌≡◌, refl, sym, ap, ap₂, ◌∙◌}
use mathlib.Core.Logic.{◌⊎◌, inl, inr}
use Prim.Native.Nat.{ℕ, zero, suc, ◌+◌, ◌-◌, ◌*◌, ◌/◌, ◌%◌, ◌^◌, ◌≤◌, ◌<◌}
use native.Mathlib.Nat.{two-pow-succ, one-mul, mul_assoc, mul-add, mul-le-mul_right, add-mul-div_right}
use native.Mathlib.Omega.{arith}
use lib.Bits.{bit_xor, xor_block}
use lib.Pow.{high, pow-add, pow_pos}
use Rattle.laws.specs.Sets.{set_of}
use Rattle.laws.proofs.Tests.{lt-or}

-- f is 0 or 1 below n
abbrev pub Marks : ℕ → (ℕ → ℕ) → Type 0
Marks n f = (t : ℕ) → t < n → f t < 2

pub set-lt : (n : ℕ) (f : ℕ → ℕ) → Marks n f → set_of n f < 2 ^ n
unfolding set_of
set-lt zero f h = omega arith
set-lt (suc n) f h =
    let k : f n ≤ 1 = omega (arith, h n (omega arith)) in
    omega (arith, set-lt n f (λ t l. h t (omega arith)), two-pow-succ n, mul-le-mul_right (2 ^ n) k, one-mul (2 ^ n))

-- of two bits it is their sum modulo 2
pub one-xor : (a b : ℕ) → a < 2 → b < 2 → bit_xor a b ≡ (a + b) % 2
one-xor zero zero h k = refl
one-xor zero (suc zero) h k = refl
one-xor zero (suc (suc b)) h k = absurd (omega arith)
one-xor (suc zero) zero h k = refl
one-xor (suc zero) (suc zero) h k = refl
one-xor (suc zero) (suc (suc b)) h k = absurd (omega arith)
one-xor (suc (suc a)) b h k = absurd (omega arith)

-- the exclusive or of two sets, member by member
pub set-xor : (n : ℕ) (f g : ℕ → ℕ) → Marks n f → Marks n g → bit_xor (set_of n f) (set_of n g) ≡ set_of n (λ t. (f t + g t) % 2)
unfolding set_of
set-xor zero f g h k = refl
set-xor (suc n) f g h k =
    xor_block n (f n) (g n) (set_of n f) (set_of n g) (set-lt n f (λ t l. h t (omega arith))) (set-lt n g (λ t l. k t (omega arith)))
    ∙ ap₂ (λ x y. x * 2 ^ n + y) (one-xor (f n) (g n) (h n (omega arith)) (k n (omega arith))) (set-xor n f g (λ t l. h t (omega arith)) (λ t l. k t (omega arith)))

pub set_same : (n : ℕ) (f g : ℕ → ℕ) → ((t : ℕ) → t < n → f t ≡ g t) → set_of n f ≡ set_of n g
unfolding set_of
set_same zero f g e = refl
set_same (suc n) f g e = ap₂ (λ x y. x * 2 ^ n + y) (e n (omega arith)) (set_same n f g (λ t l. e t (omega arith)))

-- the empty set
pub set-none : (n : ℕ) → set_of n (λ t. 0) ≡ 0
unfolding set_of
set-none zero = refl
set-none (suc n) = omega (arith, set-none n)

-- the lowest member first
pub set-low : (n : ℕ) (f : ℕ → ℕ) → set_of (suc n) f ≡ f 0 + 2 * set_of n (λ t. f (suc t))
unfolding set_of
set-low zero f = omega arith
set-low (suc n) f =
    omega (arith, set-low n f, ap (λ x. f (suc n) * x) (two-pow-succ n), mul-add (f (suc n)) (2 ^ n) (2 ^ n))

-- ---- members

-- a member that is not the highest
below : (a r t d : ℕ) → (a * 2 ^ (suc d + t) + r) / 2 ^ t % 2 ≡ r / 2 ^ t % 2
below a r t d =
    let p : 2 ^ (suc d + t) ≡ 2 ^ suc d * 2 ^ t = pow-add 2 (suc d) t in
    let q : a * 2 ^ (suc d + t) ≡ a * 2 ^ suc d * 2 ^ t = ap (λ x. a * x) p ∙ sym (mul_assoc a (2 ^ suc d) (2 ^ t)) in
    let e : a * 2 ^ suc d ≡ 2 * (a * 2 ^ d) = ap (λ x. a * x) (two-pow-succ d) ∙ mul-add a (2 ^ d) (2 ^ d) ∙ omega arith in
    let s : a * 2 ^ (suc d + t) + r ≡ r + a * 2 ^ suc d * 2 ^ t = omega arith in
    ap (λ x. x / 2 ^ t % 2) s ∙ ap (λ x. x % 2) (add-mul-div_right r (a * 2 ^ suc d) (pow_pos t)) ∙ omega arith

-- member t is read off by division
pub set-member : (n : ℕ) (f : ℕ → ℕ) (t : ℕ) → Marks n f → t < n → set_of n f / 2 ^ t % 2 ≡ f t
unfolding set_of
set-member zero f t h l = absurd (omega arith)
set-member (suc n) f t h l = go (lt-or t n) (set-member n f t (λ i k. h i (omega arith)))
  where
    go : (t < n) ⊎ (n ≤ t) → (t < n → set_of n f / 2 ^ t % 2 ≡ f t) → (f n * 2 ^ n + set_of n f) / 2 ^ t % 2 ≡ f t
    go (inl k) ih =
        let d : ℕ = n - suc t in
        let e : n ≡ suc d + t = omega arith in
        ap (λ i. (f n * 2 ^ i + set_of n f) / 2 ^ t % 2) e ∙ below (f n) (set_of n f) t d ∙ ih k
    go (inr k) ih =
        let e : n ≡ t = omega arith in
        ap (λ i. (f n * 2 ^ n + set_of n f) / 2 ^ i % 2) (sym e)
        ∙ ap (λ x. x % 2) (high (f n) n (set-lt n f (λ i q. h i (omega arith))))
        ∙ omega (arith, h n (omega arith), ap f e)
