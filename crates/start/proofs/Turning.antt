-- The turn of a number is the exponent of the largest power of two that divides it: an odd number of times 2^h has the turn h. By induction down
-- the tree: the half that holds the number takes away an even number of times 2^h, or the number is 2^h itself. Assumes nothing.
use mathlib.Core.Path.{◌≡◌, refl, sym, ap, ◌∙◌}
use mathlib.Core.Logic.{◌⊎◌, inl, inr}
use Prim.Native.Nat.{ℕ, zero, suc, ◌+◌, ◌-◌, ◌*◌, ◌/◌, ◌%◌, ◌^◌, ◌≤◌, ◌<◌}
use native.Mathlib.Nat.{two-pow-succ, mul-le-mul_right, le_of_mul-le-mul_right, one-mul, mul-one, mul-add, add-mul}
use native.Mathlib.Omega.{arith}
use lib.Count.{count_trailing_zeros, under}
use lib.Pow.{pow-add, pow_mono, pow_pos}
use Rattle.laws.proofs.Tests.{lt-or}
use Rattle.polar.specs.Node.{rest}
use Rattle.polar.proofs.Node.{rest-high, rest-less}
use Rattle.reader.specs.Arrays.{turn}
use Rattle.reader.proofs.Tree.{turn-high, turn_low, turn-past}

-- some times 2^h are at least 2^h
pub times-least : (h left : ℕ) → 1 ≤ left → 2 ^ h ≤ left * 2 ^ h
times-least h left l = omega (arith, mul-le-mul_right (2 ^ h) l, one-mul (2 ^ h))

pub turn_odd : (m h left t : ℕ) → t ≡ left * 2 ^ h → left % 2 ≡ 1 → t < 2 ^ m → turn m t ≡ h
turn_odd zero h left t e o l = absurd (omega (arith, times-least h left (omega arith), pow_pos h))
turn_odd (suc m) h left t e o l = go (lt-or t (2 ^ m)) (lt-or h m) (turn_odd m h)
  where
    go : (t < 2 ^ m) ⊎ (2 ^ m ≤ t) → (h < m) ⊎ (m ≤ h) →
        ((left' t' : ℕ) → t' ≡ left' * 2 ^ h → left' % 2 ≡ 1 → t' < 2 ^ m → turn m t' ≡ h) → turn (suc m) t ≡ h
    go (inl x) y ih = turn_low m t x ∙ ih left t e o x
    go (inr x) (inl y) ih =
        let d : ℕ = m - suc h in
        let n : ℕ = 2 * 2 ^ d in
        let f : m ≡ suc d + h = omega arith in
        let p : 2 ^ m ≡ n * 2 ^ h = ap (λ i. 2 ^ i) f ∙ pow-add 2 (suc d) h ∙ ap (λ i. i * 2 ^ h) (two-pow-succ d ∙ omega arith) in
        let q : n ≤ left = le_of_mul-le-mul_right {k = 2 ^ h} (omega arith) (pow_pos h) in
        let k : ℕ = left - n in
        let s : k + n ≡ left = omega arith in
        let u : t ≡ k * 2 ^ h + n * 2 ^ h = e ∙ ap (λ i. i * 2 ^ h) (sym s) ∙ add-mul k n (2 ^ h) in
        let odd : k % 2 ≡ 1 = omega arith in
        let r : rest m t ≡ k * 2 ^ h = rest-high m t x ∙ omega arith in
        let z : rest m t ≡ 0 → ⊥ = λ w. omega (arith, times-least h k (omega arith), pow_pos h) in
        turn-past m t z ∙ ih k (rest m t) r odd (rest-less m t l)
    go (inr x) (inr y) ih =
        let b : 2 ^ m ≤ 2 ^ h = pow_mono y in
        let f : left ≡ 1 = single (lt-or left 2) in
        let g : t ≡ 2 ^ h = e ∙ ap (λ i. i * 2 ^ h) f ∙ one-mul (2 ^ h) in
        let k : h ≡ m = level g (lt-or m h) in
        let p : 2 ^ h ≡ 2 ^ m = ap (λ i. 2 ^ i) k in
        turn-high m t x (rest-high m t x ∙ omega arith) ∙ sym k
      where
        single : (left < 2) ⊎ (2 ≤ left) → left ≡ 1
        single (inl w) = omega arith
        single (inr w) = absurd (omega (arith, mul-le-mul_right (2 ^ h) w, pow_mono y, two-pow-succ m))

        level : t ≡ 2 ^ h → (m < h) ⊎ (h ≤ m) → h ≡ m
        level g (inl w) = absurd (omega (arith, pow_mono w))
        level g (inr w) = omega arith

-- ---- the zeros at the end of a number's digits

-- t is an odd number of times 2^h
pub record OddTimes (t h : ℕ) : Type 0 where
  pub left : ℕ
  pub odd : left % 2 ≡ 1
  pub times : t ≡ left * 2 ^ h

pub odd-times : (d n : ℕ) → 0 < n → n < 2 ^ d → OddTimes n (count_trailing_zeros d n)
unfolding count_trailing_zeros
odd-times zero n z l = absurd (omega arith)
odd-times (suc d) n z l = go (n % 2) refl (odd-times d (n / 2))
  where
    go : (r : ℕ) → n % 2 ≡ r → (0 < n / 2 → n / 2 < 2 ^ d → OddTimes (n / 2) (count_trailing_zeros d (n / 2))) → OddTimes n (under r (count_trailing_zeros d (n / 2)))
    go zero e ih =
        let x = ih (omega arith) (omega (arith, two-pow-succ d)) in
        let t = count_trailing_zeros d (n / 2) in
        let twice : x.left * 2 ^ suc t ≡ x.left * 2 ^ t + x.left * 2 ^ t = ap (λ i. x.left * i) (two-pow-succ t) ∙ mul-add x.left (2 ^ t) (2 ^ t) in
        record { left = x.left; odd = x.odd; times = omega (arith, x.times, twice) }
    go (suc r) e ih = record { left = n; odd = omega arith; times = omega (arith, mul-one n) }
