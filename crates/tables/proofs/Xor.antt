-- The exclusive or of numbers: it may be added in any order, and a bit of a sum is the sum of the bits. By halves: the parities first, then what is
-- left above them. Assumes nothing.
use mathlib.Core.Path.{◌≡◌, refl, sym, ap, ◌∙◌}
use Prim.Native.Nat.{ℕ, zero, suc, ◌+◌, ◌*◌, ◌/◌, ◌%◌, ◌^◌, ◌≤◌, ◌<◌}
use native.Mathlib.Nat.{mul-zero}
use native.Mathlib.Omega.{arith}
use lib.Bits.{bit_xor, xor_comm, xor_self, xor_shr, xor_zero_l, xor_zero_r, xor_add_and}

-- the sum below a bound on all three, halved
assoc-below : (n a b c : ℕ) → a ≤ n → b ≤ n → c ≤ n → bit_xor (bit_xor a b) c ≡ bit_xor a (bit_xor b c)
assoc-below zero zero zero zero h k l = refl
assoc-below zero (suc a) b c h k l = absurd (omega arith)
assoc-below zero zero (suc b) c h k l = absurd (omega arith)
assoc-below zero zero zero (suc c) h k l = absurd (omega arith)
assoc-below (suc n) a b c h k l =
    let x : ℕ = bit_xor (bit_xor a b) c in
    let y : ℕ = bit_xor a (bit_xor b c) in
    let e : x / 2 ≡ bit_xor (bit_xor (a / 2) (b / 2)) (c / 2) = xor_shr (bit_xor a b) c 1 ∙ ap (λ z. bit_xor z (c / 2)) (xor_shr a b 1) in
    let f : y / 2 ≡ bit_xor (a / 2) (bit_xor (b / 2) (c / 2)) = xor_shr a (bit_xor b c) 1 ∙ ap (bit_xor (a / 2)) (xor_shr b c 1) in
    let g : x / 2 ≡ y / 2 = e ∙ assoc-below n (a / 2) (b / 2) (c / 2) (omega arith) (omega arith) (omega arith) ∙ sym f in
    omega (arith, g, xor_add_and a b, xor_add_and (bit_xor a b) c, xor_add_and b c, xor_add_and a (bit_xor b c))

pub xor_assoc : (a b c : ℕ) → bit_xor (bit_xor a b) c ≡ bit_xor a (bit_xor b c)
xor_assoc a b c = assoc-below (a + b + c) a b c (omega arith) (omega arith) (omega arith)

pub xor-swap : (a b c : ℕ) → bit_xor (bit_xor a b) c ≡ bit_xor (bit_xor a c) b
xor-swap a b c = xor_assoc a b c ∙ ap (bit_xor a) (xor_comm b c) ∙ sym (xor_assoc a c b)

pub xor-pairs : (a b c d : ℕ) → bit_xor (bit_xor a b) (bit_xor c d) ≡ bit_xor (bit_xor a c) (bit_xor b d)
xor-pairs a b c d =
    sym (xor_assoc (bit_xor a b) c d) ∙ ap (λ x. bit_xor x d) (xor-swap a b c) ∙ xor_assoc (bit_xor a c) b d

-- bit t of a sum
pub xor-bit : (a b t : ℕ) → bit_xor a b / 2 ^ t % 2 ≡ (a / 2 ^ t % 2 + b / 2 ^ t % 2) % 2
xor-bit a b t = ap (λ x. x % 2) (xor_shr a b t) ∙ omega (arith, xor_add_and (a / 2 ^ t) (b / 2 ^ t))

-- a mask where a bit is 1, and where another is, is the mask where their sum is
pub xor-masks : (m a b : ℕ) → a < 2 → b < 2 → bit_xor (m * a) (m * b) ≡ m * ((a + b) % 2)
xor-masks m zero b h k = ap (λ x. bit_xor x (m * b)) (mul-zero m) ∙ xor_zero_l (m * b) ∙ ap (λ x. m * x) (omega arith)
xor-masks m (suc zero) zero h k = ap (bit_xor (m * 1)) (mul-zero m) ∙ xor_zero_r (m * 1)
xor-masks m (suc zero) (suc zero) h k = xor_self (m * 1) ∙ sym (mul-zero m)
xor-masks m (suc zero) (suc (suc b)) h k = absurd (omega arith)
xor-masks m (suc (suc a)) b h k = absurd (omega arith)
