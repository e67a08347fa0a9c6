-- A number and its bits, the highest first, are each the other's, at every width: the digits so far are the number halved once for each
-- bit that is still to come. By induction on the width or on the bits. Assumes nothing.
use mathlib.Core.Path.{◌≡◌, refl, sym, ap, ap₂, ◌∙◌}
use mathlib.Core.List.{List, [], ◌∷◌}
use Prim.Native.Nat.{ℕ, zero, suc, ◌+◌, ◌*◌, ◌/◌, ◌^◌, ◌<◌}
use native.Mathlib.Nat.{div-one, pow-suc, one-mul, div-eq_of_lt, div-div-eq-div-mul, div-lt_iff_lt-mul}
use native.Mathlib.Omega.{arith}
use lib.ListN.{length}
use lib.Pow.{pow_pos}
use Rattle.laws.specs.Lists.{All}
use Rattle.polar.specs.Bits.{Bit, to_bits, from_bits}

half : (x w : ℕ) → x / 2 ^ suc w ≡ x / 2 ^ w / 2
half x w = ap (λ n. x / n) (pow-suc 2 w) ∙ sym (div-div-eq-div-mul x (2 ^ w) 2)

-- ---- from a number to its bits and back

to-from : (w x : ℕ) → from_bits (x / 2 ^ w) (to_bits w x) ≡ x
unfolding to_bits from_bits
to-from zero x = div-one x
to-from (suc w) x = ap (λ d. from_bits d (to_bits w x)) (omega (arith, half x w)) ∙ to-from w x

pub from-to : (w x : ℕ) → x < 2 ^ w → from_bits 0 (to_bits w x) ≡ x
from-to w x h = ap (λ d. from_bits d (to_bits w x)) (sym (div-eq_of_lt h)) ∙ to-from w x

-- ---- from bits to their number and back

from-high : (d : ℕ) (bs : List ℕ) → All Bit bs → from_bits d bs / 2 ^ length bs ≡ d
unfolding from_bits All
from-high d [] h = div-one d
from-high d (b ∷ bs) h = half (from_bits (2 * d + b) bs) (length bs) ∙ omega (arith, from-high (2 * d + b) bs h.1, h.0)

pub from-lt : (bs : List ℕ) → All Bit bs → from_bits 0 bs < 2 ^ length bs
from-lt bs h =
    let z : from_bits 0 bs / 2 ^ length bs < 1 = omega (arith, from-high 0 bs h) in
    omega (arith, (div-lt_iff_lt-mul (pow_pos (length bs))).0 z, one-mul (2 ^ length bs))

bits-again : (d : ℕ) (bs : List ℕ) → All Bit bs → to_bits (length bs) (from_bits d bs) ≡ bs
unfolding to_bits from_bits All
bits-again d [] h = refl
bits-again d (b ∷ bs) h =
    ap₂ (λ (c : ℕ) (l : List ℕ). c ∷ l) (omega (arith, from-high (2 * d + b) bs h.1, h.0)) (bits-again (2 * d + b) bs h.1)

pub to-bits : (w : ℕ) (bs : List ℕ) → length bs ≡ w → All Bit bs → to_bits w (from_bits 0 bs) ≡ bs
to-bits w bs e h = ap (λ n. to_bits n (from_bits 0 bs)) (sym e) ∙ bits-again 0 bs h
