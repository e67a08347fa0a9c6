-- A word's bits and its number are each the other, and bit i is the number halved i times, modulo 2. By induction on the word. Assumes nothing.
use mathlib.Core.Path.{◌≡◌, refl, ap, ap₂, ◌∙◌}
use mathlib.Core.List.{List, [], ◌∷◌}
use Prim.Native.Nat.{ℕ, zero, suc, ◌+◌, ◌*◌, ◌/◌, ◌%◌, ◌^◌, ◌<◌}
use native.Mathlib.Nat.{not-suc-le-zero, le_of_suc-le-suc}
use native.Mathlib.Omega.{arith}
use lib.ListN.{length, get_or}
use lib.Pow.{shr-shr}
use Rattle.laws.specs.Lists.{All}
use Rattle.polar.specs.Bits.{Bit, number}
use Rattle.polar.proofs.Bits.{mod-bit}
use Rattle.heights.specs.Workspace.{bits_of}

pub bits-length : (n w : ℕ) → length (bits_of n w) ≡ n
unfolding bits_of
bits-length zero w = refl
bits-length (suc n) w = ap suc (bits-length n (w / 2))

pub bits-bits : (n w : ℕ) → All Bit (bits_of n w)
unfolding bits_of All
bits-bits zero w = tt
bits-bits (suc n) w = (mod-bit w, bits-bits n (w / 2))

pub bits_back : (c : List ℕ) → All Bit c → bits_of (length c) (number c) ≡ c
unfolding bits_of All number
bits_back [] h = refl
bits_back (b ∷ c) h =
    let a = h.0 in
    let q : (b + 2 * number c) / 2 ≡ number c = omega arith in
    let r : (b + 2 * number c) % 2 ≡ b = omega arith in
    ap₂ (λ x y. x ∷ bits_of (length c) y) r q ∙ ap (λ x. b ∷ x) (bits_back c h.1)

pub bits_at : (n w i : ℕ) → i < n → get_or (bits_of n w) i 0 ≡ w / 2 ^ i % 2
unfolding bits_of
bits_at zero w i h = absurd (not-suc-le-zero h)
bits_at (suc n) w zero h = omega arith
bits_at (suc n) w (suc i) h = bits_at n (w / 2) i (le_of_suc-le-suc h) ∙ ap (λ x. x % 2) (shr-shr w 1 i ∙ ap (λ k. w / 2 ^ k) (omega arith))
