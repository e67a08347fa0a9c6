-- Laws of bits and of the sum of words: position by position. Assumes nothing.
use mathlib.Core.Path.{◌≡◌, refl, sym, ap, ap₂, ◌∙◌}
use mathlib.Core.List.{List, [], ◌∷◌, ◌++◌, zip_with}
use Prim.Native.Nat.{ℕ, zero, suc, ◌+◌, ◌/◌, ◌%◌, ◌^◌}
use native.Mathlib.Nat.{two-pow-succ}
use native.Mathlib.Omega.{arith}
use lib.ListN.{length, take, drop, length-take, length-drop}
use Rattle.laws.specs.Lists.{All}
use Rattle.laws.proofs.Lists.{length-zip, take-zip, drop-zip, zip-append}
use Rattle.polar.specs.Bits.{Bit, ◌⊕◌, add_bits, to_bits}

pub mod-bit : (n : ℕ) → Bit (n % 2)
mod-bit n = omega arith

-- ---- the halves of a list of twice the length

module _ {A : Type 0} (m : ℕ) (u : List A) (e : length u ≡ 2 ^ suc m) where
  pub first-half : length (take (2 ^ m) u) ≡ 2 ^ m
  first-half = omega (arith, length-take (2 ^ m) u, two-pow-succ m)

  pub last-half : length (drop (2 ^ m) u) ≡ 2 ^ m
  last-half = omega (arith, length-drop (2 ^ m) u, two-pow-succ m)

-- ---- the sum of two words

pub add-bits : (a b : List ℕ) → All Bit (add_bits a b)
unfolding add_bits zip_with All
add-bits [] b = tt
add-bits (x ∷ a) [] = tt
add-bits (x ∷ a) (y ∷ b) = (mod-bit (x + y), add-bits a b)

pub add-length : (a b : List ℕ) → length a ≡ length b → length (add_bits a b) ≡ length a
unfolding add_bits
add-length a b e = length-zip ◌⊕◌ a b ∙ omega arith

pub add-take : (n : ℕ) (a b : List ℕ) → take n (add_bits a b) ≡ add_bits (take n a) (take n b)
unfolding add_bits
add-take n a b = take-zip ◌⊕◌ n a b

pub add-drop : (n : ℕ) (a b : List ℕ) → drop n (add_bits a b) ≡ add_bits (drop n a) (drop n b)
unfolding add_bits
add-drop n a b = drop-zip ◌⊕◌ n a b

pub add-append : (a c b d : List ℕ) → length a ≡ length b → add_bits (a ++ c) (b ++ d) ≡ add_bits a b ++ add_bits c d
unfolding add_bits
add-append a c b d e = zip-append ◌⊕◌ a c b d e

-- sums of sums, regrouped
pub add-cross : (a b c d : List ℕ) → add_bits (add_bits a b) (add_bits c d) ≡ add_bits (add_bits a c) (add_bits b d)
unfolding add_bits zip_with
add-cross [] b c d = refl
add-cross (x ∷ a) [] [] d = refl
add-cross (x ∷ a) [] (z ∷ c) d = refl
add-cross (x ∷ a) (y ∷ b) [] d = refl
add-cross (x ∷ a) (y ∷ b) (z ∷ c) [] = refl
add-cross (x ∷ a) (y ∷ b) (z ∷ c) (w ∷ d) = ap₂ (λ (h : ℕ) (t : List ℕ). h ∷ t) (cross x y z w) (add-cross a b c d)
  where
    once : (a b : ℕ) → (a % 2 + b % 2) % 2 ≡ (a + b) % 2
    once a b = omega arith

    cross : (x y z w : ℕ) → (x ⊕ y) ⊕ (z ⊕ w) ≡ (x ⊕ z) ⊕ (y ⊕ w)
    cross x y z w =
        let r : x + y + (z + w) ≡ x + z + (y + w) = omega arith in
        once (x + y) (z + w) ∙ ap (λ n. n % 2) r ∙ sym (once (x + z) (y + w))

-- a word added twice is gone
pub add_back : (a b : List ℕ) → length a ≡ length b → All Bit a → add_bits (add_bits a b) b ≡ a
unfolding add_bits zip_with All
add_back [] b e h = refl
add_back (x ∷ a) [] e h = absurd (omega arith)
add_back (x ∷ a) (y ∷ b) e h = ap₂ (λ (h : ℕ) (t : List ℕ). h ∷ t) (back x y h.0) (add_back a b (omega arith) h.1)
  where
    back : (x y : ℕ) → Bit x → (x ⊕ y) ⊕ y ≡ x
    back x y h = omega arith

-- ---- a number's bits

pub to_bits-bits : (w x : ℕ) → All Bit (to_bits w x)
unfolding to_bits All
to_bits-bits zero x = tt
to_bits-bits (suc w) x = (mod-bit (x / 2 ^ w), to_bits-bits w x)

pub to_bits-length : (w x : ℕ) → length (to_bits w x) ≡ w
unfolding to_bits
to_bits-length zero x = refl
to_bits-length (suc w) x = ap suc (to_bits-length w x)
