-- The numbers of words. The number of a sum of words is the exclusive or of their numbers, so bit d at a position adds d times the row of the
-- matrix: by linearity of the transform. Assumes nothing.
use mathlib.Core.Path.{◌≡◌, refl, sym, ap, ap₂, ◌∙◌}
use mathlib.Core.List.{List, [], ◌∷◌, ◌++◌, append_assoc, zip_with}
use Prim.Native.Nat.{ℕ, zero, suc, ◌+◌, ◌-◌, ◌*◌, ◌%◌, ◌^◌, ◌≤◌, ◌<◌}
use native.Mathlib.Nat.{mul-zero, mul-one, two-pow-succ}
use native.Mathlib.Omega.{arith}
use lib.Bits.{bit_xor, xor_zero_r, xor_block}
use lib.Dec.{eqb, eqb→eq}
use lib.ListN.{length, replicate, length-append, length-replicate}
use Rattle.laws.specs.Lists.{All}
use Rattle.laws.proofs.Lists.{all_append, all_replicate}
use Rattle.laws.proofs.Sets.{one-xor}
use Rattle.polar.specs.Bits.{Bit, add_bits, number}
use Rattle.polar.specs.Transform.{transform}
use Rattle.polar.proofs.Bits.{add-append}
use Rattle.polar.proofs.Transform.{transform-length, transform-bits, transform-linear}
use Rattle.outer.specs.Search.{unit, row_of}
use Rattle.outer.proofs.Rows.{every-at, row_any}

number-add : (a b : List ℕ) → length a ≡ length b → All Bit a → All Bit b → number (add_bits a b) ≡ bit_xor (number a) (number b)
unfolding number add_bits zip_with All
number-add [] [] e h k = refl
number-add [] (y ∷ b) e h k = absurd (omega arith)
number-add (x ∷ a) [] e h k = absurd (omega arith)
number-add (x ∷ a) (y ∷ b) e h k =
    let A : ℕ = number a in
    let C : ℕ = number b in
    let p : A * 2 ^ 1 + x ≡ x + 2 * A = omega arith in
    let q : C * 2 ^ 1 + y ≡ y + 2 * C = omega arith in
    omega (arith, one-xor x y h.0 k.0, number-add a b (omega arith) h.1 k.1, ap₂ bit_xor (sym p) (sym q), xor_block 1 A C x y h.0 k.0)

pub number_lt : (a : List ℕ) → All Bit a → number a < 2 ^ length a
unfolding number All
number_lt [] h = omega arith
number_lt (x ∷ a) h = omega (arith, number_lt a h.1, h.0, two-pow-succ (length a))

-- ---- bits so far, zeros after them

abbrev padded : ℕ → List ℕ → List ℕ
padded j bs = bs ++ replicate (2 ^ j - length bs) 0

-- the number of the word that they make
abbrev pub word : ℕ → List ℕ → ℕ
word j bs = number (transform j (padded j bs))

-- no bits make the word 0: computed at each height
pub word_none : (j : ℕ) → j ≤ 5 → word j [] ≡ 0
unfolding transform number add_bits zip_with
word_none j h = eqb→eq (word j []) 0 (every-at (λ (i : ℕ). eqb (word i []) 0) 6 tt j (omega arith))

add-zeros : (a : List ℕ) → All Bit a → add_bits a (replicate (length a) 0) ≡ a
unfolding add_bits zip_with All
add-zeros [] h = refl
add-zeros (x ∷ a) h = let e : (x + 0) % 2 ≡ x = omega (arith, h.0) in ap₂ (λ (y : ℕ) (l : List ℕ). y ∷ l) e (add-zeros a h.1)

module _ (j : ℕ) (bs : List ℕ) (hj : j ≤ 5) (hn : length bs < 2 ^ j) (hb : All Bit bs) where
  zs : List ℕ
  zs = replicate (2 ^ j - suc (length bs)) 0

  padded-bits : All Bit (padded j bs)
  padded-bits = all_append Bit bs (replicate (2 ^ j - length bs) 0) hb (all_replicate Bit (2 ^ j - length bs) 0 (omega arith))

  padded-length : length (padded j bs) ≡ 2 ^ j
  padded-length = length-append bs (replicate (2 ^ j - length bs) 0) ∙ omega (arith, length-replicate {A = ℕ} (2 ^ j - length bs) 0)

  padded-zero : padded j bs ≡ bs ++ 0 ∷ zs
  unfolding zs
  padded-zero = let e : 2 ^ j - length bs ≡ suc (2 ^ j - suc (length bs)) = omega arith in ap (λ n. bs ++ replicate n 0) e

  padded-more : (d : ℕ) → padded j (bs ++ d ∷ []) ≡ bs ++ d ∷ zs
  unfolding zs
  padded-more d =
      let e : length (bs ++ d ∷ []) ≡ suc (length bs) = length-append bs (d ∷ []) ∙ omega arith in
      ap (λ n. (bs ++ d ∷ []) ++ replicate (2 ^ j - n) 0) e ∙ append_assoc bs (d ∷ []) zs

  zs-bits : All Bit zs
  unfolding zs
  zs-bits = all_replicate Bit (2 ^ j - suc (length bs)) 0 (omega arith)

  zs-length : length zs ≡ 2 ^ j - suc (length bs)
  unfolding zs
  zs-length = length-replicate {A = ℕ} (2 ^ j - suc (length bs)) 0

  one : List ℕ
  one = unit (2 ^ j) (length bs)

  one-length : length one ≡ 2 ^ j
  unfolding one unit
  one-length =
      length-append (replicate (length bs) 0) (1 ∷ replicate (2 ^ j - suc (length bs)) 0)
      ∙ omega (arith, length-replicate {A = ℕ} (length bs) 0, length-replicate {A = ℕ} (2 ^ j - suc (length bs)) 0)

  one-bits : All Bit one
  unfolding one unit All
  one-bits =
      all_append Bit (replicate (length bs) 0) (1 ∷ replicate (2 ^ j - suc (length bs)) 0) (all_replicate Bit (length bs) 0 (omega arith))
      (omega arith, all_replicate Bit (2 ^ j - suc (length bs)) 0 (omega arith))

  -- bit 1 at the next position is the unit added
  padded-one : add_bits (padded j bs) one ≡ padded j (bs ++ 1 ∷ [])
  unfolding one unit add_bits zip_with zs
  padded-one =
      ap (λ (l : List ℕ). add_bits l one) padded-zero
      ∙ add-append bs (0 ∷ zs) (replicate (length bs) 0) (1 ∷ zs) (sym (length-replicate {A = ℕ} (length bs) 0))
      ∙ ap₂ (λ (l r : List ℕ). l ++ 1 ∷ r) (add-zeros bs hb) (ap (add_bits zs) (ap (λ n. replicate n 0) (sym zs-length)) ∙ add-zeros zs zs-bits)
      ∙ sym (padded-more 1)

  -- the number of the word with bit d there
  pub word_more : (d : ℕ) → Bit d → bit_xor (word j bs) (row_of (length bs) * d) ≡ word j (bs ++ d ∷ [])
  unfolding one
  word_more zero h =
      ap (bit_xor (word j bs)) (mul-zero (row_of (length bs))) ∙ xor_zero_r (word j bs) ∙ ap (λ (l : List ℕ). number (transform j l)) (padded-zero ∙ sym (padded-more 0))
  word_more (suc zero) h =
      ap (bit_xor (word j bs)) (mul-one (row_of (length bs)) ∙ sym (row_any j (length bs) hj hn))
      ∙ sym (number-add (transform j (padded j bs)) (transform j one) (transform-length j (padded j bs) padded-length ∙ sym (transform-length j one one-length)) (transform-bits j (padded j bs) padded-bits) (transform-bits j one one-bits))
      ∙ ap number (sym (transform-linear j (padded j bs) one padded-length one-length))
      ∙ ap (λ (l : List ℕ). number (transform j l)) padded-one
  word_more (suc (suc d)) h = absurd (omega arith)
