-- The transform is u·A: each of its bits is the sum modulo 2 of the bits of u times the matrix's column. By induction on m: the rows and columns
-- of the two halves. Assumes nothing.
use mathlib.Core.Path.{◌≡◌, refl, sym, ap, ap₂, ◌∙◌}
use mathlib.Core.List.{List, [], ◌∷◌, ◌++◌}
use mathlib.Core.Logic.{◌⊎◌, inl, inr}
use Prim.Native.Nat.{ℕ, zero, suc, ◌+◌, ◌-◌, ◌*◌, ◌/◌, ◌%◌, ◌^◌, ◌≤◌, ◌<◌}
use native.Mathlib.Nat.{two-pow-succ, zero-add, add-zero, add-suc, one-mul, zero-mul, mul-zero, mul-one, div-eq_of_lt, mod-eq_of_lt}
use native.Mathlib.Omega.{arith}
use lib.ListN.{length, get_or, take, drop, get_or-append}
use lib.Seq.{get_or-take, get_or-drop, get_or-append-add, ext_get_or}
use lib.Arith.{digits_div, digits_mod}
use Rattle.laws.specs.Lists.{All}
use Rattle.laws.proofs.Tests.{lt-or}
use Rattle.laws.proofs.Lists.{all_take, all_drop, length-tab, get_d-tab, get_d_zip}
use Rattle.polar.specs.Bits.{Bit, ◌⊕◌, add_bits}
use Rattle.polar.specs.Transform.{transform}
use Rattle.polar.specs.Matrix.{kernel, entry, column, product}
use Rattle.polar.proofs.Bits.{first-half, last-half, add-length}
use Rattle.polar.proofs.Transform.{transform-suc, transform-length}

-- ---- entries by halves

module _ (m i j : ℕ) (hi : i < 2 ^ m) (hj : j < 2 ^ m) where
  low-div : (k : ℕ) → k < 2 ^ m → k / 2 ^ m ≡ 0
  low-div k h = div-eq_of_lt h

  high-div : (k : ℕ) → k < 2 ^ m → (2 ^ m + k) / 2 ^ m ≡ 1
  high-div k h = ap (λ n. (n + k) / 2 ^ m) (sym (one-mul (2 ^ m))) ∙ digits_div 1 h

  high-mod : (k : ℕ) → k < 2 ^ m → (2 ^ m + k) % 2 ^ m ≡ k
  high-mod k h = ap (λ n. (n + k) % 2 ^ m) (sym (one-mul (2 ^ m))) ∙ digits_mod 1 h

  entry-00 : entry (suc m) i j ≡ entry m i j
  unfolding entry kernel
  entry-00 = rw (low-div i hi, low-div j hj, mod-eq_of_lt hi, mod-eq_of_lt hj) (one-mul _)

  entry-01 : entry (suc m) i (2 ^ m + j) ≡ 0
  unfolding entry kernel
  entry-01 = rw (low-div i hi, high-div j hj) (zero-mul _)

  entry-10 : entry (suc m) (2 ^ m + i) j ≡ entry m i j
  unfolding entry kernel
  entry-10 = rw (high-div i hi, high-mod i hi, mod-eq_of_lt hj) (one-mul _)

  entry-11 : entry (suc m) (2 ^ m + i) (2 ^ m + j) ≡ entry m i j
  unfolding entry kernel
  entry-11 = rw (high-div i hi, high-mod i hi, high-mod j hj) (one-mul _)

-- ---- columns by halves

-- the rows from s on
part : ℕ → List ℕ → ℕ → ℕ → ℕ → ℕ
part m u j s zero = 0
part m u j s (suc n) = part m u j s n + get_or u (s + n) 0 * entry m (s + n) j

column-add : (m : ℕ) (u : List ℕ) (j a b : ℕ) → column m u j (a + b) ≡ column m u j a + part m u j a b
unfolding column part
column-add m u j a zero = rw (add-zero a) (sym (add-zero _))
column-add m u j a (suc b) = rw (add-suc a b) (omega (arith, column-add m u j a b))

module _ (m : ℕ) (u : List ℕ) (j : ℕ) (hj : j < 2 ^ m) where
  column-00 : (n : ℕ) → n ≤ 2 ^ m → column (suc m) u j n ≡ column m (take (2 ^ m) u) j n
  unfolding column
  column-00 zero h = refl
  column-00 (suc n) h = ap₂ ◌+◌ (column-00 n (omega arith)) (ap₂ ◌*◌ (sym (get_or-take (2 ^ m) u n 0 h)) (entry-00 m n j h hj))

  column-10 : (n : ℕ) → n ≤ 2 ^ m → part (suc m) u j (2 ^ m) n ≡ column m (drop (2 ^ m) u) j n
  unfolding column part
  column-10 zero h = refl
  column-10 (suc n) h = ap₂ ◌+◌ (column-10 n (omega arith)) (ap₂ ◌*◌ (sym (get_or-drop (2 ^ m) u n 0)) (entry-10 m n j h hj))

  column-01 : (n : ℕ) → n ≤ 2 ^ m → column (suc m) u (2 ^ m + j) n ≡ 0
  unfolding column
  column-01 zero h = refl
  column-01 (suc n) h =
      let e : get_or u n 0 * entry (suc m) n (2 ^ m + j) ≡ 0 = ap (λ x. get_or u n 0 * x) (entry-01 m n j h hj) ∙ mul-zero (get_or u n 0) in
      omega (arith, column-01 n (omega arith))

  column-11 : (n : ℕ) → n ≤ 2 ^ m → part (suc m) u (2 ^ m + j) (2 ^ m) n ≡ column m (drop (2 ^ m) u) j n
  unfolding column part
  column-11 zero h = refl
  column-11 (suc n) h = ap₂ ◌+◌ (column-11 n (omega arith)) (ap₂ ◌*◌ (sym (get_or-drop (2 ^ m) u n 0)) (entry-11 m n j h hj))

-- ---- the transform, bit by bit

add_at : (a b : List ℕ) (i : ℕ) → i < length a → i < length b → get_or (add_bits a b) i 0 ≡ get_or a i 0 ⊕ get_or b i 0
unfolding add_bits
add_at a b i h k = get_d_zip ◌⊕◌ a b i 0 0 0 h k

one_bit : (u : List ℕ) (j : ℕ) → length u ≡ 1 → All Bit u → j < 1 → get_or (transform 0 u) j 0 ≡ column 0 u j 1 % 2
unfolding transform column entry All
one_bit [] j e h l = absurd (omega arith)
one_bit (x ∷ u) zero e h l = omega (arith, mul-one x, h.0)
one_bit (x ∷ u) (suc j) e h l = absurd (omega arith)

-- the whole column, by halves of the rows
whole : (m : ℕ) (u : List ℕ) (j : ℕ) → column (suc m) u j (2 ^ suc m) ≡ column (suc m) u j (2 ^ m) + part (suc m) u j (2 ^ m) (2 ^ m)
whole m u j = ap (column (suc m) u j) (two-pow-succ m) ∙ column-add (suc m) u j (2 ^ m) (2 ^ m)

sums : (x y s t w : ℕ) → x ≡ s % 2 → y ≡ t % 2 → w ≡ s + t → (x + y) % 2 ≡ w % 2
sums x y s t w f g r = omega arith

bit_at : (m : ℕ) (u : List ℕ) (j : ℕ) → length u ≡ 2 ^ m → All Bit u → j < 2 ^ m → get_or (transform m u) j 0 ≡ column m u j (2 ^ m) % 2
bit_at zero u j e h l = one_bit u j e h l
bit_at (suc m) u j e h l =
    go (lt-or j (2 ^ m)) (λ i k. bit_at m (take (2 ^ m) u) i (first-half m u e) (all_take Bit (2 ^ m) u h) k) (λ i k. bit_at m (drop (2 ^ m) u) i (last-half m u e) (all_drop Bit (2 ^ m) u h) k)
  where
    a : List ℕ
    a = transform m (take (2 ^ m) u)

    b : List ℕ
    b = transform m (drop (2 ^ m) u)

    la : length a ≡ 2 ^ m
    la = transform-length m (take (2 ^ m) u) (first-half m u e)

    lb : length b ≡ 2 ^ m
    lb = transform-length m (drop (2 ^ m) u) (last-half m u e)

    ls : length (add_bits a b) ≡ 2 ^ m
    ls = add-length a b (la ∙ sym lb) ∙ la

    go : (j < 2 ^ m) ⊎ (2 ^ m ≤ j) → ((i : ℕ) → i < 2 ^ m → get_or a i 0 ≡ column m (take (2 ^ m) u) i (2 ^ m) % 2) → ((i : ℕ) → i < 2 ^ m → get_or b i 0 ≡ column m (drop (2 ^ m) u) i (2 ^ m) % 2)
        → get_or (transform (suc m) u) j 0 ≡ column (suc m) u j (2 ^ suc m) % 2
    go (inl k) fa fb =
        let p : column (suc m) u j (2 ^ m) ≡ column m (take (2 ^ m) u) j (2 ^ m) = column-00 m u j k (2 ^ m) (omega arith) in
        let q : part (suc m) u j (2 ^ m) (2 ^ m) ≡ column m (drop (2 ^ m) u) j (2 ^ m) = column-10 m u j k (2 ^ m) (omega arith) in
        ap (λ l. get_or l j 0) (transform-suc m u)
        ∙ get_or-append (add_bits a b) b 0 j (omega (arith, ls))
        ∙ add_at a b j (omega (arith, la)) (omega (arith, lb))
        ∙ sums (get_or a j 0) (get_or b j 0) (column m (take (2 ^ m) u) j (2 ^ m)) (column m (drop (2 ^ m) u) j (2 ^ m)) (column (suc m) u j (2 ^ suc m)) (fa j k) (fb j k) (whole m u j ∙ ap₂ ◌+◌ p q)
    go (inr k) fa fb =
        let i : ℕ = j - 2 ^ m in
        let il : i < 2 ^ m = omega (arith, two-pow-succ m) in
        let at : length (add_bits a b) + i ≡ j = omega (arith, ls) in
        let back : 2 ^ m + i ≡ j = omega arith in
        let p : column (suc m) u (2 ^ m + i) (2 ^ m) ≡ 0 = column-01 m u i il (2 ^ m) (omega arith) in
        let q : part (suc m) u (2 ^ m + i) (2 ^ m) (2 ^ m) ≡ column m (drop (2 ^ m) u) i (2 ^ m) = column-11 m u i il (2 ^ m) (omega arith) in
        ap (λ l. get_or l j 0) (transform-suc m u)
        ∙ ap (λ x. get_or (add_bits a b ++ b) x 0) (sym at)
        ∙ get_or-append-add (add_bits a b) b i 0
        ∙ fb i il
        ∙ ap (λ x. x % 2) (sym (whole m u (2 ^ m + i) ∙ ap₂ ◌+◌ p q ∙ zero-add _))
        ∙ ap (λ x. column (suc m) u x (2 ^ suc m) % 2) back

pub transform-product : (m : ℕ) (u : List ℕ) → length u ≡ 2 ^ m → All Bit u → transform m u ≡ product m u
unfolding product
transform-product m u e h =
    ext_get_or 0 (transform m u) (product m u) (transform-length m u e ∙ sym (length-tab (2 ^ m) _))
    (λ j l.
    let k : j < 2 ^ m = omega (arith, transform-length m u e) in
    bit_at m u j e h k ∙ sym (get_d-tab (2 ^ m) _ j 0 k))
