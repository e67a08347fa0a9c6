-- 002's Theorem 1: the costs of the bits of u add up to the discrepancy of their word. So R is the discrepancy with the other sign. By
-- induction on m: the first half of the bits goes by Q, the last by P, and Lemma 1 joins them. Assumes nothing.
use mathlib.Core.Path.{◌≡◌, refl, sym, ap, ap₂, ◌∙◌}
use mathlib.Core.List.{List, [], ◌∷◌}
use mathlib.Core.Logic.{◌⊎◌, inl, inr}
use Prim.Native.Nat.{ℕ, zero, suc, ◌+◌, ◌-◌, ◌^◌, ◌≤◌, ◌<◌}
use native.Mathlib.Nat.{two-pow-succ, add-zero, add-suc, zero-add, add_assoc}
use native.Mathlib.Omega.{arith}
use lib.ListN.{length, get_or, take, drop, take-append-drop}
use lib.Seq.{get_or-take, get_or-drop, take-take}
use lib.IntN.{ℤ, pos, neg_ℤ, nat_abs, ◌+ℤ◌, neg_ℤ-+ℤ}
use borrow.Author.Tests.{lt-ltb, le-ltb}
use Rattle.laws.specs.Lists.{All}
use Rattle.laws.proofs.Tests.{lt-or}
use Rattle.laws.proofs.Lists.{all_take, all_drop, drop-take}
use Rattle.laws.proofs.Integers.{neg-abs}
use Rattle.polar.specs.Bits.{Bit, add_bits}
use Rattle.polar.specs.Transform.{transform}
use Rattle.polar.specs.Soft.{Qs, Ps, cost, discrepancy, ellipsoidal_weight}
use Rattle.polar.specs.Value.{value, costs, penalties, R}
use Rattle.polar.proofs.Bits.{first-half, last-half, add-length}
use Rattle.polar.proofs.Transform.{transform-suc, transform-length, transform-bits}
use Rattle.polar.proofs.Soft.{penalty-cost, lemma1, weight-discrepancy, discrepancy-append, Qs-length, Ps-length}

pub penalties-costs : (m : ℕ) (ys : List ℤ) (u : List ℕ) (i n : ℕ) → penalties m ys u i n ≡ neg_ℤ (pos (costs m ys u i n))
unfolding penalties costs
penalties-costs m ys u i zero = refl
penalties-costs m ys u i (suc n) =
    ap₂ ◌+ℤ◌ (penalties-costs m ys u i n) (penalty-cost (get_or u (i + n) 0) (value m ys u (i + n)))
    ∙ sym (neg_ℤ-+ℤ (pos (costs m ys u i n)) (pos (cost (get_or u (i + n) 0) (value m ys u (i + n)))))

pub R-costs : (m : ℕ) (ys : List ℤ) (u : List ℕ) → R m ys u ≡ neg_ℤ (pos (costs m ys u 0 (length u)))
unfolding R
R-costs m ys u = penalties-costs m ys u 0 (length u)

pub costs-add : (m : ℕ) (ys : List ℤ) (u : List ℕ) (i a b : ℕ) → costs m ys u i (a + b) ≡ costs m ys u i a + costs m ys u (i + a) b
unfolding costs
costs-add m ys u i a zero = rw (add-zero a) (sym (add-zero _))
costs-add m ys u i a (suc b) = rw (add-suc a b, ← add_assoc i a b) (omega (arith, costs-add m ys u i a b))

-- ---- the first half of the bits goes by Q, the last by P

pub value_low : (m : ℕ) (ys : List ℤ) (u : List ℕ) (i : ℕ) → i < 2 ^ m →
    value (suc m) ys u i ≡ value m (Qs (take (2 ^ m) ys) (drop (2 ^ m) ys)) (take (2 ^ m) u) i
unfolding value
value_low m ys u i h = rw (lt-ltb i (2 ^ m) h)

pub value-high : (m : ℕ) (ys : List ℤ) (u : List ℕ) (i : ℕ) →
    value (suc m) ys u (2 ^ m + i) ≡ value m (Ps (transform m (take (2 ^ m) u)) (take (2 ^ m) ys) (drop (2 ^ m) ys)) (drop (2 ^ m) u) i
unfolding value
value-high m ys u i = let e : 2 ^ m + i - 2 ^ m ≡ i = omega arith in rw (le-ltb (2 ^ m + i) (2 ^ m) (omega arith), e)

pub costs-low : (m : ℕ) (ys : List ℤ) (u : List ℕ) (i n : ℕ) → i + n ≤ 2 ^ m →
    costs (suc m) ys u i n ≡ costs m (Qs (take (2 ^ m) ys) (drop (2 ^ m) ys)) (take (2 ^ m) u) i n
unfolding costs
costs-low m ys u i zero h = refl
costs-low m ys u i (suc n) h =
    ap₂ ◌+◌ (costs-low m ys u i n (omega arith))
    (ap₂ cost (sym (get_or-take (2 ^ m) u (i + n) 0 (omega arith))) (value_low m ys u (i + n) (omega arith)))

pub costs-high : (m : ℕ) (ys : List ℤ) (u : List ℕ) (i n : ℕ) →
    costs (suc m) ys u (2 ^ m + i) n ≡ costs m (Ps (transform m (take (2 ^ m) u)) (take (2 ^ m) ys) (drop (2 ^ m) ys)) (drop (2 ^ m) u) i n
unfolding costs
costs-high m ys u i zero = refl
costs-high m ys u i (suc n) =
    rw (add_assoc (2 ^ m) i n) (ap₂ ◌+◌ (costs-high m ys u i n) (ap₂ cost (sym (get_or-drop (2 ^ m) u (i + n) 0)) (value-high m ys u (i + n))))

-- ---- values and costs go by the bits passed alone

-- the first t bits are the same
abbrev pub Same : ℕ → List ℕ → List ℕ → Type 0
Same t u v = take t u ≡ take t v

pub same-less : (n t : ℕ) (u v : List ℕ) → n ≤ t → Same t u v → Same n u v
same-less n t u v h e = sym (take-take n t u h) ∙ ap (take n) e ∙ take-take n t v h

pub value_same : (m : ℕ) (ys : List ℤ) (u v : List ℕ) (i : ℕ) → Same i u v → value m ys u i ≡ value m ys v i
value_same zero ys u v i e = unfold value in refl
value_same (suc m) ys u v i e = go (lt-or i (2 ^ m)) (λ zs x y k f. value_same m zs x y k f)
  where
    h : ℕ
    h = 2 ^ m

    go : (i < 2 ^ m) ⊎ (2 ^ m ≤ i) → ((zs : List ℤ) (x y : List ℕ) (k : ℕ) → Same k x y → value m zs x k ≡ value m zs y k) → value (suc m) ys u i ≡ value (suc m) ys v i
    go (inl l) ih =
        value_low m ys u i l
        ∙ ih (Qs (take h ys) (drop h ys)) (take h u) (take h v) i (take-take i h u (omega arith) ∙ e ∙ sym (take-take i h v (omega arith)))
        ∙ sym (value_low m ys v i l)
    go (inr l) ih =
        let k : ℕ = i - 2 ^ m in
        let back : 2 ^ m + k ≡ i = omega arith in
        ap (value (suc m) ys u) (sym back)
        ∙ value-high m ys u k
        ∙ ap (λ w. value m (Ps (transform m w) (take h ys) (drop h ys)) (drop h u) k) (same-less h i u v l e)
        ∙ ih (Ps (transform m (take h v)) (take h ys) (drop h ys)) (drop h u) (drop h v) k (sym (drop-take h i u) ∙ ap (drop h) e ∙ drop-take h i v)
        ∙ sym (value-high m ys v k)
        ∙ ap (value (suc m) ys v) back

pub costs-same : (m : ℕ) (ys : List ℤ) (u v : List ℕ) (i n t : ℕ) → i + n ≤ t → Same t u v → costs m ys u i n ≡ costs m ys v i n
unfolding costs
costs-same m ys u v i zero t h e = refl
costs-same m ys u v i (suc n) t h e =
    ap₂ ◌+◌ (costs-same m ys u v i n t (omega arith) e)
    (ap₂ cost (sym (get_or-take t u (i + n) 0 (omega arith)) ∙ ap (λ l. get_or l (i + n) 0) e ∙ get_or-take t v (i + n) 0 (omega arith))
    (value_same m ys u v (i + n) (same-less (i + n) t u v (omega arith) e)))

-- ---- 002's Theorem 1

one_bit : (ys : List ℤ) (u : List ℕ) → length ys ≡ 1 → length u ≡ 1 → costs 0 ys u 0 1 ≡ discrepancy (transform 0 u) ys
unfolding costs value discrepancy transform
one_bit [] u l k = absurd (omega arith)
one_bit (y ∷ ys) [] l k = absurd (omega arith)
one_bit (y ∷ []) (c ∷ []) l k = zero-add _ ∙ sym (add-zero _)
one_bit (y ∷ []) (c ∷ d ∷ u) l k = absurd (omega arith)
one_bit (y ∷ z ∷ ys) (c ∷ u) l k = absurd (omega arith)

pub theorem1 : (m : ℕ) (ys : List ℤ) (u : List ℕ) → length ys ≡ 2 ^ m → length u ≡ 2 ^ m → All Bit u →
    costs m ys u 0 (2 ^ m) ≡ discrepancy (transform m u) ys
theorem1 zero ys u l k h = one_bit ys u l k
theorem1 (suc m) ys u l k h =
    let n : ℕ = 2 ^ m in
    let a : List ℤ = take n ys in
    let b : List ℤ = drop n ys in
    let v : List ℕ = transform m (take n u) in
    let w : List ℕ = transform m (drop n u) in
    let la : length a ≡ n = first-half m ys l in
    let lb : length b ≡ n = last-half m ys l in
    let lv : length v ≡ n = transform-length m (take n u) (first-half m u k) in
    let lw : length w ≡ n = transform-length m (drop n u) (last-half m u k) in
    let hv : All Bit (take n u) = all_take Bit n u h in
    let hw : All Bit (drop n u) = all_drop Bit n u h in
    ap (costs (suc m) ys u 0) (two-pow-succ m)
    ∙ costs-add (suc m) ys u 0 n n
    ∙ ap₂ ◌+◌
    (costs-low m ys u 0 n (omega arith) ∙ theorem1 m (Qs a b) (take n u) (Qs-length a b (la ∙ sym lb) ∙ la) (first-half m u k) hv)
    (ap (λ i. costs (suc m) ys u i n) (zero-add n ∙ sym (add-zero n)) ∙ costs-high m ys u 0 n ∙ theorem1 m (Ps v a b) (drop n u) (Ps-length v a b (lv ∙ sym la) (la ∙ sym lb) ∙ lv) (last-half m u k) hw)
    ∙ lemma1 v w a b (lv ∙ sym lw) (lv ∙ sym la) (lv ∙ sym lb) (transform-bits m (take n u) hv) (transform-bits m (drop n u) hw)
    ∙ sym (discrepancy-append (add_bits v w) w a b (add-length v w (lv ∙ sym lw) ∙ lv ∙ sym la))
    ∙ ap₂ discrepancy (sym (transform-suc m u)) (take-append-drop n ys)

-- on a full path R and the discrepancy of its word agree
pub R-word : (m : ℕ) (ys : List ℤ) (u : List ℕ) → length ys ≡ 2 ^ m → length u ≡ 2 ^ m → All Bit u → R m ys u ≡ neg_ℤ (pos (discrepancy (transform m u) ys))
R-word m ys u l k h = R-costs m ys u ∙ ap (λ n. neg_ℤ (pos (costs m ys u 0 n))) k ∙ ap (λ n. neg_ℤ (pos n)) (theorem1 m ys u l k h)

pub R-discrepancy : (m : ℕ) (ys : List ℤ) (u : List ℕ) → length ys ≡ 2 ^ m → length u ≡ 2 ^ m → All Bit u → nat_abs (R m ys u) ≡ discrepancy (transform m u) ys
R-discrepancy m ys u l k h = ap nat_abs (R-word m ys u l k h) ∙ neg-abs (pos (discrepancy (transform m u) ys))

-- 002's Theorem 1 in its own words: R is the ellipsoidal weight of the word
pub R-weight : (m : ℕ) (ys : List ℤ) (u : List ℕ) → length ys ≡ 2 ^ m → length u ≡ 2 ^ m → All Bit u → R m ys u ≡ ellipsoidal_weight (transform m u) ys
R-weight m ys u l k h = R-word m ys u l k h ∙ sym (weight-discrepancy (transform m u) ys)
