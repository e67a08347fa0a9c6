-- A node's values: which half holds an offset, what the values go by, and the block law: the penalties of a block's bits add up to the
-- discrepancy of its word from the values of its node. By induction on the steps down. Assumes nothing.
use mathlib.Core.Path.{◌≡◌, refl, sym, ap, ap₂, ◌∙◌, subst}
use mathlib.Core.List.{List}
use mathlib.Core.Logic.{◌⊎◌, inl, inr}
use Prim.Native.Nat.{ℕ, zero, suc, ◌+◌, ◌-◌, ◌*◌, ◌/◌, ◌%◌, ◌^◌, ◌≤◌, ◌<◌}
use native.Mathlib.Nat.{two-pow-succ, zero-add, zero-mul, add-mul, mul-le-mul_right, div-add-mod'}
use native.Mathlib.Omega.{arith}
use lib.ListN.{length, take, drop, length-drop}
use lib.Seq.{drop-drop, take_all, length-take-le}
use lib.IntN.{ℤ, pos, neg_ℤ}
use lib.Arith.{digits_lt}
use lib.Pow.{pow-add, pow_pos}
use lib.Dec.{ltb}
use borrow.Author.Tests.{lt-ltb, le-ltb}
use Rattle.laws.specs.Lists.{All}
use Rattle.laws.proofs.Tests.{cond-case, lt-or}
use Rattle.laws.proofs.Lists.{all_drop, drop-take}
use Rattle.polar.specs.Bits.{Bit}
use Rattle.polar.specs.Transform.{transform}
use Rattle.polar.specs.Soft.{Qs, Ps, discrepancy}
use Rattle.polar.specs.Value.{penalties, costs}
use Rattle.polar.specs.Node.{rest, rest_bits, first, child, node}
use Rattle.polar.proofs.Bits.{first-half, last-half}
use Rattle.polar.proofs.Transform.{transform-length}
use Rattle.polar.proofs.Soft.{Qs-length, Ps-length}
use Rattle.polar.proofs.Value.{costs-low, costs-high, penalties-costs, theorem1, Same, same-less}

-- ---- which half

pub rest-low : (m t : ℕ) → t < 2 ^ m → rest m t ≡ t
unfolding rest
rest-low m t h = rw (lt-ltb t (2 ^ m) h)

pub rest-high : (m t : ℕ) → 2 ^ m ≤ t → rest m t ≡ t - 2 ^ m
unfolding rest
rest-high m t h = rw (le-ltb t (2 ^ m) h)

pub rest-zero : (m : ℕ) → rest m 0 ≡ 0
rest-zero m = rest-low m 0 (pow_pos m)

pub rest-less : (m t : ℕ) → t < 2 ^ suc m → rest m t < 2 ^ m
rest-less m t h = go (lt-or t (2 ^ m))
  where
    go : (t < 2 ^ m) ⊎ (2 ^ m ≤ t) → rest m t < 2 ^ m
    go (inl l) = omega (arith, rest-low m t l)
    go (inr l) = omega (arith, rest-high m t l, two-pow-succ m)

pub rest-pos : (m t : ℕ) → 0 < rest m t → 0 < t
rest-pos m t h = go (lt-or t (2 ^ m))
  where
    go : (t < 2 ^ m) ⊎ (2 ^ m ≤ t) → 0 < t
    go (inl l) = omega (arith, rest-low m t l)
    go (inr l) = omega (arith, pow_pos m)

pub rest_bits-low : (m t : ℕ) (u : List ℕ) → t < 2 ^ m → rest_bits m t u ≡ u
unfolding rest_bits
rest_bits-low m t u h = rw (lt-ltb t (2 ^ m) h)

pub rest_bits-high : (m t : ℕ) (u : List ℕ) → 2 ^ m ≤ t → rest_bits m t u ≡ drop (2 ^ m) u
unfolding rest_bits
rest_bits-high m t u h = rw (le-ltb t (2 ^ m) h)

pub rest-bits : (m t : ℕ) (u : List ℕ) → All Bit u → All Bit (rest_bits m t u)
unfolding rest_bits
rest-bits m t u h = cond-case (All Bit) (ltb t (2 ^ m)) (λ _. h) (λ _. all_drop Bit (2 ^ m) u h)

pub child-low : (m t : ℕ) (c : List ℕ) (ys : List ℤ) → t < 2 ^ m → child m t c ys ≡ Qs (take (2 ^ m) ys) (drop (2 ^ m) ys)
unfolding child
child-low m t c ys h = rw (lt-ltb t (2 ^ m) h)

pub child-high : (m t : ℕ) (c : List ℕ) (ys : List ℤ) → 2 ^ m ≤ t → child m t c ys ≡ Ps c (take (2 ^ m) ys) (drop (2 ^ m) ys)
unfolding child
child-high m t c ys h = rw (le-ltb t (2 ^ m) h)

-- the word of the first half matters in the last half alone
pub child-word : (m t : ℕ) (c e : List ℕ) (ys : List ℤ) → (2 ^ m ≤ t → c ≡ e) → child m t c ys ≡ child m t e ys
child-word m t c e ys h = go (lt-or t (2 ^ m))
  where
    go : (t < 2 ^ m) ⊎ (2 ^ m ≤ t) → child m t c ys ≡ child m t e ys
    go (inl l) = child-low m t c ys l ∙ sym (child-low m t e ys l)
    go (inr l) = ap (λ x. child m t x ys) (h l)

pub child-length : (m t : ℕ) (u : List ℕ) (ys : List ℤ) → length ys ≡ 2 ^ suc m → (2 ^ m ≤ t → 2 ^ m ≤ length u) → length (child m t (first m u) ys) ≡ 2 ^ m
child-length m t u ys e h = go (lt-or t (2 ^ m))
  where
    a : length (take (2 ^ m) ys) ≡ 2 ^ m
    a = first-half m ys e

    b : length (drop (2 ^ m) ys) ≡ 2 ^ m
    b = last-half m ys e

    go : (t < 2 ^ m) ⊎ (2 ^ m ≤ t) → length (child m t (first m u) ys) ≡ 2 ^ m
    go (inl l) = ap length (child-low m t (first m u) ys l) ∙ Qs-length (take (2 ^ m) ys) (drop (2 ^ m) ys) (a ∙ sym b) ∙ a
    go (inr l) =
        let f : length (first m u) ≡ 2 ^ m = transform-length m (take (2 ^ m) u) (length-take-le (2 ^ m) u (h l)) in
        ap length (child-high m t (first m u) ys l) ∙ Ps-length (first m u) (take (2 ^ m) ys) (drop (2 ^ m) ys) (f ∙ sym a) (a ∙ sym b) ∙ f

-- ---- a node starts at s

-- s is where a node starts, d steps below height m
unfoldable pub Starts : ℕ → ℕ → ℕ → Type 0
Starts zero m s = s ≡ 0
Starts (suc d) zero s = ⊥
Starts (suc d) (suc m) s = Starts d m (rest m s)

pub starts-fits : (d j m s : ℕ) → m ≡ d + j → Starts d m s → s + 2 ^ j ≤ 2 ^ m
unfolding Starts
starts-fits zero j m s e h = let q : j ≡ m = omega arith in rw q (omega arith)
starts-fits (suc d) j zero s e h = absurd h
starts-fits (suc d) j (suc m) s e h = go (lt-or s (2 ^ m)) (starts-fits d j m (rest m s) (omega arith) h)
  where
    go : (s < 2 ^ m) ⊎ (2 ^ m ≤ s) → rest m s + 2 ^ j ≤ 2 ^ m → s + 2 ^ j ≤ 2 ^ suc m
    go (inl l) f = omega (arith, rest-low m s l, two-pow-succ m)
    go (inr l) f = omega (arith, rest-high m s l, two-pow-succ m)

-- the k-th node of height j starts at k · 2^j
pub starts-of : (d j m k : ℕ) → m ≡ d + j → k < 2 ^ d → Starts d m (k * 2 ^ j)
unfolding Starts
starts-of zero j m k e l = let z : k ≡ 0 = omega arith in rw (z, zero-mul (2 ^ j))
starts-of (suc d) j zero k e l = absurd (omega arith)
starts-of (suc d) j (suc m) k e l = go (lt-or k (2 ^ d)) (λ i h. starts-of d j m i em h)
  where
    em : m ≡ d + j
    em = omega arith

    whole : 2 ^ m ≡ 2 ^ d * 2 ^ j
    whole = ap (λ n. 2 ^ n) em ∙ pow-add 2 d j

    go : (k < 2 ^ d) ⊎ (2 ^ d ≤ k) → ((i : ℕ) → i < 2 ^ d → Starts d m (i * 2 ^ j)) → Starts d m (rest m (k * 2 ^ j))
    go (inl h) ih =
        let lt : k * 2 ^ j < 2 ^ m = omega (arith, digits_lt h (pow_pos j), whole) in
        subst (Starts d m) (sym (rest-low m (k * 2 ^ j) lt)) (ih k h)
    go (inr h) ih =
        let i : ℕ = k - 2 ^ d in
        let p : k ≡ 2 ^ d + i = omega arith in
        let q : k * 2 ^ j ≡ 2 ^ d * 2 ^ j + i * 2 ^ j = ap (λ n. n * 2 ^ j) p ∙ add-mul (2 ^ d) i (2 ^ j) in
        let le : 2 ^ m ≤ k * 2 ^ j = omega (arith, whole) in
        let r : rest m (k * 2 ^ j) ≡ i * 2 ^ j = rest-high m (k * 2 ^ j) le ∙ omega (arith, whole) in
        subst (Starts d m) (sym r) (ih i (omega (arith, two-pow-succ d)))

-- what a book's block knows: it starts at a multiple of its length, within n
pub starts-aligned : (d j m s : ℕ) → m ≡ d + j → s % 2 ^ j ≡ 0 → s + 2 ^ j ≤ 2 ^ m → Starts d m s
starts-aligned d j m s e a f =
    let k : ℕ = s / 2 ^ j in
    let q : k * 2 ^ j ≡ s = omega (arith, div-add-mod' s (2 ^ j)) in
    let whole : 2 ^ m ≡ 2 ^ d * 2 ^ j = ap (λ n. 2 ^ n) e ∙ pow-add 2 d j in
    subst (Starts d m) q (starts-of d j m k e (go k q whole (lt-or k (2 ^ d))))
  where
    go : (k : ℕ) → k * 2 ^ j ≡ s → 2 ^ m ≡ 2 ^ d * 2 ^ j → (k < 2 ^ d) ⊎ (2 ^ d ≤ k) → k < 2 ^ d
    go k q w (inl l) = l
    go k q w (inr l) = absurd (omega (arith, mul-le-mul_right (2 ^ j) l, pow_pos j))

-- ---- bits from t on do not matter

same_first : (m t : ℕ) (u v : List ℕ) → Same t u v → 2 ^ m ≤ t → first m u ≡ first m v
same_first m t u v e h = ap (transform m) (same-less (2 ^ m) t u v h e)

pub same-child : (m t : ℕ) (u v : List ℕ) (ys : List ℤ) → Same t u v → child m t (first m u) ys ≡ child m t (first m v) ys
same-child m t u v ys e = child-word m t (first m u) (first m v) ys (same_first m t u v e)

pub same_rest : (m t : ℕ) (u v : List ℕ) → Same t u v → Same (rest m t) (rest_bits m t u) (rest_bits m t v)
same_rest m t u v e = go (lt-or t (2 ^ m))
  where
    go : (t < 2 ^ m) ⊎ (2 ^ m ≤ t) → Same (rest m t) (rest_bits m t u) (rest_bits m t v)
    go (inl l) = rw (rest-low m t l, rest_bits-low m t u l, rest_bits-low m t v l) e
    go (inr l) = rw (rest-high m t l, rest_bits-high m t u l, rest_bits-high m t v l) (sym (drop-take (2 ^ m) t u) ∙ ap (drop (2 ^ m)) e ∙ drop-take (2 ^ m) t v)

pub node-same : (d m : ℕ) (ys : List ℤ) (u v : List ℕ) (t : ℕ) → Same t u v → node d m ys u t ≡ node d m ys v t
unfolding node
node-same zero m ys u v t e = refl
node-same (suc d) zero ys u v t e = refl
node-same (suc d) (suc m) ys u v t e =
    node-same d m (child m t (first m u) ys) (rest_bits m t u) (rest_bits m t v) (rest m t) (same_rest m t u v e)
    ∙ ap (λ zs. node d m zs (rest_bits m t v) (rest m t)) (same-child m t u v ys e)

-- ---- the block law

pub block-costs : (d j m : ℕ) (ys : List ℤ) (u : List ℕ) (s : ℕ) → m ≡ d + j → Starts d m s → length ys ≡ 2 ^ m → length u ≡ s + 2 ^ j → All Bit u →
    costs m ys u s (2 ^ j) ≡ discrepancy (transform j (drop s u)) (node d m ys u s)
unfolding Starts node
block-costs zero j m ys u s e a f g k =
    let i : j ≡ m = omega arith in
    rw (i, a) (theorem1 m ys u f (g ∙ ap₂ (λ x y. x + 2 ^ y) a i ∙ zero-add (2 ^ m)) k)
block-costs (suc d) j zero ys u s e a f g k = absurd a
block-costs (suc d) j (suc m) ys u s e a f g k =
    go (lt-or s (2 ^ m)) (λ zs v s' b p q r. block-costs d j m zs v s' (omega arith) b p q r)
  where
    fit : rest m s + 2 ^ j ≤ 2 ^ m
    fit = starts-fits d j m (rest m s) (omega arith) a

    zs : List ℤ
    zs = child m s (first m u) ys

    lz : length zs ≡ 2 ^ m
    lz = child-length m s u ys f (λ l. omega arith)

    go : (s < 2 ^ m) ⊎ (2 ^ m ≤ s)
        → ((zs : List ℤ) (v : List ℕ) (s' : ℕ) → Starts d m s' → length zs ≡ 2 ^ m → length v ≡ s' + 2 ^ j → All Bit v → costs m zs v s' (2 ^ j) ≡ discrepancy (transform j (drop s' v)) (node d m zs v s'))
        → costs (suc m) ys u s (2 ^ j) ≡ discrepancy (transform j (drop s u)) (node d m (child m s (first m u) ys) (rest_bits m s u) (rest m s))
    go (inl l) ih =
        let rs : rest m s ≡ s = rest-low m s l in
        let le : s + 2 ^ j ≤ 2 ^ m = omega (arith, fit, rs) in
        costs-low m ys u s (2 ^ j) le
        ∙ ap₂ (λ (z : List ℤ) (v : List ℕ). costs m z v s (2 ^ j)) (sym (child-low m s (first m u) ys l)) (take_all (2 ^ m) u (omega arith))
        ∙ ih zs u s (subst (Starts d m) rs a) lz g k
        ∙ ap₂ (λ (v : List ℕ) (t : ℕ). discrepancy (transform j (drop s u)) (node d m zs v t)) (sym (rest_bits-low m s u l)) (sym rs)
    go (inr l) ih =
        let s' : ℕ = s - 2 ^ m in
        let v : List ℕ = drop (2 ^ m) u in
        let rs : rest m s ≡ s' = rest-high m s l in
        let back : 2 ^ m + s' ≡ s = omega arith in
        ap (λ t. costs (suc m) ys u t (2 ^ j)) (sym back)
        ∙ costs-high m ys u s' (2 ^ j)
        ∙ ap (λ z. costs m z v s' (2 ^ j)) (sym (child-high m s (first m u) ys l))
        ∙ ih zs v s' (subst (Starts d m) rs a) lz (omega (arith, length-drop (2 ^ m) u)) (all_drop Bit (2 ^ m) u k)
        ∙ ap₂ (λ (w : List ℕ) (z : List ℤ). discrepancy (transform j w) z) (drop-drop s' (2 ^ m) u ∙ ap (λ t. drop t u) back)
        (ap₂ (λ (w : List ℕ) (t : ℕ). node d m zs w t) (sym (rest_bits-high m s u l)) (sym rs))

pub block-penalties : (d j m : ℕ) (ys : List ℤ) (u : List ℕ) (s : ℕ) → m ≡ d + j → Starts d m s → length ys ≡ 2 ^ m → length u ≡ s + 2 ^ j → All Bit u →
    penalties m ys u s (2 ^ j) ≡ neg_ℤ (pos (discrepancy (transform j (drop s u)) (node d m ys u s)))
block-penalties d j m ys u s e a f g k = penalties-costs m ys u s (2 ^ j) ∙ ap (λ n. neg_ℤ (pos n)) (block-costs d j m ys u s e a f g k)
