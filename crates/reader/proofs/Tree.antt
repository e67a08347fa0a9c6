-- What a path's arrays hold, by its bits: the values of the nodes on the way to its place, and the words of the first halves that lie before
-- it. And how both go on from a block to the next: the block's word, joined with the words below, is the word of the first half that ends
-- there. By induction down the tree. Assumes nothing.
use mathlib.Core.Path.{◌≡◌, refl, sym, ap, ap₂, ◌∙◌, subst}
use mathlib.Core.Bool.{Bool, true, false, cond, ◌&&◌}
use mathlib.Core.List.{List, ◌++◌}
use mathlib.Core.Logic.{◌⊎◌, inl, inr}
use Prim.Native.Nat.{ℕ, zero, suc, ◌+◌, ◌-◌, ◌^◌, ◌≤◌, ◌<◌}
use native.Mathlib.Nat.{two-pow-succ}
use native.Mathlib.Decide.{dec_lt}
use native.Mathlib.Omega.{arith}
use lib.ListN.{length, drop, length-drop}
use lib.Seq.{drop-drop, take_all}
use lib.Pow.{pow_pos}
use lib.Dec.{leb, eqb}
use lib.IntN.{ℤ}
use borrow.Author.Tests.{eq-eqb, ne_eqb, le-leb, lt-leb}
use Rattle.laws.proofs.Tests.{lt-or}
use Rattle.polar.specs.Bits.{add_bits}
use Rattle.polar.specs.Transform.{transform}
use Rattle.polar.specs.Node.{rest, rest_bits, first, child, node}
use Rattle.polar.proofs.Transform.{transform-suc}
use Rattle.polar.proofs.Value.{Same, same-less}
use Rattle.polar.proofs.Node.{rest-low, rest-high, rest-zero, rest-less, rest_bits-low, rest_bits-high, child-low, child-high, Starts, starts-fits, same-child, same_rest}
use Rattle.reader.specs.Arrays.{upd, turn, joined}
use Rattle.reader.specs.Reached.{Vals, Sums}
use Rattle.reader.proofs.Upd.{upd_same, upd_other}

-- S holds the values of those of the d nodes on the way to t that start before t
unfoldable pub Prior : ℕ → ℕ → List ℤ → List ℕ → ℕ → (ℕ → List ℤ) → Type 0
Prior zero m ys u t S = Unit {0}
Prior (suc d) zero ys u t S = Unit {0}
Prior (suc d) (suc m) ys u t S =
    ((rest m t ≡ 0 → ⊥) → S m ≡ child m t (first m u) ys) × Prior d m (child m t (first m u) ys) (rest_bits m t u) (rest m t) S

-- the values of the last of the nodes
pub vals-node : (d j m : ℕ) (ys : List ℤ) (u : List ℕ) (t : ℕ) (S : ℕ → List ℤ) → m ≡ d + j → S m ≡ ys → Vals d m ys u t S → S j ≡ node d m ys u t
unfolding Vals node
vals-node zero j m ys u t S e f h = ap S (omega arith) ∙ f
vals-node (suc d) j zero ys u t S e f h = absurd (omega arith)
vals-node (suc d) j (suc m) ys u t S e f h = vals-node d j m (child m t (first m u) ys) (rest_bits m t u) (rest m t) S (omega arith) h.0 h.1

-- ---- bits from t on do not matter

pub vals-same : (d m : ℕ) (ys : List ℤ) (u v : List ℕ) (t : ℕ) (S : ℕ → List ℤ) → Same t u v → Vals d m ys u t S → Vals d m ys v t S
unfolding Vals
vals-same zero m ys u v t S e h = tt
vals-same (suc d) zero ys u v t S e h = tt
vals-same (suc d) (suc m) ys u v t S e h =
    let c = same-child m t u v ys e in (
      h.0 ∙ c,
      subst (λ zs. Vals d m zs (rest_bits m t v) (rest m t) S) c
          (vals-same d m (child m t (first m u) ys) (rest_bits m t u) (rest_bits m t v) (rest m t) S (same_rest m t u v e) h.1),
    )

pub sums_same : (m : ℕ) (u v : List ℕ) (t : ℕ) (C : ℕ → List ℕ) → Same t u v → Sums m u t C → Sums m v t C
unfolding Sums
sums_same zero u v t C e h = tt
sums_same (suc m) u v t C e h = (
  λ l. h.0 l ∙ ap (transform m) (same-less (2 ^ m) t u v l e),
  sums_same m (rest_bits m t u) (rest_bits m t v) (rest m t) C (same_rest m t u v e) h.1,
)

-- ---- where a block starts, nothing lies before it in the nodes that start there

pub prior-zero : (d m : ℕ) (ys : List ℤ) (u : List ℕ) (t : ℕ) (S : ℕ → List ℤ) → t ≡ 0 → Prior d m ys u t S
unfolding Prior
prior-zero zero m ys u t S e = tt
prior-zero (suc d) zero ys u t S e = tt
prior-zero (suc d) (suc m) ys u t S e =
    let f : rest m t ≡ 0 = ap (rest m) e ∙ rest-zero m in
    (λ n. absurd (n f), prior-zero d m (child m t (first m u) ys) (rest_bits m t u) (rest m t) S f)

pub sums-zero : (m : ℕ) (u : List ℕ) (t : ℕ) (C : ℕ → List ℕ) → t ≡ 0 → Sums m u t C
unfolding Sums
sums-zero zero u t C e = tt
sums-zero (suc m) u t C e = (
  λ l. absurd (omega (arith, pow_pos m)),
  sums-zero m (rest_bits m t u) (rest m t) C (ap (rest m) e ∙ rest-zero m),
)

-- ---- the values, from the block at s to the next, at t

pub vals-prior : (d k j m : ℕ) (ys : List ℤ) (u : List ℕ) (s t : ℕ) (S : ℕ → List ℤ) → m ≡ d + j → Starts d m s → t ≡ s + 2 ^ j → t < 2 ^ m →
    Vals d m ys u s S → Prior k m ys u t S
unfolding Vals Prior Starts
vals-prior d zero j m ys u s t S e a f l h = tt
vals-prior zero (suc k) j zero ys u s t S e a f l h = tt
vals-prior (suc d) (suc k) j zero ys u s t S e a f l h = tt
vals-prior zero (suc k) j (suc m) ys u s t S e a f l h =
    let p : 2 ^ j ≡ 2 ^ suc m = ap (λ n. 2 ^ n) (omega arith) in
    absurd (omega arith)
vals-prior (suc d) (suc k) j (suc m) ys u s t S e a f l h =
    go (lt-or s (2 ^ m)) (lt-or t (2 ^ m)) (λ zs v s' t'. vals-prior d k j m zs v s' t' S (omega arith))
  where
    -- both blocks lie in one half
    one : child m s (first m u) ys ≡ child m t (first m u) ys → rest_bits m s u ≡ rest_bits m t u → rest m t ≡ rest m s + 2 ^ j → rest m t < 2 ^ m
        → ((zs : List ℤ) (v : List ℕ) (s' t' : ℕ) → Starts d m s' → t' ≡ s' + 2 ^ j → t' < 2 ^ m → Vals d m zs v s' S → Prior k m zs v t' S)
        → ((rest m t ≡ 0 → ⊥) → S m ≡ child m t (first m u) ys) × Prior k m (child m t (first m u) ys) (rest_bits m t u) (rest m t) S
    one c w p q ih = (
      λ _. h.0 ∙ c,
      ih (child m t (first m u) ys) (rest_bits m t u) (rest m s) (rest m t) a p q
          (subst (λ (zs : List ℤ). Vals d m zs (rest_bits m t u) (rest m s) S) c (subst (λ (v : List ℕ). Vals d m (child m s (first m u) ys) v (rest m s) S) w h.1)),
    )

    go : (s < 2 ^ m) ⊎ (2 ^ m ≤ s) → (t < 2 ^ m) ⊎ (2 ^ m ≤ t)
        → ((zs : List ℤ) (v : List ℕ) (s' t' : ℕ) → Starts d m s' → t' ≡ s' + 2 ^ j → t' < 2 ^ m → Vals d m zs v s' S → Prior k m zs v t' S)
        → ((rest m t ≡ 0 → ⊥) → S m ≡ child m t (first m u) ys) × Prior k m (child m t (first m u) ys) (rest_bits m t u) (rest m t) S
    go (inl x) (inl y) ih =
        one (child-low m s (first m u) ys x ∙ sym (child-low m t (first m u) ys y)) (rest_bits-low m s u x ∙ sym (rest_bits-low m t u y))
        (omega (arith, rest-low m s x, rest-low m t y)) (rest-less m t l) ih
    go (inl x) (inr y) ih =
        let fit : rest m s + 2 ^ j ≤ 2 ^ m = starts-fits d j m (rest m s) (omega arith) a in
        let z : rest m t ≡ 0 = rest-high m t y ∙ omega (arith, rest-low m s x) in
        (λ n. absurd (n z), prior-zero k m (child m t (first m u) ys) (rest_bits m t u) (rest m t) S z)
    go (inr x) (inl y) ih = absurd (omega arith)
    go (inr x) (inr y) ih =
        one (child-high m s (first m u) ys x ∙ sym (child-high m t (first m u) ys y)) (rest_bits-high m s u x ∙ sym (rest_bits-high m t u y))
        (omega (arith, rest-high m s x, rest-high m t y)) (rest-less m t l) ih

-- ---- the turn

-- where a node starts past 0, it is a last half
pub rest-late : (m t : ℕ) → 0 < t → rest m t ≡ 0 → 2 ^ m ≤ t
rest-late m t p e = go (lt-or t (2 ^ m))
  where
    go : (t < 2 ^ m) ⊎ (2 ^ m ≤ t) → 2 ^ m ≤ t
    go (inl x) = absurd (omega (arith, rest-low m t x))
    go (inr x) = x

pub turn-high : (m t : ℕ) → 2 ^ m ≤ t → rest m t ≡ 0 → turn (suc m) t ≡ m
unfolding turn
turn-high m t l e = rw (le-leb (2 ^ m) t l, eq-eqb (rest m t) 0 e)

pub turn_low : (m t : ℕ) → t < 2 ^ m → turn (suc m) t ≡ turn m t
unfolding turn
turn_low m t l = rw (lt-leb (2 ^ m) t l, rest-low m t l)

pub turn-past : (m t : ℕ) → (rest m t ≡ 0 → ⊥) → turn (suc m) t ≡ turn m (rest m t)
unfolding turn
turn-past m t n = go (leb (2 ^ m) t)
  where
    go : (b : Bool) → cond (b && eqb (rest m t) 0) m (turn m (rest m t)) ≡ turn m (rest m t)
    go true = rw (ne_eqb (rest m t) 0 n)
    go false = refl

pub turn-less : (m t : ℕ) → 0 < t → t < 2 ^ m → turn m t < m
turn-less zero t p l = absurd (omega arith)
turn-less (suc m) t p l = go (lt-or t (2 ^ m)) (dec_lt 0 (rest m t)) (turn-less m)
  where
    go : (t < 2 ^ m) ⊎ (2 ^ m ≤ t) → Dec (0 < rest m t) → ((t' : ℕ) → 0 < t' → t' < 2 ^ m → turn m t' < m) → turn (suc m) t < suc m
    go (inl x) z ih = omega (arith, turn_low m t x, ih t p x)
    go (inr x) (yes z) ih = omega (arith, turn-past m t (λ e. omega arith), ih (rest m t) z (rest-less m t l))
    go (inr x) (no z) ih = omega (arith, turn-high m t x (omega arith))

-- the values that the block at t finds are not at the turn
pub prior-turn : (k m : ℕ) (ys : List ℤ) (u : List ℕ) (t : ℕ) (S : ℕ → List ℤ) (x : List ℤ) → 0 < t → t < 2 ^ m → Prior k m ys u t S →
    Prior k m ys u t (upd S (turn m t) x)
unfolding Prior
prior-turn zero m ys u t S x p l h = tt
prior-turn (suc k) zero ys u t S x p l h = tt
prior-turn (suc k) (suc m) ys u t S x p l h =
    go (dec_lt 0 (rest m t)) (λ z w. prior-turn k m (child m t (first m u) ys) (rest_bits m t u) (rest m t) S x z w h.1)
  where
    go : Dec (0 < rest m t)
        → (0 < rest m t → rest m t < 2 ^ m → Prior k m (child m t (first m u) ys) (rest_bits m t u) (rest m t) (upd S (turn m (rest m t)) x))
        → ((rest m t ≡ 0 → ⊥) → upd S (turn (suc m) t) x m ≡ child m t (first m u) ys)
        × Prior k m (child m t (first m u) ys) (rest_bits m t u) (rest m t) (upd S (turn (suc m) t) x)
    go (yes z) ih =
        let e : turn (suc m) t ≡ turn m (rest m t) = turn-past m t (λ f. omega arith) in
        let q : turn m (rest m t) < m = turn-less m (rest m t) z (rest-less m t l) in (
          λ n. upd_other S (turn (suc m) t) x m (λ f. omega arith) ∙ h.0 n,
          subst (λ (y : ℕ). Prior k m (child m t (first m u) ys) (rest_bits m t u) (rest m t) (upd S y x)) (sym e) (ih z (rest-less m t l)),
        )
    go (no z) ih =
        let e : rest m t ≡ 0 = omega arith in
        (λ n. absurd (n e), prior-zero k m (child m t (first m u) ys) (rest_bits m t u) (rest m t) (upd S (turn (suc m) t) x) e)

-- ---- the sums, from the block at s to the next, at t

-- with the word w of height j, joined upwards, at the turn of t, the sums are those of t
abbrev JoinedAt : ℕ → ℕ → List ℕ → ℕ → (ℕ → List ℕ) → List ℕ → Type 0
JoinedAt j m u t C w = Sums m u t (upd C (turn m t) (joined C j (turn m t - j) w))

-- the block ends inside the node, or with it: then the word joined up to the node is the node's
join : (d j m : ℕ) (u : List ℕ) (s t : ℕ) (C : ℕ → List ℕ) (w : List ℕ) → m ≡ d + j → Starts d m s → t ≡ s + 2 ^ j → length u ≡ t →
    w ≡ transform j (drop s u) → Sums m u s C →
    (t < 2 ^ m → JoinedAt j m u t C w) × (t ≡ 2 ^ m → joined C j d w ≡ transform m u)
unfolding Sums Starts joined
join zero j m u s t C w e b f g h q =
    let i : j ≡ m = omega arith in
    let r : 2 ^ j ≡ 2 ^ m = ap (λ n. 2 ^ n) i in
    (λ l. absurd (omega arith), λ l. h ∙ ap₂ (λ n k. transform n (drop k u)) i b)
join (suc d) j zero u s t C w e b f g h q = absurd b
join (suc d) j (suc m) u s t C w e b f g h q = go (lt-or s (2 ^ m)) (λ v s' t'. join d j m v s' t' C w (omega arith))
  where
    fit : rest m s + 2 ^ j ≤ 2 ^ m
    fit = starts-fits d j m (rest m s) (omega arith) b

    -- written at height y
    put : ℕ → ℕ → List ℕ
    put y = upd C y (joined C j (y - j) w)

    -- in the first half: the block ends inside it, or with it
    low : (t < 2 ^ m) ⊎ (2 ^ m ≤ t) → t ≤ 2 ^ m → (t < 2 ^ m → JoinedAt j m u t C w) × (t ≡ 2 ^ m → joined C j d w ≡ transform m u) →
        JoinedAt j (suc m) u t C w
    low (inl y) le k =
        subst (λ (z : ℕ). Sums (suc m) u t (put z)) (sym (turn_low m t y)) (
          λ n. absurd (omega arith),
          subst (λ (z : ℕ). Sums m (rest_bits m t u) z (put (turn m t))) (sym (rest-low m t y))
              (subst (λ (v : List ℕ). Sums m v t (put (turn m t))) (sym (rest_bits-low m t u y)) (k.0 y)),
        )
    low (inr y) le k =
        let z : rest m t ≡ 0 = rest-high m t y ∙ omega arith in
        let n : m - j ≡ d = omega arith in
        subst (λ (z : ℕ). Sums (suc m) u t (put z)) (sym (turn-high m t y z)) (
          λ _. upd_same C m (joined C j (m - j) w) ∙ ap (λ i. joined C j i w) n ∙ k.1 (omega arith)
              ∙ ap (transform m) (sym (take_all (2 ^ m) u (omega arith))),
          sums-zero m (rest_bits m t u) (rest m t) (put m) z,
        )

    -- in the last half
    high : 2 ^ m ≤ s → t < 2 ^ suc m → JoinedAt j m (drop (2 ^ m) u) (t - 2 ^ m) C w → JoinedAt j (suc m) u t C w
    high x l k =
        let t' : ℕ = t - 2 ^ m in
        let le : 2 ^ m ≤ t = omega arith in
        let p : 0 < t' = omega (arith, pow_pos j) in
        let l' : t' < 2 ^ m = omega (arith, two-pow-succ m) in
        let r : rest m t ≡ t' = rest-high m t le in
        let y : turn (suc m) t ≡ turn m t' = turn-past m t (λ z. omega arith) ∙ ap (turn m) r in
        subst (λ (z : ℕ). Sums (suc m) u t (put z)) (sym y) (
          λ _. upd_other C (turn m t') (joined C j (turn m t' - j) w) m (λ z. omega (arith, turn-less m t' p l')) ∙ q.0 x,
          subst (λ (z : ℕ). Sums m (rest_bits m t u) z (put (turn m t'))) (sym r)
              (subst (λ (v : List ℕ). Sums m v t' (put (turn m t'))) (sym (rest_bits-high m t u le)) k),
        )

    go : (s < 2 ^ m) ⊎ (2 ^ m ≤ s)
        → ((v : List ℕ) (s' t' : ℕ) → Starts d m s' → t' ≡ s' + 2 ^ j → length v ≡ t' → w ≡ transform j (drop s' v) → Sums m v s' C
        → (t' < 2 ^ m → JoinedAt j m v t' C w) × (t' ≡ 2 ^ m → joined C j d w ≡ transform m v))
        → (t < 2 ^ suc m → JoinedAt j (suc m) u t C w) × (t ≡ 2 ^ suc m → joined C j (suc d) w ≡ transform (suc m) u)
    go (inl x) ih =
        let rs : rest m s ≡ s = rest-low m s x in
        let le : t ≤ 2 ^ m = omega (arith, fit) in
        let k =
        ih u s t (subst (Starts d m) rs b) f g h
        (subst (λ (y : ℕ). Sums m u y C) rs (subst (λ (v : List ℕ). Sums m v (rest m s) C) (rest_bits-low m s u x) q.1)) in
        (λ l. low (lt-or t (2 ^ m)) le k, λ l. absurd (omega (arith, two-pow-succ m, pow_pos m)))
    go (inr x) ih =
        let s' : ℕ = s - 2 ^ m in
        let v : List ℕ = drop (2 ^ m) u in
        let rs : rest m s ≡ s' = rest-high m s x in
        let back : 2 ^ m + s' ≡ s = omega arith in
        let dd : drop s' v ≡ drop s u = drop-drop s' (2 ^ m) u ∙ ap (λ z. drop z u) back in
        let jd : j + d ≡ m = omega arith in
        let k = ih v s' (t - 2 ^ m) (subst (Starts d m) rs b) (omega arith) (omega (arith, length-drop (2 ^ m) u)) (h ∙ ap (transform j) (sym dd))
        (subst (λ (y : ℕ). Sums m v y C) rs (subst (λ (z : List ℕ). Sums m z (rest m s) C) (rest_bits-high m s u x) q.1)) in (
          λ l. high x l (k.0 (omega (arith, two-pow-succ m))),
          λ l. ap₂ (λ (c z : List ℕ). add_bits c z ++ z) (ap C jd ∙ q.0 x) (k.1 (omega (arith, two-pow-succ m))) ∙ sym (transform-suc m u),
        )

-- ---- the sums of a block do not have the turn of its end

sums-upd : (m : ℕ) (u : List ℕ) (t : ℕ) (C : ℕ → List ℕ) (h : ℕ) (x : List ℕ) → m ≤ h → Sums m u t C → Sums m u t (upd C h x)
unfolding Sums
sums-upd zero u t C h x l p = tt
sums-upd (suc m) u t C h x l p = (
  λ n. upd_other C h x m (λ e. omega arith) ∙ p.0 n,
  sums-upd m (rest_bits m t u) (rest m t) C h x (omega arith) p.1,
)

sums-turn : (d j m : ℕ) (u : List ℕ) (s t : ℕ) (C : ℕ → List ℕ) (x : List ℕ) → m ≡ d + j → Starts d m s → t ≡ s + 2 ^ j → t < 2 ^ m → Sums m u s C →
    Sums m u s (upd C (turn m t) x)
unfolding Sums Starts
sums-turn zero j m u s t C x e a f l q = sums-zero m u s (upd C (turn m t) x) a
sums-turn (suc d) j zero u s t C x e a f l q = absurd a
sums-turn (suc d) j (suc m) u s t C x e a f l q =
    go (lt-or s (2 ^ m)) (lt-or t (2 ^ m)) (λ t'. sums-turn d j m (rest_bits m s u) (rest m s) t' C x (omega arith) a)
  where
    go : (s < 2 ^ m) ⊎ (2 ^ m ≤ s) → (t < 2 ^ m) ⊎ (2 ^ m ≤ t)
        → ((t' : ℕ) → t' ≡ rest m s + 2 ^ j → t' < 2 ^ m → Sums m (rest_bits m s u) (rest m s) C → Sums m (rest_bits m s u) (rest m s) (upd C (turn m t') x))
        → (2 ^ m ≤ s → upd C (turn (suc m) t) x m ≡ first m u) × Sums m (rest_bits m s u) (rest m s) (upd C (turn (suc m) t) x)
    go (inl y) (inl z) ih = (
      λ n. absurd (omega arith),
      subst (λ (k : ℕ). Sums m (rest_bits m s u) (rest m s) (upd C k x)) (sym (turn_low m t z)) (ih t (omega (arith, rest-low m s y)) z q.1),
    )
    go (inl y) (inr z) ih =
        let fit : rest m s + 2 ^ j ≤ 2 ^ m = starts-fits d j m (rest m s) (omega arith) a in
        let w : rest m t ≡ 0 = rest-high m t z ∙ omega (arith, rest-low m s y) in
        (λ n. absurd (omega arith), sums-upd m (rest_bits m s u) (rest m s) C (turn (suc m) t) x (omega (arith, turn-high m t z w)) q.1)
    go (inr y) (inl z) ih = absurd (omega arith)
    go (inr y) (inr z) ih =
        let r : rest m t ≡ rest m s + 2 ^ j = omega (arith, rest-high m t z, rest-high m s y) in
        let k : turn (suc m) t ≡ turn m (rest m t) = turn-past m t (λ w. omega (arith, pow_pos j)) in
        let b : rest m t < 2 ^ m = rest-less m t l in
        let c : turn m (rest m t) < m = turn-less m (rest m t) (omega (arith, pow_pos j)) b in (
          λ n. upd_other C (turn (suc m) t) x m (λ w. omega arith) ∙ q.0 n,
          subst (λ (h : ℕ). Sums m (rest_bits m s u) (rest m s) (upd C h x)) (sym k) (ih (rest m t) r b q.1),
        )

-- ---- the root taken as the first half of a node of height m + 1

module _ (d j m s : ℕ) (e : m ≡ d + j) (a : Starts d m s) where
  block-less : s < 2 ^ m
  block-less = omega (arith, starts-fits d j m s e a, pow_pos j)

  pub root-starts : Starts (suc d) (suc m) s
  unfolding Starts
  root-starts = subst (Starts d m) (sym (rest-low m s block-less)) a

  -- with its word joined upwards, the sums of a block are those of the next
  pub root-join : (u : List ℕ) (C : ℕ → List ℕ) → length u ≡ s + 2 ^ j → Sums (suc m) u s C →
      JoinedAt j (suc m) u (s + 2 ^ j) C (transform j (drop s u))
  root-join u C g h =
      (join (suc d) j (suc m) u s (s + 2 ^ j) C (transform j (drop s u)) (omega arith) root-starts refl g refl h).0
      (omega (arith, starts-fits d j m s e a, two-pow-succ m, pow_pos m))

  -- what stands where its word will go does not matter to the sums of a block
  pub root-turn : (u : List ℕ) (C : ℕ → List ℕ) (x : List ℕ) → Sums (suc m) u s C → Sums (suc m) u s (upd C (turn (suc m) (s + 2 ^ j)) x)
  root-turn u C x h =
      sums-turn (suc d) j (suc m) u s (s + 2 ^ j) C x (omega arith) root-starts refl
      (omega (arith, starts-fits d j m s e a, two-pow-succ m, pow_pos m)) h

-- past the last block they have the word of all bits
pub root-word : (m : ℕ) (u : List ℕ) (C : ℕ → List ℕ) → length u ≡ 2 ^ m → Sums (suc m) u (2 ^ m) C → C m ≡ transform m u
unfolding Sums
root-word m u C e h = h.0 (omega arith) ∙ ap (transform m) (take_all (2 ^ m) u (omega arith))

-- before it the root is no first half that is past
pub sums-root : (m : ℕ) (u : List ℕ) (t : ℕ) (C : ℕ → List ℕ) → t < 2 ^ m → Sums (suc m) u t C → Sums m u t C
unfolding Sums
sums-root m u t C l h =
    subst (λ (y : ℕ). Sums m u y C) (rest-low m t l) (subst (λ (v : List ℕ). Sums m v (rest m t) C) (rest_bits-low m t u l) h.1)

pub sums-unroot : (m : ℕ) (u : List ℕ) (t : ℕ) (C : ℕ → List ℕ) → t < 2 ^ m → Sums m u t C → Sums (suc m) u t C
unfolding Sums
sums-unroot m u t C l h = (
  λ n. absurd (omega arith),
  subst (λ (y : ℕ). Sums m (rest_bits m t u) y C) (sym (rest-low m t l)) (subst (λ (v : List ℕ). Sums m v t C) (sym (rest_bits-low m t u l)) h),
)
