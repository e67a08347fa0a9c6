-- Ranges: R never leaves -1,048,064 to 0, and a node d steps down has values of at most 2^d times the largest received magnitude. R by
-- Theorem 1 on the path extended by zeros; the node by induction on the steps. Assumes nothing.
use mathlib.Core.Path.{◌≡◌, refl, sym, ap, ◌∙◌, subst}
use mathlib.Core.List.{List, [], ◌∷◌, ◌++◌, zip_with}
use mathlib.Core.Logic.{◌⊎◌, inl, inr}
use Prim.Native.Nat.{ℕ, zero, suc, ◌+◌, ◌-◌, ◌*◌, ◌^◌, ◌≤◌, ◌<◌}
use native.Mathlib.Nat.{two-pow-succ, add-mul, mul-add, mul-le-mul_right, suc-mul, one-le-pow}
use native.Mathlib.Omega.{arith}
use lib.ListN.{length, take, drop, replicate, length-append, length-replicate}
use lib.Seq.{take_at, take-length}
use lib.IntN.{ℤ, pos, neg_ℤ}
use lib.Pow.{pow_mono}
use Rattle.laws.specs.Lists.{All}
use Rattle.laws.proofs.Tests.{lt-or}
use Rattle.laws.proofs.Lists.{all_map, all_take, all_drop, all_append, all_replicate}
use Rattle.polar.specs.Bits.{Bit}
use Rattle.polar.specs.Transform.{transform}
use Rattle.polar.specs.Soft.{Qs, Ps, discrepancy}
use Rattle.polar.specs.Value.{costs, R}
use Rattle.polar.specs.Node.{rest, rest_bits, first, child, node}
use Rattle.polar.specs.Layers.{Within}
use Rattle.polar.proofs.Soft.{Q-abs, P-abs, cost-le}
use Rattle.polar.proofs.Value.{costs-add, costs-same, theorem1, R-costs}
use Rattle.polar.proofs.Node.{child-low, child-high}

-- ---- R

discrepancy-le : (M : ℕ) (c : List ℕ) (ys : List ℤ) → All (Within M) ys → discrepancy c ys ≤ length ys * M
unfolding discrepancy All
discrepancy-le M [] ys h = omega arith
discrepancy-le M (c ∷ cs) [] h = omega arith
discrepancy-le M (c ∷ cs) (y ∷ ys) h = omega (arith, cost-le c y, discrepancy-le M cs ys h.1, h.0, suc-mul (length ys) M)

-- a path's costs are at most those of the word that zeros make of it
pub costs-le : (m M : ℕ) (ys : List ℤ) (u : List ℕ) → length ys ≡ 2 ^ m → length u ≤ 2 ^ m → All Bit u → All (Within M) ys → costs m ys u 0 (length u) ≤ 2 ^ m * M
costs-le m M ys u e f b w =
    let k : ℕ = 2 ^ m - length u in
    let x : List ℕ = u ++ replicate k 0 in
    let lx : length x ≡ 2 ^ m = length-append u (replicate k 0) ∙ omega (arith, length-replicate {A = ℕ} k 0) in
    let bx : All Bit x = all_append Bit u (replicate k 0) b (all_replicate Bit k 0 (omega arith)) in
    let same : take (length u) u ≡ take (length u) x = take-length u ∙ sym (take_at u (replicate k 0) (length u) refl) in
    let old : costs m ys u 0 (length u) ≡ costs m ys x 0 (length u) = costs-same m ys u x 0 (length u) (length u) (omega arith) same in
    let n : 2 ^ m ≡ length u + k = omega arith in
    let cut : costs m ys x 0 (2 ^ m) ≡ costs m ys x 0 (length u) + costs m ys x (0 + length u) k = ap (costs m ys x 0) n ∙ costs-add m ys x 0 (length u) k in
    let all : costs m ys x 0 (2 ^ m) ≡ discrepancy (transform m x) ys = theorem1 m ys x e lx bx in
    let top : discrepancy (transform m x) ys ≤ 2 ^ m * M = subst (λ (i : ℕ). discrepancy (transform m x) ys ≤ i * M) e (discrepancy-le M (transform m x) ys w) in
    omega arith

-- document 01: R never leaves -1,048,064 to 0
pub R-range : (m : ℕ) (ys : List ℤ) (u : List ℕ) → m ≤ 9 → length ys ≡ 2 ^ m → length u ≤ 2 ^ m → All Bit u → All (Within 2047) ys →
    (r : ℕ) × (R m ys u ≡ neg_ℤ (pos r)) × (r ≤ 1048064)
R-range m ys u h e f b w =
    let p : 2 ^ m ≤ 2 ^ 9 = pow_mono h in
    (costs m ys u 0 (length u), R-costs m ys u, omega (arith, costs-le m 2047 ys u e f b w))

-- ---- node values

pub Qs-within : (M : ℕ) (a b : List ℤ) → All (Within M) a → All (Within M) (Qs a b)
unfolding Qs zip_with All
Qs-within M [] b h = tt
Qs-within M (x ∷ a) [] h = tt
Qs-within M (x ∷ a) (y ∷ b) h = (omega (arith, Q-abs x y, h.0), Qs-within M a b h.1)

pub Ps-within : (M : ℕ) (vs : List ℕ) (a b : List ℤ) → All (Within M) a → All (Within M) b → All (Within (M + M)) (Ps vs a b)
unfolding Ps All
Ps-within M [] a b h k = tt
Ps-within M (v ∷ vs) [] b h k = tt
Ps-within M (v ∷ vs) (x ∷ a) [] h k = tt
Ps-within M (v ∷ vs) (x ∷ a) (y ∷ b) h k = (omega (arith, P-abs v x y, h.0, k.0), Ps-within M vs a b h.1 k.1)

pub within_more : (M N : ℕ) (ys : List ℤ) → M ≤ N → All (Within M) ys → All (Within N) ys
within_more M N ys q h = all_map (λ y k. omega arith) ys h

-- one step down doubles the bound
pub child-within : (m t M : ℕ) (c : List ℕ) (ys : List ℤ) → All (Within M) ys → All (Within (M + M)) (child m t c ys)
child-within m t M c ys h = go (lt-or t (2 ^ m))
  where
    lo : All (Within M) (take (2 ^ m) ys)
    lo = all_take (Within M) (2 ^ m) ys h

    hi : All (Within M) (drop (2 ^ m) ys)
    hi = all_drop (Within M) (2 ^ m) ys h

    go : (t < 2 ^ m) ⊎ (2 ^ m ≤ t) → All (Within (M + M)) (child m t c ys)
    go (inl l) = rw (child-low m t c ys l) (within_more M (M + M) (Qs (take (2 ^ m) ys) (drop (2 ^ m) ys)) (omega arith) (Qs-within M (take (2 ^ m) ys) (drop (2 ^ m) ys) lo))
    go (inr l) = rw (child-high m t c ys l) (Ps-within M c (take (2 ^ m) ys) (drop (2 ^ m) ys) lo hi)

pub node-within : (d m M : ℕ) (ys : List ℤ) (u : List ℕ) (t : ℕ) → All (Within M) ys → All (Within (2 ^ d * M)) (node d m ys u t)
unfolding node
node-within zero m M ys u t h = within_more M (1 * M) ys (omega arith) h
node-within (suc d) zero M ys u t h = within_more M (2 ^ suc d * M) ys (omega (arith, mul-le-mul_right M (one-le-pow (suc d) 2 (omega arith)))) h
node-within (suc d) (suc m) M ys u t h =
    let double : 2 ^ suc d * M ≡ 2 ^ d * (M + M) = ap (λ n. n * M) (two-pow-succ d) ∙ add-mul (2 ^ d) (2 ^ d) M ∙ sym (mul-add (2 ^ d) M M) in
    let c : List ℤ = child m t (first m u) ys in
    subst (λ (n : ℕ). All (Within n) (node d m c (rest_bits m t u) (rest m t))) (sym double)
    (node-within d m (M + M) c (rest_bits m t u) (rest m t) (child-within m t M (first m u) ys h))

-- for values within -2,047 to 2,047 and m up to 9 no node value leaves -1,048,064 to 1,048,064
pub node-range : (d m : ℕ) (ys : List ℤ) (u : List ℕ) (t : ℕ) → d ≤ m → m ≤ 9 → All (Within 2047) ys → All (Within 1048064) (node d m ys u t)
node-range d m ys u t h k w =
    let q : d ≤ 9 = omega arith in
    let p : 2 ^ d ≤ 2 ^ 9 = pow_mono q in
    within_more (2 ^ d * 2047) 1048064 (node d m ys u t) (omega arith) (node-within d m 2047 ys u t w)
