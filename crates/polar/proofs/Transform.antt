-- The transform keeps lengths and bits, is linear and is its own inverse, at every length: by induction on m, by halves. Assumes nothing.
use mathlib.Core.Path.{◌≡◌, refl, sym, ap, ap₂, ◌∙◌}
use mathlib.Core.List.{List, ◌++◌}
use Prim.Native.Nat.{ℕ, zero, suc, ◌^◌}
use native.Mathlib.Nat.{two-pow-succ}
use native.Mathlib.Omega.{arith}
use lib.ListN.{length, take, drop, length-append, take-append-drop}
use lib.Seq.{take_at, drop_at}
use Rattle.laws.specs.Lists.{All}
use Rattle.laws.proofs.Lists.{all_take, all_drop, all_append}
use Rattle.polar.specs.Bits.{Bit, add_bits}
use Rattle.polar.specs.Transform.{transform}
use Rattle.polar.proofs.Bits.{first-half, last-half, add-bits, add-length, add-take, add-drop, add-append, add-cross, add_back}

-- by halves
pub transform-suc : (m : ℕ) (u : List ℕ) →
    transform (suc m) u ≡ add_bits (transform m (take (2 ^ m) u)) (transform m (drop (2 ^ m) u)) ++ transform m (drop (2 ^ m) u)
unfolding transform
transform-suc m u = refl

pub transform-halves : (m : ℕ) (a b : List ℕ) → length a ≡ 2 ^ m → transform (suc m) (a ++ b) ≡ add_bits (transform m a) (transform m b) ++ transform m b
transform-halves m a b e =
    transform-suc m (a ++ b) ∙ ap₂ (λ (x y : List ℕ). add_bits (transform m x) (transform m y) ++ transform m y) (take_at a b (2 ^ m) e) (drop_at a b (2 ^ m) e)

pub transform-length : (m : ℕ) (u : List ℕ) → length u ≡ 2 ^ m → length (transform m u) ≡ 2 ^ m
unfolding transform
transform-length zero u e = e
transform-length (suc m) u e =
    let a : List ℕ = transform m (take (2 ^ m) u) in
    let b : List ℕ = transform m (drop (2 ^ m) u) in
    let p : length a ≡ 2 ^ m = transform-length m (take (2 ^ m) u) (first-half m u e) in
    let q : length b ≡ 2 ^ m = transform-length m (drop (2 ^ m) u) (last-half m u e) in
    omega (arith, length-append (add_bits a b) b, add-length a b (p ∙ sym q), two-pow-succ m)

pub transform-bits : (m : ℕ) (u : List ℕ) → All Bit u → All Bit (transform m u)
unfolding transform
transform-bits zero u h = h
transform-bits (suc m) u h = all_append Bit _ _ (add-bits _ _) (transform-bits m (drop (2 ^ m) u) (all_drop Bit (2 ^ m) u h))

-- the sum of two transforms is the transform of the sum
pub transform-linear : (m : ℕ) (u v : List ℕ) → length u ≡ 2 ^ m → length v ≡ 2 ^ m → transform m (add_bits u v) ≡ add_bits (transform m u) (transform m v)
transform-linear zero u v e d = unfold transform in refl
transform-linear (suc m) u v e d =
    let h : ℕ = 2 ^ m in
    let a : List ℕ = transform m (take h u) in
    let b : List ℕ = transform m (drop h u) in
    let c : List ℕ = transform m (take h v) in
    let g : List ℕ = transform m (drop h v) in
    let la : length a ≡ h = transform-length m (take h u) (first-half m u e) in
    let lb : length b ≡ h = transform-length m (drop h u) (last-half m u e) in
    let lc : length c ≡ h = transform-length m (take h v) (first-half m v d) in
    let lg : length g ≡ h = transform-length m (drop h v) (last-half m v d) in
    let low : transform m (take h (add_bits u v)) ≡ add_bits a c =
    ap (transform m) (add-take h u v) ∙ transform-linear m (take h u) (take h v) (first-half m u e) (first-half m v d) in
    let high : transform m (drop h (add_bits u v)) ≡ add_bits b g =
    ap (transform m) (add-drop h u v) ∙ transform-linear m (drop h u) (drop h v) (last-half m u e) (last-half m v d) in
    transform-suc m (add_bits u v)
    ∙ ap₂ (λ (x y : List ℕ). add_bits x y ++ y) low high
    ∙ ap (λ x. x ++ add_bits b g) (add-cross a c b g)
    ∙ sym (add-append (add_bits a b) b (add_bits c g) g (add-length a b (la ∙ sym lb) ∙ la ∙ sym lc ∙ sym (add-length c g (lc ∙ sym lg))))
    ∙ ap₂ add_bits (sym (transform-suc m u)) (sym (transform-suc m v))

-- the same step turns c back into u
pub transform-twice : (m : ℕ) (u : List ℕ) → length u ≡ 2 ^ m → All Bit u → transform m (transform m u) ≡ u
transform-twice zero u e k = unfold transform in refl
transform-twice (suc m) u e k =
    let h : ℕ = 2 ^ m in
    let x : List ℕ = take h u in
    let y : List ℕ = drop h u in
    let a : List ℕ = transform m x in
    let b : List ℕ = transform m y in
    let lx : length x ≡ h = first-half m u e in
    let ly : length y ≡ h = last-half m u e in
    let la : length a ≡ h = transform-length m x lx in
    let lb : length b ≡ h = transform-length m y ly in
    let px : transform m a ≡ x = transform-twice m x lx (all_take Bit h u k) in
    let py : transform m b ≡ y = transform-twice m y ly (all_drop Bit h u k) in
    let two : transform (suc m) (add_bits a b ++ b) ≡ add_bits (transform m (add_bits a b)) (transform m b) ++ transform m b =
    transform-halves m (add_bits a b) b (add-length a b (la ∙ sym lb) ∙ la) in
    let sum : transform m (add_bits a b) ≡ add_bits x y = transform-linear m a b la lb ∙ ap₂ add_bits px py in
    ap (transform (suc m)) (transform-suc m u) ∙ two
    ∙ ap₂ (λ (p q : List ℕ). add_bits p q ++ q) sum py
    ∙ ap (λ l. l ++ y) (add_back x y (lx ∙ sym ly) (all_take Bit h u k))
    ∙ take-append-drop h u
