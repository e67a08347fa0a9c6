-- Arrays that paths share: a write goes to an array that no other path holds, so the others see what they saw; and a descent leaves the values
-- of the way to a block. By induction on the steps down. Assumes nothing.
use mathlib.Core.Path.{◌≡◌, refl, sym, ap, ◌∙◌, subst}
use mathlib.Core.Bool.{Bool, true, false, cond}
use mathlib.Core.List.{List, map}
use Prim.Native.Nat.{ℕ, zero, suc, ◌^◌, ◌≤◌, ◌<◌}
use native.Mathlib.Omega.{arith}
use lib.Pow.{pow_pos}
use lib.IntN.{ℤ}
use lib.Dec.{eqb}
use borrow.Author.Tests.{eqb-true, eqb-false}
use Rattle.laws.specs.Lists.{All}
use Rattle.laws.proofs.Tests.{cond-case}
use Rattle.laws.proofs.Lists.{all_map, all_any, all_both, all-mapped, all-unmapped}
use Rattle.polar.specs.Node.{rest, rest_bits, first, child}
use Rattle.polar.proofs.Node.{child-word, rest-less, rest-pos}
use Rattle.reader.specs.Arrays.{Arrays, View, vals_of, sums_of, upd, own_of, writes, put_vals, put_sums, take_array, claim, turn, descend}
use Rattle.reader.specs.Reached.{Vals, Sums}
use Rattle.reader.proofs.Upd.{upd_same, upd_other, upd-self, seen, seen-store, seen-ids, seen-frame}
use Rattle.reader.proofs.Own.{own_new, own-some, own-keep}
use Rattle.reader.proofs.Tree.{Prior, prior-zero, sums-zero, turn-high, turn-past}

-- a path with these ids sees in A' what it saw in A
pub record Sees (A A' : Arrays) (ids : ℕ → ℕ) : Type 0 where
  pub vals : seen A'.vals ids ≡ seen A.vals ids
  pub sums : seen A'.sums ids ≡ seen A.sums ids

pub sees-same : (A : Arrays) (ids : ℕ → ℕ) → Sees A A ids
sees-same A ids = record { vals = refl; sums = refl }

-- each of the other paths does
abbrev pub Kept : List (ℕ → ℕ) → Arrays → Arrays → Type 0
Kept others A A' = All (Sees A A') others

pub kept_on : (others : List (ℕ → ℕ)) (A A' A'' : Arrays) → Kept others A A' → Kept others A' A'' → Kept others A A''
kept_on others A A' A'' h k = all_both (λ o p q. record { vals = q.vals ∙ p.vals; sums = q.sums ∙ p.sums }) others h k

-- a path with these ids has an array of height h, and no other path holds it
abbrev pub Alone : List (ℕ → ℕ) → ℕ → (ℕ → ℕ) → Type 0
Alone others h ids = (ids h ≡ 0 → ⊥) × All (λ (o : ℕ → ℕ). o h ≡ ids h → ⊥) others

module _ (others : List (ℕ → ℕ)) where
  -- ---- one write

  module _ (h : ℕ) (v : View) where
    theirs : List ℕ
    theirs = map (λ (o : ℕ → ℕ). o h) others

    pub writes-new : All (λ (o : ℕ → ℕ). o h ≡ writes others h v → ⊥) others
    unfolding writes theirs
    writes-new = all-unmapped (λ (o : ℕ → ℕ). o h) (λ k. k ≡ own_of (v.ids h) theirs → ⊥) others (own_new (v.ids h) theirs)

    -- never id 0
    pub writes-some : 1 ≤ writes others h v
    unfolding writes theirs
    writes-some = above (own_of (v.ids h) theirs) (own-some (v.ids h) theirs)
      where
        above : (i : ℕ) → (i ≡ 0 → ⊥) → 1 ≤ i
        above zero n = absurd (n refl)
        above (suc i) n = omega arith

    pub writes-keep : Alone others h v.ids → writes others h v ≡ v.ids h
    unfolding writes theirs
    writes-keep a = own-keep (v.ids h) theirs a.0 (all-mapped (λ (o : ℕ → ℕ). o h) (λ k. k ≡ v.ids h → ⊥) others a.1)

    pub writes-alone : Alone others h (upd v.ids h (writes others h v))
    unfolding writes theirs
    writes-alone = (
      λ e. own-some (v.ids h) theirs (sym (upd_same v.ids h (writes others h v)) ∙ e),
      all_map (λ o n e. n (e ∙ upd_same v.ids h (writes others h v))) others writes-new,
    )

    vals-kept : (x : List ℤ) → Kept others v.arrays (put_vals others h x v).arrays
    unfolding put_vals
    vals-kept x = all_map (λ o n. record { vals = seen-frame v.arrays.vals o h (writes others h v) x n; sums = refl }) others writes-new

    pub sums_kept : (x : List ℕ) → Kept others v.arrays (put_sums others h x v).arrays
    unfolding put_sums
    sums_kept x = all_map (λ o n. record { vals = refl; sums = seen-frame v.arrays.sums o h (writes others h v) x n }) others writes-new

    -- the half written, and the other half
    pub vals-put : (x : List ℤ) → vals_of (put_vals others h x v) ≡ upd (vals_of v) h x
    unfolding put_vals
    vals-put x = seen-store v.arrays.vals v.ids h (writes others h v) x

    pub sums-put : (x : List ℕ) → sums_of (put_sums others h x v) ≡ upd (sums_of v) h x
    unfolding put_sums
    sums-put x = seen-store v.arrays.sums v.ids h (writes others h v) x

    pub vals-lost : (x : List ℕ) → vals_of (put_sums others h x v) ≡ upd (vals_of v) h (v.arrays.vals h (writes others h v))
    unfolding put_sums
    vals-lost x = seen-ids v.arrays.vals v.ids h (writes others h v)

    sums-lost : (x : List ℤ) → sums_of (put_vals others h x v) ≡ upd (sums_of v) h (v.arrays.sums h (writes others h v))
    unfolding put_vals
    sums-lost x = seen-ids v.arrays.sums v.ids h (writes others h v)

    -- where the array was held alone, the other half is as it was
    sums-stay : (x : List ℤ) → Alone others h v.ids → sums_of (put_vals others h x v) ≡ sums_of v
    sums-stay x a = sums-lost x ∙ ap (λ i. upd (sums_of v) h (v.arrays.sums h i)) (writes-keep a) ∙ upd-self (sums_of v) h

    pub sums-alone : (x : List ℕ) → Alone others h (put_sums others h x v).ids
    unfolding put_sums
    sums-alone x = writes-alone

    -- an array taken for a word: the others see no change; the path sees the values of the block, and all else at other heights
    module _ (j : ℕ) where
      pub claim-ids : (claim others j h v).ids ≡ upd v.ids h (writes others h v)
      unfolding claim put_vals take_array
      claim-ids = cond-case (λ (w : View). w.ids ≡ upd v.ids h (writes others h v)) (eqb h j) (λ _. refl) (λ _. refl)

      pub claim-kept : Kept others v.arrays (claim others j h v).arrays
      unfolding claim take_array
      claim-kept =
          cond-case (λ (w : View). Kept others v.arrays w.arrays) (eqb h j) (λ _. vals-kept (vals_of v h))
          (λ _. all_any (sees-same v.arrays) others)

      pub claim-vals : (k : ℕ) → (k ≡ h → ⊥) → vals_of (claim others j h v) k ≡ vals_of v k
      unfolding claim take_array
      claim-vals k n =
          cond-case (λ (w : View). vals_of w k ≡ vals_of v k) (eqb h j)
          (λ _. ap (λ f. f k) (vals-put (vals_of v h)) ∙ upd_other (vals_of v) h (vals_of v h) k n)
          (λ _. ap (λ f. f k) (seen-ids v.arrays.vals v.ids h (writes others h v)) ∙ upd_other (vals_of v) h (v.arrays.vals h (writes others h v)) k n)

      pub claim-own : vals_of (claim others j h v) j ≡ vals_of v j
      unfolding claim
      claim-own = go (eqb h j) refl
        where
          go : (b : Bool) → eqb h j ≡ b → vals_of (cond b (put_vals others h (vals_of v h) v) (take_array others h v)) j ≡ vals_of v j
          go true e = ap (λ f. f j) (vals-put (vals_of v h) ∙ upd-self (vals_of v) h)
          go false e =
              unfold take_array in
              ap (λ f. f j) (seen-ids v.arrays.vals v.ids h (writes others h v))
              ∙ upd_other (vals_of v) h (v.arrays.vals h (writes others h v)) j (λ z. eqb-false h j e (sym z))

      pub claim-sums : sums_of (claim others j h v) ≡ upd (sums_of v) h (v.arrays.sums h (writes others h v))
      unfolding claim take_array
      claim-sums =
          cond-case (λ (w : View). sums_of w ≡ upd (sums_of v) h (v.arrays.sums h (writes others h v))) (eqb h j)
          (λ _. sums-lost (vals_of v h)) (λ _. seen-ids v.arrays.sums v.ids h (writes others h v))

  -- ---- the descent

  -- it keeps what each of its writes keeps, all below where it starts
  pub descend-keeps : (P : View → Type 0) (d m t : ℕ) (v : View) → ((k : ℕ) (x : List ℤ) (w : View) → k < m → P w → P (put_vals others k x w)) → P v →
      P (descend others d m t v)
  unfolding descend
  descend-keeps P zero m t v f h = h
  descend-keeps P (suc d) zero t v f h = h
  descend-keeps P (suc d) (suc m) t v f h =
      descend-keeps P d m (rest m t) _ (λ k x w l. f k x w (omega arith)) (cond-case P (eqb (rest m t) 0) (λ _. f m _ v (omega arith) h) (λ _. h))

  pub descend-kept : (d m t : ℕ) (v : View) → Kept others v.arrays (descend others d m t v).arrays
  descend-kept d m t v =
      descend-keeps (λ w. Kept others v.arrays w.arrays) d m t v (λ k x w _ h. kept_on others v.arrays w.arrays _ h (vals-kept k w x))
      (all_any (sees-same v.arrays) others)

  -- what stands at and above m is as it was
  pub descend-above : (d m t : ℕ) (v : View) (h : ℕ) → m ≤ h →
      (vals_of (descend others d m t v) h ≡ vals_of v h) × (sums_of (descend others d m t v) h ≡ sums_of v h)
  descend-above d m t v h l =
      descend-keeps (λ w. (vals_of w h ≡ vals_of v h) × (sums_of w h ≡ sums_of v h)) d m t v
      (λ k x w b e. (
        ap (λ f. f h) (vals-put k w x) ∙ upd_other (vals_of w) k x h (λ z. omega arith) ∙ e.0,
        ap (λ f. f h) (sums-lost k w x) ∙ upd_other (sums_of w) k (w.arrays.sums k (writes others k w)) h (λ z. omega arith) ∙ e.1,
      ))
      (refl, refl)

  -- from the values of the nodes that start before t, and the sums, come those of all nodes on the way; the sums stay, since the one array whose
  -- sums are still read, at the turn, is the path's alone
  pub descend-good : (d m : ℕ) (ys : List ℤ) (u : List ℕ) (t : ℕ) (v : View) → t < 2 ^ m → vals_of v m ≡ ys → Prior d m ys u t (vals_of v) →
      Sums m u t (sums_of v) → (0 < t → Alone others (turn m t) v.ids) →
      Vals d m ys u t (vals_of (descend others d m t v)) × Sums m u t (sums_of (descend others d m t v))
  unfolding descend Vals Prior Sums
  descend-good zero m ys u t v lt e p q a = (tt, q)
  descend-good (suc d) zero ys u t v lt e p q a = (tt, q)
  descend-good (suc d) (suc m) ys u t v lt e p q a =
      go (eqb (rest m t) 0) refl (λ v' f r w b. descend-good d m zs (rest_bits m t u) (rest m t) v' (rest-less m t lt) f r w b)
    where
      zs : List ℤ
      zs = child m t (first m u) ys

      x : List ℤ
      x = child m t (sums_of v m) (vals_of v (suc m))

      right : x ≡ zs
      right = child-word m t (sums_of v m) (first m u) (vals_of v (suc m)) q.0 ∙ ap (child m t (first m u)) e

      on : View → View
      on v' = descend others d m (rest m t) v'

      go : (b : Bool) → eqb (rest m t) 0 ≡ b
          → ((v' : View) → vals_of v' m ≡ zs → Prior d m zs (rest_bits m t u) (rest m t) (vals_of v') → Sums m (rest_bits m t u) (rest m t) (sums_of v') → (0 < rest m t → Alone others (turn m (rest m t)) v'.ids)
          → Vals d m zs (rest_bits m t u) (rest m t) (vals_of (on v')) × Sums m (rest_bits m t u) (rest m t) (sums_of (on v')))
          → ((vals_of (on (cond b (put_vals others m x v) v)) m ≡ zs) × Vals d m zs (rest_bits m t u) (rest m t) (vals_of (on (cond b (put_vals others m x v) v))))
          × ((2 ^ m ≤ t → sums_of (on (cond b (put_vals others m x v) v)) m ≡ first m u) × Sums m (rest_bits m t u) (rest m t) (sums_of (on (cond b (put_vals others m x v) v))))
      go true f ih =
          let z : rest m t ≡ 0 = eqb-true (rest m t) 0 f in
          let v' : View = put_vals others m x v in
          let at : vals_of v' m ≡ zs = ap (λ g. g m) (vals-put m v x) ∙ upd_same (vals_of v) m x ∙ right in
          let up = descend-above d m (rest m t) v' m (omega arith) in
          let k =
          ih v' at (prior-zero d m zs (rest_bits m t u) (rest m t) (vals_of v') z) (sums-zero m (rest_bits m t u) (rest m t) (sums_of v') z)
          (λ w. absurd (omega arith)) in
          let mine : 2 ^ m ≤ t → Alone others m v.ids =
          λ l. subst (λ (y : ℕ). Alone others y v.ids) (turn-high m t l z) (a (omega (arith, pow_pos m))) in
          ((up.0 ∙ at, k.0), (λ l. up.1 ∙ ap (λ g. g m) (sums-stay m v x (mine l)) ∙ q.0 l, k.1))
      go false f ih =
          let n : rest m t ≡ 0 → ⊥ = eqb-false (rest m t) 0 f in
          let at : vals_of v m ≡ zs = p.0 n in
          let up = descend-above d m (rest m t) v m (omega arith) in
          let k = ih v at p.1 q.1 (λ w. subst (λ (y : ℕ). Alone others y v.ids) (turn-past m t n) (a (rest-pos m t w))) in
          ((up.0 ∙ at, k.0), (λ l. up.1 ∙ q.0 l, k.1))
