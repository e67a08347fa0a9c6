-- What the arrays hold after a write within the cells of one of them: the others hold what they held. By spots-apart and part-over. Assumes
-- nothing.
use mathlib.Core.Path.{◌≡◌, refl, sym, ap, ap₂, ◌∙◌, subst}
use mathlib.Core.Bool.{Bool, true, false, cond}
use mathlib.Core.List.{List}
use mathlib.Core.Logic.{inl, inr, ⊎_elim}
use Prim.Native.Nat.{ℕ, suc, ◌+◌, ◌^◌, ◌≤◌, ◌<◌}
use native.Mathlib.Nat.{two-pow-succ}
use native.Mathlib.Numerals.{add-one}
use native.Mathlib.Omega.{arith}
use lib.Dec.{eqb}
use lib.ListN.{length}
use borrow.Author.Tests.{eqb-true, eqb-false}
use Rattle.polar.specs.Layers.{part, over_at}
use Rattle.polar.proofs.Writes.{part_length}
use Rattle.reader.specs.Arrays.{upd, store}
use Rattle.heights.specs.Workspace.{spot, Room, Id, Parts}
use Rattle.heights.proofs.Over.{part-over, part-over-apart}
use Rattle.heights.proofs.Spots.{spot-room, spots-apart}

-- the changed array is what was stored, and any other is as it was
store-case : {A : Type 0} (P : A → Type 0) (f : ℕ → ℕ → A) (h i : ℕ) (x : A) (k j : ℕ) → (k ≡ h → j ≡ i → P x) →
    (((k ≡ h) × (j ≡ i) → ⊥) → P (f k j)) → P (store f h i x k j)
unfolding store upd
store-case P f h i x k j a b = go (eqb k h) refl
  where
    inner : k ≡ h → (t : Bool) → eqb j i ≡ t → P (cond t x (f k j))
    inner q true e = a q (eqb-true j i e)
    inner q false e = b (λ p. eqb-false j i e p.1)

    go : (t : Bool) → eqb k h ≡ t → P (cond t (upd (f k) i x) (f k) j)
    go true e = inner (eqb-true k h e) (eqb j i) refl
    go false e = b (λ p. eqb-false k h e p.0)

module _ {A : Type 0} {m N : ℕ} (l : List A) (f : ℕ → ℕ → List A) (c : Parts m N l f) where
  -- what is read at the place of an array
  pub parts-read : {h i : ℕ} → h ≤ m → Id N i → {at n : ℕ} → at ≡ spot m i h → n ≡ 2 ^ h → part at n l ≡ f h i
  unfolding Parts
  parts-read {h} {i} g d e s = ap₂ (λ a n. part a n l) e s ∙ c h i g d

  -- and at that of an array of the height above
  pub parts-above : {h i : ℕ} → h < m → Id N i → {at n : ℕ} → at ≡ spot m i (h + 1) → n ≡ 2 ^ h → part at (n + n) l ≡ f (suc h) i
  parts-above {h} {i} g d e s = parts-read g d (e ∙ ap (spot m i) (add-one h)) (omega (arith, two-pow-succ h))

  module _ (r : Room m N l) {h i : ℕ} (g : h ≤ m) (d : Id N i) where
    pub parts-length : length (f h i) ≡ 2 ^ h
    parts-length = ap length (sym (parts-read g d refl refl)) ∙ part_length (spot m i h) (2 ^ h) l (spot-room g d l r)

    -- whatever the array then holds, the others hold what they held
    within : (at : ℕ) (x : List A) → spot m i h ≤ at → at + length x ≤ spot m i h + 2 ^ h → (y : List A) →
        part (spot m i h) (2 ^ h) (over_at at x l) ≡ y → Parts m N (over_at at x l) (store f h i y)
    unfolding Parts
    within at x a b y e = λ k j g' d'.
        let s = spot-room g d l r in
        store-case (λ z. part (spot m j k) (2 ^ k) (over_at at x l) ≡ z) f h i y k j
        (λ p q. ap₂ (λ k j. part (spot m j k) (2 ^ k) (over_at at x l)) p q ∙ e)
        (λ n. part-over-apart at x l (omega arith) (spot m j k) (2 ^ k)
        (⊎_elim (λ o. inl (omega arith)) (λ o. inr (omega arith)) (spots-apart g' d' g d n))
        ∙ c k j g' d')

    -- the whole array written
    pub parts-over : (x : List A) → length x ≡ 2 ^ h → Parts m N (over_at (spot m i h) x l) (store f h i x)
    parts-over x e =
        let s = spot-room g d l r in
        within (spot m i h) x (omega arith) (omega arith) x (part-over (spot m i h) x l (omega arith) (2 ^ h) e)

    -- the same of a list that is found to be that one
    pub parts-written : {l' : List A} {to : ℕ} {new x : List A} → l' ≡ over_at to new l → to ≡ spot m i h → new ≡ x → length x ≡ 2 ^ h →
        Parts m N l' (store f h i x)
    parts-written {x = x} q t n e =
        subst (λ w. Parts m N w (store f h i x)) (sym (q ∙ ap₂ (λ a y. over_at a y l) t n)) (parts-over x e)
