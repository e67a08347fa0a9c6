-- A function, and arrays, changed at one place: what stands there afterwards, and elsewhere. By the test on the place. Assumes nothing.
use mathlib.Core.Path.{◌≡◌, refl, sym, ap, ◌∙◌, fun_ext}
use mathlib.Core.Bool.{Bool, true, false, cond}
use Prim.Native.Nat.{ℕ}
use lib.Dec.{eqb}
use borrow.Author.Tests.{eqb-true, eqb-false, eq-eqb, ne_eqb}
use Rattle.reader.specs.Arrays.{upd, store}

module _ {A : Type 0} where
  pub upd_same : (f : ℕ → A) (i : ℕ) (x : A) → upd f i x i ≡ x
  unfolding upd
  upd_same f i x = rw (eq-eqb i i refl)

  pub upd_other : (f : ℕ → A) (i : ℕ) (x : A) (k : ℕ) → (k ≡ i → ⊥) → upd f i x k ≡ f k
  unfolding upd
  upd_other f i x k n = rw (ne_eqb k i n)

  pub upd-self : (f : ℕ → A) (i : ℕ) → upd f i (f i) ≡ f
  unfolding upd
  upd-self f i = fun_ext (λ k. go k (eqb k i) refl)
    where
      go : (k : ℕ) (t : Bool) → eqb k i ≡ t → cond t (f i) (f k) ≡ f k
      go k true e = ap f (sym (eqb-true k i e))
      go k false e = refl

  -- functions that agree elsewhere
  pub upd-agree : (f g : ℕ → A) (i : ℕ) (x : A) → ((k : ℕ) → (k ≡ i → ⊥) → f k ≡ g k) → upd f i x ≡ upd g i x
  unfolding upd
  upd-agree f g i x h = fun_ext (λ k. go k (eqb k i) refl)
    where
      go : (k : ℕ) (t : Bool) → eqb k i ≡ t → cond t x (f k) ≡ cond t x (g k)
      go k true e = refl
      go k false e = h k (eqb-false k i e)

  -- ---- what a path sees by its ids

  abbrev pub seen : (ℕ → ℕ → A) → (ℕ → ℕ) → ℕ → A
  seen arrays ids h = arrays h (ids h)

  -- the writer sees what it wrote, and the rest as it was
  pub seen-store : (arrays : ℕ → ℕ → A) (ids : ℕ → ℕ) (h i : ℕ) (x : A) → seen (store arrays h i x) (upd ids h i) ≡ upd (seen arrays ids) h x
  unfolding store upd
  seen-store arrays ids h i x = fun_ext (λ k. go k (eqb k h))
    where
      go : (k : ℕ) (t : Bool) → cond t (upd (arrays k) i x) (arrays k) (cond t i (ids k)) ≡ cond t x (arrays k (ids k))
      go k true = rw (eq-eqb i i refl)
      go k false = refl

  -- with a new id and no write it sees what that array held
  pub seen-ids : (arrays : ℕ → ℕ → A) (ids : ℕ → ℕ) (h i : ℕ) → seen arrays (upd ids h i) ≡ upd (seen arrays ids) h (arrays h i)
  unfolding upd
  seen-ids arrays ids h i = fun_ext (λ k. go k (eqb k h) refl)
    where
      go : (k : ℕ) (t : Bool) → eqb k h ≡ t → arrays k (cond t i (ids k)) ≡ cond t (arrays h i) (arrays k (ids k))
      go k true e = ap (λ n. arrays n i) (eqb-true k h e)
      go k false e = refl

  -- a path that holds another array of that height sees no change
  pub seen-frame : (arrays : ℕ → ℕ → A) (ids : ℕ → ℕ) (h i : ℕ) (x : A) → (ids h ≡ i → ⊥) → seen (store arrays h i x) ids ≡ seen arrays ids
  unfolding store upd
  seen-frame arrays ids h i x n = fun_ext (λ k. go k (eqb k h) refl)
    where
      go : (k : ℕ) (t : Bool) → eqb k h ≡ t → cond t (upd (arrays k) i x) (arrays k) (ids k) ≡ arrays k (ids k)
      go k true e = let q : k ≡ h = eqb-true k h e in rw (ne_eqb (ids k) i (λ z. n (ap ids (sym q) ∙ z)))
      go k false e = refl
