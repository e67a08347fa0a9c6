-- What is removed from a list of numbers: those of the old list that the new one has not. Of distinct numbers, a cut and a choice by a test
-- each remove exactly the others. By induction on the list. Assumes nothing.
use mathlib.Core.Path.{◌≡◌, sym}
use mathlib.Core.Bool.{Bool, true, false, cond, not}
use mathlib.Core.List.Memᴰ
use mathlib.Core.List.{List, [], ◌∷◌, ◌++◌, map, Memᴰ}
use mathlib.Core.Logic.{◌⊎◌, inl, inr, ◌≢◌}
use Prim.Native.Nat.{ℕ}
use Rattle.laws.specs.Lists.{Distinct, keep}
use Rattle.laws.specs.Removes.{In, Removes}
use Rattle.laws.proofs.Lists.{all_in, distinct_apart}

pub removes-none : (xs : List ℕ) → Removes [] xs xs
removes-none xs x = (λ m. absurd (Memᴰ.not-nil m), λ h. absurd (h.1 h.0))

-- ---- a cut

pub removes-cut : (xs ys : List ℕ) → Distinct (xs ++ ys) → Removes ys (xs ++ ys) xs
removes-cut xs ys d x = (λ m. (Memᴰ.append_right xs m, λ k. distinct_apart xs ys x d k m), λ h. go (Memᴰ.append_cases xs h.0) h.1)
  where
    go : In x xs ⊎ In x ys → (In x xs → ⊥) → In x ys
    go (inl m) n = absurd (n m)
    go (inr m) n = m

-- ---- a choice by a test and its opposite

module _ {A : Type 0} (number : A → ℕ) (stay go : A → Bool) (other : (p : A) → go p ≡ not (stay p)) where
  keep-in : (ps : List A) (x : ℕ) → In x (map number (keep stay ps)) → In x (map number ps)
  unfolding keep
  keep-in [] x m = m
  keep-in (p ∷ ps) x m = at (stay p) m (keep-in ps x)
    where
      at : (b : Bool) → In x (map number (cond b (p ∷ keep stay ps) (keep stay ps))) → (In x (map number (keep stay ps)) → In x (map number ps)) → In x (number p ∷ map number ps)
      at true m ih = two (Memᴰ.cases_cons m)
        where
          two : (x ≡ number p) ⊎ In x (map number (keep stay ps)) → In x (number p ∷ map number ps)
          two (inl e) = Memᴰ.head e
          two (inr k) = Memᴰ.tail (ih k)
      at false m ih = Memᴰ.tail (ih m)

  pub removes-keep : (ps : List A) → Distinct (map number ps) → Removes (map number (keep go ps)) (map number ps) (map number (keep stay ps))
  unfolding keep Distinct
  removes-keep [] d = removes-none []
  removes-keep (p ∷ ps) d = rw (other p) (at (stay p) (removes-keep ps d.1))
    where
      left : List ℕ
      left = map number (keep stay ps)

      gone : List ℕ
      gone = map number (keep go ps)

      -- p's number is not among the rest
      alone : (x : ℕ) → x ≡ number p → In x (map number ps) → ⊥
      alone x e m = all_in (λ y. number p ≢ y) d.0 m (sym e)

      at : (b : Bool) → Removes gone (map number ps) left → Removes (map number (cond (not b) (p ∷ keep go ps) (keep go ps))) (number p ∷ map number ps) (map number (cond b (p ∷ keep stay ps) (keep stay ps)))
      at true r x = (λ m. (Memᴰ.tail ((r x).0 m).0, λ k. out m (Memᴰ.cases_cons k)), λ h. back (Memᴰ.cases_cons h.0) h.1)
        where
          out : In x gone → (x ≡ number p) ⊎ In x left → ⊥
          out m (inl e) = alone x e ((r x).0 m).0
          out m (inr k) = ((r x).0 m).1 k

          back : (x ≡ number p) ⊎ In x (map number ps) → (In x (number p ∷ left) → ⊥) → In x gone
          back (inl e) n = absurd (n (Memᴰ.head e))
          back (inr m) n = (r x).1 (m, λ k. n (Memᴰ.tail k))
      at false r x = (λ m. out (Memᴰ.cases_cons m), λ h. back (Memᴰ.cases_cons h.0) h.1)
        where
          out : (x ≡ number p) ⊎ In x gone → In x (number p ∷ map number ps) × (In x left → ⊥)
          out (inl e) = (Memᴰ.head e, λ k. alone x e (keep-in ps x k))
          out (inr m) = (Memᴰ.tail ((r x).0 m).0, ((r x).0 m).1)

          back : (x ≡ number p) ⊎ In x (map number ps) → (In x left → ⊥) → In x (number p ∷ gone)
          back (inl e) n = Memᴰ.head e
          back (inr m) n = Memᴰ.tail ((r x).1 (m, n))
