-- The least key from a bound on: what is found is the least, and equal keys give equal answers. By cases on what was found before. Assumes
-- nothing.
use mathlib.Core.Path.{◌≡◌, refl, sym, ap, ap₂, ◌∙◌, subst}
use mathlib.Core.Bool.{Bool, true, false, cond}
use mathlib.Core.Logic.{◌⊎◌, inl, inr}
use mathlib.Core.Option.{Option, none, some}
use Prim.Native.Nat.{ℕ, zero, suc, ◌≤◌, ◌<◌}
use native.Mathlib.Omega.{arith}
use lib.Dec.{ltb, leb}
use borrow.Author.Tests.{lt-ltb, le-ltb, le-leb, lt-leb}
use Rattle.laws.specs.Lists.{May}
use Rattle.laws.proofs.Tests.{cond-case, lt-or}
use Rattle.machine.specs.Choice.{choose, first_of}
use Rattle.outer.specs.Search.{tried, lesser, least_from}

-- no setting is tried before its turn
tried-low : (n : ℕ) → tried n ≤ n
unfolding tried
tried-low n = omega arith

-- what is found is among the settings
pub least-below : (k : ℕ → ℕ) (bound n : ℕ) → May (λ (w : ℕ). w < n) (least_from k bound n)
unfolding least_from first_of May choose
least-below k bound zero = tt
least-below k bound (suc n) = go (leb bound (k (tried n))) (least_from k bound n) (least-below k bound n)
  where
    last : tried n < suc n
    last = omega (arith, tried-low n)

    go : (t : Bool) (o : Option ℕ) → May (λ (w : ℕ). w < n) o → May (λ (w : ℕ). w < suc n) (choose (lesser k) t (tried n) o)
    go true none h = last
    go true (some y) h = cond-case (λ (w : ℕ). w < suc n) (lesser k (tried n) y) (λ _. last) (λ _. omega arith)
    go false none h = tt
    go false (some y) h = omega arith

-- keys with the same order, and bounds that they pass alike
pub least-like : (f g : ℕ → ℕ) (b b' n : ℕ) → ((v w : ℕ) → v < n → w < n → lesser f v w ≡ lesser g v w) → ((w : ℕ) → w < n → leb b (f w) ≡ leb b' (g w))
    → least_from f b n ≡ least_from g b' n
unfolding least_from first_of May choose
least-like f g b b' zero o t = refl
least-like f g b b' (suc n) o t =
    go (leb b (f (tried n))) (least_from f b n) (least-below f b n)
    ∙ ap₂ (λ (c : Bool) (y : Option ℕ). choose (lesser g) c (tried n) y) (t (tried n) last) (least-like f g b b' n (λ v w l k. o v w (omega arith) (omega arith)) (λ w l. t w (omega arith)))
  where
    last : tried n < suc n
    last = omega (arith, tried-low n)

    go : (c : Bool) (y : Option ℕ) → May (λ (w : ℕ). w < n) y → choose (lesser f) c (tried n) y ≡ choose (lesser g) c (tried n) y
    go true none l = refl
    go true (some y) l = ap (λ (c : Bool). some (cond c (tried n) y)) (o (tried n) y last (omega arith))
    go false y l = refl

-- keys that agree
pub least-same : (f g : ℕ → ℕ) (bound n : ℕ) → ((w : ℕ) → w < n → f w ≡ g w) → least_from f bound n ≡ least_from g bound n
unfolding lesser
least-same f g bound n h = least-like f g bound bound n (λ v w l k. ap₂ ltb (h v l) (h w k)) (λ w l. ap (leb bound) (h w l))

-- what is found: the first of the least from the bound on, or nothing where all are below
abbrev pub Chosen : (ℕ → ℕ) → ℕ → ℕ → Option ℕ → Type 0
Chosen k b n none = (w : ℕ) → w < n → k w < b
Chosen k b n (some y) = (y < n) × (b ≤ k y) × ((v : ℕ) → v < n → b ≤ k v → k y ≤ k v) × ((v : ℕ) → v < y → b ≤ k v → k y < k v)

pub least-chosen : (k : ℕ → ℕ) (b n : ℕ) → Chosen k b n (least_from k b n)
unfolding least_from first_of tried choose lesser
least-chosen k b zero = λ w l. absurd (omega arith)
least-chosen k b (suc n) = go (lt-or (k n) b) (least_from k b n) (least-chosen k b n)
  where
    at : (v : ℕ) → v < suc n → n ≤ v → k v ≡ k n
    at v m l = let e : v ≡ n = omega arith in ap k e

    -- a fact of the keys below n and of the last one
    both : (P : ℕ → Type 0) → ((v : ℕ) → v < n → P (k v)) → P (k n) → (v : ℕ) → v < suc n → P (k v)
    both P f g v m = one (lt-or v n)
      where
        one : (v < n) ⊎ (n ≤ v) → P (k v)
        one (inl l) = f v l
        one (inr l) = subst P (sym (at v m l)) g

    go : (k n < b) ⊎ (b ≤ k n) → (o : Option ℕ) → Chosen k b n o → Chosen k b (suc n) (choose (lesser k) (leb b (k n)) n o)
    go (inl l) none h = rw (lt-leb b (k n) l) (both (λ x. x < b) h l)
    go (inl l) (some y) h = rw (lt-leb b (k n) l) (omega arith, h.1, both (λ x. b ≤ x → k y ≤ x) h.2 (λ q. absurd (omega arith)), h.3)
    go (inr l) none h =
        rw (le-leb b (k n) l) (omega arith, l, both (λ x. b ≤ x → k n ≤ x) (λ v m q. absurd (omega (arith, h v m))) (λ q. omega arith), λ v m q. absurd (omega (arith, h v m)))
    go (inr l) (some y) h = rw (le-leb b (k n) l) (pick (lt-or (k n) (k y)))
      where
        pick : (k n < k y) ⊎ (k y ≤ k n) → Chosen k b (suc n) (some (cond (ltb (k n) (k y)) n y))
        pick (inl m) =
            rw (lt-ltb (k n) (k y) m) (omega arith, l, both (λ x. b ≤ x → k n ≤ x) (λ v j q. omega (arith, h.2 v j q)) (λ q. omega arith), λ v j q. omega (arith, h.2 v j q))
        pick (inr m) = rw (le-ltb (k n) (k y) m) (omega arith, h.1, both (λ x. b ≤ x → k y ≤ x) h.2 (λ q. m), h.3)
