-- The id that a path writes to: none that another path holds, never 0, the path's own where that is so already, and no higher than needed:
-- where it is not the path's own, each lower one is taken. Nothing else of the choice is used anywhere. The first free id is found since each
-- taken one on the way leaves fewer of the taken ones above it. Assumes nothing.
use mathlib.Core.Path.{◌≡◌, refl, sym, ap, ◌∙◌}
use mathlib.Core.Bool.{Bool, true, false, cond, ◌||◌}
use mathlib.Core.List.{List, [], ◌∷◌}
use Prim.Native.Nat.{ℕ, zero, suc, ◌+◌, ◌≤◌, ◌<◌}
use native.Mathlib.Omega.{arith}
use lib.ListN.{length}
use lib.Dec.{eqb, leb}
use borrow.Author.Tests.{eqb-true, eqb-false, leb-true, leb-false}
use Rattle.laws.specs.Lists.{All}
use Rattle.reader.specs.Arrays.{among, first_free, own_of}

-- i is none of these
abbrev pub NoneIs : ℕ → List ℕ → Type 0
NoneIs i is = All (λ (k : ℕ). k ≡ i → ⊥) is

among_none : (i : ℕ) (is : List ℕ) → among i is ≡ false → NoneIs i is
unfolding among All
among_none i [] e = tt
among_none i (k ∷ ks) e = go (eqb k i) refl e (among_none i ks)
  where
    go : (b : Bool) → eqb k i ≡ b → (b || among i ks) ≡ false → (among i ks ≡ false → NoneIs i ks) → (k ≡ i → ⊥) × NoneIs i ks
    go true f e ih = let z : ◌≡◌ {A = ℕ} 0 1 = cc in absurd (omega arith)
    go false f e ih = (eqb-false k i f, ih e)

none-among : (i : ℕ) (is : List ℕ) → NoneIs i is → among i is ≡ false
unfolding among All
none-among i [] h = refl
none-among i (k ∷ ks) h = go (eqb k i) refl (none-among i ks h.1)
  where
    go : (b : Bool) → eqb k i ≡ b → among i ks ≡ false → (b || among i ks) ≡ false
    go true f e = absurd (h.0 (eqb-true k i f))
    go false f e = e

-- ---- the first free id

-- how many are at least i
above : ℕ → List ℕ → ℕ
above i [] = 0
above i (k ∷ ks) = cond (leb i k) 1 0 + above i ks

above-all : (i : ℕ) (is : List ℕ) → above i is ≤ length is
unfolding above
above-all i [] = omega arith
above-all i (k ∷ ks) = go (leb i k) (above-all i ks)
  where
    go : (b : Bool) → above i ks ≤ length ks → cond b 1 0 + above i ks ≤ suc (length ks)
    go true h = omega arith
    go false h = omega arith

one_less : (i k : ℕ) → cond (leb (suc i) k) 1 0 ≤ cond (leb i k) 1 0
one_less i k = go (leb (suc i) k) (leb i k) refl refl
  where
    go : (b c : Bool) → leb (suc i) k ≡ b → leb i k ≡ c → cond b 1 0 ≤ cond c 1 0
    go true true e f = omega arith
    go true false e f = absurd (omega (arith, leb-true (suc i) k e, leb-false i k f))
    go false c e f = omega arith

above-less : (i : ℕ) (is : List ℕ) → above (suc i) is ≤ above i is
unfolding above
above-less i [] = omega arith
above-less i (k ∷ ks) = omega (arith, one_less i k, above-less i ks)

above-among : (i : ℕ) (is : List ℕ) → among i is ≡ true → above (suc i) is < above i is
unfolding above among
above-among i [] e = let z : ◌≡◌ {A = ℕ} 0 1 = cc in absurd (omega arith)
above-among i (k ∷ ks) e = go (eqb k i) refl e (above-among i ks)
  where
    here : k ≡ i → (b c : Bool) → leb (suc i) k ≡ b → leb i k ≡ c → cond b 1 0 < cond c 1 0
    here q true c e f = absurd (omega (arith, leb-true (suc i) k e))
    here q false true e f = omega arith
    here q false false e f = absurd (omega (arith, leb-false i k f))

    go : (b : Bool) → eqb k i ≡ b → (b || among i ks) ≡ true → (among i ks ≡ true → above (suc i) ks < above i ks) →
        cond (leb (suc i) k) 1 0 + above (suc i) ks < cond (leb i k) 1 0 + above i ks
    go true f e ih = omega (arith, here (eqb-true k i f) (leb (suc i) k) (leb i k) refl refl, above-less i ks)
    go false f e ih = omega (arith, one_less i k, ih e)

first-free : (n i : ℕ) (is : List ℕ) → above i is ≤ n → (among (first_free n i is) is ≡ false) × (first_free n i is ≤ i + n)
unfolding first_free
first-free zero i is h = (go (among i is) refl, omega arith)
  where
    go : (b : Bool) → among i is ≡ b → b ≡ false
    go true e = absurd (omega (arith, above-among i is e))
    go false e = refl
first-free (suc n) i is h = go (among i is) refl (first-free n (suc i) is)
  where
    go : (b : Bool) → among i is ≡ b → (above (suc i) is ≤ n → (among (first_free n (suc i) is) is ≡ false) × (first_free n (suc i) is ≤ suc i + n)) →
        (among (cond b (first_free n (suc i) is) i) is ≡ false) × (cond b (first_free n (suc i) is) i ≤ i + suc n)
    go true e ih = let k = ih (omega (arith, above-among i is e)) in (k.0, omega (arith, k.1))
    go false e ih = (e, omega arith)

-- each id on the way to it is taken
first-least : (n i : ℕ) (is : List ℕ) (k : ℕ) → i ≤ k → k < first_free n i is → among k is ≡ true
unfolding first_free
first-least zero i is k l h = absurd (omega arith)
first-least (suc n) i is k l h = go (among i is) refl (eqb i k) refl h (first-least n (suc i) is k)
  where
    go : (b : Bool) → among i is ≡ b → (t : Bool) → eqb i k ≡ t → k < cond b (first_free n (suc i) is) i →
        (suc i ≤ k → k < first_free n (suc i) is → among k is ≡ true) → among k is ≡ true
    go true e true q h ih = ap (λ j. among j is) (sym (eqb-true i k q)) ∙ e
    go true e false q h ih = ih (omega (arith, eqb-false i k q)) h
    go false e t q h ih = absurd (omega arith)

-- ---- the choice

-- it is no id taken: 0, and those of the others
own-free : (i : ℕ) (is : List ℕ) → NoneIs (own_of i is) (0 ∷ is)
unfolding own_of
own-free i is = among_none (own_of i is) (0 ∷ is) (go (among i (0 ∷ is)) refl)
  where
    go : (b : Bool) → among i (0 ∷ is) ≡ b → among (cond b (first_free (length (0 ∷ is)) 0 (0 ∷ is)) i) (0 ∷ is) ≡ false
    go true e = (first-free (length (0 ∷ is)) 0 (0 ∷ is) (above-all 0 (0 ∷ is))).0
    go false e = e

pub own_new : (i : ℕ) (is : List ℕ) → NoneIs (own_of i is) is
unfolding All
own_new i is = (own-free i is).1

pub own-some : (i : ℕ) (is : List ℕ) → own_of i is ≡ 0 → ⊥
unfolding All
own-some i is e = (own-free i is).0 (sym e)

pub own-keep : (i : ℕ) (is : List ℕ) → (i ≡ 0 → ⊥) → NoneIs i is → own_of i is ≡ i
unfolding own_of All
own-keep i is n h = ap (λ b. cond b (first_free (length (0 ∷ is)) 0 (0 ∷ is)) i) (none-among i (0 ∷ is) (λ e. n (sym e), h))

-- where N ids are more than the others are, it is one of them
pub own-most : (N i : ℕ) (is : List ℕ) → i ≤ N → length is < N → own_of i is ≤ N
unfolding own_of
own-most N i is h k = go (among i (0 ∷ is))
  where
    go : (b : Bool) → cond b (first_free (length (0 ∷ is)) 0 (0 ∷ is)) i ≤ N
    go true = omega (arith, (first-free (length (0 ∷ is)) 0 (0 ∷ is) (above-all 0 (0 ∷ is))).1)
    go false = h

-- where i is taken, so is each id below the choice
pub own-least : (i : ℕ) (is : List ℕ) → (NoneIs i (0 ∷ is) → ⊥) → (k : ℕ) → k < own_of i is → NoneIs k (0 ∷ is) → ⊥
unfolding own_of
own-least i is t k l h = go (among i (0 ∷ is)) refl l
  where
    go : (b : Bool) → among i (0 ∷ is) ≡ b → k < cond b (first_free (length (0 ∷ is)) 0 (0 ∷ is)) i → ⊥
    go true e l =
        let z : true ≡ false = sym (first-least (length (0 ∷ is)) 0 (0 ∷ is) k (omega arith) l) ∙ none-among k (0 ∷ is) h in
        let y : ◌≡◌ {A = ℕ} 0 1 = cc in
        omega arith
    go false e l = t (among_none i (0 ∷ is) e)
