-- Choices by a test, and tests joined by and and or: by cases on the test. Assumes nothing.
use mathlib.Core.Path.{◌≡◌, refl, sym, ap, ◌∙◌, subst}
use mathlib.Core.Bool.{Bool, true, false, cond, not, ◌&&◌, ◌||◌}
use mathlib.Core.Logic.{◌⊎◌, inl, inr, ◌≢◌}
use Prim.Native.Nat.{ℕ, ◌≤◌, ◌<◌}
use native.Mathlib.Decide.{dec_lt}
use native.Mathlib.Omega.{arith}
use lib.Dec.{T, leb, ltb, eqb, eqb_refl, T_not}
use borrow.Author.Tests.{lt-ltb, le-ltb, le-leb, lt-leb}

-- what holds of both choices, each under its test's answer, holds of the choice
pub cond-case : {A : Type 0} (P : A → Type 0) (b : Bool) {x y : A} → (T b → P x) → (T (not b) → P y) → P (cond b x y)
cond-case P true f g = f tt
cond-case P false f g = g tt

-- a test that holds is true
pub T_true : (b : Bool) → T b → b ≡ true
T_true true t = refl
T_true false t = absurd t

pub T_false : (b : Bool) → T (not b) → b ≡ false
T_false true t = absurd t
T_false false t = refl

-- no test both holds and fails
pub apart : {X : Type 0} → true ≡ false → X
apart e = absurd (subst T e tt)

-- choices by one test
pub cond_same : {A : Type 0} (b : Bool) {x y z w : A} → (T b → x ≡ z) → y ≡ w → cond b x y ≡ cond b z w
cond_same true e f = e tt
cond_same false e f = f

pub and_left : (a b : Bool) → T (a && b) → T a
and_left true b t = tt
and_left false b t = t

pub and_right : (a b : Bool) → T (a && b) → T b
and_right true b t = t
and_right false b t = absurd t

pub and_in : (a b : Bool) → T a → T b → T (a && b)
and_in true b t u = u
and_in false b t u = absurd t

pub or_left : (a b : Bool) → T a → T (a || b)
or_left true b t = tt
or_left false b t = absurd t

pub or_right : (a b : Bool) → T b → T (a || b)
or_right true b t = tt
or_right false b t = t

pub or_case : {X : Type 0} (a b : Bool) → T (a || b) → (T a → X) → (T (not a) → T b → X) → X
or_case true b t f g = f tt
or_case false b t f g = g tt t

-- below, or not
pub lt-or : (t h : ℕ) → (t < h) ⊎ (h ≤ t)
lt-or t h = go (dec_lt t h)
  where
    go : Dec (t < h) → (t < h) ⊎ (h ≤ t)
    go (yes l) = inl l
    go (no l) = inr (omega arith)

-- at most, or above
pub leb-ltb : (a b : ℕ) → leb a b ≡ not (ltb b a)
leb-ltb a b = go (lt-or b a)
  where
    go : (b < a) ⊎ (a ≤ b) → leb a b ≡ not (ltb b a)
    go (inl l) = lt-leb a b l ∙ sym (ap not (lt-ltb b a l))
    go (inr l) = le-leb a b l ∙ sym (ap not (le-ltb b a l))

-- numbers that a test tells apart differ
pub neqb→ne : (a b : ℕ) → T (not (eqb a b)) → a ≢ b
neqb→ne a b t e = T_not (eqb a b) t (subst (λ (x : ℕ). T (eqb a x)) e (eqb_refl a))

pub eq→eqb : {a b : ℕ} → a ≡ b → T (eqb a b)
eq→eqb {b} e = rw e (eqb_refl b)

-- two tests in a row: what is chosen where both are passed, and that both are passed where neither of the others can have been chosen
pub both-in : {A : Type 0} (s t : Bool) {x : A} (y z : A) → T s → T t → cond s (cond t x y) z ≡ x
both-in true true y z p q = refl
both-in true false y z p q = absurd q
both-in false t y z p q = absurd p

pub both_out : {A : Type 0} (P : A → Type 0) (s t : Bool) {x y z : A} → (P y → ⊥) → (P z → ⊥) → P (cond s (cond t x y) z) → T s × T t × P x
both_out P true true f g h = (tt, tt, h)
both_out P true false f g h = absurd (f h)
both_out P false t f g h = absurd (g h)
