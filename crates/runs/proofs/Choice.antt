-- The first of some elements in an order (machine/specs/Choice): what holds of it, when there is one, and which it is where one stands before all others. By
-- induction on their number. Assumes nothing.
use mathlib.Core.Path.{◌≡◌, refl, ap, ◌∙◌, subst}
use mathlib.Core.Bool.{Bool, true, false, cond, not}
use mathlib.Core.Logic.{◌≢◌, ◌⊎◌, inl, inr}
use mathlib.Core.Option.{Option, none, some}
use Prim.Native.Nat.{ℕ, zero, suc, ◌≤◌, ◌<◌}
use native.Mathlib.Omega.{arith}
use lib.Dec.{T}
use Rattle.laws.specs.Lists.{May}
use Rattle.laws.proofs.Tests.{cond-case, T_true, T_false, lt-or}
use Rattle.machine.specs.Choice.{choose, first_of}

-- there is one
unfoldable pub Found : {A : Type 0} → Option A → Type 0
Found none = ⊥
Found (some x) = Unit {0}

module _ {A : Type 0} (order : A → A → Bool) (test : A → Bool) (element : ℕ → A) where
  -- it is one of those tried, and passes the test
  pub first-may : (P : A → Type 0) (n : ℕ) → ((w : ℕ) → w < n → T (test (element w)) → P (element w)) → May P (first_of order test element n)
  unfolding first_of May choose
  first-may P zero h = tt
  first-may P (suc n) h = go (test (element n)) (h n (omega arith)) (first_of order test element n) (first-may P n (λ w l. h w (omega arith)))
    where
      go : (b : Bool) → (T b → P (element n)) → (o : Option A) → May P o → May P (choose order b (element n) o)
      go true f none k = f tt
      go true f (some y) k = cond-case P (order (element n) y) (λ _. f tt) (λ _. k)
      go false f none k = tt
      go false f (some y) k = k

  -- there is one where one passes
  pub first_found : (n w : ℕ) → w < n → T (test (element w)) → Found (first_of order test element n)
  unfolding first_of choose Found
  first_found zero w l t = absurd (omega arith)
  first_found (suc n) w l t = go (lt-or w n) (test (element n)) refl (first_of order test element n) (λ k. first_found n w k t)
    where
      last : n ≤ w → T (test (element n))
      last k = let e : w ≡ n = omega arith in subst (λ (i : ℕ). T (test (element i))) e t

      go : (w < n) ⊎ (n ≤ w) → (b : Bool) → test (element n) ≡ b → (o : Option A) → (w < n → Found o) → Found (choose order b (element n) o)
      go d true e none f = tt
      go d true e (some y) f = tt
      go (inl k) false e o f = f k
      go (inr k) false e o f = absurd (subst T e (last k))

  -- where one that passes stands before every other that does, it is that one
  pub first-is : (n w : ℕ) → w < n → T (test (element w))
      → ((v : ℕ) → v < n → v ≢ w → T (test (element v)) → T (order (element w) (element v)) × T (not (order (element v) (element w))))
      → first_of order test element n ≡ some (element w)
  unfolding first_of choose May
  first-is zero w l t h = absurd (omega arith)
  first-is (suc n) w l t h = go (lt-or w n) (λ k. first-is n w k t (λ v q. h v (omega arith)))
    where
      later : (b : Bool) → (T b → T (not (order (element n) (element w)))) → choose order b (element n) (some (element w)) ≡ some (element w)
      later true f = ap (λ (c : Bool). some (cond c (element n) (element w))) (T_false (order (element n) (element w)) (f tt))
      later false f = refl

      ahead : (o : Option A) → May (λ x. T (order (element w) x)) o → choose order true (element w) o ≡ some (element w)
      ahead none m = refl
      ahead (some y) m = ap (λ (c : Bool). some (cond c (element w) y)) (T_true (order (element w) y) m)

      -- it is one of the earlier ones, or the last
      go : (w < n) ⊎ (n ≤ w) → (w < n → first_of order test element n ≡ some (element w)) → choose order (test (element n)) (element n) (first_of order test element n) ≡ some (element w)
      go (inl k) f = ap (choose order (test (element n)) (element n)) (f k) ∙ later (test (element n)) (λ e. (h n (omega arith) (λ q. omega arith) e).1)
      go (inr k) f =
          let e : n ≡ w = omega arith in
          ap (λ (i : ℕ). choose order (test (element i)) (element i) (first_of order test element n)) e
          ∙ ap (λ (b : Bool). choose order b (element w) (first_of order test element n)) (T_true (test (element w)) t)
          ∙ ahead (first_of order test element n) (first-may (λ x. T (order (element w) x)) n (λ v q p. (h v (omega arith) (λ f. omega arith) p).0))
