-- The paths with more than b blocks and those with b or fewer, with one path more in front; together they are all. And what a visit to block b
-- leaves: all, or, where it is the L-th, those with more. By the test, and by induction on the paths. Assumes nothing.
use mathlib.Core.Path.{◌≡◌, refl}
use mathlib.Core.List.{List, [], ◌∷◌}
use mathlib.Core.Logic.{◌⊎◌, inl, inr}
use Prim.Native.Nat.{ℕ, suc, ◌+◌, ◌≤◌, ◌<◌}
use native.Mathlib.Omega.{arith}
use lib.ListN.{length, get_or}
use borrow.Author.Tests.{lt-ltb, le-ltb, le-leb, lt-leb, eq-eqb, ne_eqb}
use Rattle.laws.specs.Lists.{keep}
use Rattle.laws.proofs.Tests.{lt-or}
use Rattle.queue.specs.Queue.{Key, ahead, behind, staying, outrun_by}

module _ {A : Type 0} (key : A → Key) (b : ℕ) where
  -- ---- one path more

  module _ (x : A) (xs : List A) where
    pub ahead_in : b < (key x).blocks → ahead key b (x ∷ xs) ≡ x ∷ ahead key b xs
    unfolding ahead keep
    ahead_in h = rw (lt-ltb b (key x).blocks h)

    pub ahead-out : (key x).blocks ≤ b → ahead key b (x ∷ xs) ≡ ahead key b xs
    unfolding ahead keep
    ahead-out h = rw (le-ltb b (key x).blocks h)

    pub behind-in : (key x).blocks ≤ b → behind key b (x ∷ xs) ≡ x ∷ behind key b xs
    unfolding behind keep
    behind-in h = rw (le-leb (key x).blocks b h)

    pub behind-out : b < (key x).blocks → behind key b (x ∷ xs) ≡ behind key b xs
    unfolding behind keep
    behind-out h = rw (lt-leb (key x).blocks b h)

  pub sides-none : (ahead key b [] ≡ []) × (behind key b [] ≡ [])
  unfolding ahead behind keep
  sides-none = (refl, refl)

  -- ---- together they are all

  pub sides-length : (xs : List A) → length (ahead key b xs) + length (behind key b xs) ≡ length xs
  sides-length [] = rw (sides-none.0, sides-none.1)
  sides-length (x ∷ xs) = go (lt-or b (key x).blocks) (sides-length xs)
    where
      go : (b < (key x).blocks) ⊎ ((key x).blocks ≤ b) → length (ahead key b xs) + length (behind key b xs) ≡ length xs →
          length (ahead key b (x ∷ xs)) + length (behind key b (x ∷ xs)) ≡ suc (length xs)
      go (inl h) ih = rw (ahead_in x xs h, behind-out x xs h) (omega arith)
      go (inr h) ih = rw (ahead-out x xs h, behind-in x xs h) (omega arith)

-- ---- a visit

module _ {A : Type 0} (key : A → Key) (L b : ℕ) (visits : List ℕ) (ps : List A) where
  pub stay_all : (get_or visits b 0 ≡ L → ⊥) → (staying key L b visits ps ≡ ps) × (outrun_by key L b visits ps ≡ [])
  unfolding staying outrun_by
  stay_all h = rw (ne_eqb (get_or visits b 0) L h) (refl, refl)

  pub stay-ahead : get_or visits b 0 ≡ L → (staying key L b visits ps ≡ ahead key b ps) × (outrun_by key L b visits ps ≡ behind key b ps)
  unfolding staying outrun_by
  stay-ahead h = rw (eq-eqb (get_or visits b 0) L h) (refl, refl)
