-- The first of some elements in an order: what the machine and the reader each use for a block's words. Assumes nothing.
use Rattle.std.specs.Prelude.{Bool, true, false, cond, ℕ, zero, suc}
use Rattle.std.proofs.Math.Option.{Option, none, some}

module _ {A : Type 0} (ahead : A → A → Bool) where
  -- of an element, if it passes a test, and one found before, if there is one, the one ahead
  unfoldable pub choose : Bool → A → Option A → Option A
  choose false x found = found
  choose true x none = some x
  choose true x (some y) = some (cond (ahead x y) x y)

  -- of the first n elements, the first in the order that passes a test
  unfoldable pub first_of : (A → Bool) → (ℕ → A) → ℕ → Option A
  first_of test element zero = none
  first_of test element (suc n) = let x = element n in choose (test x) x (first_of test element n)
