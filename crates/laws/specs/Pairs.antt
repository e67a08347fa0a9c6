-- Two lists related element by element, and two things that may be there. Assumes nothing.
use Rattle.std.specs.Prelude.{List, [], ◌∷◌}
use Rattle.std.proofs.Math.Option.{Option, none, some}

module _ {A B : Type 0} (R : A → B → Type 0) where
  -- as many here as there, each related to the one in its place
  unfoldable pub Paired : List A → List B → Type 0
  Paired [] [] = Unit {0}
  Paired [] (y ∷ ys) = ⊥
  Paired (x ∷ xs) [] = ⊥
  Paired (x ∷ xs) (y ∷ ys) = R x y × Paired xs ys

  -- both are there, and related, or neither is
  unfoldable pub MayPair : Option A → Option B → Type 0
  MayPair none none = Unit {0}
  MayPair none (some y) = ⊥
  MayPair (some x) none = ⊥
  MayPair (some x) (some y) = R x y
