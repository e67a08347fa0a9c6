-- Notions on lists that the definitions of the other crates use. Assumes nothing.
use Rattle.std.specs.Prelude.{Bool, cond, List, [], ◌∷◌, ◌++◌, ◌≢◌, ℕ, zero, suc, ◌+◌, length, drop}
use Rattle.std.proofs.Math.Option.{Option, none, some}

module _ {A : Type 0} where
  -- every element has the property P
  unfoldable pub All : (A → Type 0) → List A → Type 0
  All P [] = Unit {0}
  All P (x ∷ xs) = P x × All P xs

  -- what there is, if there is anything, has the property P
  unfoldable pub May : (A → Type 0) → Option A → Type 0
  May P none = Unit {0}
  May P (some x) = P x

  -- the list has an element
  unfoldable pub NonEmpty : List A → Type 0
  NonEmpty [] = ⊥
  NonEmpty (x ∷ xs) = Unit {0}

  -- the elements that pass a test, in their order
  unfoldable pub keep : (A → Bool) → List A → List A
  keep f [] = []
  keep f (x ∷ xs) = let rest = keep f xs in cond (f x) (x ∷ rest) rest

  -- no element stands twice
  unfoldable pub Distinct : List A → Type 0
  Distinct [] = Unit {0}
  Distinct (x ∷ xs) = All (λ (y : A). x ≢ y) xs × Distinct xs

  -- the list f 0, f 1, .., f (n - 1)
  unfoldable pub tab : ℕ → (ℕ → A) → List A
  tab zero f = []
  tab (suc n) f = tab n f ++ f n ∷ []

  -- a list written over the start of another
  unfoldable pub over : List A → List A → List A
  over new old = new ++ drop (length new) old

-- the sum of the numbers of a list
unfoldable pub sum : List ℕ → ℕ
sum [] = 0
sum (x ∷ xs) = x + sum xs
