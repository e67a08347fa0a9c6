-- Two lists related element by element: they are equally long, and cutting, keeping and mapping both leaves them so. By induction on the lists. Assumes
-- nothing.
use mathlib.Core.Path.{◌≡◌, refl, ap, ap₂}
use mathlib.Core.Bool.{Bool, true, false, cond}
use mathlib.Core.List.{List, [], ◌∷◌, map}
use Prim.Native.Nat.{ℕ, zero, suc}
use lib.ListN.{length, take, drop}
use Rattle.laws.specs.Lists.{All, keep}
use Rattle.laws.specs.Pairs.{Paired}

module _ {A B : Type 0} (R : A → B → Type 0) where
  pub paired-length : (xs : List A) (ys : List B) → Paired R xs ys → length xs ≡ length ys
  unfolding Paired
  paired-length [] [] h = refl
  paired-length [] (y ∷ ys) h = absurd h
  paired-length (x ∷ xs) [] h = absurd h
  paired-length (x ∷ xs) (y ∷ ys) h = ap suc (paired-length xs ys h.1)

  pub paired-take : (n : ℕ) (xs : List A) (ys : List B) → Paired R xs ys → Paired R (take n xs) (take n ys)
  unfolding Paired
  paired-take zero xs ys h = tt
  paired-take (suc n) [] [] h = tt
  paired-take (suc n) [] (y ∷ ys) h = absurd h
  paired-take (suc n) (x ∷ xs) [] h = absurd h
  paired-take (suc n) (x ∷ xs) (y ∷ ys) h = (h.0, paired-take n xs ys h.1)

  pub paired-drop : (n : ℕ) (xs : List A) (ys : List B) → Paired R xs ys → Paired R (drop n xs) (drop n ys)
  unfolding Paired
  paired-drop zero xs ys h = h
  paired-drop (suc n) [] [] h = tt
  paired-drop (suc n) [] (y ∷ ys) h = absurd h
  paired-drop (suc n) (x ∷ xs) [] h = absurd h
  paired-drop (suc n) (x ∷ xs) (y ∷ ys) h = paired-drop n xs ys h.1

  -- tests that agree on related elements
  pub paired-keep : (f : A → Bool) (g : B → Bool) → ((x : A) (y : B) → R x y → f x ≡ g y) → (xs : List A) (ys : List B) → Paired R xs ys → Paired R (keep f xs) (keep g ys)
  unfolding Paired keep
  paired-keep f g e [] [] h = tt
  paired-keep f g e [] (y ∷ ys) h = absurd h
  paired-keep f g e (x ∷ xs) [] h = absurd h
  paired-keep f g e (x ∷ xs) (y ∷ ys) h = rw (e x y h.0) (go (g y) (paired-keep f g e xs ys h.1))
    where
      go : (b : Bool) → Paired R (keep f xs) (keep g ys) → Paired R (cond b (x ∷ keep f xs) (keep f xs)) (cond b (y ∷ keep g ys) (keep g ys))
      go true k = (h.0, k)
      go false k = k

  -- functions that agree on related elements
  pub paired-map : {C : Type 0} (f : A → C) (g : B → C) → ((x : A) (y : B) → R x y → f x ≡ g y) → (xs : List A) (ys : List B) → Paired R xs ys → map f xs ≡ map g ys
  unfolding Paired
  paired-map f g e [] [] h = refl
  paired-map f g e [] (y ∷ ys) h = absurd h
  paired-map f g e (x ∷ xs) [] h = absurd h
  paired-map f g e (x ∷ xs) (y ∷ ys) h = ap₂ (λ c l. c ∷ l) (e x y h.0) (paired-map f g e xs ys h.1)

-- what is known of the elements here goes over to those there
pub paired-all : {A B : Type 0} {R : A → B → Type 0} {P : A → Type 0} {Q : B → Type 0} → ((x : A) (y : B) → P x → R x y → Q y) → (xs : List A) (ys : List B) → All P xs → Paired R xs ys → All Q ys
unfolding Paired All
paired-all f [] [] k h = tt
paired-all f [] (y ∷ ys) k h = absurd h
paired-all f (x ∷ xs) [] k h = absurd h
paired-all f (x ∷ xs) (y ∷ ys) k h = (f x y k.0 h.0, paired-all f xs ys k.1 h.1)

-- by what is known of the right-hand elements besides, the relation may change
pub paired-with : {A B : Type 0} {R S : A → B → Type 0} {P : B → Type 0} → ((x : A) (y : B) → P y → R x y → S x y) → (xs : List A) (ys : List B) → All P ys → Paired R xs ys → Paired S xs ys
unfolding Paired All
paired-with f [] [] k h = tt
paired-with f [] (y ∷ ys) k h = absurd h
paired-with f (x ∷ xs) [] k h = absurd h
paired-with f (x ∷ xs) (y ∷ ys) k h = (f x y k.0 h.0, paired-with f xs ys k.1 h.1)
