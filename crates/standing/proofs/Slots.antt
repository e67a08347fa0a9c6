-- A list of distinct elements stays so when one of them changes its place: to the front, back from it, and into its place in the queue's order.
-- By induction on the list. Assumes nothing.
use mathlib.Core.Path.{sym}
use mathlib.Core.List.{List, [], ◌∷◌, ◌++◌, map}
use mathlib.Core.Logic.{◌≢◌}
use Rattle.laws.specs.Lists.{All, Distinct}
use Rattle.laws.proofs.Tests.{cond-case}
use Rattle.queue.specs.Queue.{Key, before, insert}

module _ {A : Type 0} where
  pub all-forward : (P : A → Type 0) (xs : List A) (x : A) (ys : List A) → All P (xs ++ x ∷ ys) → All P (x ∷ xs ++ ys)
  unfolding All
  all-forward P [] x ys h = h
  all-forward P (z ∷ xs) x ys h =
      let k : All P (x ∷ xs ++ ys) = all-forward P xs x ys h.1 in
      (k.0, (h.0, k.1))

  pub all_back : (P : A → Type 0) (xs : List A) (x : A) (ys : List A) → All P (x ∷ xs ++ ys) → All P (xs ++ x ∷ ys)
  unfolding All
  all_back P [] x ys h = h
  all_back P (z ∷ xs) x ys h = (h.1.0, all_back P xs x ys (h.0, h.1.1))

  pub distinct-forward : (xs : List A) (x : A) (ys : List A) → Distinct (xs ++ x ∷ ys) → Distinct (x ∷ xs ++ ys)
  unfolding All Distinct
  distinct-forward [] x ys d = d
  distinct-forward (z ∷ xs) x ys d =
      let k : Distinct (x ∷ xs ++ ys) = distinct-forward xs x ys d.1 in
      let j : All (λ (y : A). z ≢ y) (x ∷ xs ++ ys) = all-forward (λ (y : A). z ≢ y) xs x ys d.0 in
      ((λ e. j.0 (sym e), k.0), (j.1, k.1))

  pub distinct-back : (xs : List A) (x : A) (ys : List A) → Distinct (x ∷ xs ++ ys) → Distinct (xs ++ x ∷ ys)
  unfolding All Distinct
  distinct-back [] x ys d = d
  distinct-back (z ∷ xs) x ys d =
      (all_back (λ (y : A). z ≢ y) xs x ys (λ e. d.0.0 (sym e), d.1.0), distinct-back xs x ys (d.0.1, d.1.1))

-- what entries have, with more elements behind, while one of the entries is put into its place in the order
module _ {A B : Type 0} (key : A → Key) (f : A → B) (x : A) where
  pub all_inserted : (P : B → Type 0) (xs : List A) (ys : List B) → P (f x) → All P (map f xs ++ ys) → All P (map f (insert key x xs) ++ ys)
  unfolding All insert
  all_inserted P [] ys p h = (p, h)
  all_inserted P (z ∷ xs) ys p h =
      cond-case (λ (l : List A). All P (map f l ++ ys)) (before (key x) (key z)) (λ _. (p, h)) (λ _. (h.0, all_inserted P xs ys p h.1))

  pub distinct-insert : (xs : List A) (ys : List B) → Distinct (map f (x ∷ xs) ++ ys) → Distinct (map f (insert key x xs) ++ ys)
  unfolding All Distinct insert
  distinct-insert [] ys d = d
  distinct-insert (z ∷ xs) ys d =
      cond-case (λ (l : List A). Distinct (map f l ++ ys)) (before (key x) (key z)) (λ _. d)
      (λ _. (all_inserted (λ (y : B). f z ≢ y) xs ys (λ e. d.0.0 (sym e)) d.1.0, distinct-insert xs ys (d.0.1, d.1.1)))
