-- Two queues of related paths with equal keys: queueing related paths, keeping those ahead or behind, and listing the numbers come to the same.
-- By induction on the queues. Assumes nothing.
use mathlib.Core.Path.{◌≡◌, ap}
use mathlib.Core.Bool.{Bool, true, false, cond}
use mathlib.Core.List.{List, [], ◌∷◌}
use Prim.Native.Nat.{ℕ}
use lib.Dec.{leb, ltb}
use Rattle.laws.specs.Pairs.{Paired}
use Rattle.laws.proofs.Pairs.{paired-keep, paired-map}
use Rattle.queue.specs.Queue.{Key, before, insert, ahead, behind, numbers}

module _ {A B : Type 0} (key : A → Key) (key' : B → Key) (P : A → B → Type 0) (same : (x : A) (y : B) → P x y → key x ≡ key' y) where
  pub insert-paired : (x : A) (y : B) (xs : List A) (ys : List B) → P x y → Paired P xs ys → Paired P (insert key x xs) (insert key' y ys)
  unfolding insert Paired
  insert-paired x y [] [] h k = (h, tt)
  insert-paired x y [] (y' ∷ ys) h k = absurd k
  insert-paired x y (x' ∷ xs) [] h k = absurd k
  insert-paired x y (x' ∷ xs) (y' ∷ ys) h k =
      rw (same x y h, same x' y' k.0) (go (before (key' y) (key' y')) (insert-paired x y xs ys h k.1))
    where
      go : (b : Bool) → Paired P (insert key x xs) (insert key' y ys) →
          Paired P (cond b (x ∷ x' ∷ xs) (x' ∷ insert key x xs)) (cond b (y ∷ y' ∷ ys) (y' ∷ insert key' y ys))
      go true e = (h, k)
      go false e = (k.0, e)

  pub ahead-paired : (b : ℕ) (xs : List A) (ys : List B) → Paired P xs ys → Paired P (ahead key b xs) (ahead key' b ys)
  unfolding ahead
  ahead-paired b xs ys h = paired-keep P _ _ (λ x y k. ap (λ (z : Key). ltb b z.blocks) (same x y k)) xs ys h

  pub behind-paired : (b : ℕ) (xs : List A) (ys : List B) → Paired P xs ys → Paired P (behind key b xs) (behind key' b ys)
  unfolding behind
  behind-paired b xs ys h = paired-keep P _ _ (λ x y k. ap (λ (z : Key). leb z.blocks b) (same x y k)) xs ys h

  pub numbers-paired : (xs : List A) (ys : List B) → Paired P xs ys → numbers key xs ≡ numbers key' ys
  unfolding numbers
  numbers-paired xs ys h = paired-map P _ _ (λ x y k. ap (λ (z : Key). z.number) (same x y k)) xs ys h
