-- A list with its last element apart, and the queue with its end apart: the entries from i on, which are the first paths', and those below i. By
-- induction on the list, or on the number of entries. Assumes nothing.
use mathlib.Core.Path.{◌≡◌, refl, sym, ap, ap₂, ◌∙◌}
use mathlib.Core.List.{List, [], ◌∷◌, ◌++◌}
use Prim.Native.Nat.{ℕ, zero, suc, ◌+◌}
use native.Mathlib.Nat.{zero-add, add-zero}
use native.Mathlib.Omega.{arith}
use lib.ListN.{length, get_or}
use Rattle.order.specs.Entries.{queue_of}

-- ---- the last element

pub record Ending {A : Type 0} (n : ℕ) (xs : List A) : Type 0 where
  pub before : List A
  pub one : A
  pub whole : xs ≡ before ++ one ∷ []
  pub place : length before ≡ n

pub ending : {A : Type 0} (n : ℕ) (xs : List A) → length xs ≡ suc n → Ending n xs
ending zero [] e = absurd (omega arith)
ending zero (x ∷ []) e = record { before = []; one = x; whole = refl; place = refl }
ending zero (x ∷ y ∷ xs) e = absurd (omega arith)
ending (suc n) [] e = absurd (omega arith)
ending {A} (suc n) (x ∷ xs) e =
    let s : Ending n xs = ending n xs (omega arith) in
    record { before = x ∷ s.before; one = s.one; whole = ap (λ l. x ∷ l) s.whole; place = ap suc s.place }

-- ---- the entries from i on

-- n of them, the last first
unfoldable pub top_of : List ℕ → ℕ → ℕ → List ℕ
top_of order i zero = []
top_of order i (suc n) = get_or order (n + i) 0 ∷ top_of order i n

pub top-length : (order : List ℕ) (i n : ℕ) → length (top_of order i n) ≡ n
unfolding top_of
top-length order i zero = refl
top-length order i (suc n) = ap suc (top-length order i n)

pub top-none : (order : List ℕ) (i : ℕ) → top_of order i 0 ≡ []
unfolding top_of
top-none order i = refl

-- all of them
pub top-all : (order : List ℕ) (n : ℕ) → top_of order 0 n ≡ queue_of order n
unfolding top_of queue_of
top-all order zero = refl
top-all order (suc n) = ap₂ (λ k l. get_or order k 0 ∷ l) (add-zero n) (top-all order n)

-- the last of them is entry i
pub top-last : (order : List ℕ) (i n : ℕ) → top_of order i (suc n) ≡ top_of order (suc i) n ++ get_or order i 0 ∷ []
unfolding top_of
top-last order i zero = ap (λ k. get_or order k 0 ∷ []) (zero-add i)
top-last order i (suc n) =
    let e : suc n + i ≡ n + suc i = omega arith in
    ap₂ (λ k l. get_or order k 0 ∷ l) e (top-last order i n)

-- the last path is the first entry's
pub queue-last : (order : List ℕ) (n : ℕ) → queue_of order (suc n) ≡ top_of order 1 n ++ get_or order 0 0 ∷ []
queue-last order n = sym (top-all order (suc n)) ∙ top-last order 0 n
