-- A loop that stores f 0, f 1, .. in a list of numbers from index `from` on, one a turn: what the list holds after i turns. By cases on the index
-- that is read. Assumes nothing.
use mathlib.Core.Path.{◌≡◌, refl, ap, ◌∙◌}
use mathlib.Core.List.{List}
use mathlib.Core.Logic.{◌⊎◌, inl, inr}
use Prim.Native.Nat.{ℕ, ◌+◌, ◌≤◌, ◌<◌}
use native.Mathlib.Omega.{arith}
use lib.ListN.{length, get_or, set, length-set}
use lib.Seq.{get_or-set_same, get_or-set_other}
use Rattle.laws.proofs.Tests.{lt-or}

pub record Stored (old new : List ℕ) (from : ℕ) (f : ℕ → ℕ) (i : ℕ) : Type 0 where
  pub size : length new ≡ length old
  pub done : (k : ℕ) → k < i → get_or new (from + k) 0 ≡ f k
  pub before : (k : ℕ) → k < from → get_or new k 0 ≡ get_or old k 0
  pub after : (k : ℕ) → from + i ≤ k → get_or new k 0 ≡ get_or old k 0

pub stored-none : (l : List ℕ) (from : ℕ) (f : ℕ → ℕ) → Stored l l from f 0
stored-none l from f = record { size = refl; done = λ k h. absurd (omega arith); before = λ k h. refl; after = λ k h. refl }

pub stored_more : {old new : List ℕ} {from i : ℕ} {f : ℕ → ℕ} (v : ℕ) → Stored old new from f i → from + i < length old → v ≡ f i → Stored old (set new (from + i) v) from f (i + 1)
stored_more {old} {new} {from} {i} {f} v s h e =
    record {
      size = length-set new (from + i) v ∙ s.size;
      done = λ k l. go k (lt-or k i) l;
      before = λ k l. get_or-set_other new (from + i) k v 0 (λ q. omega arith) ∙ s.before k l;
      after = λ k l. get_or-set_other new (from + i) k v 0 (λ q. omega arith) ∙ s.after k (omega arith);
    }
  where
    go : (k : ℕ) → (k < i) ⊎ (i ≤ k) → k < i + 1 → get_or (set new (from + i) v) (from + k) 0 ≡ f k
    go k (inl l) g = get_or-set_other new (from + i) (from + k) v 0 (λ q. omega arith) ∙ s.done k l
    go k (inr l) g =
        let q : i ≡ k = omega arith in
        ap (λ n. get_or (set new (from + i) v) (from + n) 0) (omega arith) ∙ get_or-set_same new (from + i) v 0 (omega (arith, s.size)) ∙ e ∙ ap f q
