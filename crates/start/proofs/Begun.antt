-- The tables at a run's start: one path, in slot 0, holds array 1 at the root and none below. Its ids are those of the row that has 1 at height m
-- and else zeros, and each height up to m counts one path more than a table of zeros. Assumes nothing.
use mathlib.Core.Path.{◌≡◌, ap, ◌∙◌, subst}
use mathlib.Core.Bool.{cond}
use mathlib.Core.List.{List}
use mathlib.Core.Logic.{◌⊎◌, inl, inr, ◌≢◌}
use Prim.Native.Nat.{ℕ, ◌+◌, ◌*◌, ◌≤◌, ◌<◌}
use native.Mathlib.Decide.{ℕ_discrete}
use native.Mathlib.Omega.{arith}
use lib.ListN.{length, get_or, set}
use lib.Dec.{eqb, ltb}
use lib.Seq.{get_or-set_same, get_or-set_other}
use borrow.Author.Tests.{eq-eqb, ne_eqb, lt-ltb, le-ltb}
use Rattle.laws.proofs.Tests.{lt-or}
use Rattle.sharing.specs.Sharing.{id_at, held_at, low_at, Held, one, MoreBy}
use Rattle.sharing.proofs.Tables.{held-count, more-add}
use Rattle.start.specs.Start.{first_held}

-- each number of a list is 0
abbrev pub Zeros : List ℕ → Type 0
Zeros l = (k : ℕ) → get_or l k 0 ≡ 0

-- no path holds anything
none-held : (l : List ℕ) → Zeros l → (h i : ℕ) → held_at l h i ≡ 0
unfolding held_at
none-held l z h i = z (h * 257 + i)

-- and nothing is said of where a search begins
pub none_below : (l : List ℕ) → Zeros l → length l ≡ 2580 → Held l
unfolding low_at
none_below l z size = record { size = size; below = λ h k _ _ _ b. absurd (omega (arith, z (2570 + h))) }

-- a count of 1 stored
pub held-begun : {l : List ℕ} (h i at : ℕ) → Held l → h ≤ 9 → i ≤ 256 → at ≡ h * 257 + i → Held (set l at 1)
held-begun {l} h i at a bh bi q = rw q (held-count l h i 1 a bh bi (λ _ _. omega arith))

module _ (rows : List ℕ) (m : ℕ) (none : Zeros rows) where
  -- the row of slot 0, with 1 at m
  pub id-root : m < length rows → id_at (set rows m 1) 0 m ≡ 1
  unfolding id_at
  id-root h = ap (λ k. get_or (set rows m 1) k 0) (omega arith) ∙ get_or-set_same rows m 1 0 h

  pub id_below : (h : ℕ) → h ≢ m → id_at (set rows m 1) 0 h ≡ 0
  unfolding id_at
  id_below h n = ap (λ k. get_or (set rows m 1) k 0) (omega arith) ∙ get_or-set_other rows m h 1 0 n ∙ none h

  module _ {old l : List ℕ} (clear : Zeros old) (size : length l ≡ 2580) (deep : m ≤ 9) where
    -- a height below the root
    pub begun_more : {h : ℕ} → h < m → MoreBy h (set rows m 1) 0 old l → MoreBy (h + 1) (set rows m 1) 0 old (set l (h * 257) 1)
    unfolding held_at
    begun_more {h} b t =
        let e : held_at l h 0 ≡ 0 = t.rest h 0 (omega arith) (omega arith) (omega arith) ∙ none-held old clear h 0 in
        let i : h * 257 + 0 ≡ h * 257 = omega arith in
        subst (λ (k : ℕ). MoreBy (h + 1) (set rows m 1) 0 old (set l k 1)) i
        (rw e at (more-add {i = 0} size (omega arith) (id_below h (λ q. omega arith)) (omega arith) t))

    -- the root
    pub begun-last : m < length rows → {h : ℕ} → h ≡ m → MoreBy h (set rows m 1) 0 old l → MoreBy (m + 1) (set rows m 1) 0 old (set l (m * 257 + 1) 1)
    unfolding held_at
    begun-last b {h} q t =
        let s = rw q at t in
        let e : held_at l m 1 ≡ 0 = s.rest m 1 (omega arith) (omega arith) (omega arith) ∙ none-held old clear m 1 in
        rw e at (more-add {i = 1} size (omega arith) (id-root b) (omega arith) s)

  -- what is counted then
  pub begun-held : {old l : List ℕ} → Zeros old → m < length rows → MoreBy (m + 1) (set rows m 1) 0 old l → (h i : ℕ) → h ≤ 9 → i ≤ 256 → held_at l h i ≡ first_held m h i
  unfolding first_held
  begun-held {old} {l} clear b t h i top low = go (ℕ_discrete h m) (lt-or h m)
    where
      done : h ≤ m → held_at l h i ≡ one (id_at (set rows m 1) 0 h) i
      done g = omega (arith, t.done h i (omega arith) low, none-held old clear h i)

      go : Dec (h ≡ m) → (h < m) ⊎ (m ≤ h) → held_at l h i ≡ cond (eqb h m) (one 1 i) (cond (ltb h m) (one 0 i) 0)
      go (yes e) y = rw (eq-eqb h m e) (done (omega arith) ∙ ap (λ k. one k i) (ap (id_at (set rows m 1) 0) e ∙ id-root b))
      go (no n) (inl g) = rw (ne_eqb h m n, lt-ltb h m g) (done (omega arith) ∙ ap (λ k. one k i) (id_below h n))
      go (no n) (inr g) = rw (ne_eqb h m n, le-ltb h m g) (t.rest h i (omega arith) top low ∙ none-held old clear h i)
