-- The array that a path takes is the one that the definition chooses: its own where no other path holds it, else the first that none holds. By
-- the counts: an id is counted 0 times where no path holds it. Assumes nothing.
use mathlib.Core.Path.{◌≡◌, refl, sym, ap₂, ◌∙◌, subst}
use mathlib.Core.Bool.{Bool, true, false, cond, ◌&&◌}
use mathlib.Core.List.{List, [], ◌∷◌}
use mathlib.Core.Logic.{◌⊎◌, inl, inr, ⊎_elim}
use Prim.Native.Nat.{ℕ, suc, ◌+◌, ◌-◌, ◌*◌, ◌≤◌, ◌<◌}
use native.Mathlib.Omega.{arith}
use lib.Dec.{eqb, ltb, leb}
use lib.ListN.{set}
use borrow.Author.Tests.{ltb-true, ltb-false, leb-true, leb-false, eqb-false, eq-eqb, ne_eqb}
use Rattle.laws.specs.Lists.{All}
use Rattle.codec.specs.Ties.{times}
use Rattle.reader.specs.Arrays.{own_of}
use Rattle.reader.proofs.Own.{NoneIs, own_new, own-some, own-keep, own-most, own-least}
use Rattle.sharing.specs.Sharing.{held_at, Held, Shared, Exchanged}
use Rattle.sharing.proofs.Tables.{taken_free}

-- ---- how often an id is counted

pub times-here : (i : ℕ) (is : List ℕ) → times i (i ∷ is) ≡ suc (times i is)
unfolding times
times-here i is = rw (eq-eqb i i refl) (omega arith)

times_none : (k : ℕ) (is : List ℕ) → NoneIs k is → times k is ≡ 0
unfolding times All
times_none k [] h = refl
times_none k (i ∷ is) h = ap₂ (λ b n. cond b 1 0 + n) (ne_eqb i k h.0) (times_none k is h.1)

none-times : (k : ℕ) (is : List ℕ) → times k is ≡ 0 → NoneIs k is
unfolding times All
none-times k [] e = tt
none-times k (i ∷ is) e = go (eqb i k) refl e (none-times k is)
  where
    go : (b : Bool) → eqb i k ≡ b → cond b 1 0 + times k is ≡ 0 → (times k is ≡ 0 → NoneIs k is) → (i ≡ k → ⊥) × NoneIs k is
    go true f e ih = absurd (omega arith)
    go false f e ih = (eqb-false i k f, ih (omega arith))

-- ---- the test

pub is-alone : (i n : ℕ) → (ltb 0 i && leb n 1) ≡ true → (1 ≤ i) × (n ≤ 1)
is-alone i n e = go (ltb 0 i) (leb n 1) refl refl e
  where
    go : (a b : Bool) → ltb 0 i ≡ a → leb n 1 ≡ b → (a && b) ≡ true → (1 ≤ i) × (n ≤ 1)
    go true true f g e = (ltb-true 0 i f, leb-true n 1 g)
    go true false f g e = let z : ◌≡◌ {A = ℕ} 0 1 = cc in absurd (omega arith)
    go false b f g e = let z : ◌≡◌ {A = ℕ} 0 1 = cc in absurd (omega arith)

not-alone : (i n : ℕ) → (ltb 0 i && leb n 1) ≡ false → (i ≡ 0) ⊎ (2 ≤ n)
not-alone i n e = go (ltb 0 i) (leb n 1) refl refl e
  where
    go : (a b : Bool) → ltb 0 i ≡ a → leb n 1 ≡ b → (a && b) ≡ false → (i ≡ 0) ⊎ (2 ≤ n)
    go true true f g e = let z : ◌≡◌ {A = ℕ} 0 1 = cc in absurd (omega arith)
    go true false f g e = inr (leb-false n 1 g)
    go false b f g e = inl (omega (arith, ltb-false 0 i f))

-- ---- the choice

module _ {holders : List ℕ} {h N i : ℕ} (x : Shared holders h N i) where
  -- the path itself is counted
  pub held_one : held_at holders h i ≡ suc (times i x.others)
  held_one = x.counted i x.low ∙ times-here i x.others

  -- its own, where it is some array and held once
  pub keeps : 1 ≤ i → held_at holders h i ≤ 1 → i ≡ own_of i x.others
  keeps s one = sym (own-keep i x.others (λ e. omega arith) (none-times i x.others (omega (arith, held_one))))

  -- ---- else another, where its own is 0 or another's too

  module _ (why : (i ≡ 0) ⊎ (2 ≤ held_at holders h i)) where
    taken : NoneIs i (0 ∷ x.others) → ⊥
    unfolding All
    taken n = go why
      where
        go : (i ≡ 0) ⊎ (2 ≤ held_at holders h i) → ⊥
        go (inl e) = n.0 (sym e)
        go (inr l) = omega (arith, held_one, times_none i x.others n.1)

    -- no path holds what the definition chooses
    own-unheld : held_at holders h (own_of i x.others) ≡ 0
    unfolding All
    own-unheld =
        let o : ℕ = own_of i x.others in
        let new : NoneIs o x.others = own_new i x.others in
        let other : i ≡ o → ⊥ = λ e. taken (λ z. own-some i x.others (sym e ∙ sym z), subst (λ (k : ℕ). NoneIs k x.others) (sym e) new) in
        x.counted o (own-most N i x.others x.low x.few) ∙ times_none o (i ∷ x.others) (other, new)

    -- the first id from 1 on that none holds is that one
    pub takes : (r : ℕ) → 1 ≤ r → ((k : ℕ) → 1 ≤ k → k < r → 1 ≤ held_at holders h k) → (r ≤ N → held_at holders h r ≡ 0) → r ≡ own_of i x.others
    unfolding All
    takes r some full free =
        let o : ℕ = own_of i x.others in
        let n : o ≡ 0 → ⊥ = own-some i x.others in
        let high : o ≤ N = own-most N i x.others x.low x.few in
        let up : o < r → ⊥ = λ l. omega (arith, full o (omega arith) l, own-unheld) in
        let none : r ≤ N → NoneIs r x.others = λ b. (none-times r (i ∷ x.others) (sym (x.counted r b) ∙ free b)).1 in
        let down : r < o → ⊥ = λ l. own-least i x.others taken r l (λ e. omega arith, none (omega arith)) in
        omega arith

-- ---- the change of the tables by a path that takes another array, the first that none holds

pub record Taken (holders : List ℕ) (h N i r : ℕ) (x : Shared holders h N i) : Type 0 where
  pub held : Held (set (set (set holders (h * 257 + i) (held_at holders h i - 1)) (h * 257 + r) 1) (2570 + h) (r + 1))
  pub exchanged : Exchanged h i r holders (set (set (set holders (h * 257 + i) (held_at holders h i - 1)) (h * 257 + r) 1) (2570 + h) (r + 1))
  pub within : r ≤ N
  pub chosen : r ≡ own_of i x.others

pub takes_another : {holders : List ℕ} {h N i r : ℕ} (x : Shared holders h N i) → Held holders → h ≤ 9 → N ≤ 256 → (ltb 0 i && leb (held_at holders h i) 1) ≡ false →
    1 ≤ r → ((k : ℕ) → 1 ≤ k → k < r → 1 ≤ held_at holders h k) → (r ≤ N → held_at holders h r ≡ 0) → Taken holders h N i r x
takes_another {holders} {h} {N} {i} {r} x a top arrays test some full free =
    let why = not-alone i (held_at holders h i) test in
    let q : r ≡ own_of i x.others = takes x why r some full free in
    let b : r ≤ N = omega (arith, q, own-most N i x.others x.low x.few) in
    let kept : 1 ≤ i → 1 ≤ held_at holders h i - 1 = λ s. ⊎_elim (λ e. absurd (omega arith)) (λ l. omega arith) why in
    let low = x.low in
    let t = taken_free holders h i r (held_at holders h i - 1) a top (omega arith) (omega arith) (omega (arith, held_one x)) kept (free b) full in
    record { held = t.0; exchanged = t.1; within = b; chosen = q }
