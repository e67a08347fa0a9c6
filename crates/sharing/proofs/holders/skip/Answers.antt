-- `sharing::holders::skip` meets its contract. Assumes nothing.
use mathlib.Core.Path.{◌≡◌, sym, ap, ◌∙◌, subst}
use mathlib.Core.List.{List}
use mathlib.Core.Logic.{◌⊎◌, inl, inr}
use Prim.Native.Nat.{ℕ, ◌+◌, ◌-◌, ◌*◌, ◌/◌, ◌%◌, ◌^◌, ◌≤◌, ◌<◌}
use native.Mathlib.Nat.{zero-div}
use native.Mathlib.Omega.{arith}
use lib.Count.{count_trailing_zeros}
use lib.ListN.{get_or}
use Rattle.laws.specs.Sets.{set_of}
use Rattle.laws.proofs.Sets.{set-member}
use Rattle.laws.proofs.Tests.{lt-or}
use Rattle.sharing.specs.Sharing.{held_at, vacant_bit}
use Rattle.sharing.proofs.Vacant.{vacant-low, vacant-some, Lowest, lowest}
use Rattle.sharing.proofs.holders.skip.Goals as goal

-- the ids below a group are held, and so are the first n of the group, whose bits are 0
group : (holders : List ℕ) (height id n : ℕ) → ((k : ℕ) → 1 ≤ k → k < id → 1 ≤ held_at holders height k) → ((k : ℕ) → k < n → vacant_bit (get_or holders (height * 257 + id + k) 0) ≡ 0)
    → (k : ℕ) → 1 ≤ k → k < id + n → 1 ≤ held_at holders height k
unfolding held_at
group holders height id n f g k l m = go (lt-or k id)
  where
    go : (k < id) ⊎ (id ≤ k) → 1 ≤ get_or holders (height * 257 + k) 0
    go (inl b) = f k l b
    go (inr b) =
        let e : height * 257 + id + (k - id) ≡ height * 257 + k = omega arith in
        omega (arith, vacant-some (get_or holders (height * 257 + id + (k - id)) 0) (g (k - id) (omega arith)), ap (λ (i : ℕ). get_or holders i 0) e)

-- the lowest id of a group that is free, by the set of its free ones
found : (holders : List ℕ) (at set : ℕ) → set ≡ set_of 16 (λ k. vacant_bit (get_or holders (at + k) 0)) → (set ≡ 0 → ⊥) → Lowest 16 (λ k. vacant_bit (get_or holders (at + k) 0)) (count_trailing_zeros 32 set)
found holders at set e z =
    subst (λ (i : ℕ). Lowest 16 (λ k. vacant_bit (get_or holders (at + k) 0)) (count_trailing_zeros 32 i)) (sym e)
    (lowest 32 16 (λ k. vacant_bit (get_or holders (at + k) 0)) (λ t _. vacant-low (get_or holders (at + t) 0)) (omega arith) (λ q. z (e ∙ q)))

-- a set without members
nobody : (holders : List ℕ) (at : ℕ) → set_of 16 (λ k. vacant_bit (get_or holders (at + k) 0)) ≡ 0 → (k : ℕ) → k < 16 → vacant_bit (get_or holders (at + k) 0) ≡ 0
nobody holders at e k l =
    sym (set-member 16 (λ i. vacant_bit (get_or holders (at + i) 0)) k (λ t _. vacant-low (get_or holders (at + t) 0)) l) ∙ ap (λ (i : ℕ). i / 2 ^ k % 2) e ∙ ap (λ (i : ℕ). i % 2) (zero-div (2 ^ k))

pub returns-then-set-ne0 : goal.returns-then-set-ne0
returns-then-set-ne0 c =
    let a = c.args in
    let x = c.loop-id in
    let low = found a.holders.now (a.height * 257 + x.id) c.vacancies-set.result c.vacancies-set.ensures c.if-set-ne0.true in
    (omega arith, omega (arith, low.within), group a.holders.now a.height x.id (count_trailing_zeros 32 c.vacancies-set.result) x.invariant.2 low.below)

pub loop-id-preserved : goal.loop-id-preserved
loop-id-preserved c =
    let a = c.args in
    let x = c.loop-id in
    (omega arith, omega arith, group a.holders.now a.height x.id 16 x.invariant.2 (nobody a.holders.now (a.height * 257 + x.id) (sym c.vacancies-set.ensures ∙ c.if-set-ne0.false)))
