-- The lowest member of a set is the number of the zeros at the end of its digits: none below it is a member. By the digits, the lowest first. Then of
-- counts: those below the first that is 0 are not. Assumes nothing.
use mathlib.Core.Path.{◌≡◌, refl, sym, ap, ◌∙◌, subst}
use mathlib.Core.List.{List}
use Prim.Native.Nat.{ℕ, zero, suc, ◌+◌, ◌-◌, ◌*◌, ◌^◌, ◌/◌, ◌%◌, ◌≤◌, ◌<◌}
use native.Mathlib.Numerals.{add-one}
use native.Mathlib.Omega.{arith}
use lib.ListN.{length, get_or, take, drop, length-take}
use lib.Pow.{pow_mono}
use lib.Seq.{get_or-take, get_or-drop}
use lib.Count.{count_trailing_zeros, under}
use borrow.Author.Tests.{eq-eqb, ne_eqb}
use Rattle.laws.specs.Sets.{set_of}
use Rattle.laws.proofs.Sets.{Marks, set-low, set-lt}
use Rattle.sharing.specs.Sharing.{vacant_bit}

pub vacant-low : (c : ℕ) → vacant_bit c < 2
unfolding vacant_bit
vacant-low zero = omega arith
vacant-low (suc c) = let e : vacant_bit (suc c) ≡ 0 = rw (ne_eqb (suc c) 0 (λ q. omega arith)) in omega (arith, e)

pub vacant-none : (c : ℕ) → c ≡ 0 → 1 ≡ vacant_bit c
unfolding vacant_bit
vacant-none c e = rw (eq-eqb c 0 e) refl

pub vacant-held : (c : ℕ) → (c ≡ 0 → ⊥) → 0 ≡ vacant_bit c
unfolding vacant_bit
vacant-held c z = rw (ne_eqb c 0 z) refl

-- a count whose bit is 0 is some
pub vacant-some : (c : ℕ) → vacant_bit c ≡ 0 → 1 ≤ c
unfolding vacant_bit
vacant-some zero e = absurd (omega (arith, e))
vacant-some (suc c) e = omega arith

-- ---- the set of 16 counts, one after the other

module _ (l : List ℕ) (at : ℕ) where
  abbrev counts : List ℕ
  counts = take (at + 16 - at) (drop at l)

  pub in-group : (k : ℕ) → k < length counts → k < 16
  in-group k h = omega (arith, h, length-take (at + 16 - at) (drop at l))

  -- one count more
  pub group-next : {set bit : ℕ} (k : ℕ) → k < length counts → set ≡ set_of k (λ i. vacant_bit (get_or l (at + i) 0)) → bit ≡ vacant_bit (get_or counts k 0) * 2 ^ k →
      set + bit ≡ set_of (k + 1) (λ i. vacant_bit (get_or l (at + i) 0))
  unfolding set_of
  group-next {set} {bit} k h e f =
      let here : get_or counts k 0 ≡ get_or l (at + k) 0 = get_or-take (at + 16 - at) (drop at l) k 0 (omega (arith, in-group k h)) ∙ get_or-drop at l k 0 in
      rw (add-one k) (omega (arith, e, f, ap (λ c. vacant_bit c * 2 ^ k) here))

  pub group-small : (k : ℕ) → k ≤ 16 → set_of k (λ i. vacant_bit (get_or l (at + i) 0)) < 65537
  group-small k h =
      let p : 2 ^ k ≤ 2 ^ 16 = pow_mono h in
      omega (arith, set-lt k (λ i. vacant_bit (get_or l (at + i) 0)) (λ t _. vacant-low (get_or l (at + t) 0)))

-- the lowest member r of a set of numbers below n
pub record Lowest (n : ℕ) (f : ℕ → ℕ) (r : ℕ) : Type 0 where
  pub within : r < n
  pub below : (k : ℕ) → k < r → f k ≡ 0

pub lowest : (d n : ℕ) (f : ℕ → ℕ) → Marks n f → n ≤ d → (set_of n f ≡ 0 → ⊥) → Lowest n f (count_trailing_zeros d (set_of n f))
unfolding count_trailing_zeros set_of
lowest d zero f h l z = absurd (z refl)
lowest zero (suc n) f h l z = absurd (omega arith)
lowest (suc d) (suc n) f h l z = go (f 0) refl (lowest d n (λ t. f (suc t)) (λ t m. h (suc t) (omega arith)) (omega arith))
  where
    low : set_of (suc n) f ≡ f 0 + 2 * set_of n (λ t. f (suc t))
    low = set-low n f

    bit : set_of (suc n) f % 2 ≡ f 0
    bit = omega (arith, low, h 0 (omega arith))

    rest : set_of (suc n) f / 2 ≡ set_of n (λ t. f (suc t))
    rest = omega (arith, low, h 0 (omega arith))

    go : (b : ℕ) → f 0 ≡ b → ((set_of n (λ t. f (suc t)) ≡ 0 → ⊥) → Lowest n (λ t. f (suc t)) (count_trailing_zeros d (set_of n (λ t. f (suc t))))) → Lowest (suc n) f (under (set_of (suc n) f % 2) (count_trailing_zeros d (set_of (suc n) f / 2)))
    go zero e ih =
        let x : Lowest n (λ t. f (suc t)) (count_trailing_zeros d (set_of n (λ t. f (suc t)))) = ih (λ q. z (omega (arith, low, q))) in
        subst (λ (i : ℕ). Lowest (suc n) f (under i (count_trailing_zeros d (set_of (suc n) f / 2)))) (sym (bit ∙ e))
        (subst (λ (i : ℕ). Lowest (suc n) f (suc (count_trailing_zeros d i))) (sym rest) (record { within = omega (arith, x.within); below = all x }))
      where
        all : Lowest n (λ t. f (suc t)) (count_trailing_zeros d (set_of n (λ t. f (suc t)))) → (k : ℕ) → k < suc (count_trailing_zeros d (set_of n (λ t. f (suc t)))) → f k ≡ 0
        all x zero m = e
        all x (suc k) m = x.below k (omega arith)
    go (suc b) e ih =
        subst (λ (i : ℕ). Lowest (suc n) f (under i (count_trailing_zeros d (set_of (suc n) f / 2)))) (sym (bit ∙ e)) (record { within = omega arith; below = λ k m. absurd (omega arith) })
