-- The ties' parities as one set. Member t is the parity of the t-th tie; the set starts empty, and a bit 1 at an index takes the exclusive or
-- with the set of the ties that the index is a term of: no tie names an index twice. By induction on the kinds. Assumes nothing.
use mathlib.Core.Path.{◌≡◌, refl, sym, ap, ap₂, ◌∙◌}
use mathlib.Core.Bool.{Bool, true, false, cond, ◌||◌}
use mathlib.Core.List.{List, [], ◌∷◌, ◌++◌}
use mathlib.Core.Logic.{◌≢◌}
use Prim.Native.Nat.{ℕ, zero, suc, ◌+◌, ◌*◌, ◌/◌, ◌%◌, ◌^◌, ◌≤◌, ◌<◌}
use native.Mathlib.Nat.{two-pow-succ, mul-zero, one-mul, mul-add, add-mul, mul_left_comm, zero-add}
use native.Mathlib.Omega.{arith}
use lib.ListN.{length}
use lib.Bits.{bit_xor}
use lib.Dec.{eqb}
use borrow.Author.Tests.{eq-eqb, ne_eqb, eqb-true, eqb-false}
use Rattle.laws.specs.Lists.{All, Distinct}
use Rattle.laws.specs.Sets.{set_of}
use Rattle.laws.proofs.Sets.{set-none, set-low, set_same, set-xor, set-member}
use Rattle.polar.specs.Bits.{Bit}
use Rattle.codebook.specs.Book.{Kind, free, frozen, tied, tied_count}
use Rattle.codebook.specs.Limits.{KindOk, KindsOk}
use Rattle.codebook.specs.Loading.{member}
use Rattle.codebook.specs.Tables.{tie_set}
use Rattle.codec.specs.Code.{parity}
use Rattle.codec.specs.Ties.{times}
use Rattle.codec.specs.Tabled.{absorbed}
use Rattle.codec.proofs.Fill.{parity-bit}
use Rattle.codec.proofs.Ties.{parity-snoc}

-- the terms of the t-th tie
unfoldable pub tie_terms : List Kind → ℕ → List ℕ
tie_terms [] t = []
tie_terms (free ∷ ks) t = tie_terms ks t
tie_terms (frozen ∷ ks) t = tie_terms ks t
tie_terms (tied ts ∷ ks) zero = ts
tie_terms (tied ts ∷ ks) (suc t) = tie_terms ks t

-- the set of the parities of the ties over the bits u
pub tie_parities : List Kind → List ℕ → ℕ
tie_parities ks u = set_of 32 (λ t. parity u (tie_terms ks t))

-- ---- the set of the ties that index i is a term of

-- whether it is a term of the t-th
unfoldable pub mark : List Kind → ℕ → ℕ → ℕ
mark ks i t = cond (member i (tie_terms ks t)) 1 0

pub mark-bit : (b : Bool) → cond b 1 0 < 2
mark-bit true = omega arith
mark-bit false = omega arith

pub tie-set : (s n : ℕ) (ks : List Kind) (i : ℕ) → tied_count ks ≤ n → tie_set s ks i ≡ 2 ^ s * set_of n (λ t. mark ks i t)
unfolding tie_set tied_count mark tie_terms member
tie-set s n [] i h = sym (ap (λ x. 2 ^ s * x) (set-none n) ∙ mul-zero (2 ^ s))
tie-set s n (free ∷ ks) i h = tie-set s n ks i h
tie-set s n (frozen ∷ ks) i h = tie-set s n ks i h
tie-set s zero (tied ts ∷ ks) i h = absurd (omega arith)
tie-set s (suc n) (tied ts ∷ ks) i h =
    let S : ℕ = set_of n (λ t. mark ks i t) in
    ap (λ x. cond (member i ts) (2 ^ s) 0 + x) (tie-set (suc s) n ks i (omega arith) ∙ ap (λ p. p * S) (two-pow-succ s))
    ∙ go (member i ts) (2 ^ s) S
    ∙ ap (λ x. 2 ^ s * x) (sym (set-low n (λ t. mark (tied ts ∷ ks) i t)))
  where
    go : (b : Bool) (p S : ℕ) → cond b p 0 + (p + p) * S ≡ p * (cond b 1 0 + 2 * S)
    go true p S = omega (arith, add-mul p p S, mul-add p 1 (2 * S), mul_left_comm p 2 S)
    go false p S = omega (arith, add-mul p p S, mul_left_comm p 2 S)

-- ---- a list that names no index twice names it once or never

times_none : (k : ℕ) (ts : List ℕ) → All (λ (y : ℕ). k ≢ y) ts → times k ts ≡ 0
unfolding times All
times_none k [] h = refl
times_none k (i ∷ ts) h = ap₂ (λ b n. cond b 1 0 + n) (ne_eqb i k (λ e. h.0 (sym e))) (times_none k ts h.1)

pub times-once : (k : ℕ) (ts : List ℕ) → Distinct ts → times k ts ≡ cond (member k ts) 1 0
unfolding times member Distinct
times-once k [] h = refl
times-once k (i ∷ ts) h = go (eqb i k) refl (times-once k ts h.1)
  where
    go : (b : Bool) → eqb i k ≡ b → times k ts ≡ cond (member k ts) 1 0 → cond (eqb i k) 1 0 + times k ts ≡ cond (eqb k i || member k ts) 1 0
    go true e ih =
        let p : i ≡ k = eqb-true i k e in
        ap₂ (λ b n. cond b 1 0 + n) e (times_none k ts (rw p at h.0)) ∙ ap (λ b. cond (b || member k ts) 1 0) (sym (eq-eqb k i (sym p)))
    go false e ih =
        let p : eqb k i ≡ false = ne_eqb k i (λ q. eqb-false i k e (sym q)) in
        ap₂ (λ b n. cond b 1 0 + n) e ih ∙ zero-add _ ∙ ap (λ b. cond (b || member k ts) 1 0) (sym p)

pub terms-once : (i : ℕ) (ks : List Kind) (t : ℕ) → KindsOk i ks → Distinct (tie_terms ks t)
unfolding tie_terms KindsOk KindOk Distinct
terms-once i [] t h = tt
terms-once i (free ∷ ks) t h = terms-once (suc i) ks t h.1
terms-once i (frozen ∷ ks) t h = terms-once (suc i) ks t h.1
terms-once i (tied ts ∷ ks) zero h = h.0.once
terms-once i (tied ts ∷ ks) (suc t) h = terms-once (suc i) ks t h.1

-- ---- the set of the parities

parity-none : (ts : List ℕ) → parity [] ts ≡ 0
unfolding parity
parity-none [] = refl
parity-none (i ∷ ts) = let e = parity-none ts in omega arith

pub tie-parities-none : (ks : List Kind) → 0 ≡ tie_parities ks []
unfolding tie_parities
tie-parities-none ks = sym (set_same 32 _ (λ t. 0) (λ t l. parity-none (tie_terms ks t)) ∙ set-none 32)

module _ (ks : List Kind) (u : List ℕ) where
  pub parity-of : (t : ℕ) → t < 32 → tie_parities ks u / 2 ^ t % 2 ≡ parity u (tie_terms ks t)
  unfolding tie_parities
  parity-of t h = set-member 32 (λ t. parity u (tie_terms ks t)) t (λ t l. parity-bit u (tie_terms ks t)) h

  -- one bit more
  pub parities-next : (b : ℕ) → tied_count ks ≤ 32 → KindsOk 0 ks → Bit b → absorbed (tie_parities ks u) b (tie_set 0 ks (length u)) ≡ tie_parities ks (u ++ b ∷ [])
  unfolding tie_parities absorbed mark
  parities-next zero few ok h =
      set_same 32 _ _ (λ t l. sym (parity-snoc u 0 (tie_terms ks t) ∙ omega (arith, parity-bit u (tie_terms ks t))))
  parities-next (suc zero) few ok h =
      ap (λ x. bit_xor (tie_parities ks u) x) (tie-set 0 32 ks (length u) few ∙ one-mul _)
      ∙ set-xor 32 (λ t. parity u (tie_terms ks t)) (λ t. mark ks (length u) t) (λ t l. parity-bit u (tie_terms ks t)) (λ t l. mark-bit (member (length u) (tie_terms ks t)))
      ∙ set_same 32 _ _ (λ t l. sym (parity-snoc u 1 (tie_terms ks t) ∙ omega (arith, times-once (length u) (tie_terms ks t) (terms-once 0 ks t ok))))
  parities-next (suc (suc b)) few ok h = absurd (omega arith)
