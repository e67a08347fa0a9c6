-- The set of parities before an index and after it: bit d there takes the exclusive or with d times the set of ties that the index is a term of,
-- and a tied index finds its own bit in the set. By induction on the kinds. Assumes nothing.
use mathlib.Core.Path.{◌≡◌, refl, ap, ◌∙◌, subst}
use mathlib.Core.List.{List, [], ◌∷◌}
use Prim.Native.Nat.{ℕ, zero, suc, ◌+◌, ◌*◌, ◌/◌, ◌%◌, ◌^◌, ◌<◌}
use native.Mathlib.Nat.{mul-zero, mul-one, one-mul}
use native.Mathlib.Omega.{arith}
use lib.Bits.{bit_xor, xor_zero_r}
use lib.ListN.{length, get_or, take}
use Rattle.laws.specs.Lists.{Distinct}
use Rattle.laws.proofs.Sets.{set_same, set-xor, set-member}
use Rattle.polar.specs.Bits.{Bit}
use Rattle.codebook.specs.Book.{Book, Kind, free, frozen, tied, tied_count}
use Rattle.codebook.specs.Limits.{KindsOk}
use Rattle.codebook.specs.Tables.{kind_codes, tie_set}
use Rattle.codebook.specs.Loading.{member}
use Rattle.codec.specs.Ties.{Parities, names, absorb}
use Rattle.codec.proofs.TieSets.{tie_terms, mark, mark-bit, tie-set, times-once, terms-once}
use Rattle.codec.proofs.Turns.{CodeOf, code_at}
use Rattle.outer.specs.Blocks.{tie_index, parity_set, Bits}

-- ---- the t-th tie

names-mark : (k : ℕ) (ks : List Kind) (t : ℕ) → t < tied_count ks → Distinct (tie_terms ks t) → names k (get_or ks (tie_index ks t) frozen) ≡ mark ks k t
unfolding names tie_index tie_terms mark tied_count
names-mark k [] t h o = absurd (omega arith)
names-mark k (free ∷ ks) t h o = names-mark k ks t h o
names-mark k (frozen ∷ ks) t h o = names-mark k ks t h o
names-mark k (tied ts ∷ ks) zero h o = times-once k ts o
names-mark k (tied ts ∷ ks) (suc t) h o = names-mark k ks t (omega arith) o

-- the other kinds are not tied
free-tied : {ts : List ℕ} → free ≡ tied ts → ⊥
free-tied p = let z : ◌≡◌ {A = ℕ} 0 1 = cc in omega arith

frozen-tied : {ts : List ℕ} → frozen ≡ tied ts → ⊥
frozen-tied p = let z : ◌≡◌ {A = ℕ} 0 1 = cc in omega arith

-- a tied index is that of as many ties as come before it
index_at : (ks : List Kind) (i : ℕ) (ts : List ℕ) → get_or ks i frozen ≡ tied ts → (tie_index ks (tied_count (take i ks)) ≡ i) × (tied_count (take i ks) < tied_count ks)
unfolding tie_index tied_count
index_at [] i ts e = absurd (frozen-tied e)
index_at (free ∷ ks) zero ts e = absurd (free-tied e)
index_at (frozen ∷ ks) zero ts e = absurd (frozen-tied e)
index_at (tied us ∷ ks) zero ts e = (refl, omega arith)
index_at (free ∷ ks) (suc i) ts e = let r = index_at ks i ts e in (ap suc r.0, r.1)
index_at (frozen ∷ ks) (suc i) ts e = let r = index_at ks i ts e in (ap suc r.0, r.1)
index_at (tied us ∷ ks) (suc i) ts e = let r = index_at ks i ts e in (ap suc r.0, omega (arith, r.1))

pub ties-before : (ks : List Kind) (i : ℕ) (ts : List ℕ) → get_or ks i frozen ≡ tied ts → tied_count (take i ks) < tied_count ks
ties-before ks i ts e = (index_at ks i ts e).1

-- the code of an index, by its kind and the ties before it
module _ (t : ℕ) (ks : List Kind) (i : ℕ) (h : i < length ks) where
  coded : (k : Kind) → get_or ks i frozen ≡ k → CodeOf t ks (tied_count (take i ks)) k (get_or (kind_codes t ks) i 0)
  coded k e = subst (λ (x : Kind). CodeOf t ks (tied_count (take i ks)) x (get_or (kind_codes t ks) i 0)) e (code_at t ks i h)

  pub code_free : get_or ks i frozen ≡ free → get_or (kind_codes t ks) i 0 ≡ 0
  unfolding CodeOf
  code_free e = coded free e

  pub code-zero : get_or ks i frozen ≡ frozen → get_or (kind_codes t ks) i 0 ≡ 1
  unfolding CodeOf
  code-zero e = coded frozen e

  pub code-tied : (ts : List ℕ) → get_or ks i frozen ≡ tied ts → get_or (kind_codes t ks) i 0 ≡ suc (suc (t + tied_count (take i ks)))
  unfolding CodeOf
  code-tied ts e = omega (arith, (coded (tied ts) e).0)

-- ---- the set

module _ (B : Book) (x : Parities) (h : Bits x) where
  -- a tied index's own bit
  pub own-bit : (i : ℕ) (ts : List ℕ) → get_or B.kinds i frozen ≡ tied ts → parity_set B x / 2 ^ tied_count (take i B.kinds) % 2 ≡ x i
  unfolding parity_set
  own-bit i ts e =
      let r = index_at B.kinds i ts e in
      set-member (tied_count B.kinds) (λ t. x (tie_index B.kinds t)) (tied_count (take i B.kinds)) (λ t l. h (tie_index B.kinds t)) r.1 ∙ ap x r.0

  -- bit d at index k
  pub set_more : KindsOk 0 B.kinds → (k d : ℕ) → Bit d → bit_xor (parity_set B x) (tie_set 0 B.kinds k * d) ≡ parity_set B (absorb B k d x)
  unfolding parity_set absorb
  set_more ok k zero l =
      ap (bit_xor (parity_set B x)) (mul-zero (tie_set 0 B.kinds k)) ∙ xor_zero_r (parity_set B x)
      ∙ set_same (tied_count B.kinds) _ _ (λ t l. omega (arith, h (tie_index B.kinds t)))
  set_more ok k (suc zero) l =
      let ks : List Kind = B.kinds in
      let n : ℕ = tied_count ks in
      ap (bit_xor (parity_set B x)) (mul-one (tie_set 0 ks k) ∙ tie-set 0 n ks k (omega arith) ∙ one-mul _)
      ∙ set-xor n (λ t. x (tie_index ks t)) (λ t. mark ks k t) (λ t l. h (tie_index ks t)) (λ t l. marked ks t)
      ∙ set_same n _ _ (λ t l. omega (arith, names-mark k ks t l (terms-once 0 ks t ok)))
    where
      marked : (ks : List Kind) (t : ℕ) → mark ks k t < 2
      marked ks t = unfold mark in mark-bit (member k (tie_terms ks t))
  set_more ok k (suc (suc d)) l = absurd (omega arith)

-- parities stay bits
pub absorb-bits : (B : Book) (k d : ℕ) (x : Parities) → Bits (absorb B k d x)
unfolding absorb
absorb-bits B k d x i = omega arith
