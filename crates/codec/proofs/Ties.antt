-- The parities that a path keeps give its ties' bits: filling a block from the parities before it gives the bits that filling after the path's
-- own bits gives, and the parities after it. By induction on the block's kinds, one bit more each time. Assumes nothing.
use mathlib.Core.Path.{◌≡◌, refl, sym, ap, ap₂, ◌∙◌, subst, fun_ext}
use mathlib.Core.Bool.{Bool, cond}
use mathlib.Core.List.{List, [], ◌∷◌, ◌++◌, append_assoc, append-nil}
use Prim.Native.Nat.{ℕ, zero, suc, ◌+◌, ◌*◌, ◌^◌, ◌%◌, ◌≤◌, ◌<◌}
use native.Mathlib.Nat.{mul-add}
use native.Mathlib.Decide.{dec_lt}
use native.Mathlib.Omega.{arith}
use lib.ListN.{length, get_or, take, drop, get_or-append, get_or-eq_default, drop_of_length-le}
use lib.Seq.{get_or-append_seam, drop-cons, take_at, drop_at}
use lib.Dec.{eqb}
use borrow.Author.Tests.{eq-eqb, ne_eqb}
use Rattle.laws.proofs.Lists.{length-snoc}
use Rattle.polar.specs.Bits.{Bit, to_bits}
use Rattle.codebook.specs.Book.{Book, Kind, free, frozen, tied, free_count, start_of, kinds_of, block_at}
use Rattle.codec.specs.Code.{parity, fill}
use Rattle.codec.specs.Ties.{Parities, times, names, sum_at, absorb, Filling, push, fill_from, fill_block, parities_of, filled}
use Rattle.codec.proofs.Fill.{parity-bit}

-- ---- one bit more

snoc-at : (u : List ℕ) (b i : ℕ) → get_or (u ++ b ∷ []) i 0 ≡ get_or u i 0 + b * cond (eqb i (length u)) 1 0
snoc-at u b i = go (dec_lt i (length u)) (dec_lt (length u) i)
  where
    zero-at : (i ≡ length u → ⊥) → b * cond (eqb i (length u)) 1 0 ≡ 0
    zero-at n = ap (λ (t : Bool). b * cond t 1 0) (ne_eqb i (length u) n) ∙ omega arith

    go : Dec (i < length u) → Dec (length u < i) → get_or (u ++ b ∷ []) i 0 ≡ get_or u i 0 + b * cond (eqb i (length u)) 1 0
    go (yes l) k = get_or-append u (b ∷ []) 0 i l ∙ omega (arith, zero-at (λ e. omega arith))
    go (no l) (yes k) =
        let le : length u ≤ i = omega arith in
        get_or-eq_default (u ++ b ∷ []) 0 (omega (arith, length-snoc u b)) ∙ omega (arith, zero-at (λ e. omega arith), get_or-eq_default u 0 le)
    go (no l) (no k) =
        let e : i ≡ length u = omega arith in
        let z : get_or u i 0 ≡ 0 = get_or-eq_default u 0 (omega arith) in
        let o : b * cond (eqb i (length u)) 1 0 ≡ b = ap (λ (t : Bool). b * cond t 1 0) (eq-eqb i (length u) e) ∙ omega arith in
        ap (λ n. get_or (u ++ b ∷ []) n 0) e ∙ get_or-append_seam u b [] 0 ∙ omega arith

pub parity-snoc : (u : List ℕ) (b : ℕ) (ts : List ℕ) → parity (u ++ b ∷ []) ts ≡ (parity u ts + b * times (length u) ts) % 2
unfolding parity times
parity-snoc u b [] = omega arith
parity-snoc u b (i ∷ ts) =
    let c : ℕ = cond (eqb i (length u)) 1 0 in
    let t : ℕ = times (length u) ts in
    sum (get_or (u ++ b ∷ []) i 0) (parity (u ++ b ∷ []) ts) (get_or u i 0) (parity u ts) (b * c) (b * t) (b * (c + t)) (snoc-at u b i)
    (parity-snoc u b ts) (mul-add b c t)
  where
    sum : (x y z p q r s : ℕ) → x ≡ z + q → y ≡ (p + r) % 2 → s ≡ q + r → (x + y) % 2 ≡ ((z + p) % 2 + s) % 2
    sum x y z p q r s f e g = omega arith

-- ---- the parities of a path with the bits u

sum-bit : (u : List ℕ) (k : Kind) → Bit (sum_at u k)
unfolding sum_at
sum-bit u free = omega arith
sum-bit u frozen = omega arith
sum-bit u (tied ts) = parity-bit u ts

-- they are bits
pub parities-bits : (B : Book) (u : List ℕ) (i : ℕ) → Bit (parities_of B u i)
unfolding parities_of
parities-bits B u i = sum-bit u (get_or B.kinds i frozen)

sum-none : (k : Kind) → 0 ≡ sum_at [] k
unfolding sum_at parity
sum-none free = refl
sum-none frozen = refl
sum-none (tied ts) = none ts
  where
    none : (ts : List ℕ) → 0 ≡ parity [] ts
    none [] = refl
    none (i ∷ ts) = let e = none ts in omega arith

-- the empty path's are zero
pub parities-none : (B : Book) → (λ (i : ℕ). 0) ≡ parities_of B []
unfolding parities_of
parities-none B = fun_ext (λ i. sum-none (get_or B.kinds i frozen))

sum-snoc : (u : List ℕ) (b : ℕ) (k : Kind) → sum_at (u ++ b ∷ []) k ≡ (sum_at u k + b * names (length u) k) % 2
unfolding sum_at names
sum-snoc u b free = omega arith
sum-snoc u b frozen = omega arith
sum-snoc u b (tied ts) = parity-snoc u b ts

parities-snoc : (B : Book) (u : List ℕ) (b : ℕ) → parities_of B (u ++ b ∷ []) ≡ absorb B (length u) b (parities_of B u)
unfolding parities_of absorb
parities-snoc B u b = fun_ext (λ i. sum-snoc u b (get_or B.kinds i frozen))

tie-at : (B : Book) (u ts : List ℕ) → get_or B.kinds (length u) frozen ≡ tied ts → parities_of B u (length u) ≡ parity u ts
unfolding parities_of sum_at
tie-at B u ts e = ap (sum_at u) e

-- ---- a block's bits

-- ks are the kinds of the indices from k on
KindsAt : Book → ℕ → List Kind → Type 0
KindsAt B k [] = Unit {0}
KindsAt B k (x ∷ ks) = (get_or B.kinds k frozen ≡ x) × KindsAt B (suc k) ks

kinds-at : (B : Book) (n k : ℕ) → KindsAt B k (take n (drop k B.kinds))
unfolding KindsAt
kinds-at B zero k = tt
kinds-at B (suc n) k = go (dec_lt k (length B.kinds)) (kinds-at B n (suc k))
  where
    go : Dec (k < length B.kinds) → KindsAt B (suc k) (take n (drop (suc k) B.kinds)) → KindsAt B k (take (suc n) (drop k B.kinds))
    go (yes l) h = rw (drop-cons B.kinds k frozen l) (refl, h)
    go (no l) h = rw (drop_of_length-le B.kinds {i = k} (omega arith)) tt

-- x is u with the bits of f, and has the parities of f
abbrev Gives : Book → List ℕ → List ℕ → Filling → Type 0
Gives B u x f = (x ≡ u ++ f.bits) × (parities_of B x ≡ f.parities)

-- the bit b of the next index, counted among the bits filled
gives_more : (B : Book) (u : List ℕ) (b : ℕ) (ks : List Kind) (ds x : List ℕ) →
    Gives B (u ++ b ∷ []) x (fill_from B (parities_of B (u ++ b ∷ [])) (length (u ++ b ∷ [])) ks ds) →
    Gives B u x (push b (fill_from B (absorb B (length u) b (parities_of B u)) (suc (length u)) ks ds))
unfolding push
gives_more B u b ks ds x h =
    let e : fill_from B (parities_of B (u ++ b ∷ [])) (length (u ++ b ∷ [])) ks ds
    ≡ fill_from B (absorb B (length u) b (parities_of B u)) (suc (length u)) ks ds =
    ap₂ (λ (p : Parities) (n : ℕ). fill_from B p n ks ds) (parities-snoc B u b) (length-snoc u b) in
    (h.0 ∙ append_assoc u (b ∷ []) _ ∙ ap (λ (f : Filling). u ++ b ∷ f.bits) e, h.1 ∙ ap (λ (f : Filling). f.parities) e)

fill_gives : (B : Book) (u : List ℕ) (ks : List Kind) (ds : List ℕ) → KindsAt B (length u) ks →
    Gives B u (fill u ks ds) (fill_from B (parities_of B u) (length u) ks ds)
unfolding fill fill_from KindsAt
fill_gives B u [] ds h = (sym (append-nil u), refl)
fill_gives B u (free ∷ ks) [] h = gives_more B u 0 ks [] _ (fill_gives B (u ++ 0 ∷ []) ks [] (rw (length-snoc u 0) h.1))
fill_gives B u (free ∷ ks) (d ∷ ds) h = gives_more B u d ks ds _ (fill_gives B (u ++ d ∷ []) ks ds (rw (length-snoc u d) h.1))
fill_gives B u (frozen ∷ ks) ds h = gives_more B u 0 ks ds _ (fill_gives B (u ++ 0 ∷ []) ks ds (rw (length-snoc u 0) h.1))
fill_gives B u (tied ts ∷ ks) ds h =
    let b : ℕ = parity u ts in
    subst (λ (c : ℕ). Gives B u (fill (u ++ b ∷ []) ks ds) (push c (fill_from B (absorb B (length u) c (parities_of B u)) (suc (length u)) ks ds)))
    (sym (tie-at B u ts h.0))
    (gives_more B u b ks ds _ (fill_gives B (u ++ b ∷ []) ks ds (rw (length-snoc u b) h.1)))

block-gives : (B : Book) (u : List ℕ) (b w : ℕ) → length u ≡ start_of B.blocks b → Gives B u (filled B u b w) (fill_block B (parities_of B u) b w)
unfolding fill_block kinds_of
block-gives B u b w e =
    subst (λ (k : ℕ). Gives B u (filled B u b w) (fill_from B (parities_of B u) k (kinds_of B b) (to_bits (free_count (kinds_of B b)) w))) e
    (fill_gives B u (kinds_of B b) (to_bits (free_count (kinds_of B b)) w) (rw e (kinds-at B (2 ^ (block_at B b).j) (start_of B.blocks b))))

module _ (B : Book) (u : List ℕ) (b w : ℕ) (e : length u ≡ start_of B.blocks b) where
  pub filled-take : take (start_of B.blocks b) (filled B u b w) ≡ u
  filled-take = ap (take (start_of B.blocks b)) (block-gives B u b w e).0 ∙ take_at u _ (start_of B.blocks b) e

  pub filled-drop : drop (start_of B.blocks b) (filled B u b w) ≡ (fill_block B (parities_of B u) b w).bits
  filled-drop = ap (drop (start_of B.blocks b)) (block-gives B u b w e).0 ∙ drop_at u _ (start_of B.blocks b) e

  pub filled-parities : parities_of B (filled B u b w) ≡ (fill_block B (parities_of B u) b w).parities
  filled-parities = (block-gives B u b w e).1
