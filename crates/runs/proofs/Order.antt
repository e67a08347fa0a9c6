-- The queue's order is a strict order; queueing, cutting and keeping leave a queue in order, of any kind of path; and what step 4 leaves. By cases on what tells
-- two keys apart, and by induction on the queue. Assumes nothing.
use mathlib.Core.Path.{◌≡◌, refl, sym, ap, ◌∙◌, subst}
use mathlib.Core.Bool.{Bool, not, ◌&&◌, ◌||◌}
use mathlib.Core.List.{List, [], ◌∷◌}
use Prim.Native.Nat.{ℕ, zero, suc, ◌≤◌, ◌<◌}
use native.Mathlib.Nat.{lt_irrefl}
use native.Mathlib.Omega.{arith}
use lib.ListN.{length, get_or, take}
use lib.IntN.{ℤ}
use lib.Signed.{lt_z}
use lib.Dec.{T, ltb, eqb, eqb→eq, ltb→lt, lt→ltb, eqb_refl, T_not, not_T}
use Rattle.laws.specs.Lists.{All, keep}
use Rattle.laws.proofs.Tests.{cond-case, and_left, and_right, and_in, or_left, or_right, or_case}
use Rattle.laws.proofs.Lists.{all_map, all_take, all_keep, keep-length}
use Rattle.laws.proofs.Integers.{lt_z-irrefl, lt_z-trans, lt_z-total}
use Rattle.queue.specs.Queue.{Key, before, insert, ahead, behind, staying, outrun_by}
use Rattle.runs.specs.Runs.{Ordered}

-- ---- the order of keys

-- what puts p before q
pub data Before (p q : Key) : Type 0 where
  by_score : T (lt_z q.score p.score) → Before p q
  by_blocks : p.score ≡ q.score → q.blocks < p.blocks → Before p q
  by_number : p.score ≡ q.score → q.blocks ≡ p.blocks → p.number < q.number → Before p q

pub before→ : (p q : Key) → T (before p q) → Before p q
unfolding before
before→ p q t =
    let higher = lt_z q.score p.score in
    let lower = lt_z p.score q.score in
    let longer = ltb q.blocks p.blocks in
    let same = eqb q.blocks p.blocks in
    let older = ltb p.number q.number in
    or_case higher (not lower && (longer || same && older)) t (λ h. by_score h)
    (λ m h.
    let e = lt_z-total p.score q.score (and_left (not lower) (longer || same && older) h) m in
    or_case longer (same && older) (and_right (not lower) (longer || same && older) h) (λ k. by_blocks e (ltb→lt q.blocks p.blocks k))
    (λ _ k. by_number e (eqb→eq q.blocks p.blocks (and_left same older k)) (ltb→lt p.number q.number (and_right same older k))))

not_lower : (p q : Key) → p.score ≡ q.score → T (not (lt_z p.score q.score))
not_lower p q e = not_T (lt_z p.score q.score) (λ t. lt_z-irrefl q.score (subst (λ (s : ℤ). T (lt_z s q.score)) e t))

pub →before : (p q : Key) → Before p q → T (before p q)
unfolding before
→before p q (by_score h) = or_left (lt_z q.score p.score) _ h
→before p q (by_blocks e h) =
    let longer = ltb q.blocks p.blocks in
    let other = eqb q.blocks p.blocks && ltb p.number q.number in
    let level = not (lt_z p.score q.score) in
    or_right (lt_z q.score p.score) (level && (longer || other))
    (and_in level (longer || other) (not_lower p q e) (or_left longer other (lt→ltb q.blocks p.blocks h)))
→before p q (by_number e f h) =
    let longer = ltb q.blocks p.blocks in
    let same = eqb q.blocks p.blocks in
    let older = ltb p.number q.number in
    let level = not (lt_z p.score q.score) in
    or_right (lt_z q.score p.score) (level && (longer || same && older))
    (and_in level (longer || same && older) (not_lower p q e)
    (or_right longer (same && older) (and_in same older (subst (λ (x : ℕ). T (eqb q.blocks x)) f (eqb_refl q.blocks)) (lt→ltb p.number q.number h))))

Before-trans : (p q r : Key) → Before p q → Before q r → Before p r
Before-trans p q r (by_score h) (by_score k) = by_score (lt_z-trans r.score q.score p.score k h)
Before-trans p q r (by_score h) (by_blocks e k) = by_score (subst (λ (s : ℤ). T (lt_z s p.score)) e h)
Before-trans p q r (by_score h) (by_number e f k) = by_score (subst (λ (s : ℤ). T (lt_z s p.score)) e h)
Before-trans p q r (by_blocks e h) (by_score k) = by_score (subst (λ (s : ℤ). T (lt_z r.score s)) (sym e) k)
Before-trans p q r (by_blocks e h) (by_blocks f k) = by_blocks (e ∙ f) (omega arith)
Before-trans p q r (by_blocks e h) (by_number f g k) = by_blocks (e ∙ f) (omega arith)
Before-trans p q r (by_number e i h) (by_score k) = by_score (subst (λ (s : ℤ). T (lt_z r.score s)) (sym e) k)
Before-trans p q r (by_number e i h) (by_blocks f k) = by_blocks (e ∙ f) (omega arith)
Before-trans p q r (by_number e i h) (by_number f g k) = by_number (e ∙ f) (g ∙ i) (omega arith)

pub before-trans : (p q r : Key) → T (before p q) → T (before q r) → T (before p r)
before-trans p q r h k = →before p r (Before-trans p q r (before→ p q h) (before→ q r k))

pub before-irrefl : (p : Key) → T (before p p) → ⊥
before-irrefl p h = go (before→ p p h)
  where
    go : Before p p → ⊥
    go (by_score h) = lt_z-irrefl p.score h
    go (by_blocks e h) = lt_irrefl p.blocks h
    go (by_number e f h) = lt_irrefl p.number h

-- ---- queues

module _ {A : Type 0} (key : A → Key) where
  pub all_insert : (P : A → Type 0) (p : A) (qs : List A) → P p → All P qs → All P (insert key p qs)
  unfolding insert All
  all_insert P p [] a h = (a, tt)
  all_insert P p (q ∷ qs) a h = cond-case (All P) (before (key p) (key q)) (λ _. (a, h)) (λ _. (h.0, all_insert P p qs a h.1))

  pub insert-length : (p : A) (qs : List A) → length (insert key p qs) ≡ suc (length qs)
  unfolding insert
  insert-length p [] = refl
  insert-length p (q ∷ qs) =
      cond-case (λ (xs : List A). length xs ≡ suc (suc (length qs))) (before (key p) (key q)) (λ _. refl) (λ _. ap suc (insert-length p qs))

  pub insert-ordered : (p : A) (qs : List A) → Ordered key qs → Ordered key (insert key p qs)
  unfolding insert Ordered All
  insert-ordered p [] h = (tt, tt)
  insert-ordered p (q ∷ qs) h =
      cond-case (Ordered key) (before (key p) (key q))
      (λ t. (
        (
          not_T (before (key q) (key p)) (λ u. before-irrefl (key p) (before-trans (key p) (key q) (key p) t u)),
          all_map {A = A} {P = λ (x : A). T (not (before (key x) (key q)))} {Q = λ (x : A). T (not (before (key x) (key p)))} (λ x k. not_T (before (key x) (key p)) (λ u. T_not (before (key x) (key q)) k (before-trans (key x) (key p) (key q) u t))) qs h.0,
        ),
        h,
      ))
      (λ t. (all_insert (λ (x : A). T (not (before (key x) (key q)))) p qs t h.0, insert-ordered p qs h.1))

  pub take-ordered : (n : ℕ) (qs : List A) → Ordered key qs → Ordered key (take n qs)
  unfolding Ordered
  take-ordered zero qs h = tt
  take-ordered (suc n) [] h = tt
  take-ordered (suc n) (q ∷ qs) h = (all_take (λ (x : A). T (not (before (key x) (key q)))) n qs h.0, take-ordered n qs h.1)

  pub keep-ordered : (f : A → Bool) (qs : List A) → Ordered key qs → Ordered key (keep f qs)
  unfolding keep Ordered
  keep-ordered f [] h = tt
  keep-ordered f (q ∷ qs) h =
      cond-case (Ordered key) (f q)
      (λ _. (all_map (λ x k. k.0) (keep f qs) (all_keep (λ (x : A). T (not (before (key x) (key q)))) f qs h.0), keep-ordered f qs h.1))
      (λ _. keep-ordered f qs h.1)

  -- ---- step 4

  module _ (L b : ℕ) (visits : List ℕ) (qs : List A) where
    pub all-staying : (P : A → Type 0) → All P qs → All P (staying key L b visits qs)
    unfolding staying ahead
    all-staying P h = cond-case (All P) (eqb (get_or visits b 0) L) (λ _. all_map (λ p k. k.0) _ (all_keep P _ qs h)) (λ _. h)

    pub staying-ordered : Ordered key qs → Ordered key (staying key L b visits qs)
    unfolding staying ahead
    staying-ordered h = cond-case (Ordered key) (eqb (get_or visits b 0) L) (λ _. keep-ordered _ qs h) (λ _. h)

    pub staying-length : length (staying key L b visits qs) ≤ length qs
    unfolding staying ahead
    staying-length = cond-case (λ (xs : List A). length xs ≤ length qs) (eqb (get_or visits b 0) L) (λ _. keep-length _ qs) (λ _. omega arith)

    pub outrun-length : length (outrun_by key L b visits qs) ≤ length qs
    unfolding outrun_by behind
    outrun-length = cond-case (λ (xs : List A). length xs ≤ length qs) (eqb (get_or visits b 0) L) (λ _. keep-length _ qs) (λ _. omega arith)
