-- How the reader's code goes down: from where a node starts, one height after another by Q; to a later block once by P, at the turn, and then by
-- Q. What bounds the values have, and that each height on the way has an array. Where the turn of a block's end lies. By induction on the steps
-- down. Assumes nothing.
use mathlib.Core.Path.{◌≡◌, refl, sym, ap, ◌∙◌, subst}
use mathlib.Core.Bool.{Bool, true, false, cond}
use mathlib.Core.List.{List}
use mathlib.Core.Logic.{◌⊎◌, inl, inr}
use Prim.Native.Nat.{ℕ, zero, suc, ◌+◌, ◌-◌, ◌^◌, ◌≤◌, ◌<◌}
use native.Mathlib.Nat.{two-pow-succ}
use native.Mathlib.Omega.{arith}
use lib.ListN.{length, take, drop}
use lib.Pow.{pow_pos}
use lib.IntN.{ℤ}
use lib.Dec.{eqb}
use borrow.Author.Tests.{eqb-true, eqb-false}
use Rattle.laws.specs.Lists.{All}
use Rattle.laws.proofs.Tests.{lt-or}
use Rattle.laws.proofs.Lists.{all_take, all_drop}
use Rattle.polar.specs.Soft.{Qs, Ps}
use Rattle.polar.specs.Node.{rest, child}
use Rattle.polar.specs.Layers.{Within}
use Rattle.polar.proofs.Node.{rest-low, rest-high, rest-zero, rest-less, child-low, child-high, Starts, starts-fits}
use Rattle.polar.proofs.Ranges.{Qs-within, Ps-within}
use Rattle.codebook.specs.Book.{Book, start_of, block_at}
use Rattle.codebook.specs.Limits.{Valid}
use Rattle.outer.proofs.Blocks.{Placed, placed, start-less}
use Rattle.reader.specs.Arrays.{View, vals_of, sums_of, writes, put_vals, turn, descend, by_q, by_p}
use Rattle.reader.specs.Paths.{place}
use Rattle.reader.proofs.Upd.{upd_same, upd_other}
use Rattle.reader.proofs.Tree.{rest-late, turn-high, turn_low, turn-past, turn-less, root-starts}
use Rattle.reader.proofs.Arrays.{writes-some, vals-put}
use Rattle.reader.proofs.Solo.{descend-top}

-- ---- after a write

pub put-vals : (others : List (ℕ → ℕ)) (h : ℕ) (x : List ℤ) (v : View) → vals_of (put_vals others h x v) h ≡ x
put-vals others h x v = ap (λ f. f h) (vals-put others h v x) ∙ upd_same (vals_of v) h x

pub put_has : (others : List (ℕ → ℕ)) (h : ℕ) (x : List ℤ) (v : View) → 1 ≤ (put_vals others h x v).ids h
unfolding put_vals
put_has others h x v = subst (λ (i : ℕ). 1 ≤ i) (sym (upd_same v.ids h (writes others h v))) (writes-some others h v)

pub put_other : (others : List (ℕ → ℕ)) (h : ℕ) (x : List ℤ) (v : View) (k : ℕ) → (k ≡ h → ⊥) → (put_vals others h x v).ids k ≡ v.ids k
unfolding put_vals
put_other others h x v k n = upd_other v.ids h (writes others h v) k n

-- a bound of the values; P doubles it
pub turn-within : (M n : ℕ) (c : List ℕ) (ys : List ℤ) → All (Within M) ys → All (Within (M + M)) (Ps c (take n ys) (drop n ys))
turn-within M n c ys h = Ps-within M c (take n ys) (drop n ys) (all_take (Within M) n ys h) (all_drop (Within M) n ys h)

module _ (others : List (ℕ → ℕ)) where
  -- ---- from where a node starts

  pub descend-none : (m t : ℕ) (v : View) → descend others 0 m t v ≡ v
  unfolding descend
  descend-none m t v = refl

  -- the first step
  descend-first : (k m : ℕ) (v : View) → descend others (suc k) (suc m) 0 v ≡ descend others k m 0 (by_q others m v)
  unfolding descend
  descend-first k m v = rw (rest-zero m, child-low m 0 (sums_of v m) (vals_of v (suc m)) (pow_pos m))

  -- the last step
  descend-last : (k top h : ℕ) (v : View) → top ≡ suc k + h → descend others (suc k) top 0 v ≡ by_q others h (descend others k top 0 v)
  unfolding descend
  descend-last k zero h v e = absurd (omega arith)
  descend-last zero (suc m) h v e = descend-first 0 m v ∙ ap (λ i. by_q others i v) (omega arith)
  descend-last (suc k) (suc m) h v e =
      descend-first (suc k) m v
      ∙ descend-last k m h (by_q others m v) (omega arith)
      ∙ ap (by_q others h) (sym (descend-first k m v))

  pub descend-more : (k top : ℕ) (v : View) → suc k ≤ top → descend others (suc k) top 0 v ≡ by_q others (top - suc k) (descend others k top 0 v)
  descend-more k top v l = descend-last k top (top - suc k) v (omega arith)

  -- Q keeps a bound
  pub by_q-within : (h M : ℕ) (v : View) → All (Within M) (vals_of v (suc h)) → All (Within M) (vals_of (by_q others h v) h)
  by_q-within h M v k =
      let ys : List ℤ = vals_of v (suc h) in
      let x : List ℤ = Qs (take (2 ^ h) ys) (drop (2 ^ h) ys) in
      subst (All (Within M)) (sym (put-vals others h x v))
      (Qs-within M (take (2 ^ h) ys) (drop (2 ^ h) ys) (all_take (Within M) (2 ^ h) ys k))

  within-at : (k top h M : ℕ) (v : View) → top ≡ k + h → All (Within M) (vals_of v top) → All (Within M) (vals_of (descend others k top 0 v) h)
  unfolding descend
  within-at zero top h M v e k = subst (λ (i : ℕ). All (Within M) (vals_of v i)) (omega arith) k
  within-at (suc k) zero h M v e w = absurd (omega arith)
  within-at (suc k) (suc m) h M v e w =
      subst (λ (x : View). All (Within M) (vals_of x h)) (sym (descend-first k m v))
      (within-at k m h M (by_q others m v) (omega arith) (by_q-within m M v w))

  pub descend-within : (k top M : ℕ) (v : View) → k ≤ top → All (Within M) (vals_of v top) →
      All (Within M) (vals_of (descend others k top 0 v) (top - k))
  descend-within k top M v l h = within-at k top (top - k) M v (omega arith) h

  -- each height on the way has an array; those above keep theirs (descend-top)
  pub descend-has : (k top : ℕ) (v : View) (h : ℕ) → k ≤ top → top - k ≤ h → h < top → 1 ≤ (descend others k top 0 v).ids h
  descend-has zero top v h l a b = absurd (omega arith)
  descend-has (suc k) zero v h l a b = absurd (omega arith)
  descend-has (suc k) (suc m) v h l a b =
      subst (λ (x : View). 1 ≤ x.ids h) (sym (descend-first k m v)) (go (lt-or h m) (descend-has k m (by_q others m v) h))
    where
      go : (h < m) ⊎ (m ≤ h) → (k ≤ m → m - k ≤ h → h < m → 1 ≤ (descend others k m 0 (by_q others m v)).ids h) →
          1 ≤ (descend others k m 0 (by_q others m v)).ids h
      go (inl x) ih = ih (omega arith) (omega arith) x
      go (inr x) ih =
          let e : m ≡ h = omega arith in
          subst (λ (i : ℕ). 1 ≤ i) (sym (descend-top others k m 0 (by_q others m v) h x))
          (subst (λ (i : ℕ). 1 ≤ (by_q others m v).ids i) e (put_has others m _ v))

  -- ---- to a later block

  pub descend-turn : (m t j : ℕ) (v : View) → 0 < t → t < 2 ^ m → j ≤ turn m t →
      descend others (m - j) m t v ≡ descend others (turn m t - j) (turn m t) 0 (by_p others (turn m t) v)
  unfolding descend
  descend-turn zero t j v p l a = absurd (omega arith)
  descend-turn (suc m) t j v p l a =
      let e : suc m - j ≡ suc (m - j) = omega (arith, turn-less (suc m) t p l) in
      ap (λ d. descend others d (suc m) t v) e
      ∙ go (eqb (rest m t) 0) refl (λ q b. descend-turn m (rest m t) j v q (rest-less m t l) b)
    where
      x : List ℤ
      x = child m t (sums_of v m) (vals_of v (suc m))

      after : ℕ → View
      after a = descend others (a - j) a 0 (by_p others a v)

      go : (b : Bool) → eqb (rest m t) 0 ≡ b →
          (0 < rest m t → j ≤ turn m (rest m t) → descend others (m - j) m (rest m t) v ≡ after (turn m (rest m t))) →
          descend others (m - j) m (rest m t) (cond b (put_vals others m x v) v) ≡ after (turn (suc m) t)
      go true e ih =
          let z : rest m t ≡ 0 = eqb-true (rest m t) 0 e in
          let high : 2 ^ m ≤ t = rest-late m t p z in
          ap (λ i. descend others (m - j) m i (put_vals others m x v)) z
          ∙ ap (λ y. descend others (m - j) m 0 (put_vals others m y v)) (child-high m t (sums_of v m) (vals_of v (suc m)) high)
          ∙ ap after (sym (turn-high m t high z))
      go false e ih =
          let n : rest m t ≡ 0 → ⊥ = eqb-false (rest m t) 0 e in
          let at : turn (suc m) t ≡ turn m (rest m t) = turn-past m t n in
          ih (omega arith) (omega arith) ∙ ap after (sym at)

-- ---- where the turn of a block's end lies

-- not below the block
end-turn : (d j m s t : ℕ) → m ≡ d + j → Starts d m s → t ≡ s + 2 ^ j → t < 2 ^ m → j ≤ turn m t
unfolding Starts
end-turn zero j m s t e a f l =
    let p : 2 ^ j ≡ 2 ^ m = ap (λ n. 2 ^ n) (omega arith) in
    absurd (omega arith)
end-turn (suc d) j zero s t e a f l = absurd a
end-turn (suc d) j (suc m) s t e a f l =
    go (lt-or s (2 ^ m)) (lt-or t (2 ^ m)) (end-turn d j m (rest m s) (rest m t) (omega arith) a)
  where
    fit : rest m s + 2 ^ j ≤ 2 ^ m
    fit = starts-fits d j m (rest m s) (omega arith) a

    go : (s < 2 ^ m) ⊎ (2 ^ m ≤ s) → (t < 2 ^ m) ⊎ (2 ^ m ≤ t) → (rest m t ≡ rest m s + 2 ^ j → rest m t < 2 ^ m → j ≤ turn m (rest m t)) →
        j ≤ turn (suc m) t
    go (inl x) (inl y) ih =
        let r : rest m t ≡ t = rest-low m t y in
        let k : j ≤ turn m (rest m t) = ih (omega (arith, rest-low m s x)) (omega arith) in
        omega (arith, turn_low m t y, ap (turn m) r)
    go (inl x) (inr y) ih =
        let z : rest m t ≡ 0 = rest-high m t y ∙ omega (arith, fit, rest-low m s x) in
        omega (arith, turn-high m t y z)
    go (inr x) (inl y) ih = absurd (omega arith)
    go (inr x) (inr y) ih =
        let r : rest m t ≡ rest m s + 2 ^ j = omega (arith, rest-high m t y, rest-high m s x) in
        let n : rest m t ≡ 0 → ⊥ = λ z. omega (arith, pow_pos j) in
        omega (arith, turn-past m t n, ih r (rest-less m t l))

-- nor below the block that starts there
start-turn : (d j m t : ℕ) → m ≡ d + j → Starts d m t → 0 < t → t < 2 ^ m → j ≤ turn m t
unfolding Starts
start-turn zero j m t e a p l = absurd (omega arith)
start-turn (suc d) j zero t e a p l = absurd a
start-turn (suc d) j (suc m) t e a p l = go (eqb (rest m t) 0) refl (start-turn d j m (rest m t) (omega arith) a)
  where
    go : (b : Bool) → eqb (rest m t) 0 ≡ b → (0 < rest m t → rest m t < 2 ^ m → j ≤ turn m (rest m t)) → j ≤ turn (suc m) t
    go true f ih =
        let z : rest m t ≡ 0 = eqb-true (rest m t) 0 f in
        omega (arith, turn-high m t (rest-late m t p z) z)
    go false f ih =
        let n : rest m t ≡ 0 → ⊥ = eqb-false (rest m t) 0 f in
        omega (arith, turn-past m t n, ih (omega arith) (rest-less m t l))

-- block b has a next one: its start is inside, and the place of block b is its turn, not below either block and below the root
pub record TurnAt (B : Book) (b : ℕ) : Type 0 where
  pub after : 0 < start_of B.blocks (suc b)
  pub inside : start_of B.blocks (suc b) < 2 ^ B.m
  pub at : turn B.m (start_of B.blocks (suc b)) ≡ place B b
  pub own : (block_at B b).j ≤ place B b
  pub next : (block_at B (suc b)).j ≤ place B b
  pub less : place B b < B.m

module _ (B : Book) (ok : Valid B) (b : ℕ) where
  module _ (l : b < length B.blocks) where
    -- the end of a block as the root's first half counts it
    end-less : start_of B.blocks b + 2 ^ (block_at B b).j < 2 ^ suc B.m
    end-less = omega (arith, (ok.blocks b l).within, two-pow-succ B.m, pow_pos B.m)

    pub place-own : (block_at B b).j ≤ place B b
    unfolding place
    place-own =
        let o : Placed B b = placed B ok b l in
        let j : ℕ = (block_at B b).j in
        let m : ℕ = B.m in
        let s : ℕ = start_of B.blocks b in
        end-turn (suc (m - j)) j (suc m) s (s + 2 ^ j) (omega (arith, o.small)) (root-starts (m - j) j m s o.small o.starts) refl end-less

    pub place-most : place B b ≤ B.m
    unfolding place
    place-most =
        omega (arith, turn-less (suc B.m) (start_of B.blocks b + 2 ^ (block_at B b).j) (omega (arith, pow_pos (block_at B b).j)) end-less)

  pub place-last : suc b ≡ length B.blocks → place B b ≡ B.m
  unfolding place
  place-last e =
      let o : Placed B b = placed B ok b (omega arith) in
      let m : ℕ = B.m in
      let f : start_of B.blocks b + 2 ^ (block_at B b).j ≡ 2 ^ m = sym o.next ∙ ap (start_of B.blocks) e ∙ ok.covered in
      ap (turn (suc m)) f ∙ turn-high m (2 ^ m) (omega arith) (rest-high m (2 ^ m) (omega arith) ∙ omega arith)

  pub turn-place : suc b < length B.blocks → TurnAt B b
  unfolding place
  turn-place l =
      let o : Placed B b = placed B ok b (omega arith) in
      let q : Placed B (suc b) = placed B ok (suc b) l in
      let m : ℕ = B.m in
      let j : ℕ = (block_at B (suc b)).j in
      let t : ℕ = start_of B.blocks (suc b) in
      let p : 0 < t = omega (arith, o.next, pow_pos (block_at B b).j) in
      let i : t < 2 ^ m = start-less B ok (suc b) l in
      let at : turn m t ≡ place B b = sym (turn_low m t i) ∙ ap (turn (suc m)) o.next in
      record {
        after = p;
        inside = i;
        at = at;
        own = place-own (omega arith);
        next = omega (arith, start-turn (m - j) j m t q.small q.starts p i);
        less = omega (arith, turn-less m t p i);
      }
