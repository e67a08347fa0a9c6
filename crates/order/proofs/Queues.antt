-- The queue of an array that is being changed in place: what each loop of the moves has done after some turns, and what that comes to at its end.
-- By induction on the number of entries. Assumes nothing.
use mathlib.Core.Path.{◌≡◌, refl, sym, ap, ap₂, ◌∙◌, subst}
use mathlib.Core.Bool.{true, false, ◌&&◌}
use mathlib.Core.List.{List, [], ◌∷◌}
use mathlib.Core.Logic.{◌⊎◌, inl, inr}
use Prim.Native.Nat.{ℕ, zero, suc, ◌+◌, ◌-◌, ◌/◌, ◌≤◌, ◌<◌}
use native.Mathlib.Nat.{zero-add}
use native.Mathlib.Numerals.{add-one}
use native.Mathlib.Omega.{arith}
use lib.Dec.{T, leb, ltb, ltb→lt, leb→le}
use lib.ListN.{length, get_or, set, take, length-set}
use lib.Seq.{get_or-set_same, get_or-set_other}
use borrow.Author.Tests.{leb-false, lt-ltb, le-ltb}
use Rattle.laws.specs.Lists.{keep}
use Rattle.laws.proofs.Tests.{and_left, and_right, lt-or}
use Rattle.laws.proofs.Stores.{Stored, stored_more}
use Rattle.queue.specs.Queue.{insert, ahead}
use Rattle.order.specs.Entries.{key_at, queue_of, Rising, Moved}
use Rattle.order.proofs.Digits.{before-entries}

-- arrays that agree below n
pub queue-same : (n : ℕ) (l m : List ℕ) → ((k : ℕ) → k < n → get_or l k 0 ≡ get_or m k 0) → queue_of l n ≡ queue_of m n
unfolding queue_of
queue-same zero l m h = refl
queue-same (suc n) l m h = ap₂ (λ x y. x ∷ y) (h n (omega arith)) (queue-same n l m (λ k b. h k (omega arith)))

-- an entry changed at or above n
pub queue-set : (n : ℕ) (l : List ℕ) (i v : ℕ) → n ≤ i → queue_of (set l i v) n ≡ queue_of l n
queue-set n l i v h = queue-same n (set l i v) l (λ k b. get_or-set_other l i k v 0 (λ q. omega arith))

-- an entry put behind the first n
pub queue-put : (n : ℕ) (l : List ℕ) (v : ℕ) → n < length l → queue_of (set l n v) (suc n) ≡ v ∷ queue_of l n
unfolding queue_of
queue-put n l v h = ap₂ (λ x y. x ∷ y) (get_or-set_same l n v 0 h) (queue-set n l n v (omega arith))

-- ---- what a caller reads

-- the first path is the last entry's
pub queue-first : (n : ℕ) (l : List ℕ) → 0 < n → queue_of l n ≡ get_or l (n - 1) 0 ∷ queue_of l (n - 1)
unfolding queue_of
queue-first n l h = go (n - 1) (omega arith)
  where
    go : (m : ℕ) → n ≡ suc m → queue_of l n ≡ get_or l m 0 ∷ queue_of l m
    go m e = ap (queue_of l) e

pub queue-length : (n : ℕ) (l : List ℕ) → length (queue_of l n) ≡ n
unfolding queue_of
queue-length zero l = refl
queue-length (suc n) l = ap suc (queue-length n l)

-- fewer entries rise too
pub rising-less : (l : List ℕ) (n m : ℕ) → Rising l n → m ≤ n → Rising l m
unfolding Rising
rising-less l n m r h i j k b = r i j k (omega arith)

-- no entries
pub rising_none : (l : List ℕ) → Rising l 0
unfolding Rising
rising_none l i j h b = absurd (omega arith)

-- ---- insert

pub moved_none : (l : List ℕ) (e queued : ℕ) → Moved l l e queued queued
moved_none l e queued = record { size = refl; low = λ k h. refl; high = λ k h j. absurd (omega arith); above = λ k h j. absurd (omega arith); rest = λ k h. refl }

pub moved_more : {old new : List ℕ} {e at queued : ℕ} (m : ℕ) → Moved old new e at queued → at ≡ suc m → at ≤ queued → at < length old → e / 256 ≤ get_or new m 0 / 256 →
    Moved old (set new at (get_or new m 0)) e m queued
moved_more {old} {new} {e} {at} {queued} m s q t b g =
    record {
      size = length-set new at v ∙ s.size;
      low = λ k h. get_or-set_other new at k v 0 (λ p. omega arith) ∙ s.low k (omega arith);
      high = λ k h j. high k (lt-or m k) h j;
      above = λ k h j. above k (lt-or m k) h j;
      rest = λ k h. get_or-set_other new at k v 0 (λ p. omega arith) ∙ s.rest k h;
    }
  where
    v : ℕ
    v = get_or new m 0

    high : (k : ℕ) → (m < k) ⊎ (k ≤ m) → m ≤ k → k < queued → get_or (set new at v) (suc k) 0 ≡ get_or old k 0
    high k (inl l) h j = get_or-set_other new at (suc k) v 0 (λ p. omega arith) ∙ s.high k (omega arith) j
    high k (inr l) h j =
        let p : m ≡ k = omega arith in
        ap (λ i. get_or (set new at v) i 0) (omega arith)
        ∙ get_or-set_same new at v 0 (omega (arith, s.size))
        ∙ s.low m (omega arith)
        ∙ ap (λ i. get_or old i 0) p

    above : (k : ℕ) → (m < k) ⊎ (k ≤ m) → m ≤ k → k < queued → e / 256 ≤ get_or old k 0 / 256
    above k (inl l) h j = s.above k (omega arith) j
    above k (inr l) h j = let p : m ≡ k = omega arith in omega (arith, s.low m (omega arith), ap (λ i. get_or old i 0) p)

-- the same where e does not come before an entry i that is no higher
pub moved-next : {old new : List ℕ} {e at queued : ℕ} (i m : ℕ) → Rising old queued → e / 256 ≤ get_or old i 0 / 256 → Moved old new e at queued → at ≡ suc m → at ≤ queued →
    at < length old → i ≤ m → Moved old (set new at (get_or new m 0)) e m queued
unfolding Rising
moved-next i m r g s q a b h = moved_more m s q a b (omega (arith, s.low m (omega arith), r i m h (omega arith)))

-- first those from `at` on, then those from m on
pub moved_then : {old mid new : List ℕ} {e at m queued : ℕ} → m ≤ at → at ≤ queued → Moved old mid e at queued → Moved mid new e m at → Moved old new e m queued
moved_then {old} {mid} {new} {e} {at} {m} {queued} h a s t =
    record {
      size = t.size ∙ s.size;
      low = λ k l. t.low k l ∙ s.low k (omega arith);
      high = λ k l j. high k (lt-or k at) l j;
      above = λ k l j. above k (lt-or k at) l j;
      rest = λ k l. t.rest k (omega arith) ∙ s.rest k l;
    }
  where
    high : (k : ℕ) → (k < at) ⊎ (at ≤ k) → m ≤ k → k < queued → get_or new (suc k) 0 ≡ get_or old k 0
    high k (inl b) l j = t.high k l b ∙ s.low k b
    high k (inr b) l j = t.rest (suc k) (omega arith) ∙ s.high k b j

    above : (k : ℕ) → (k < at) ⊎ (at ≤ k) → m ≤ k → k < queued → e / 256 ≤ get_or old k 0 / 256
    above k (inl b) l j = omega (arith, t.above k l b, s.low k b)
    above k (inr b) l j = s.above k b j

-- what the test of a turn says where it passes
pub test-passed : (k x y : ℕ) → (ltb 0 k && leb x y) ≡ true → (0 < k) × (x ≤ y)
test-passed k x y q =
    let t : T (ltb 0 k && leb x y) = subst T (sym q) tt in
    (ltb→lt 0 k (and_left (ltb 0 k) (leb x y) t), leb→le x y (and_right (ltb 0 k) (leb x y) t))

-- where it fails, e comes before all entries below `at`, since the last of them is the highest
pub test-failed : {old new : List ℕ} {e at queued : ℕ} → Moved old new e at queued → at ≤ queued → Rising old queued →
    (ltb 0 at && leb (e / 256) (get_or new (at - 1) 0 / 256)) ≡ false → (k : ℕ) → k < at → get_or old k 0 / 256 < e / 256
unfolding Rising
test-failed {old} {new} {e} {at} s a r q k h =
    let last : get_or new (at - 1) 0 / 256 < e / 256 = leb-false _ _ (rw (lt-ltb 0 at (omega arith)) at q) in
    omega (arith, last, s.low (at - 1) (omega arith), r k (at - 1) (omega arith) (omega arith))

-- e comes before the entries below `at`, and before none from there on
module _ {old new : List ℕ} {e at queued : ℕ} (s : Moved old new e at queued) (b : at < length old)
    (below : (k : ℕ) → k < at → get_or old k 0 / 256 < e / 256) where
  -- put at `at` it is in its place
  pub moved-put : (n : ℕ) → at ≤ n → n ≤ queued → queue_of (set new at e) (suc n) ≡ insert key_at e (queue_of old n)
  unfolding queue_of insert
  moved-put zero h j =
      let q : 0 ≡ at = omega arith in
      ap (λ i. get_or (set new at e) i 0 ∷ []) q ∙ ap (λ x. x ∷ []) (get_or-set_same new at e 0 (omega (arith, s.size)))
  moved-put (suc n) h j = go (lt-or n at) (moved-put n)
    where
      go : (n < at) ⊎ (at ≤ n) → (at ≤ n → n ≤ queued → queue_of (set new at e) (suc n) ≡ insert key_at e (queue_of old n)) →
          queue_of (set new at e) (suc (suc n)) ≡ insert key_at e (queue_of old (suc n))
      go (inl l) ih =
          let q : suc n ≡ at = omega arith in
          let low : queue_of new at ≡ queue_of old (suc n) = queue-same at new old s.low ∙ ap (queue_of old) (sym q) in
          rw (before-entries e (get_or old n 0) ∙ lt-ltb _ _ (below n l))
          (ap (λ i. queue_of (set new at e) (suc i)) q ∙ queue-put at new e (omega (arith, s.size)) ∙ ap (λ x. e ∷ x) low)
      go (inr l) ih =
          rw (before-entries e (get_or old n 0) ∙ le-ltb _ _ (s.above n l (omega arith)))
          (ap₂ (λ x y. x ∷ y) (get_or-set_other new at (suc n) e 0 (λ q. omega arith) ∙ s.high n l (omega arith)) (ih l (omega arith)))

  -- an entry of the array then, at, below and above `at`
  is_at : (k : ℕ) → k ≡ at → get_or (set new at e) k 0 ≡ e
  is_at k q = ap (λ i. get_or (set new at e) i 0) q ∙ get_or-set_same new at e 0 (omega (arith, s.size))

  is_below : (k : ℕ) → k < at → get_or (set new at e) k 0 ≡ get_or old k 0
  is_below k h = get_or-set_other new at k e 0 (λ q. omega arith) ∙ s.low k h

  is-above : (k : ℕ) → at < k → k ≤ queued → get_or (set new at e) k 0 ≡ get_or old (k - 1) 0
  is-above k h j =
      let p : k ≡ suc (k - 1) = omega arith in
      get_or-set_other new at k e 0 (λ q. omega arith) ∙ ap (λ i. get_or new i 0) p ∙ s.high (k - 1) (omega arith) (omega arith)

  -- and the entries rise as they did
  pub moved-rising : at ≤ queued → Rising old queued → Rising (set new at e) (suc queued)
  unfolding Rising
  moved-rising a r i j h k = go (lt-or i at) (lt-or at i) (lt-or j at) (lt-or at j)
    where
      go : (i < at) ⊎ (at ≤ i) → (at < i) ⊎ (i ≤ at) → (j < at) ⊎ (at ≤ j) → (at < j) ⊎ (j ≤ at) → get_or (set new at e) i 0 / 256 ≤ get_or (set new at e) j 0 / 256
      go (inl p) t (inl q) u = omega (arith, is_below i p, is_below j q, r i j h (omega arith))
      go (inl p) t (inr q) (inl u) = omega (arith, is_below i p, is-above j u (omega arith), below i p, s.above (j - 1) (omega arith) (omega arith))
      go (inl p) t (inr q) (inr u) = omega (arith, is_below i p, is_at j (omega arith), below i p)
      go (inr p) (inl t) q (inl u) = omega (arith, is-above i t (omega arith), is-above j u (omega arith), r (i - 1) (j - 1) (omega arith) (omega arith))
      go (inr p) (inl t) q (inr u) = absurd (omega arith)
      go (inr p) (inr t) q (inl u) = omega (arith, is_at i (omega arith), is-above j u (omega arith), s.above (j - 1) (omega arith) (omega arith))
      go (inr p) (inr t) q (inr u) = omega (arith, is_at i (omega arith), is_at j (omega arith))

-- ---- cut

-- one more entry moved down by `by`: it was not yet written over
pub cut-more : {old new : List ℕ} {i : ℕ} (by : ℕ) → Stored old new 0 (λ k. get_or old (k + by) 0) i → i < length old →
    Stored old (set new i (get_or new (i + by) 0)) 0 (λ k. get_or old (k + by) 0) (i + 1)
cut-more {old} {new} {i} by s h = rw zero-add at (stored_more (get_or new (i + by) 0) s (omega arith) (s.after (i + by) (omega arith)))

-- the entries from `by` on moved to the start are the queue's first
pub cut-first : (old new : List ℕ) (by n : ℕ) → ((k : ℕ) → k < n → get_or new k 0 ≡ get_or old (k + by) 0) → queue_of new n ≡ take n (queue_of old (n + by))
unfolding queue_of
cut-first old new by zero h = refl
cut-first old new by (suc n) h =
    let e : suc (n + by) ≡ suc n + by = omega arith in
    ap₂ (λ x y. x ∷ y) (h n (omega arith)) (cut-first old new by n (λ k b. h k (omega arith))) ∙ ap (λ i. take (suc n) (queue_of old i)) e

pub cut-rising : (old new : List ℕ) (by n : ℕ) → ((k : ℕ) → k < n → get_or new k 0 ≡ get_or old (k + by) 0) → Rising old (n + by) → Rising new n
unfolding Rising
cut-rising old new by n h r i j l b = omega (arith, h i (omega arith), h j b, r (i + by) (j + by) (omega arith) (omega arith))

-- ---- sift

-- x and y are two of the first i entries, or one, in this order
pub record Two (old : List ℕ) (x y i : ℕ) : Type 0 where
  pub one : ℕ
  pub other : ℕ
  pub order : one ≤ other
  pub low : other < i
  pub is_one : x ≡ get_or old one 0
  pub is-other : y ≡ get_or old other 0

-- of the first i entries, those with more than b blocks stand first, in the order that they had; the others are as they were
pub record Sifted (old new : List ℕ) (b kept i : ℕ) : Type 0 where
  pub size : length new ≡ length old
  pub few : kept ≤ i
  pub first : queue_of new kept ≡ ahead key_at b (queue_of old i)
  pub rest : (k : ℕ) → i ≤ k → get_or new k 0 ≡ get_or old k 0
  pub two : (j k : ℕ) → j ≤ k → k < kept → Two old (get_or new j 0) (get_or new k 0) i

pub sifted-none : (l : List ℕ) (b : ℕ) → Sifted l l b 0 0
unfolding queue_of ahead keep
sifted-none l b = record { size = refl; few = omega arith; first = refl; rest = λ k h. refl; two = λ j k h l. absurd (omega arith) }

module _ {old new : List ℕ} {b kept i : ℕ} (s : Sifted old new b kept i) where
  -- the next entry is as it was
  same : get_or new i 0 ≡ get_or old i 0
  same = s.rest i (omega arith)

  -- two of i entries are two of one more
  two-more : {x y : ℕ} → Two old x y i → Two old x y (i + 1)
  two-more t = record { one = t.one; other = t.other; order = t.order; low = omega (arith, t.low); is_one = t.is_one; is-other = t.is-other }

  -- the next entry put behind those kept comes after them
  two_in : kept < length old → (j k : ℕ) → j ≤ k → k < kept + 1 →
      Two old (get_or (set new kept (get_or new i 0)) j 0) (get_or (set new kept (get_or new i 0)) k 0) (i + 1)
  two_in b j k h l = go (lt-or k kept) (lt-or j kept)
    where
      put : List ℕ
      put = set new kept (get_or new i 0)

      is-old : (n : ℕ) → n < kept → get_or put n 0 ≡ get_or new n 0
      is-old n m = get_or-set_other new kept n (get_or new i 0) 0 (λ q. omega arith)

      is-new : (n : ℕ) → n ≡ kept → get_or put n 0 ≡ get_or old i 0
      is-new n q = ap (λ x. get_or put x 0) q ∙ get_or-set_same new kept (get_or new i 0) 0 (omega (arith, s.size)) ∙ same

      go : (k < kept) ⊎ (kept ≤ k) → (j < kept) ⊎ (kept ≤ j) → Two old (get_or put j 0) (get_or put k 0) (i + 1)
      go (inl p) q = rw (is-old j (omega arith), is-old k p) (two-more (s.two j k h p))
      go (inr p) (inl q) =
          let t = s.two j j (omega arith) q in
          record { one = t.one; other = i; order = omega (arith, t.order, t.low); low = omega arith; is_one = is-old j q ∙ t.is_one; is-other = is-new k (omega arith) }
      go (inr p) (inr q) = record { one = i; other = i; order = omega arith; low = omega arith; is_one = is-new j (omega arith); is-other = is-new k (omega arith) }

  -- those kept rise as they did
  pub sifted-rising : Rising old i → Rising new kept
  unfolding Rising
  sifted-rising r j k h l =
      let t = s.two j k h l in
      omega (arith, t.is_one, t.is-other, r t.one t.other t.order t.low)

  -- one with more
  pub sifted-in : i < length old → b < (key_at (get_or new i 0)).blocks → Sifted old (set new kept (get_or new i 0)) b (kept + 1) (i + 1)
  unfolding queue_of ahead keep
  sifted-in h j =
      let more : b < (key_at (get_or old i 0)).blocks = omega (arith, ap (λ x. (key_at x).blocks) same) in
      let put = queue-put kept new (get_or new i 0) (omega (arith, s.size, s.few)) in
      record {
        size = length-set new kept (get_or new i 0) ∙ s.size;
        few = omega (arith, s.few);
        first = rw (add-one kept, add-one i, lt-ltb b (key_at (get_or old i 0)).blocks more) (put ∙ ap₂ (λ x y. x ∷ y) same s.first);
        rest = λ k l. get_or-set_other new kept k (get_or new i 0) 0 (λ q. omega (arith, s.few)) ∙ s.rest k (omega arith);
        two = two_in (omega (arith, s.few));
      }

  -- one with no more
  pub sifted-out : (key_at (get_or new i 0)).blocks ≤ b → Sifted old new b kept (i + 1)
  unfolding queue_of ahead keep
  sifted-out h =
      let fewer : (key_at (get_or old i 0)).blocks ≤ b = omega (arith, ap (λ x. (key_at x).blocks) same) in
      record {
        size = s.size;
        few = omega (arith, s.few);
        first = rw (add-one i, le-ltb b (key_at (get_or old i 0)).blocks fewer) s.first;
        rest = λ k l. s.rest k (omega arith);
        two = λ j k l m. two-more (s.two j k l m);
      }
