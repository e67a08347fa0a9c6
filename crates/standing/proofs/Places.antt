-- The queue's paths change their places: the path in hand, or the one before it, is put into its place in the order; and a path at any place is
-- taken in hand. Memory stays as it is: entries stay paired, slots apart, and holders counted. Assumes nothing.
use mathlib.Core.Path.{◌≡◌, ◌∙◌}
use mathlib.Core.Bool.{Bool, true, false, cond}
use mathlib.Core.List.{List, [], ◌∷◌, ◌++◌, map, map-append, append_assoc}
use mathlib.Core.Logic.{◌≢◌}
use Prim.Native.Nat.{ℕ, ◌≤◌, ◌<◌}
use native.Mathlib.Omega.{arith}
use lib.ListN.{length, length-append}
use Rattle.laws.specs.Lists.{All, Distinct}
use Rattle.laws.specs.Pairs.{Paired}
use Rattle.codebook.specs.Book.{Book}
use Rattle.codec.specs.Ties.{times}
use Rattle.queue.specs.Queue.{Key, before, insert}
use Rattle.runs.proofs.Order.{all_insert, insert-length}
use Rattle.reader.specs.Arrays.{Arrays}
use Rattle.reader.specs.Paths.{Path, key_of, ids_of}
use Rattle.reader.proofs.Queue.{insert-paired}
use Rattle.order.specs.Entries.{key_at, slot_at}
use Rattle.sharing.specs.Sharing.{Counted}
use Rattle.sharing.proofs.Counting.{ids_at, counted-insert, counted-forward}
use Rattle.standing.specs.Seen.{Memory}
use Rattle.standing.specs.Standing.{EntryOf, Stands}
use Rattle.standing.proofs.Slots.{all-forward, all_inserted, distinct-forward, distinct-insert}

-- ---- put into the order

-- a path put into its place behind another counts as it does in front of it
times-second : {A : Type 0} (key : A → Key) (ids : A → ℕ → ℕ) (i h : ℕ) (q p : A) (ps : List A) →
    times i (ids_at h (ids q ∷ ids p ∷ map ids ps)) ≡ times i (ids_at h (ids p ∷ map ids (insert key q ps)))
unfolding times insert
times-second key ids i h q p [] = omega arith
times-second key ids i h q p (z ∷ ps) = go (before (key q) (key z)) (times-second key ids i h q p ps)
  where
    go : (b : Bool) → times i (ids_at h (ids q ∷ ids p ∷ map ids ps)) ≡ times i (ids_at h (ids p ∷ map ids (insert key q ps))) →
        times i (ids_at h (ids q ∷ ids p ∷ ids z ∷ map ids ps)) ≡ times i (ids_at h (ids p ∷ map ids (cond b (q ∷ z ∷ ps) (z ∷ insert key q ps))))
    go true ih = omega arith
    go false ih = omega arith

-- an entry and its path, put into their places, are paired
queued : (B : Book) (rows : List ℕ) (e : ℕ) (es : List ℕ) (p : Path) (ps : List Path) → EntryOf B rows e p → Paired (EntryOf B rows) es ps →
    Paired (EntryOf B rows) (insert key_at e es) (insert (key_of B) p ps)
queued B rows e es p ps h k = insert-paired key_at (key_of B) (EntryOf B rows) (λ d q r. r.key) e p es ps h k

-- each id of a path is one of the N arrays, or none
abbrev Low : Book → ℕ → Path → Type 0
Low B N p = (h : ℕ) → h ≤ B.m → p.ids h ≤ N

-- the slot of an entry is one of the first D
abbrev Placed : ℕ → ℕ → Type 0
Placed D e = slot_at e < D

module _ {B : Book} {D N : ℕ} {x : Memory} {vs : List ℕ} {A : Arrays} where
  -- the path in hand
  pub stands-insert : {e : ℕ} {es : List ℕ} {p : Path} {ps : List Path} → Stands B D N x (e ∷ es) vs A (p ∷ ps) →
      Stands B D N x (insert key_at e es) vs A (insert (key_of B) p ps)
  unfolding Paired All
  stands-insert {e} {es} {p} {ps} st =
      record {
        queue = queued B x.rows e es p ps st.queue.0 st.queue.1;
        apart = distinct-insert key_at slot_at e es vs st.apart;
        slots = all_insert key_at (Placed D) e es st.slots.0 st.slots.1;
        vacant = st.vacant;
        full = omega (arith, insert-length key_at e es);
        counted = counted-insert B.m N x.holders (key_of B) (λ (o : Path). o.ids) p ps st.counted;
        housed = all_insert (key_of B) (Low B N) p ps st.housed.0 st.housed.1;
        vals = st.vals;
        sums = st.sums;
      }

  -- the path before that in hand
  pub stands-insert-second : {d e : ℕ} {es : List ℕ} {q p : Path} {ps : List Path} → Stands B D N x (d ∷ e ∷ es) vs A (q ∷ p ∷ ps) →
      Stands B D N x (e ∷ insert key_at d es) vs A (p ∷ insert (key_of B) q ps)
  unfolding Paired All Distinct Counted
  stands-insert-second {d} {e} {es} {q} {p} {ps} st =
      let slots : List ℕ = map slot_at es ++ vs in
      let apart : Distinct (slot_at e ∷ slot_at d ∷ slots) = distinct-forward (slot_at d ∷ []) (slot_at e) slots st.apart in
      record {
        queue = (st.queue.1.0, queued B x.rows d es q ps st.queue.0 st.queue.1.1);
        apart = (
          all_inserted key_at slot_at d (λ (s : ℕ). slot_at e ≢ s) es vs apart.0.0 apart.0.1,
          distinct-insert key_at slot_at d es vs apart.1,
        );
        slots = (st.slots.1.0, all_insert key_at (Placed D) d es st.slots.0 st.slots.1.1);
        vacant = st.vacant;
        full = omega (arith, insert-length key_at d es);
        counted = λ h i l k. st.counted h i l k ∙ times-second (key_of B) (λ (o : Path). o.ids) i h q p ps;
        housed = (st.housed.1.0, all_insert (key_of B) (Low B N) q ps st.housed.0 st.housed.1.1);
        vals = st.vals;
        sums = st.sums;
      }

-- ---- taken in hand

paired-forward : {A B : Type 0} (R : A → B → Type 0) (xs : List A) (x : A) (zs : List A) (ys : List B) (y : B) (ws : List B) → length xs ≡ length ys →
    Paired R (xs ++ x ∷ zs) (ys ++ y ∷ ws) → Paired R (x ∷ xs ++ zs) (y ∷ ys ++ ws)
unfolding Paired
paired-forward R [] x zs [] y ws l h = h
paired-forward R [] x zs (b ∷ ys) y ws l h = absurd (omega arith)
paired-forward R (a ∷ xs) x zs [] y ws l h = absurd (omega arith)
paired-forward R (a ∷ xs) x zs (b ∷ ys) y ws l h =
    let k : Paired R (x ∷ xs ++ zs) (y ∷ ys ++ ws) = paired-forward R xs x zs ys y ws (omega arith) h.1 in
    (k.0, (h.0, k.1))

module _ {B : Book} {D N : ℕ} {x : Memory} {vs : List ℕ} {A : Arrays} (xs : List ℕ) (e : ℕ) (es : List ℕ) (qs : List Path) (p : Path) (ps : List Path) where
  pub stands-forward : length xs ≡ length qs → Stands B D N x (xs ++ e ∷ es) vs A (qs ++ p ∷ ps) → Stands B D N x (e ∷ xs ++ es) vs A (p ∷ qs ++ ps)
  stands-forward l st =
      let slots : Distinct (map slot_at xs ++ slot_at e ∷ (map slot_at es ++ vs)) =
      rw (map-append slot_at xs (e ∷ es), append_assoc (map slot_at xs) (slot_at e ∷ map slot_at es) vs) at st.apart in
      let ids : Counted B.m N x.holders (ids_of qs ++ p.ids ∷ ids_of ps) = rw (map-append (λ (o : Path). o.ids) qs (p ∷ ps)) at st.counted in
      record {
        queue = paired-forward (EntryOf B x.rows) xs e es qs p ps l st.queue;
        apart = rw (map-append slot_at xs es, append_assoc (map slot_at xs) (map slot_at es) vs) (distinct-forward (map slot_at xs) (slot_at e) (map slot_at es ++ vs) slots);
        slots = all-forward (Placed D) xs e es st.slots;
        vacant = st.vacant;
        full = omega (arith, length-append xs (e ∷ es), length-append xs es);
        counted = rw (map-append (λ (o : Path). o.ids) qs ps) (counted-forward B.m N x.holders (ids_of qs) p.ids (ids_of ps) ids);
        housed = all-forward (Low B N) qs p ps st.housed;
        vals = st.vals;
        sums = st.sums;
      }
