-- A path at any place of the queue lets its arrays go: it holds each id of its row, which no more than D paths hold, and without it memory stands
-- for the other paths, its slot vacant. The path is taken in hand first. Assumes nothing.
use mathlib.Core.Path.{◌≡◌}
use mathlib.Core.List.{List, ◌∷◌, ◌++◌, map}
use Prim.Native.Nat.{ℕ, ◌+◌, ◌≤◌, ◌<◌}
use native.Mathlib.Omega.{arith}
use lib.ListN.{length, length-map}
use Rattle.laws.specs.Lists.{All}
use Rattle.laws.specs.Pairs.{Paired}
use Rattle.codebook.specs.Book.{Book}
use Rattle.reader.specs.Arrays.{Arrays}
use Rattle.reader.specs.Paths.{Path, ids_of}
use Rattle.order.specs.Entries.{slot_at}
use Rattle.sharing.specs.Sharing.{id_at, held_at, HasIds, LessBy}
use Rattle.sharing.proofs.Counting.{counted-held, counted-few, counted-less}
use Rattle.standing.specs.Seen.{Memory, memory}
use Rattle.standing.specs.Standing.{Stands}
use Rattle.standing.proofs.Slots.{distinct-back}
use Rattle.standing.proofs.Sizes.{stands-length, slot-low}
use Rattle.standing.proofs.Places.{stands-forward}

-- ---- the path in hand

module _ {B : Book} {D N : ℕ} {x : Memory} {e : ℕ} {es vs : List ℕ} {A : Arrays} {p : Path} {ps : List Path} (st : Stands B D N x (e ∷ es) vs A (p ∷ ps)) where
  first-held : (h : ℕ) → h ≤ B.m → (id_at x.rows (slot_at e) h ≤ N) × (1 ≤ held_at x.holders h (id_at x.rows (slot_at e) h))
  unfolding Paired All HasIds
  first-held h l =
      let low : p.ids h ≤ N = st.housed.0 h l in
      rw (st.queue.0.row.ids h l) (low, counted-held B.m N x.holders p.ids (ids_of ps) h st.counted l low)

  first-few : (h : ℕ) → h ≤ B.m → held_at x.holders h (id_at x.rows (slot_at e) h) ≤ D
  first-few h l =
      let few = counted-few B.m N x.holders (ids_of (p ∷ ps)) h (id_at x.rows (slot_at e) h) st.counted l (first-held h l).0 in
      omega (arith, few, length-map ps (λ (o : Path). o.ids), stands-length st)

  first-remove : (holders' : List ℕ) → N ≤ 256 → LessBy (B.m + 1) x.rows (slot_at e) x.holders holders' →
      Stands B D N (memory x.rows holders' x.numbers x.bytes) es (slot_at e ∷ vs) A ps
  unfolding Paired All memory slot_at
  first-remove holders' top less =
      record {
        queue = st.queue.1;
        apart = distinct-back (map slot_at es) (slot_at e) vs st.apart;
        slots = st.slots.1;
        vacant = (st.slots.0, st.vacant);
        full = omega arith;
        counted = counted-less B.m N x.holders holders' p.ids (ids_of ps) x.rows (slot_at e) st.counted st.queue.0.row.ids top less;
        housed = st.housed.1;
        vals = st.vals;
        sums = st.sums;
      }

-- ---- a path at any place

module _ {B : Book} {D N : ℕ} {x : Memory} {vs : List ℕ} {A : Arrays} (xs : List ℕ) (e : ℕ) (es : List ℕ) (qs : List Path) (p : Path) (ps : List Path)
    (level : length xs ≡ length qs) (st : Stands B D N x (xs ++ e ∷ es) vs A (qs ++ p ∷ ps)) where
  -- its slot is one of the first D
  pub stands-slot : slot_at e < D
  stands-slot = slot-low (stands-forward xs e es qs p ps level st)

  -- each id of its row is one of the N arrays, or none, and held
  pub stands-held : (h : ℕ) → h ≤ B.m → (id_at x.rows (slot_at e) h ≤ N) × (1 ≤ held_at x.holders h (id_at x.rows (slot_at e) h))
  stands-held = first-held (stands-forward xs e es qs p ps level st)

  -- by no more than D paths
  pub stands-few : (h : ℕ) → h ≤ B.m → held_at x.holders h (id_at x.rows (slot_at e) h) ≤ D
  stands-few = first-few (stands-forward xs e es qs p ps level st)

  -- without it
  pub stands-remove : (holders' : List ℕ) → N ≤ 256 → LessBy (B.m + 1) x.rows (slot_at e) x.holders holders' →
      Stands B D N (memory x.rows holders' x.numbers x.bytes) (xs ++ es) (slot_at e ∷ vs) A (qs ++ ps)
  stands-remove = first-remove (stands-forward xs e es qs p ps level st)
