-- The path in hand, as a step works on it: memory that stands for a state has the path see its view; and a view changed by a step, with its row's
-- ids, is that of a state again. The queue goes by nothing that a step changes, and the rows of other slots are as they were. Assumes nothing.
use mathlib.Core.Path.{◌≡◌, refl, ◌∙◌}
use mathlib.Core.List.{List, ◌∷◌, map}
use mathlib.Core.Logic.{◌≢◌}
use Prim.Native.Nat.{ℕ, zero, suc, ◌+◌, ◌*◌, ◌≤◌}
use native.Mathlib.Omega.{arith}
use lib.ListN.{length-map}
use Rattle.laws.specs.Lists.{All, Distinct}
use Rattle.laws.proofs.Lists.{all-front}
use Rattle.laws.specs.Pairs.{Paired}
use Rattle.codebook.specs.Book.{Book}
use Rattle.reader.specs.Arrays.{Arrays, View}
use Rattle.reader.specs.Paths.{Path, score_of, key_of, last_word, ids_of, view_of}
use Rattle.order.specs.Entries.{slot_at}
use Rattle.standing.specs.Seen.{Memory, Enough, Seen, IdsOnly}
use Rattle.standing.specs.Standing.{cell, spent_at, cost_at, word_at, earlier_at, parities_at, EntryOf, Stands, with_ids}
use Rattle.standing.proofs.Rows.{ids-others, queue-other}
use Rattle.standing.proofs.Sizes.{stands-room}

module _ {B : Book} {D N : ℕ} {x : Memory} {e : ℕ} {es vs : List ℕ} {A : Arrays} {p : Path} {ps : List Path} (st : Stands B D N x (e ∷ es) vs A (p ∷ ps)) where
  -- what the path in hand sees, where the arrays are enough
  pub stands-seen : Enough D N → Seen B.m N (slot_at e) x (ids_of ps) (view_of A p)
  unfolding Paired All
  stands-seen enough =
      record {
        ids = st.queue.0.row.ids;
        low = st.housed.0;
        counted = st.counted;
        few = omega (arith, stands-room st, length-map ps (λ (q : Path). q.ids));
        vals = st.vals;
        sums = st.sums;
      }

-- the queue does not go by the ids
score-ids : (B : Book) (p : Path) (ids : ℕ → ℕ) (b : ℕ) → score_of B p b ≡ score_of B (with_ids p ids) b
unfolding score_of with_ids
score-ids B p ids zero = refl
score-ids B p ids (suc b) = refl

key-ids : (B : Book) (p : Path) (ids : ℕ → ℕ) → key_of B p ≡ key_of B (with_ids p ids)
unfolding key_of with_ids
key-ids B p ids = λ i. record { score = score-ids B p ids p.blocks i; blocks = p.blocks; number = p.number }

module _ {B : Book} {D N : ℕ} {x y : Memory} {e : ℕ} {es vs : List ℕ} {A : Arrays} {p : Path} {ps : List Path} {w : View} where
  -- what it sees after a step that changed no more than its ids and its arrays
  pub stands-view : Stands B D N x (e ∷ es) vs A (p ∷ ps) → B.m ≤ 9 → Seen B.m N (slot_at e) y (ids_of ps) w →
      IdsOnly B.m (slot_at e) x.rows y.rows → Stands B D N y (e ∷ es) vs w.arrays (with_ids p w.ids ∷ ps)
  unfolding Paired All Distinct with_ids cell last_word
  stands-view st deep see only =
      let s : ℕ = slot_at e in
      let old : EntryOf B x.rows e p = st.queue.0 in
      let first : EntryOf B y.rows e (with_ids p w.ids) = record {
        key = old.key ∙ key-ids B p w.ids;
        small = old.small;
        row = record {
          ids = see.ids;
          spent = only.after (s * 16 + spent_at) (omega arith) ∙ old.row.spent;
          cost = only.after (s * 16 + cost_at) (omega arith) ∙ old.row.cost;
          word = λ b q. only.after (s * 16 + word_at) (omega arith) ∙ old.row.word b q;
          earlier = only.after (s * 16 + earlier_at) (omega arith) ∙ old.row.earlier;
          parities = only.after (s * 16 + parities_at) (omega arith) ∙ old.row.parities;
        };
      } in
      let apart : All (λ (t : ℕ). s ≢ t) (map slot_at es) = all-front (λ (t : ℕ). s ≢ t) (map slot_at es) vs st.apart.0 in
      record {
        queue = (first, queue-other B deep s x.rows y.rows (ids-others deep only) es ps apart st.queue.1);
        apart = st.apart;
        slots = st.slots;
        vacant = st.vacant;
        full = st.full;
        counted = see.counted;
        housed = (see.low, st.housed.1);
        vals = see.vals;
        sums = see.sums;
      }
