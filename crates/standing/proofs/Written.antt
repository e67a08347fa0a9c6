-- A path written to the table: the path in hand anew, or a copy of it in a vacant slot, which holds the arrays that it holds. The row written is
-- that of the new path's entry, and the rows of other slots are as they were. Assumes nothing.
use mathlib.Core.Path.{◌≡◌, sym, ◌∙◌, subst}
use mathlib.Core.List.{List, ◌∷◌, ◌++◌, map}
use mathlib.Core.Logic.{◌≢◌}
use Prim.Native.Nat.{ℕ, ◌+◌, ◌≤◌}
use native.Mathlib.Omega.{arith}
use Rattle.laws.specs.Lists.{All, Distinct}
use Rattle.laws.proofs.Lists.{all-front}
use Rattle.laws.specs.Pairs.{Paired}
use Rattle.codebook.specs.Book.{Book}
use Rattle.reader.specs.Arrays.{Arrays}
use Rattle.reader.specs.Paths.{Path, ids_of}
use Rattle.order.specs.Entries.{slot_at}
use Rattle.sharing.specs.Sharing.{HasIds, Copied, MoreBy}
use Rattle.sharing.proofs.Counting.{counted-more}
use Rattle.standing.specs.Seen.{Memory, memory}
use Rattle.standing.specs.Standing.{EntryOf, Stands, PutRow, Made}
use Rattle.standing.proofs.Slots.{distinct-forward}
use Rattle.standing.proofs.Rows.{copied-others, put-others, queue-other, row_made}

module _ {B : Book} {D N : ℕ} {x : Memory} {e : ℕ} {es vs : List ℕ} {A : Arrays} {p q : Path} {ps : List Path} {d spent cost word earlier parities : ℕ} where
  -- the path in hand, written anew
  pub stands-put : {rows' : List ℕ} → Stands B D N x (e ∷ es) vs A (p ∷ ps) → B.m ≤ 9 →
      PutRow (slot_at e) x.rows rows' spent cost word earlier parities → Made B q d (slot_at e) spent cost word earlier parities → q.ids ≡ p.ids →
      Stands B D N (memory rows' x.holders x.numbers x.bytes) (d ∷ es) vs A (q ∷ ps)
  unfolding Paired All Distinct memory
  stands-put {rows'} st deep put made same =
      let s : ℕ = slot_at e in
      let has : HasIds B.m x.rows s q.ids = rw same st.queue.0.row.ids in
      let apart : All (λ (t : ℕ). s ≢ t) (map slot_at es) = all-front (λ (t : ℕ). s ≢ t) (map slot_at es) vs st.apart.0 in
      record {
        queue = (row_made deep has put made, queue-other B deep s x.rows rows' (put-others put) es ps apart st.queue.1);
        apart = rw made.entry.slot st.apart;
        slots = (rw made.entry.slot st.slots.0, st.slots.1);
        vacant = st.vacant;
        full = st.full;
        counted = rw same st.counted;
        housed = (rw same st.housed.0, st.housed.1);
        vals = st.vals;
        sums = st.sums;
      }

  -- a copy of the path in hand, in a vacant slot, before it in the queue
  pub stands-share : {t : ℕ} {rows₁ rows₂ : List ℕ} (holders' : List ℕ) → Stands B D N x (e ∷ es) (t ∷ vs) A (p ∷ ps) → B.m ≤ 9 → N ≤ 256 →
      Copied B.m (slot_at e) t x.rows rows₁ → MoreBy (B.m + 1) x.rows (slot_at e) x.holders holders' →
      PutRow t rows₁ rows₂ spent cost word earlier parities → Made B q d t spent cost word earlier parities → q.ids ≡ p.ids →
      Stands B D N (memory rows₂ holders' x.numbers x.bytes) (d ∷ e ∷ es) vs A (q ∷ p ∷ ps)
  unfolding Paired All Distinct memory HasIds Copied
  stands-share {t} {rows₁} {rows₂} holders' st deep top copied more put made same =
      let s : ℕ = slot_at e in
      let slots : List ℕ = map slot_at (e ∷ es) in
      let has : HasIds B.m x.rows s q.ids = rw same st.queue.0.row.ids in
      let new : HasIds B.m rows₁ t q.ids = λ h l. copied.0 h l ∙ has h l in
      let all : Distinct (t ∷ slots ++ vs) = distinct-forward slots t vs st.apart in
      let apart : All (λ (c : ℕ). t ≢ c) slots = all-front (λ (c : ℕ). t ≢ c) slots vs all.0 in
      let between : Paired (EntryOf B rows₁) (e ∷ es) (p ∷ ps) =
      queue-other B deep t x.rows rows₁ (copied-others B.m s t x.rows rows₁ deep copied) (e ∷ es) (p ∷ ps) apart st.queue in
      record {
        queue = (row_made deep new put made, queue-other B deep t rows₁ rows₂ (put-others put) (e ∷ es) (p ∷ ps) apart between);
        apart = subst (λ (n : ℕ). Distinct (n ∷ slots ++ vs)) (sym made.entry.slot) all;
        slots = (rw made.entry.slot st.vacant.0, st.slots);
        vacant = st.vacant.1;
        full = omega arith;
        counted = counted-more B.m N x.holders holders' q.ids (ids_of (p ∷ ps)) x.rows s st.counted has top more;
        housed = (rw same st.housed.0, st.housed);
        vals = st.vals;
        sums = st.sums;
      }
