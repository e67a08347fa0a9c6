-- A run's first memory stands for its first state: path 0 in slot 0 alone, the slots 1 to D - 1 vacant, and whatever arrays the workspace holds.
-- Field by field: row 0 holds 1 at the root and else zeros, and the vacant slots, from the last on, are D - 1 down to 1. Assumes nothing.
use mathlib.Core.Path.{◌≡◌, sym, ap, ◌∙◌, subst}
use mathlib.Core.Bool.{cond}
use mathlib.Core.List.{List, [], ◌∷◌}
use mathlib.Core.Logic.{◌≢◌}
use Prim.Native.Nat.{ℕ, zero, suc, ◌+◌, ◌-◌, ◌*◌, ◌^◌, ◌≤◌, ◌<◌}
use native.Mathlib.Decide.{ℕ_discrete}
use native.Mathlib.Omega.{arith}
use lib.ListN.{length, get_or, set}
use lib.IntN.{ℤ}
use lib.Dec.{eqb, ltb}
use lib.Seq.{get_or-set_other}
use borrow.Author.Tests.{eq-eqb, ne_eqb, lt-ltb}
use Rattle.laws.specs.Lists.{All, Distinct}
use Rattle.laws.proofs.Lists.{all_map}
use Rattle.laws.specs.Pairs.{Paired}
use Rattle.laws.proofs.Sets.{set-none}
use Rattle.polar.specs.Layers.{part}
use Rattle.codebook.specs.Book.{Book, tied_count}
use Rattle.codebook.specs.Limits.{Valid}
use Rattle.codec.specs.Ties.{times}
use Rattle.outer.specs.Blocks.{parity_set}
use Rattle.reader.specs.Paths.{key_of, first_path}
use Rattle.reader.proofs.Upd.{upd_same, upd_other}
use Rattle.order.specs.Entries.{Packed, queue_of}
use Rattle.order.proofs.Queues.{queue-length}
use Rattle.sharing.specs.Sharing.{id_at, held_at, one, Rows, HasIds, Counted}
use Rattle.heights.specs.Workspace.{spot, Parts}
use Rattle.standing.specs.Seen.{memory, Enough}
use Rattle.standing.specs.Standing.{cell, spent_at, cost_at, earlier_at, parities_at, Row, Stands}
use Rattle.start.specs.Start.{first_held}
use Rattle.reading.specs.Running.{arrays_of}
use Rattle.start.proofs.Begun.{Zeros, id-root, id_below}

-- ---- the vacant slots

-- the first n cells are 1 to n
abbrev Counting : List ℕ → ℕ → Type 0
Counting l n = (k : ℕ) → k < n → get_or l k 0 ≡ k + 1

counting-range : (n : ℕ) (l : List ℕ) → Counting l n → All (λ (s : ℕ). (1 ≤ s) × (s ≤ n)) (queue_of l n)
unfolding queue_of All
counting-range zero l h = tt
counting-range (suc n) l h = (
  (omega (arith, h n (omega arith)), omega (arith, h n (omega arith))),
  all_map (λ s b. (b.0, omega (arith, b.1))) (queue_of l n) (counting-range n l (λ k b. h k (omega arith))),
)

counting-distinct : (n : ℕ) (l : List ℕ) → Counting l n → Distinct (queue_of l n)
unfolding queue_of Distinct
counting-distinct zero l h = tt
counting-distinct (suc n) l h =
    let g : Counting l n = λ k b. h k (omega arith) in
    (all_map (λ s b e. omega (arith, h n (omega arith), b.1)) (queue_of l n) (counting-range n l g), counting-distinct n l g)

-- ---- path 0

-- its id at a height
first-root : (B : Book) → (first_path B).ids B.m ≡ 1
unfolding first_path
first-root B = upd_same (λ _. 0) B.m 1

first-none : (B : Book) (h : ℕ) → h ≢ B.m → (first_path B).ids h ≡ 0
unfolding first_path
first-none B h n = upd_other (λ _. 0) B.m 1 h n

-- no parity is set
no-parities : (B : Book) → parity_set B (λ _. 0) ≡ 0
unfolding parity_set
no-parities B = set-none (tied_count B.kinds)

module _ (B : Book) where
  module _ (ok : Valid B) (old : List ℕ) (none : Zeros old) (long : B.m < length old) where
    -- the row that is 1 at the root and else 0
    first-ids : HasIds B.m (set old B.m 1) 0 (first_path B).ids
    unfolding HasIds
    first-ids h l = go (ℕ_discrete h B.m)
      where
        go : Dec (h ≡ B.m) → id_at (set old B.m 1) 0 h ≡ (first_path B).ids h
        go (yes e) = ap (id_at (set old B.m 1) 0) e ∙ id-root old B.m none long ∙ sym (ap (first_path B).ids e ∙ first-root B)
        go (no n) = id_below old B.m none h n ∙ sym (first-none B h n)

    -- its other cells
    first_cell : (f : ℕ) → spent_at ≤ f → cell (set old B.m 1) 0 f ≡ 0
    unfolding cell
    first_cell f l = get_or-set_other old B.m (0 * 16 + f) 1 0 (λ e. omega (arith, ok.high)) ∙ none (0 * 16 + f)

    first-row : Row B (set old B.m 1) 0 (first_path B)
    unfolding first_path
    first-row =
        record {
          ids = first-ids;
          spent = first_cell spent_at (omega arith);
          cost = first_cell cost_at (omega arith);
          word = λ b e. absurd (omega arith);
          earlier = first_cell earlier_at (omega arith) ∙ sym (no-parities B);
          parities = first_cell parities_at (omega arith) ∙ sym (no-parities B);
        }

  -- path 0 is what is counted
  first_counted : (h i : ℕ) → h ≤ B.m → first_held B.m h i ≡ times i ((first_path B).ids h ∷ [])
  unfolding first_held times one
  first_counted h i l = go (ℕ_discrete h B.m)
    where
      go : Dec (h ≡ B.m) → cond (eqb h B.m) (cond (eqb 1 i) 1 0) (cond (ltb h B.m) (cond (eqb 0 i) 1 0) 0) ≡ cond (eqb ((first_path B).ids h) i) 1 0 + 0
      go (yes e) = rw (eq-eqb h B.m e, ap (first_path B).ids e ∙ first-root B) (omega arith)
      go (no n) = rw (ne_eqb h B.m n, lt-ltb h B.m (omega arith), first-none B h n) (omega arith)

  first-housed : (N : ℕ) → 1 ≤ N → (h : ℕ) → (first_path B).ids h ≤ N
  first-housed N l h = go (ℕ_discrete h B.m)
    where
      go : Dec (h ≡ B.m) → (first_path B).ids h ≤ N
      go (yes e) = omega (arith, ap (first_path B).ids e, first-root B)
      go (no n) = omega (arith, first-none B h n)

module _ (B : Book) (m D N : ℕ) (ok : Valid B) (deep : B.m ≡ m) (some : 1 ≤ D) (enough : Enough D N) (most : N ≤ 256) (rows holders vacant : List ℕ) where
  -- row 0, once 1 was stored into zeros
  row-stored : (old : List ℕ) → Zeros old → Rows 1 old → rows ≡ set old m 1 → Row B rows 0 (first_path B)
  row-stored old none size is =
      subst (λ (l : List ℕ). Row B l 0 (first_path B)) (sym (is ∙ ap (λ k. set old k 1) (sym deep))) (first-row B ok old none (omega (arith, ok.high)))

  pub first-stands : (old : List ℕ) → Zeros old → Rows 1 old → rows ≡ set old m 1 → ((h i : ℕ) → h ≤ 9 → i ≤ 256 → held_at holders h i ≡ first_held m h i) →
      ((k : ℕ) → k + 1 < D → get_or vacant k 0 ≡ k + 1) → (e : ℕ) → Packed e (key_of B (first_path B)) 0 → (numbers : List ℤ) (bytes : List ℕ) →
      Stands B D N (memory rows holders numbers bytes) (e ∷ []) (queue_of vacant (D - 1)) (arrays_of m numbers bytes) (first_path B ∷ [])
  unfolding memory Paired All Distinct Counted Parts arrays_of
  first-stands old none size is held free e p numbers bytes =
      let count : Counting vacant (D - 1) = λ k l. free k (omega arith) in
      let row = row-stored old none size is in
      let range = counting-range (D - 1) vacant count in
      record {
        queue = (record { key = p.key; small = p.low; row = subst (λ (s : ℕ). Row B rows s (first_path B)) (sym p.slot) row }, tt);
        apart = (all_map (λ s b q. omega (arith, p.slot, b.0)) (queue_of vacant (D - 1)) range, counting-distinct (D - 1) vacant count);
        slots = (omega (arith, p.slot), tt);
        vacant = all_map (λ s b. omega (arith, b.1)) (queue_of vacant (D - 1)) range;
        full = omega (arith, queue-length (D - 1) vacant);
        counted = λ h i l k. held h i (omega (arith, ok.high)) (omega arith) ∙ ap (λ n. first_held n h i) (sym deep) ∙ first_counted B h i l;
        housed = (λ h l. first-housed B N (omega arith) h, tt);
        vals = λ h i l d. ap (λ n. part (spot n i h) (2 ^ h) numbers) deep;
        sums = λ h i l d. ap (λ n. part (spot n i h) (2 ^ h) bytes) deep;
      }
