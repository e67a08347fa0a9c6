-- The run stops with a full path within L x V + 1 extractions (`most_extractions`), and no block is entered more than L times. The invariant: no block that a
-- queued path has still to enter was visited L times; so each extraction adds a visit, and there are at most L x V. Assumes nothing.
use mathlib.Core.Path.{◌≡◌, sym, ap, ◌∙◌, subst}
use mathlib.Core.Logic.{◌≢◌}
use mathlib.Core.Bool.{Bool, cond, not}
use mathlib.Core.List.{List, [], ◌∷◌}
use mathlib.Core.Option.{Option, none, some}
use Prim.Native.Nat.{ℕ, suc, ◌+◌, ◌-◌, ◌*◌, ◌≤◌, ◌<◌, zero-le}
use native.Mathlib.Nat.{lt_irrefl}
use native.Mathlib.Decide.{ℕ_discrete}
use native.Mathlib.Omega.{arith}
use lib.ListN.{length, get_or, replicate, length-set, length-map, length-replicate}
use lib.Seq.{get_or-set_same, get_or-set_other}
use lib.IntN.{ℤ}
use lib.Dec.{T, ltb, eqb, eqb→eq, ltb→lt, lt→ltb, T_not}
use Rattle.laws.specs.Lists.{All, May, NonEmpty, keep, sum}
use Rattle.laws.proofs.Tests.{cond-case, neqb→ne}
use Rattle.laws.proofs.Lists.{all_map, all_set, all-at, all_keep, all_replicate, get_d-zeros, sum_bump, sum-le}
use Rattle.laws.proofs.Pairs.{paired-length, paired-keep}
use Rattle.codebook.specs.Book.{Book}
use Rattle.queue.specs.Run.{Next, most_extractions}
use Rattle.queue.specs.Queue.{before, insert, ahead, staying, visit, Step, End, found, dry, Run, end_in, run_in}
use Rattle.queue.proofs.Run.{Leads, trace-length, trace-ends, trace-count}
use Rattle.machine.specs.Machine.{Path, Moment, key_of, empty_path, copy_of, advance, extract, taking_from, taking, extract_at, step_at, next_at, first_state, trace_of, moments_of, run_of}
use Rattle.runs.specs.Runs.{Takes, Ended, entries}
use Rattle.runs.proofs.Order.{all_insert}
use Rattle.runs.proofs.Steps.{copy_blocks, advance-blocks, all-cut}
use Rattle.runs.proofs.Moments.{run-takes}

-- ---- visits

visit-sum : (visits : List ℕ) (b : ℕ) → b < length visits → sum (visit visits b) ≡ suc (sum visits)
unfolding visit
visit-sum visits b h = sum_bump visits b h

pub visit-same : (visits : List ℕ) (b : ℕ) → b < length visits → get_or (visit visits b) b 0 ≡ suc (get_or visits b 0)
unfolding visit
visit-same visits b h = get_or-set_same visits b (suc (get_or visits b 0)) 0 h

pub visit-other : (visits : List ℕ) (b i : ℕ) → i ≢ b → get_or (visit visits b) i 0 ≡ get_or visits i 0
unfolding visit
visit-other visits b i h = get_or-set_other visits b i (suc (get_or visits b 0)) 0 h

-- ---- the invariant

-- p has at most N blocks, and each block that it has still to enter was visited less than L times
abbrev pub Open : ℕ → ℕ → List ℕ → Path → Type 0
Open N L visits p = (p.blocks ≤ N) × ((i : ℕ) → p.blocks ≤ i → i < N → get_or visits i 0 < L)

-- the same but for block b
abbrev OpenBut : ℕ → ℕ → ℕ → List ℕ → Path → Type 0
OpenBut b N L visits p = (p.blocks ≤ N) × ((i : ℕ) → p.blocks ≤ i → i < N → i ≢ b → get_or visits i 0 < L)

-- one more visit to block b
open-but : (b N L : ℕ) (visits : List ℕ) (p : Path) → Open N L visits p → OpenBut b N L (visit visits b) p
open-but b N L visits p g = (g.0, λ i h k ne. subst (λ (x : ℕ). x < L) (sym (visit-other visits b i ne)) (g.1 i h k))

-- the L-th visit is not reached
but-open : (b N L : ℕ) (visits : List ℕ) (p : Path) → get_or visits b 0 < L → OpenBut b N L visits p → Open N L visits p
but-open b N L visits p h g = (g.0, λ i k l. go i k l (ℕ_discrete i b))
  where
    go : (i : ℕ) → p.blocks ≤ i → i < N → Dec (i ≡ b) → get_or visits i 0 < L
    go i k l (yes e) = subst (λ (x : ℕ). get_or visits x 0 < L) (sym e) h
    go i k l (no ne) = g.1 i k l ne

-- it is, and the path is ahead
ahead-open : (b N L : ℕ) (visits : List ℕ) (p : Path) → OpenBut b N L visits p × T (ltb b p.blocks) → Open N L visits p
ahead-open b N L visits p g =
    let lt : b < p.blocks = ltb→lt b p.blocks g.1 in
    (g.0.0, λ i k l. g.0.1 i k l (λ e. lt_irrefl b (omega arith)))

lt-ne : (x y : ℕ) → x ≤ y → T (not (eqb x y)) → x < y
lt-ne x y h t = let ne = neqb→ne x y t in omega arith

staying-open : (b N L : ℕ) (visits : List ℕ) (qs : List Path) → get_or visits b 0 ≤ L → All (OpenBut b N L visits) qs → All (Open N L visits) (staying key_of L b visits qs)
unfolding staying ahead key_of
staying-open b N L visits qs h g =
    cond-case (All (Open N L visits)) (eqb (get_or visits b 0) L)
    (λ t. all_map (ahead-open b N L visits) _ (all_keep (OpenBut b N L visits) (λ (p : Path). ltb b p.blocks) qs g))
    (λ t. all_map (λ q k. but-open b N L visits q (lt-ne (get_or visits b 0) L h t) k) qs g)

-- ---- the queue is never empty

keep-filled : (f : Path → Bool) (p : Path) (qs : List Path) → T (f p) → NonEmpty (keep f (insert key_of p qs))
unfolding insert keep NonEmpty
keep-filled f p [] t = cond-case NonEmpty (f p) (λ _. tt) (λ n. T_not (f p) n t)
keep-filled f p (q ∷ qs) t =
    cond-case (λ (xs : List Path). NonEmpty (keep f xs)) (before (key_of p) (key_of q))
    (λ _. cond-case NonEmpty (f p) (λ _. tt) (λ n. absurd (T_not (f p) n t)))
    (λ _. cond-case NonEmpty (f q) (λ _. tt) (λ _. keep-filled f p qs t))

insert-filled : (p : Path) (qs : List Path) → NonEmpty (insert key_of p qs)
unfolding insert NonEmpty
insert-filled p [] = tt
insert-filled p (q ∷ qs) = cond-case NonEmpty (before (key_of p) (key_of q)) (λ _. tt) (λ _. tt)

staying-filled : (L b : ℕ) (visits : List ℕ) (p : Path) (qs : List Path) → b < p.blocks → NonEmpty (staying key_of L b visits (insert key_of p qs))
unfolding staying ahead key_of
staying-filled L b visits p qs h =
    cond-case NonEmpty (eqb (get_or visits b 0) L) (λ _. keep-filled _ p qs (lt→ltb b p.blocks h)) (λ _. insert-filled p qs)

-- ---- one extraction keeps the invariant

visits-le : (N L : ℕ) (visits : List ℕ) (p : Path) → length visits ≡ N → p.blocks < N → Open N L visits p → get_or (visit visits p.blocks) p.blocks 0 ≤ L
visits-le N L visits p l h g = subst (λ (x : ℕ). x ≤ L) (sym (visit-same visits p.blocks (omega arith))) (g.1 p.blocks (omega arith) h)

-- a path with as many blocks or more
later-but : (b N L : ℕ) (visits : List ℕ) (p q : Path) → p.blocks ≤ q.blocks → q.blocks ≤ N → OpenBut b N L visits p → OpenBut b N L visits q
later-but b N L visits p q h k g = (k, λ i m l ne. g.1 i (omega arith) l ne)

copy-but : (N L : ℕ) (visits : List ℕ) (p : Path) → OpenBut p.blocks N L visits p → (o : Option Path) → May (λ (c : Path). c.blocks ≡ p.blocks) o → May (OpenBut p.blocks N L visits) o
unfolding May
copy-but N L visits p g none e = tt
copy-but N L visits p g (some c) e = later-but p.blocks N L visits p c (omega arith) (omega (arith, g.0)) g

module _ (B : Book) (L D : ℕ) (ys : List ℤ) (p : Path) (qs : List Path) (n : ℕ) (visits : List ℕ) where
  abbrev N : ℕ
  N = length B.blocks

  extract-open : length visits ≡ N → p.blocks < N → Open N L visits p → All (Open N L visits) qs → All (Open N L (visit visits p.blocks)) (extract B L D ys p qs n visits).state.queue
  unfolding extract
  extract-open l h g gs =
      let b = p.blocks in
      let w = visit visits b in
      let me = open-but b N L visits p g in
      let e = advance-blocks B ys p in
      staying-open b N L w _
      (visits-le N L visits p l h g)
      (all_insert key_of (OpenBut b N L w) (advance B ys p) _
      (later-but b N L w p (advance B ys p) (omega arith) (omega arith) me)
      (all-cut (OpenBut b N L w) D qs n (copy_of B ys n b p.bits) (all_map (open-but b N L visits) qs gs) (copy-but N L w p me _ (copy_blocks B ys n b p.bits))))

  extract-filled : NonEmpty (extract B L D ys p qs n visits).state.queue
  unfolding extract
  extract-filled = staying-filled L p.blocks _ (advance B ys p) _ (omega (arith, advance-blocks B ys p))

-- ---- the run

-- what a state needs for the rest of the run
abbrev pub Going : Book → ℕ → List Path → List ℕ → Type 0
Going B L qs visits =
    (length visits ≡ length B.blocks) × All (λ (v : ℕ). v ≤ L) visits × All (Open (length B.blocks) L visits) qs × NonEmpty qs

going_on : (B : Book) (L D : ℕ) (ys : List ℤ) (p : Path) (qs : List Path) (n : ℕ) (visits : List ℕ) → T (not (eqb p.blocks (length B.blocks))) → Going B L (p ∷ qs) visits →
    Going B L (extract B L D ys p qs n visits).state.queue (visit visits p.blocks)
unfolding visit All
going_on B L D ys p qs n visits t g =
    let b = p.blocks in
    let k = lt-ne b (length B.blocks) g.2.0.0 t in (
      length-set visits b (suc (get_or visits b 0)) ∙ g.0,
      all_set (λ (v : ℕ). v ≤ L) visits b _ (g.2.0.1 b (omega arith) k) g.1,
      extract-open B L D ys p qs n visits g.0 k g.2.0 g.2.1,
      extract-filled B L D ys p qs n visits,
    )

pub first-going : (B : Book) (L : ℕ) → 0 < L → Going B L (empty_path ∷ []) (replicate (length B.blocks) 0)
unfolding All NonEmpty empty_path
first-going B L h =
    let N = length B.blocks in (
      length-replicate {A = ℕ} N 0,
      all_replicate (λ (v : ℕ). v ≤ L) N 0 zero-le,
      ((zero-le, λ i _ _. subst (λ (x : ℕ). x < L) (sym (get_d-zeros N i)) h), tt),
      tt,
    )

-- the run is found, by a path of all blocks
unfoldable Full : ℕ → End Path → Type 0
Full N (found p) = p.blocks ≡ N
Full N dry = ⊥

full-ended : (N : ℕ) (r : Run Path) (e : End Path) → r.end ≡ e → Full N e → Ended N r
unfolding Full Ended
full-ended N r (found p) q h = (p, q, h)
full-ended N r dry q h = absurd h

module _ (B : Book) (L D : ℕ) (ys : List ℤ) where
  abbrev V' : ℕ
  V' = length B.blocks

  -- what a moment needs for the rest of the run
  abbrev GoingAt : Moment → Type 0
  GoingAt t = Going B L (t.path ∷ t.state.queue) t.state.visits

  -- what holds of the moment that step 1 comes to, and of the run's end
  abbrev Goes : (List ℕ → Type 0) → (End Path → Type 0) → Next Moment (End Path) → Type 0
  Goes P Q = Leads (λ t. GoingAt t × P t.state.visits) Q

  taking-goes : (P : List ℕ → Type 0) (Q : End Path → Type 0) (qs : List Path) (n : ℕ) (visits : List ℕ) → Going B L qs visits → P visits → Goes P Q (taking_from qs n visits)
  unfolding taking_from Leads NonEmpty
  taking-goes P Q [] n visits g h = absurd g.3
  taking-goes P Q (p ∷ qs) n visits g h = (g, h)

  next-goes : (P : List ℕ → Type 0) (Q : End Path → Type 0) (t : Moment) → GoingAt t → (t.path.blocks ≡ V' → Q (found t.path)) →
      (t.path.blocks < V' → P (visit t.state.visits t.path.blocks)) → Goes P Q (next_at B L D ys t)
  unfolding next_at taking extract_at extract Leads All
  next-goes P Q t g f h =
      cond-case (Goes P Q) (eqb t.path.blocks V') (λ e. f (eqb→eq t.path.blocks V' e))
      (λ e. taking-goes P Q _ _ _ (going_on B L D ys t.path t.state.queue t.state.next t.state.visits e g) (h (lt-ne t.path.blocks V' g.2.0.0 e)))

  -- the extractions left: as many as the visits, and one
  abbrev left : List ℕ → ℕ
  left visits = most_extractions L V' - sum visits

  left-some : (visits : List ℕ) → length visits ≡ V' → All (λ (v : ℕ). v ≤ L) visits → 0 < left visits
  unfolding most_extractions
  left-some visits e h = omega (arith, sum-le L visits h, ap (λ (x : ℕ). L * x) e)

  -- the whole run ends with a full path, for every L above 0
  pub run_ends : 0 < L → Ended V' (run_of B L D ys)
  unfolding run_of run_in end_in trace_of taking first_state All
  run_ends h =
      let (e, q, f) =
      trace-ends (next_at B L D ys) GoingAt (Full V') (λ t. left t.state.visits) (λ t g. left-some t.state.visits g.0 g.1)
      (λ t n g l. next-goes (λ visits. left visits ≤ n) (Full V') t g (λ e. unfold Full in e) (λ k. omega (arith, visit-sum t.state.visits t.path.blocks (omega (arith, g.0)))))
      (most_extractions L V') (taking (first_state B)) (taking-goes (λ visits. left visits ≤ most_extractions L V') (Full V') (empty_path ∷ []) 1 (replicate V' 0) (first-going B L h) (omega arith)) in
      full-ended V' (run_of B L D ys) e (ap end_in q) f

  -- never more extractions than these
  pub run-steps : length (run_of B L D ys).steps ≤ most_extractions L V'
  unfolding run_of run_in trace_of
  run-steps = omega (arith, length-map (trace_of B L D ys).states (step_at B L D ys), trace-length (next_at B L D ys) (most_extractions L V') (taking (first_state B)))

  -- ---- the entries

  module _ (b : ℕ) (l : b < V') where
    -- the path enters block b, counted
    entry : Path → ℕ
    entry p = cond (eqb p.blocks b) 1 0

    -- an entry into block b is a visit to it
    entry-visits : (p : Path) (visits : List ℕ) → length visits ≡ V' → entry p + get_or visits b 0 ≤ get_or (visit visits p.blocks) b 0
    unfolding entry
    entry-visits p visits e =
        cond-case (λ (c : ℕ). c + get_or visits b 0 ≤ get_or (visit visits p.blocks) b 0) (eqb p.blocks b)
        (λ u.
        let q : p.blocks ≡ b = eqb→eq p.blocks b u in
        omega (arith, ap (λ (x : ℕ). get_or (visit visits x) b 0) q, visit-same visits b (omega arith)))
        (λ u. omega (arith, visit-other visits p.blocks b (λ q. neqb→ne p.blocks b u (sym q))))

    -- and no visit is one too many
    entry-most : (t : Moment) → GoingAt t → entry t.path + get_or t.state.visits b 0 ≤ L
    unfolding entry All
    entry-most t g =
        cond-case (λ (c : ℕ). c + get_or t.state.visits b 0 ≤ L) (eqb t.path.blocks b)
        (λ u. omega (arith, g.2.0.1 b (omega (arith, eqb→eq t.path.blocks b u)) l))
        (λ u. omega (arith, all-at (λ (v : ℕ). v ≤ L) t.state.visits b 0 (omega (arith, g.0)) g.1))

    entries-le : 0 < L → length (keep (λ (t : Moment). eqb t.path.blocks b) (moments_of B L D ys)) ≤ L
    unfolding entry moments_of trace_of taking first_state
    entries-le h =
        let c =
        trace-count (next_at B L D ys) GoingAt (λ t. get_or t.state.visits b 0) (λ t. eqb t.path.blocks b) L
        (λ t n g k. (
          omega (arith, entry-most t g),
          next-goes (λ visits. entry t.path + n ≤ get_or visits b 0) _ t g (λ _. tt) (λ _. omega (arith, entry-visits t.path t.state.visits g.0)),
        ))
        (most_extractions L V') 0 (taking (first_state B)) zero-le (taking-goes (λ visits. 0 ≤ get_or visits b 0) _ (empty_path ∷ []) 1 (replicate V' 0) (first-going B L h) zero-le) in
        omega arith

-- no block is entered more than L times
pub run-entries : (b : ℕ) (B : Book) (L D : ℕ) (ys : List ℤ) → 0 < L → b < length B.blocks → entries b (run_of B L D ys).steps ≤ L
unfolding entries
run-entries b B L D ys h l =
    omega (arith, entries-le B L D ys b l h, paired-length Takes _ _ (paired-keep Takes (λ (t : Moment). eqb t.path.blocks b) (λ (s : Step). eqb s.blocks b) (λ t s k. ap (λ i. eqb i b) (sym k.blocks)) _ _ (run-takes B L D ys)))
