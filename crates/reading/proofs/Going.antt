-- A run under way: after some extractions, memory stands for the state of the run's next moment, which the run reaches, the rest of the run from there is the
-- rest of the whole, and the counts and the walk are those of the extractions done. It holds at first, and an extraction keeps it, since a run that
-- ends with a final word has fuel left and a path queued. It is what the contract says (specs/Before), and what the next turn needs besides. Assumes nothing.
use mathlib.Core.Path.{◌≡◌, refl, sym, ap, ap₂, ◌∙◌, subst, subst₂}
use mathlib.Core.List.{List, [], ◌∷◌, ◌++◌, map, map-append, append_assoc}
use Prim.Native.Nat.{ℕ, zero, suc, ◌+◌, ◌-◌, ◌*◌, ◌^◌, ◌≤◌, ◌<◌}
use native.Mathlib.Numerals.{add-one}
use native.Mathlib.Nat.{mul-le-mul}
use native.Mathlib.Omega.{arith}
use lib.IntN.{ℤ}
use lib.ListN.{length, get_or, replicate, length-map}
use borrow.Author.Tests.{ne_eqb}
use Rattle.laws.specs.Lists.{sum}
use Rattle.laws.proofs.Lists.{length-snoc, get_d-zeros}
use Rattle.laws.specs.Pairs.{Paired}
use Rattle.codebook.specs.Book.{Book}
use Rattle.codebook.specs.Limits.{Valid}
use Rattle.queue.specs.Run.{on, ended, after, trace, most_extractions}
use Rattle.queue.specs.Queue.{Step, Final, found, end_in, run_in}
use Rattle.reader.specs.Arrays.{Arrays}
use Rattle.reader.specs.Paths.{Path, key_of, first_path}
use Rattle.reader.specs.Reader as R
use Rattle.reader.specs.Moments.{Moment, moments_of, MomentOf, extract_at, step_at}
use Rattle.reader.specs.Reached.{Reached}
use Rattle.reader.proofs.Moments.{step-more}
use Rattle.reader.proofs.Reached.{first-reached, extract-reached, reached-within}
use Rattle.order.specs.Entries.{key_at, queue_of, Rising}
use Rattle.order.proofs.Queues.{queue-first, queue-length}
use Rattle.standing.specs.Seen.{Memory}
use Rattle.standing.specs.Standing.{Stands}
use Rattle.standing.proofs.Sizes.{stands-room}
use Rattle.standing.proofs.Taken.{taken-key, taken-blocks}
use Rattle.words.specs.Kept.{Table, Kepts}
use Rattle.steps.specs.declared.Tally.{Tally}
use Rattle.reading.specs.Before.{Before}
use Rattle.reading.proofs.Visits.{Alike, Same, alike-zeros, extract-same}
use Rattle.reading.proofs.Walks.{Walks, Long, Noted, walks-none, walks_next, sum-next}
use Rattle.extraction.proofs.Counts.{blocks-few}
use Rattle.reading.proofs.Bounded.{next-most, crowded-most, outrun-most, visits-most}

-- the numbers of paths that an extraction crowded out, and that it outran
abbrev pub crowded_count : Step → ℕ
crowded_count s = length s.crowded

abbrev pub outrun_count : Step → ℕ
outrun_count s = length s.outrun

-- the moment at which p is taken from before these paths
abbrev pub moment_of : Arrays → Path → List Path → ℕ → List ℕ → Moment
moment_of A p ps n visits = record { path = p; state = record { arrays = A; queue = ps; next = n; visits = visits } }

-- the rest of the run of B from the arrays A; `own` are the visits of the book's blocks
pub record Going (B : Book) (values : List ℤ) (L D N : ℕ) (A : Arrays) (x : Memory) (order vacant visits : List ℕ) (kept : Table) (t : Tally) (e : ℕ)
    (path₀ blocks₀ score₀ path blocks score : List ℤ) : Type 0 where
  pub arrays : Arrays
  pub taken : Path
  pub rest : List Path
  pub own : List ℕ
  pub fuel : ℕ
  pub done : List Moment
  pub stands : Stands B D N x (e ∷ queue_of order t.queued) (queue_of vacant (D - (t.queued + 1))) arrays (taken ∷ rest)
  pub reached : Reached B values D arrays (taken ∷ rest)
  pub known : Kepts B arrays kept (e ∷ queue_of order t.queued) (taken ∷ rest)
  pub alike : Alike (length B.blocks) own visits
  pub count : length done + suc fuel ≡ most_extractions L (length B.blocks)
  pub at : moments_of B L D A ≡ done ++ (trace (R.next_at B L D) (suc fuel) (on (moment_of arrays taken rest t.next own))).states
  pub ends : (R.run_of B L D A).end ≡ end_in (trace (R.next_at B L D) (suc fuel) (on (moment_of arrays taken rest t.next own))).end
  pub extractions : t.extractions ≡ length done
  pub crowded : t.crowded ≡ sum (map crowded_count (map (step_at B L D) done))
  pub outrun : t.outrun ≡ sum (map outrun_count (map (step_at B L D) done))
  pub next-few : t.next ≤ suc (length done)
  pub crowded-few : t.crowded ≤ length done
  pub outrun-few : t.outrun ≤ 256 * length done
  pub visits-few : (b : ℕ) → get_or visits b 0 ≤ length done
  pub walks : Walks (map (step_at B L D) done) path₀ blocks₀ score₀ path blocks score

-- ---- the definition of the run, opened

module _ (B : Book) (L D : ℕ) where
  -- a run with a final word has fuel, and a path to take
  record Onward (fuel : ℕ) (ps : List Path) : Type 0 where
    less : ℕ
    taken : Path
    rest : List Path
    fuel-is : fuel ≡ suc less
    queue-is : ps ≡ taken ∷ rest

  onward : (fuel : ℕ) (A : Arrays) (ps : List Path) (n : ℕ) (visits : List ℕ) (f : Final) →
      end_in (trace (R.next_at B L D) fuel (R.taking_from A ps n visits)).end ≡ found f → Onward fuel ps
  unfolding R.taking_from trace ended end_in
  onward zero A [] n visits f e = let z : ◌≡◌ {A = ℕ} 0 1 = cc in absurd (omega arith)
  onward zero A (p ∷ ps) n visits f e = let z : ◌≡◌ {A = ℕ} 0 1 = cc in absurd (omega arith)
  onward (suc fuel) A [] n visits f e = let z : ◌≡◌ {A = ℕ} 0 1 = cc in absurd (omega arith)
  onward (suc fuel) A (p ∷ ps) n visits f e = record { less = fuel; taken = p; rest = ps; fuel-is = refl; queue-is = refl }

  module _ (A : Arrays) (p : Path) (ps : List Path) (n : ℕ) (visits : List ℕ) where
    -- a path with a next block
    next_more : (p.blocks ≡ length B.blocks → ⊥) → R.next_at B L D (moment_of A p ps n visits) ≡ R.taking (R.extract B L D A p ps n visits).state
    unfolding R.next_at extract_at
    next_more d = rw (ne_eqb p.blocks (length B.blocks) d)

    -- its step
    step_is : (p.blocks ≡ length B.blocks → ⊥) → step_at B L D (moment_of A p ps n visits) ≡ (R.extract B L D A p ps n visits).step
    unfolding extract_at
    step_is d = step-more B L D (moment_of A p ps n visits) d

-- ---- at first

pub going-first : (B : Book) (values : List ℤ) (L D N : ℕ) (A : Arrays) (x : Memory) (order vacant : List ℕ) (kept : Table) (e : ℕ) (path₀ blocks₀ score₀ : List ℤ) → Valid B →
    1 ≤ D → A.vals B.m 1 ≡ values → Stands B D N x (e ∷ []) (queue_of vacant (D - 1)) A (first_path B ∷ []) →
    Going B values L D N A x order vacant (replicate 512 0) kept
    (record { queued = 0; next = 1; extractions = 0; crowded = 0; outrun = 0 }) e path₀ blocks₀ score₀ path₀ blocks₀ score₀
unfolding queue_of sum Paired first_path R.run_of run_in moments_of R.trace_of most_extractions R.first_state R.taking R.taking_from
going-first B values L D N A x order vacant kept e path₀ blocks₀ score₀ ok some' root st =
    let V' : ℕ = length B.blocks in
    record {
      arrays = A;
      taken = first_path B;
      rest = [];
      own = replicate V' 0;
      fuel = L * V';
      done = [];
      stands = st;
      reached = first-reached B values D A root some';
      known = (record { key = st.queue.0.key; next = λ b q. absurd (omega arith) }, tt);
      alike = alike-zeros V' 512 (blocks-few B ok);
      count = omega arith;
      at = ap (λ n. (trace (R.next_at B L D) n (on (moment_of A (first_path B) [] 1 (replicate V' 0)))).states) (add-one (L * V'));
      ends = ap (λ n. end_in (trace (R.next_at B L D) n (on (moment_of A (first_path B) [] 1 (replicate V' 0)))).end) (add-one (L * V'));
      extractions = refl;
      crowded = refl;
      outrun = refl;
      next-few = omega arith;
      crowded-few = omega arith;
      outrun-few = omega arith;
      visits-few = λ b. omega (arith, get_d-zeros 512 b);
      walks = walks-none path₀ blocks₀ score₀;
    }

-- ---- under way

module _ {B : Book} {values : List ℤ} {L D N : ℕ} {A : Arrays} {x : Memory} {order vacant visits : List ℕ} {kept : Table} {t : Tally} {e : ℕ}
    {path₀ blocks₀ score₀ path blocks score : List ℤ} (g : Going B values L D N A x order vacant visits kept t e path₀ blocks₀ score₀ path blocks score) where
  -- the entry in hand is the path's
  pub going-small : e < 36028797018963968
  unfolding Paired
  going-small = g.stands.queue.0.small

  pub going-blocks : (key_at e).blocks ≡ g.taken.blocks
  going-blocks = taken-blocks g.stands

  -- the queue has room
  pub going-room : t.queued + 1 ≤ D
  going-room = omega (arith, (stands-room g.stands).1, queue-length t.queued order)

  -- what stays to be done, and the counts' limits
  pub going-fuel : t.extractions < most_extractions L (length B.blocks)
  going-fuel = omega (arith, g.count, g.extractions)

  pub going-limits : Valid B → L ≤ 32 → (t.extractions < 16385) × (t.next < 32768) × (t.crowded < 65536) × (t.outrun < 16777216) × ((b : ℕ) → get_or visits b 0 < 65536)
  unfolding most_extractions
  going-limits ok l =
      let most : L * length B.blocks ≤ 32 * 512 = mul-le-mul l (blocks-few B ok) in
      let n : length g.done < 16385 = omega (arith, g.count) in (
        omega (arith, g.extractions),
        omega (arith, g.next-few),
        omega (arith, g.crowded-few),
        omega (arith, g.outrun-few),
        λ b. omega (arith, g.visits-few b),
      )

  -- a path without all blocks has a next one
  pub going-within : Valid B → g.taken.blocks ≤ length B.blocks
  going-within ok = reached-within B values ok D g.arrays g.taken g.rest g.reached

  -- ---- an extraction

  module _ (ok : Valid B) (size : length values ≡ 2 ^ B.m) (two : 2 ≤ D) (most : D ≤ 256) (f : Final) (finds : (R.run_of B L D A).end ≡ found f)
      (more : g.taken.blocks < length B.blocks) where
    -- what it comes to, by the visits of the tables and by those of the book's blocks
    abbrev made : R.Extracted
    made = R.extract B L D g.arrays g.taken g.rest t.next visits

    abbrev mine : R.Extracted
    mine = R.extract B L D g.arrays g.taken g.rest t.next g.own

    alike : Same (length B.blocks) mine made
    alike = extract-same B L D g.arrays g.taken g.rest t.next (length B.blocks) g.own visits more g.alike

    -- the moment, and its step
    abbrev here : Moment
    here = moment_of g.arrays g.taken g.rest t.next g.own

    here-step : step_at B L D here ≡ mine.step
    here-step = step_is B L D g.arrays g.taken g.rest t.next g.own (λ q. omega arith)

    opened : R.next_at B L D here ≡ R.taking mine.state
    opened = next_more B L D g.arrays g.taken g.rest t.next g.own (λ q. omega arith)

    later : Onward B L D g.fuel mine.state.queue
    unfolding R.taking trace after
    later =
        onward B L D g.fuel mine.state.arrays mine.state.queue mine.state.next mine.state.visits f
        (ap (λ z. end_in (trace (R.next_at B L D) g.fuel z).end) (sym opened) ∙ sym g.ends ∙ finds)

    -- the rest of the run from there
    rest-is : {n : ℕ} → n ≡ mine.state.next →
        trace (R.next_at B L D) (suc g.fuel) (on here)
        ≡ after here (trace (R.next_at B L D) (suc later.less) (on (moment_of mine.state.arrays later.taken later.rest n mine.state.visits)))
    unfolding R.taking R.taking_from trace
    rest-is a =
        ap (λ z. after here (trace (R.next_at B L D) g.fuel z)) opened
        ∙ ap₂ (λ k qs. after here (trace (R.next_at B L D) k (R.taking_from mine.state.arrays qs mine.state.next mine.state.visits))) later.fuel-is later.queue-is
        ∙ ap (λ k. after here (trace (R.next_at B L D) (suc later.less) (on (moment_of mine.state.arrays later.taken later.rest k mine.state.visits)))) (sym a)

    few : length g.rest < D
    few = (stands-room g.stands).0

    -- its entry of the walk
    step-key : key_at e ≡ record { score = mine.step.score; blocks = mine.step.blocks; number = mine.step.path }
    unfolding R.extract key_of
    step-key = taken-key g.stands

    module _ (r : Tally) (queued-is : r.queued ≡ length made.state.queue) where
      -- a path is queued
      pub going-some : 1 ≤ r.queued
      going-some = omega (arith, queued-is, ap length alike.queue, ap length later.queue-is)

      module _ (y : Memory) (order' vacant' visits' : List ℕ) (kept' : Table) (next-is : r.next ≡ made.state.next) (visits-is : visits' ≡ made.state.visits)
          (crowded-is : r.crowded ≡ t.crowded + length made.step.crowded) (outrun-is : r.outrun ≡ t.outrun + length made.step.outrun)
          (extractions-is : r.extractions ≡ t.extractions + 1)
          (st : Stands B D N y (queue_of order' r.queued) (queue_of vacant' (D - r.queued)) made.state.arrays made.state.queue)
          (words : Kepts B made.state.arrays kept' (queue_of order' r.queued) made.state.queue) where
        mine-stands : Stands B D N y (queue_of order' r.queued) (queue_of vacant' (D - r.queued)) mine.state.arrays mine.state.queue
        mine-stands =
            subst₂ (λ (F : Arrays) (qs : List Path). Stands B D N y (queue_of order' r.queued) (queue_of vacant' (D - r.queued)) F qs) (sym alike.arrays)
            (sym alike.queue) st

        mine-words : Kepts B mine.state.arrays kept' (queue_of order' r.queued) mine.state.queue
        mine-words =
            subst₂ (λ (F : Arrays) (qs : List Path). Kepts B F kept' (queue_of order' r.queued) qs) (sym alike.arrays) (sym alike.queue) words

        taken-stands : Stands B D N y (get_or order' (r.queued - 1) 0 ∷ queue_of order' (r.queued - 1)) (queue_of vacant' (D - (r.queued - 1 + 1)))
            mine.state.arrays (later.taken ∷ later.rest)
        taken-stands =
            let q : r.queued - 1 + 1 ≡ r.queued = omega (arith, going-some) in
            rw q (rw (queue-first r.queued order' going-some, later.queue-is) at mine-stands)

        -- the extractions done, and this one
        steps_next : map (step_at B L D) (g.done ++ here ∷ []) ≡ map (step_at B L D) g.done ++ mine.step ∷ []
        steps_next = map-append (step_at B L D) g.done (here ∷ []) ∙ ap (λ s. map (step_at B L D) g.done ++ s ∷ []) here-step

        pub going_next : {path' blocks' score' : List ℤ} → Long (most_extractions L (length B.blocks)) path₀ blocks₀ score₀ →
            Noted t.extractions (key_at e) path blocks score path' blocks' score' →
            Going B values L D N A y order' vacant' visits' kept'
            (record { queued = r.queued - 1; next = r.next; extractions = r.extractions; crowded = r.crowded; outrun = r.outrun })
            (get_or order' (r.queued - 1) 0) path₀ blocks₀ score₀ path' blocks' score'
        unfolding after
        going_next {path'} {blocks'} {score'} long noted =
            let s : Step = mine.step in
            let before : List Step = map (step_at B L D) g.done in
            let next : r.next ≡ mine.state.next = next-is ∙ sym alike.next in
            let l : length (g.done ++ here ∷ []) ≡ suc (length g.done) = length-snoc g.done here in
            let counted : (f : Step → ℕ) → sum (map f (map (step_at B L D) (g.done ++ here ∷ []))) ≡ sum (map f before) + f s = λ f.
            ap (λ l. sum (map f l)) steps_next ∙ sum-next f before s in
            record {
              arrays = mine.state.arrays;
              taken = later.taken;
              rest = later.rest;
              own = mine.state.visits;
              fuel = later.less;
              done = g.done ++ here ∷ [];
              stands = taken-stands;
              reached =
                  rw later.queue-is at (extract-reached B values ok size L D two g.arrays g.taken g.rest t.next g.own g.reached more);
              known = rw (queue-first r.queued order' going-some, later.queue-is) at mine-words;
              alike = subst (Alike (length B.blocks) mine.state.visits) (sym visits-is) alike.visits;
              count = omega (arith, g.count, later.fuel-is);
              at = g.at ∙ ap (λ z. g.done ++ z.states) (rest-is next) ∙ sym (append_assoc g.done (here ∷ []) _);
              ends = g.ends ∙ ap (λ z. end_in z.end) (rest-is next);
              extractions = omega (arith, g.extractions);
              crowded =
                  crowded-is ∙ ap₂ (λ n (z : Step). n + crowded_count z) g.crowded (sym alike.step) ∙ sym (counted crowded_count);
              outrun =
                  outrun-is ∙ ap₂ (λ n (z : Step). n + outrun_count z) g.outrun (sym alike.step) ∙ sym (counted outrun_count);
              next-few =
                  omega (arith, next-is, next-most B L D two g.arrays g.taken g.rest t.next visits few, g.next-few);
              crowded-few =
                  omega (arith, crowded-is, crowded-most B L D two g.arrays g.taken g.rest t.next visits few, g.crowded-few);
              outrun-few =
                  omega (arith, outrun-is, outrun-most B L D two g.arrays g.taken g.rest t.next visits few, g.outrun-few);
              visits-few = λ b.
                  let v = visits-most B L D two g.arrays g.taken g.rest t.next visits few (length g.done) g.visits-few b in
                  omega (arith, ap (λ w. get_or w b 0) visits-is);
              walks =
                  subst (λ l. Walks l path₀ blocks₀ score₀ path' blocks' score') (sym steps_next)
                  (walks_next s step-key (g.extractions ∙ sym (length-map g.done (step_at B L D)))
                  (record {
                    path-long = omega (arith, long.path-long, going-fuel);
                    blocks-long = omega (arith, long.blocks-long, going-fuel);
                    score-long = omega (arith, long.score-long, going-fuel);
                  }) g.walks noted);
            }

  -- ---- what the contract says of it

  -- the moment that it is at
  pub going-moment : MomentOf B L D A t.extractions (moment_of g.arrays g.taken g.rest t.next g.own)
  unfolding trace after
  going-moment = record { made = g.done; later = _; moments = g.at; extractions = g.extractions }

  pub going_before : Rising order t.queued → (most : ℕ) → t.extractions ≤ most → (t.extractions < most → g.taken.blocks ≡ length B.blocks) →
      Before B L D N A most x order vacant visits kept t e path₀ blocks₀ score₀ path blocks score
  unfolding going-moment
  going_before up most l d =
      record {
        here = moment_of g.arrays g.taken g.rest t.next g.own;
        moment = going-moment;
        bound = l;
        stops = d;
        few = going-fuel;
        stands = g.stands;
        next = refl;
        visited = λ b h. sym (g.alike.same b h);
        crowded = g.crowded;
        outrun = g.outrun;
        path-is = g.walks.path-is;
        blocks_is = g.walks.blocks_is;
        score-is = g.walks.score-is;
        known = g.known;
        next-few = omega (arith, g.next-few, g.extractions);
        crowded-few = omega (arith, g.crowded-few, g.extractions);
        outrun-few = omega (arith, g.outrun-few, g.extractions);
        visits-few = λ b. omega (arith, g.visits-few b, g.extractions);
        rising = up;
      }
