-- The end of a run, from what the contract of its extractions says (specs/Before): the moment at which a path with all blocks is taken is the run's last,
-- so the steps of the moments before it and its own are all the run's, and its word is the final one. By the law of a trace from a state on. Assumes nothing.
use mathlib.Core.Path.{◌≡◌, sym, ap, ◌∙◌, subst}
use mathlib.Core.List.{List, [], ◌∷◌, ◌++◌, map, map-append}
use mathlib.Core.Option.{some}
use Prim.Native.Nat.{ℕ, suc, ◌+◌, ◌-◌, ◌^◌, ◌≤◌, ◌<◌}
use native.Mathlib.Omega.{arith}
use lib.IntN.{ℤ, pos}
use lib.ListN.{length, length-map}
use borrow.Author.Tests.{eq-eqb}
use Rattle.laws.specs.Lists.{sum}
use Rattle.laws.proofs.Lists.{length-snoc}
use Rattle.laws.specs.Pairs.{Paired}
use Rattle.polar.specs.Layers.{part}
use Rattle.codebook.specs.declared.Shape.{Shape}
use Rattle.codebook.specs.declared.Tables.{Tables}
use Rattle.codebook.specs.Book.{Book}
use Rattle.codebook.specs.Limits.{Valid}
use Rattle.codec.specs.Code.{read_data}
use Rattle.queue.specs.Run.{over, ended, trace, most_extractions}
use Rattle.queue.specs.Queue.{Step, Final, found, Run, end_in, run_in}
use Rattle.queue.proofs.Run.{trace-over, trace-left}
use Rattle.machine.specs.Calls.{counts_of}
use Rattle.reader.specs.Arrays.{Arrays, sums_of}
use Rattle.reader.specs.Paths.{Path, score_of, key_of, ids_of, view_of}
use Rattle.reader.specs.Fit.{Fit, FitFor}
use Rattle.reader.specs.Reader as R
use Rattle.reader.specs.Moments.{Moment, moments_of, step_at}
use Rattle.reader.proofs.Moments.{run-steps-are}
use Rattle.reader.proofs.During.{during-fit}
use Rattle.order.specs.Entries.{key_at, queue_of}
use Rattle.heights.specs.Workspace.{spot, Id}
use Rattle.standing.specs.Seen.{Memory}
use Rattle.standing.specs.Standing.{InHand}
use Rattle.standing.proofs.Taken.{taken-key}
use Rattle.words.specs.declared.Block.{Block}
use Rattle.steps.specs.declared.Tally.{Tally}
use Rattle.steps.specs.Steps.{BlockIs, committed}
use Rattle.words.specs.Kept.{Table}
use Rattle.reading.specs.declared.Ran.{Ran}
use Rattle.reading.specs.Before.{Before}
use Rattle.reading.specs.Ending.{Ending}
use Rattle.reading.specs.Running.{Running, RanIs}
use Rattle.reading.proofs.Walks.{walked-length, Walks, Noted, walks_next, sum-next}
use Rattle.reading.proofs.Going.{crowded_count, outrun_count}
use Rattle.reading.proofs.Turns.{ReadAt, run-blocks, input-moment}

-- ---- the moment at which the run stops

module _ (B : Book) (L D : ℕ) where
  last-next : (t : Moment) → t.path.blocks ≡ length B.blocks → R.next_at B L D t ≡ over (found (R.final_at B t))
  unfolding R.next_at
  last-next t d = rw (eq-eqb t.path.blocks (length B.blocks) d)

  -- nothing comes after it, and its word is the run's
  moments-last : (A : Arrays) (made : List Moment) (here : Moment) (later : List Moment) → moments_of B L D A ≡ made ++ here ∷ later →
      here.path.blocks ≡ length B.blocks → (later ≡ []) × ((R.run_of B L D A).end ≡ found (R.final_at B here))
  unfolding moments_of R.run_of run_in R.trace_of ended end_in
  moments-last A made here later e d =
      let l = trace-left (R.next_at B L D) _ _ made here later e in
      let over : trace (R.next_at B L D) l.less (R.next_at B L D here) ≡ ended (some (found (R.final_at B here))) =
      ap (trace (R.next_at B L D) l.less) (last-next here d) ∙ trace-over (R.next_at B L D) l.less _ in
      (l.rest ∙ ap (λ z. z.states) over, ap end_in (l.ends ∙ ap (λ z. z.end) over))

  -- its step
  last_step_lem : (t : Moment) → t.path.blocks ≡ length B.blocks →
      step_at B L D t ≡ record { path = t.path.number; blocks = t.path.blocks; score = score_of B t.path t.path.blocks; crowded = []; outrun = [] }
  unfolding step_at
  last_step_lem t d = rw (eq-eqb t.path.blocks (length B.blocks) d)

-- ---- the end of a run on its tables

module _ {shape : Shape} {values : List ℤ} {tables : Tables} (c : Running shape values tables)
    {L D N : ℕ} {A : Arrays} {most : ℕ} {x : Memory} {order vacant visits : List ℕ} {kept : Table} {t : Tally} {e : ℕ} {path₀ blocks₀ score₀ path blocks score : List ℤ}
    (g : Before c.book L D N A most x order vacant visits kept t e path₀ blocks₀ score₀ path blocks score) where
  abbrev ok : Valid c.book
  ok = c.in_tables.booked.valid

  -- the path in hand
  abbrev pub stop-hand : InHand shape.m D N x e (queue_of order t.queued) (queue_of vacant (D - (t.queued + 1)))
  stop-hand =
      record { book = c.book; arrays = g.here.state.arrays; taken = g.here.path; rest = g.here.state.queue; deep = c.deep; stands = g.stands }

  pub stop-small : e < 36028797018963968
  unfolding Paired
  stop-small = g.stands.queue.0.small

  -- extractions still to come
  pub stop-left : t.extractions < most_extractions L shape.blocks
  stop-left = omega (arith, g.few, ap (most_extractions L) c.blocks)

  -- the walk is as large as it was
  pub stop-room :
      (most_extractions L shape.blocks ≤ length path₀) × (most_extractions L shape.blocks ≤ length blocks₀) × (most_extractions L shape.blocks ≤ length score₀) →
      (most_extractions L shape.blocks ≤ length path) × (most_extractions L shape.blocks ≤ length blocks) × (most_extractions L shape.blocks ≤ length score)
  stop-room room =
      let done : List Step = map (step_at c.book L D) g.moment.made in
      let n : length done ≡ t.extractions = length-map g.moment.made (step_at c.book L D) ∙ sym g.moment.extractions in (
        omega (arith, room.0, stop-left, ap length g.path-is, walked-length (λ (y : Step). pos y.path) done path₀),
        omega (arith, room.1, stop-left, ap length g.blocks_is, walked-length (λ (y : Step). pos y.blocks) done blocks₀),
        omega (arith, room.2, stop-left, ap length g.score-is, walked-length (λ (y : Step). y.score) done score₀),
      )

  module _ (more : t.extractions < most) where
    all : g.here.path.blocks ≡ length c.book.blocks
    all = g.stops more

    -- the last step, and the whole run
    abbrev last_step : Step
    last_step =
        record {
          path = g.here.path.number;
          blocks = g.here.path.blocks;
          score = score_of c.book g.here.path g.here.path.blocks;
          crowded = [];
          outrun = [];
        }

    abbrev whole : Run Final
    whole = R.run_of c.book L D A

    abbrev done : List Step
    done = map (step_at c.book L D) g.moment.made

    last_of : (g.moment.later ≡ []) × (whole.end ≡ found (R.final_at c.book g.here))
    last_of = moments-last c.book L D A g.moment.made g.here g.moment.later g.moment.moments all

    last-steps : whole.steps ≡ done ++ last_step ∷ []
    last-steps =
        let step : Moment → Step = step_at c.book L D in
        run-steps-are c.book L D A ∙ ap (map step) (g.moment.moments ∙ ap (λ l. g.moment.made ++ g.here ∷ l) last_of.0)
        ∙ map-append step g.moment.made (g.here ∷ []) ∙ ap (λ y. done ++ y ∷ []) (last_step_lem c.book L D g.here all)

    -- the path has a last block
    pub last-index : g.here.path.blocks ≡ suc (shape.blocks - 1)
    last-index = omega (arith, all, c.blocks, (run-blocks c).0)

    -- and it is fit, as every path is when it is taken
    pub last_fit : A.vals shape.m 1 ≡ values → 2 ≤ D → Fit c.book g.here.state.arrays g.here.path (shape.blocks - 1)
    unfolding FitFor
    last_fit root two = subst (FitFor c.book g.here.state.arrays g.here.path) last-index (during-fit ok (input-moment c root g.moment) two)

    abbrev pub stop-ending : A.vals shape.m 1 ≡ values → 2 ≤ D → (last : Block) (i : ℕ) → i ≡ shape.blocks - 1 → ReadAt tables i last →
        Ending shape.m D N x e (queue_of order t.queued) (queue_of vacant (D - (t.queued + 1))) last
    stop-ending root two last i q l =
        record {
          hand = stop-hand;
          valid = ok;
          b = shape.blocks - 1;
          own =
              record {
                blocks = last-index;
                block =
                    subst (λ n. BlockIs c.book n last) q (l c.book ok c.in_tables.blocks (omega (arith, (run-blocks c).0, c.blocks)));
                fit = last_fit root two;
              };
          whole = omega (arith, (run-blocks c).0, c.blocks);
        }

    -- its walk
    pub stop-walks :
        (most_extractions L shape.blocks ≤ length path₀) × (most_extractions L shape.blocks ≤ length blocks₀) × (most_extractions L shape.blocks ≤ length score₀) →
        {path' blocks' score' : List ℤ} → Noted t.extractions (key_at e) path blocks score path' blocks' score' →
        Walks whole.steps path₀ blocks₀ score₀ path' blocks' score'
    unfolding key_of
    stop-walks long {path'} {blocks'} {score'} noted =
        subst (λ l. Walks l path₀ blocks₀ score₀ path' blocks' score') (sym last-steps)
        (walks_next last_step (taken-key g.stands) (g.moment.extractions ∙ sym (length-map g.moment.made (step_at c.book L D)))
        (record {
          path-long = omega (arith, long.0, stop-left);
          blocks-long = omega (arith, long.1, stop-left);
          score-long = omega (arith, long.2, stop-left);
        }) (record { path-is = g.path-is; blocks_is = g.blocks_is; score-is = g.score-is }) noted)

    -- what the run answers, whose sums stand in the lent bytes
    pub stop-ran : (r : Ran) (bytes : List ℕ) →
        (r.counts ≡ record { extractions = t.extractions + 1; crowded = t.crowded; outrun = t.outrun; discrepancy = g.here.path.spent + g.here.path.cost })
        × Id N r.id × (part (spot shape.m r.id shape.m) (2 ^ shape.m) bytes ≡ sums_of (committed stop-hand) shape.m) → {lent : List ℕ} → lent ≡ bytes → RanIs shape.m N whole r lent
    unfolding R.final_at counts_of
    stop-ran r bytes w same =
        let B : Book = c.book in
        let p : Path = g.here.path in
        let word : List ℕ = sums_of (R.commit B (ids_of g.here.state.queue) p p.blocks (view_of g.here.state.arrays p)) B.m in
        let extractions : t.extractions + 1 ≡ length whole.steps =
        omega (arith, g.moment.extractions, ap length last-steps, length-snoc done last_step, length-map g.moment.made (step_at B L D)) in
        let crowded : t.crowded ≡ sum (map crowded_count whole.steps) = omega (arith, g.crowded, ap (λ l. sum (map crowded_count l)) last-steps, sum-next crowded_count done last_step) in
        let outrun : t.outrun ≡ sum (map outrun_count whole.steps) = omega (arith, g.outrun, ap (λ l. sum (map outrun_count l)) last-steps, sum-next outrun_count done last_step) in
        record {
          final = record { word = word; bits = read_data B word; discrepancy = p.spent + p.cost };
          ends = last_of.1;
          counts = w.0 ∙ (λ i. record { extractions = extractions i; crowded = crowded i; outrun = outrun i; discrepancy = p.spent + p.cost });
          id = w.1;
          word =
              ap (part (spot shape.m r.id shape.m) (2 ^ shape.m)) same ∙ w.2 ∙ ap (sums_of (R.commit B (ids_of g.here.state.queue) p p.blocks (view_of g.here.state.arrays p))) (sym c.deep);
        }
