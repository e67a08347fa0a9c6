-- A run taken up again: memory that stands for one of the run's moments (specs/Before) is a run under way (Going), since what is left of the moments, and of the run, is
-- that of what the reader then holds. By the law of a trace from a state on. Assumes nothing.
use mathlib.Core.Path.{◌≡◌, sym, ap, ◌∙◌, subst}
use mathlib.Core.List.{List, [], ◌∷◌, ◌++◌}
use Prim.Native.Nat.{ℕ, suc, ◌+◌, ◌≤◌, ◌<◌}
use native.Mathlib.Omega.{arith}
use lib.IntN.{ℤ}
use lib.ListN.{length, length-replicate}
use Rattle.laws.specs.Lists.{All}
use Rattle.codebook.specs.declared.Shape.{Shape}
use Rattle.codebook.specs.declared.Tables.{Tables}
use Rattle.codebook.specs.Book.{Book}
use Rattle.codebook.specs.Limits.{Valid}
use Rattle.queue.specs.Run.{on, Trace, after, trace, most_extractions}
use Rattle.queue.specs.Queue.{Final, End, end_in, run_in}
use Rattle.queue.proofs.Run.{Leads, LeftOf, trace-left}
use Rattle.settings.specs.declared.Settings.{Settings}
use Rattle.reader.specs.Arrays.{Arrays}
use Rattle.reader.specs.Paths.{Path}
use Rattle.reader.specs.Reader as R
use Rattle.reader.specs.Moments.{Moment, moments_of, extract_at}
use Rattle.reader.specs.Reached.{Reached}
use Rattle.reader.proofs.Moments.{Taken, Stays, run-all}
use Rattle.reader.proofs.During.{among, during-reached}
use Rattle.order.specs.Entries.{key_at}
use Rattle.standing.specs.Seen.{Memory}
use Rattle.standing.proofs.Taken.{taken-blocks}
use Rattle.steps.specs.declared.Tally.{Tally}
use Rattle.extraction.proofs.Counts.{blocks-few}
use Rattle.extraction.proofs.Extracts.{visit-length}
use Rattle.words.specs.Kept.{Table}
use Rattle.reading.specs.Before.{Before}
use Rattle.reading.specs.Running.{Running}
use Rattle.reading.specs.Turning.{Turning}
use Rattle.reading.proofs.Visits.{Alike}
use Rattle.reading.proofs.Going.{moment_of, Going}
use Rattle.reading.proofs.Turns.{input-moment}

-- ---- the visits at every moment

module _ (B : Book) (L D : ℕ) where
  -- as many as the book's blocks
  abbrev Long : Moment → Type 0
  Long t = length t.state.visits ≡ length B.blocks

  taken-long : (A : Arrays) (ps : List Path) (n : ℕ) (visits : List ℕ) → length visits ≡ length B.blocks → Taken Long A ps n visits
  unfolding R.taking_from Leads
  taken-long A [] n visits h = tt
  taken-long A (p ∷ ps) n visits h = h

  stays-long : Stays B L D Long
  unfolding extract_at R.extract
  stays-long t _ h = taken-long _ _ _ _ (visit-length t.state.visits t.path.blocks ∙ h)

  visits-long : (A : Arrays) → All Long (moments_of B L D A)
  visits-long A = run-all B L D Long stays-long A (taken-long _ _ _ _ (length-replicate {A = ℕ} (length B.blocks) 0))

-- ---- the run under way

module _ {B : Book} {L D N : ℕ} {A : Arrays} {most : ℕ} {x : Memory} {order vacant visits : List ℕ} {kept : Table} {t : Tally} {e : ℕ} {path₀ blocks₀ score₀ path blocks score : List ℤ}
    (g : Before B L D N A most x order vacant visits kept t e path₀ blocks₀ score₀ path blocks score) where
  pub left : LeftOf (R.next_at B L D) (most_extractions L (length B.blocks)) (R.trace_of B L D A) g.moment.made g.here g.moment.later
  unfolding moments_of R.trace_of
  left = trace-left (R.next_at B L D) _ _ g.moment.made g.here g.moment.later g.moment.moments

  -- its visits are those of the tables
  pub before-alike : Valid B → length visits ≡ 512 → Alike (length B.blocks) g.here.state.visits visits
  before-alike ok long =
      record {
        long = omega (arith, among (Long B L D) g.moment.made g.here g.moment.later (subst (All (Long B L D)) g.moment.moments (visits-long B L D A)));
        long' = omega (arith, blocks-few B ok);
        same = λ i h. sym (g.visited i h);
      }

  -- the rest of the run from there
  abbrev rest : ℕ → Trace Moment (End Final)
  rest k = trace (R.next_at B L D) (suc left.less) (on (moment_of g.here.state.arrays g.here.path g.here.state.queue k g.here.state.visits))

  pub before_at : moments_of B L D A ≡ g.moment.made ++ (rest t.next).states
  unfolding trace after
  before_at = g.moment.moments ∙ ap (λ ms. g.moment.made ++ g.here ∷ ms) left.rest ∙ ap (λ k. g.moment.made ++ (rest k).states) (sym g.next)

  -- it has the final word
  pub before-ends : (R.run_of B L D A).end ≡ end_in (rest t.next).end
  unfolding R.run_of run_in trace after
  before-ends = ap end_in left.ends ∙ ap (λ k. end_in (rest k).end) (sym g.next)

  pub before-count : length g.moment.made + suc left.less ≡ most_extractions L (length B.blocks)
  before-count = sym left.count

  abbrev pub before-going : (values : List ℤ) → Valid B → Reached B values D g.here.state.arrays (g.here.path ∷ g.here.state.queue) → length visits ≡ 512 →
      Going B values L D N A x order vacant visits kept t e path₀ blocks₀ score₀ path blocks score
  before-going values ok reached long =
      let m : Moment = g.here in
      let s = m.state in
      let n : ℕ = left.less in
      record {
        arrays = s.arrays;
        taken = m.path;
        rest = s.queue;
        own = s.visits;
        fuel = n;
        done = g.moment.made;
        stands = g.stands;
        reached = reached;
        known = g.known;
        alike = before-alike ok long;
        count = before-count;
        at = before_at;
        ends = before-ends;
        extractions = g.moment.extractions;
        crowded = g.crowded;
        outrun = g.outrun;
        next-few = omega (arith, g.next-few, g.moment.extractions);
        crowded-few = omega (arith, g.crowded-few, g.moment.extractions);
        outrun-few = omega (arith, g.outrun-few, g.moment.extractions);
        visits-few = λ b. omega (arith, g.visits-few b, g.moment.extractions);
        walks = record { path-is = g.path-is; blocks_is = g.blocks_is; score-is = g.score-is };
      }

  -- the same, within another bound
  pub before-most : (bound : ℕ) → t.extractions ≤ bound → (t.extractions < bound → (key_at e).blocks ≡ length B.blocks) →
      Before B L D N A bound x order vacant visits kept t e path₀ blocks₀ score₀ path blocks score
  before-most bound l d =
      record {
        here = g.here;
        moment = g.moment;
        bound = l;
        stops = λ k. sym (taken-blocks g.stands) ∙ d k;
        few = g.few;
        stands = g.stands;
        next = g.next;
        visited = g.visited;
        crowded = g.crowded;
        outrun = g.outrun;
        path-is = g.path-is;
        blocks_is = g.blocks_is;
        score-is = g.score-is;
        known = g.known;
        next-few = g.next-few;
        crowded-few = g.crowded-few;
        outrun-few = g.outrun-few;
        visits-few = g.visits-few;
        rising = g.rising;
      }

-- ---- on the tables

-- a run of an input, before an extraction of a path that has a next block
abbrev pub before-turning : {shape : Shape} {s : Settings} {N : ℕ} {values : List ℤ} {tables : Tables} {A : Arrays} {x : Memory} {order vacant visits : List ℕ} {kept : Table} {t : Tally} {e : ℕ}
    {path₀ blocks₀ score₀ path blocks score : List ℤ} (c : Running shape values tables) → A.vals shape.m 1 ≡ values →
    (most_extractions s.visits shape.blocks ≤ length path₀) × (most_extractions s.visits shape.blocks ≤ length blocks₀) × (most_extractions s.visits shape.blocks ≤ length score₀) →
    Before c.book s.visits s.paths N A t.extractions x order vacant visits kept t e path₀ blocks₀ score₀ path blocks score → ((key_at e).blocks ≡ shape.blocks → ⊥) →
    Turning shape s N tables x order vacant visits kept t e path blocks score
before-turning {values = values} {A = A} {path₀ = path₀} {blocks₀ = blocks₀} {score₀ = score₀} c root room g more =
    record {
      values = values;
      input = c;
      arrays = A;
      root = root;
      path₀ = path₀;
      blocks₀ = blocks₀;
      score₀ = score₀;
      room = room;
      at = g;
      more = λ q. more (taken-blocks g.stands ∙ q ∙ c.blocks);
    }

module _ {shape : Shape} {s : Settings} {N : ℕ} {tables : Tables} {x : Memory} {order vacant visits : List ℕ} {kept : Table} {t : Tally} {e : ℕ} {path blocks score : List ℤ}
    (c : Turning shape s N tables x order vacant visits kept t e path blocks score) where
  abbrev pub turning-going : 2 ≤ s.paths → length visits ≡ 512 →
      Going c.input.book c.values s.visits s.paths N c.arrays x order vacant visits kept t e c.path₀ c.blocks₀ c.score₀ path blocks score
  turning-going two long =
      let ok = c.input.in_tables.booked.valid in
      before-going c.at c.values ok (during-reached ok (input-moment c.input c.root c.at.moment) two) long

  -- the path in hand has not all blocks
  pub turning-more : (key_at e).blocks ≡ shape.blocks → ⊥
  turning-more q = c.more (sym (taken-blocks c.at.stands) ∙ q ∙ sym c.input.blocks)
