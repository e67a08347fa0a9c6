-- A run on its tables: what each call of the run needs, from a run under way (Going) on a book in tables. The blocks are read off the tables; a run of a
-- valid book ends with a final word, by its agreement with the machine (reader). Assumes nothing.
use mathlib.Core.Path.{◌≡◌, sym, ap, ◌∙◌, subst}
use mathlib.Core.List.{List}
use Prim.Native.Nat.{ℕ, ◌+◌, ◌-◌, ◌^◌, ◌≤◌, ◌<◌}
use native.Mathlib.Omega.{arith}
use lib.IntN.{ℤ, pos}
use lib.ListN.{length, get_or, set, replicate}
use lib.Pow.{pow_mono}
use Rattle.codebook.specs.declared.Shape.{Shape}
use Rattle.codebook.specs.declared.Tables.{Tables}
use Rattle.codebook.specs.Book.{Book, block_at}
use Rattle.codebook.specs.Limits.{BlockOk, Valid}
use Rattle.queue.specs.Run.{most_extractions}
use Rattle.queue.specs.Queue.{Final, found}
use Rattle.reader.specs.Arrays.{Arrays}
use Rattle.reader.specs.Paths.{score_of, key_of, first_path}
use Rattle.reader.specs.Moments.{Moment, MomentOf, RunMoment}
use Rattle.reader.specs.Reader as R
use Rattle.reader.proofs.Agree.{valid-agree}
use Rattle.order.specs.Entries.{key_at, Packed, queue_of, Rising}
use Rattle.sharing.specs.Sharing.{held_at, Rows}
use Rattle.standing.specs.Seen.{Memory, memory, Enough}
use Rattle.standing.specs.Standing.{Stands, InHand}
use Rattle.words.specs.declared.Block.{Block}
use Rattle.words.specs.Kept.{Table, Kepts}
use Rattle.steps.specs.declared.Tally.{Tally}
use Rattle.steps.specs.Steps.{BlockIs}
use Rattle.start.specs.Start.{first_held, BlocksIn}
use Rattle.start.proofs.Begun.{Zeros}
use Rattle.reading.specs.Before.{Before}
use Rattle.reading.specs.Running.{arrays_of, Running}
use Rattle.extraction.specs.Extraction.{Extracting}
use Rattle.reading.proofs.First.{first-stands}
use Rattle.reading.proofs.Walks.{Long, Noted}
use Rattle.extraction.proofs.Counts.{blocks-few}
use Rattle.reading.proofs.Visits.{alike-visit}
use Rattle.reading.proofs.Bounded.{blocks-some}
use Rattle.reading.proofs.Going.{Going, going-first, going-blocks, going-within, going-fuel, going-some, going_next, going-moment, going_before}

-- r is block b of any book in these tables that has it
abbrev pub ReadAt : Tables → ℕ → Block → Type 0
ReadAt tables b r =
    (B : Book) → Valid B → BlocksIn B tables → b < length B.blocks → BlockIs B b r

-- the first path's key
first_key : (B : Book) (e : ℕ) → Packed e (record { score = pos 0; blocks = 0; number = 0 }) 0 → Packed e (key_of B (first_path B)) 0
unfolding score_of key_of first_path
first_key B e p = p

module _ {shape : Shape} {values : List ℤ} {tables : Tables} (c : Running shape values tables) where
  abbrev ok : Valid c.book
  ok = c.in_tables.booked.valid

  -- as many values as the book asks for
  abbrev size : length values ≡ 2 ^ c.book.m
  size = c.size ∙ ap (λ n. 2 ^ n) (sym c.deep)

  -- the book's shape
  pub run-deep : shape.m ≤ 9
  run-deep = omega (arith, ok.high, c.deep)

  pub run-blocks : (0 < shape.blocks) × (shape.blocks ≤ 512)
  run-blocks = (omega (arith, blocks-some c.book ok, c.blocks), omega (arith, blocks-few c.book ok, c.blocks))

  -- a block's place in the tables
  pub table_fits : (b : ℕ) → b < shape.blocks → (b < 512) × (get_or tables.heights b 0 ≤ 5) × (get_or tables.starts b 0 + 2 ^ get_or tables.heights b 0 ≤ 512)
  table_fits b l =
      let h : b < length c.book.blocks = omega (arith, c.blocks) in
      let o : BlockOk c.book b = ok.blocks b h in
      let e : get_or tables.heights b 0 ≡ (block_at c.book b).j = c.in_tables.blocks.height b h in (
        omega (arith, run-blocks.1),
        omega (arith, o.short),
        omega (arith, c.in_tables.blocks.start b h, ap (λ j. 2 ^ j) e, o.within, pow_mono ok.high),
      )

  -- a moment of its run from arrays whose root holds the received values
  abbrev pub input-moment : {A : Arrays} → A.vals shape.m 1 ≡ values → {L D k : ℕ} {here : Moment} → MomentOf c.book L D A k here →
      RunMoment c.book L D k here
  input-moment {A} root h =
      record { values = values; size = size; range = c.range; arrays = A; root = ap (λ n. A.vals n 1) c.deep ∙ root; moment = h }

  -- the run has a final word
  pub run-found : (L D : ℕ) (A : Arrays) → 1 ≤ L → A.vals shape.m 1 ≡ values → (f : Final) × ((R.run_of c.book L D A).end ≡ found f)
  run-found L D A l root = (_, (valid-agree c.book ok L D values A l size (ap (λ n. A.vals n 1) c.deep ∙ root)).finds)

  -- ---- at first

  module _ (L D N : ℕ) (rows holders vacant : List ℕ) (numbers : List ℤ) (bytes : List ℕ) (e : ℕ) (order : List ℕ) (kept : Table) (path₀ blocks₀ score₀ : List ℤ) where
    pub run-first : 1 ≤ D → Enough D N → N ≤ 256 → (old : List ℕ) → Zeros old → Rows 1 old → rows ≡ set old shape.m 1 →
        ((h i : ℕ) → h ≤ 9 → i ≤ 256 → held_at holders h i ≡ first_held shape.m h i) → ((k : ℕ) → k + 1 < D → get_or vacant k 0 ≡ k + 1) →
        Packed e (record { score = pos 0; blocks = 0; number = 0 }) 0 → (arrays_of shape.m numbers bytes).vals shape.m 1 ≡ values →
        Going c.book values L D N (arrays_of shape.m numbers bytes)
        (memory rows holders numbers bytes) order vacant (replicate 512 0) kept
        (record { queued = 0; next = 1; extractions = 0; crowded = 0; outrun = 0 }) e path₀ blocks₀ score₀ path₀ blocks₀ score₀
    run-first some' enough most old none size is held free p root =
        let A : Arrays = arrays_of shape.m numbers bytes in
        let k : Packed e (key_of c.book (first_path c.book)) 0 = first_key c.book e p in
        going-first c.book values L D N A (memory rows holders numbers bytes) order vacant kept e path₀ blocks₀ score₀ ok some'
        (ap (λ n. A.vals n 1) c.deep ∙ root)
        (first-stands c.book shape.m D N ok c.deep some' enough most rows holders vacant old none size is held free e k numbers bytes)

  -- ---- under way

  module _ {L D N : ℕ} {A : Arrays} {x : Memory} {order vacant visits : List ℕ} {kept : Table} {t : Tally} {e : ℕ} {path₀ blocks₀ score₀ path blocks score : List ℤ}
      (g : Going c.book values L D N A x order vacant visits kept t e path₀ blocks₀ score₀ path blocks score) where
    -- the path in hand
    abbrev pub run-hand : InHand shape.m D N x e (queue_of order t.queued) (queue_of vacant (D - (t.queued + 1)))
    run-hand = record { book = c.book; arrays = g.arrays; taken = g.taken; rest = g.rest; deep = c.deep; stands = g.stands }

    -- extractions still to come
    pub run-left : t.extractions < most_extractions L shape.blocks
    run-left = omega (arith, going-fuel g, ap (most_extractions L) c.blocks)

    -- it has a next block
    pub run-next : ((key_at e).blocks ≡ shape.blocks → ⊥) → g.taken.blocks < length c.book.blocks
    run-next d =
        let n : g.taken.blocks ≡ length c.book.blocks → ⊥ = λ q. d (going-blocks g ∙ q ∙ c.blocks) in
        omega (arith, going-within g ok)

    pub run-within : ((key_at e).blocks ≡ shape.blocks → ⊥) → (key_at e).blocks < shape.blocks
    run-within d = omega (arith, run-next d, going-blocks g, c.blocks)

    -- what an extraction needs
    abbrev pub run-extracting : A.vals shape.m 1 ≡ values → (last at : Block) (i b : ℕ) → b ≡ (key_at e).blocks → i ≡ b - 1 → ((key_at e).blocks ≡ shape.blocks → ⊥) →
        ReadAt tables i last → ReadAt tables b at →
        Extracting shape.m L D N t.extractions t.next x e (queue_of order t.queued) (queue_of vacant (D - (t.queued + 1))) tables.kinds tables.terms last at kept visits
    run-extracting root last at i b p q d l a =
        record {
          hand = run-hand;
          booked = c.in_tables.booked;
          visits = g.own;
          moment = input-moment root (going-moment g);
          known = g.known;
          next =
              subst (λ n. BlockIs c.book n at) (p ∙ going-blocks g) (a c.book ok c.in_tables.blocks (omega (arith, run-within d, c.blocks)));
          last-is = λ k h.
              let j : i ≡ k = omega (arith, going-blocks g) in
              subst (λ n. BlockIs c.book n last) j (l c.book ok c.in_tables.blocks (omega (arith, run-within d, c.blocks)));
          visited = (alike-visit g.own visits g.taken.blocks (run-next d) g.alike).same g.taken.blocks (run-next d);
        }

    -- ---- an extraction

    -- what it comes to
    abbrev pub run-made : R.Extracted
    run-made = R.extract c.book L D g.arrays g.taken g.rest t.next visits

    -- the walk has an entry for each
    long-enough : (most_extractions L shape.blocks ≤ length path₀) × (most_extractions L shape.blocks ≤ length blocks₀) × (most_extractions L shape.blocks ≤ length score₀) →
        Long (most_extractions L (length c.book.blocks)) path₀ blocks₀ score₀
    long-enough l =
        let e : most_extractions L (length c.book.blocks) ≡ most_extractions L shape.blocks = ap (most_extractions L) c.blocks in
        record { path-long = omega (arith, l.0); blocks-long = omega (arith, l.1); score-long = omega (arith, l.2) }

    module _ (two : 2 ≤ D) (most : D ≤ 256) (finds : (f : Final) × ((R.run_of c.book L D A).end ≡ found f)) (d : (key_at e).blocks ≡ shape.blocks → ⊥) (r : Tally) where
      -- a path is queued after it
      pub run-some : r.queued ≡ length run-made.state.queue → 1 ≤ r.queued
      run-some q = going-some g ok size two most finds.0 finds.1 (run-next d) r q

      pub run-turn : (y : Memory) (order' vacant' visits' : List ℕ) (kept' : Table) →
          (r.queued ≡ length run-made.state.queue) × (r.next ≡ run-made.state.next) × (visits' ≡ run-made.state.visits)
          × (r.crowded ≡ t.crowded + length run-made.step.crowded) × (r.outrun ≡ t.outrun + length run-made.step.outrun)
          × Stands c.book D N y (queue_of order' r.queued) (queue_of vacant' (D - r.queued)) run-made.state.arrays run-made.state.queue
          × Kepts c.book run-made.state.arrays kept' (queue_of order' r.queued) run-made.state.queue →
          r.extractions ≡ t.extractions + 1 →
          (most_extractions L shape.blocks ≤ length path₀) × (most_extractions L shape.blocks ≤ length blocks₀) × (most_extractions L shape.blocks ≤ length score₀) →
          {path' blocks' score' : List ℤ} → Noted t.extractions (key_at e) path blocks score path' blocks' score' →
          Going c.book values L D N A y order' vacant' visits' kept'
          (record { queued = r.queued - 1; next = r.next; extractions = r.extractions; crowded = r.crowded; outrun = r.outrun })
          (get_or order' (r.queued - 1) 0) path₀ blocks₀ score₀ path' blocks' score'
      run-turn y order' vacant' visits' kept' x more l n =
          going_next g ok size two most finds.0 finds.1 (run-next d) r x.0 y order' vacant' visits' kept' x.1 x.2 x.3 x.4 more x.5 x.6
          (long-enough l) n

    -- ---- what the contract says of it

    pub run-before : Rising order t.queued → (most : ℕ) → t.extractions ≤ most → (t.extractions < most → (key_at e).blocks ≡ shape.blocks) →
        Before c.book L D N A most x order vacant visits kept t e path₀ blocks₀ score₀ path blocks score
    run-before up most l d = going_before g up most l (λ k. sym (going-blocks g) ∙ d k ∙ sym c.blocks)
