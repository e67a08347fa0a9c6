-- What a run and its verdict stand on: a book in tables gives the run's input and fits the buffers, the final word has the data that is read from it,
-- and what is judged and handed out is the call's. By the limits of a loaded book and the exactness of the run. Assumes nothing.
use mathlib.Core.Path.{◌≡◌, refl, sym, ap, ap₂, ◌∙◌, subst}
use mathlib.Core.Bool.{cond}
use mathlib.Core.List.{List, ◌++◌}
use mathlib.Core.Option.{Option, none, some}
use Prim.Native.Nat.{ℕ, ◌+◌, ◌*◌, ◌^◌, ◌≤◌, ◌<◌}
use native.Mathlib.Nat.{mul-le-mul_left}
use native.Mathlib.Omega.{arith}
use Rattle.std.specs.Prelude.{Ok, Err, is_ok}
use lib.IntN.{ℤ, pos}
use lib.ListN.{length, take, drop, replicate}
use lib.Seq.{take_all, length-take-le}
use lib.Dec.{T, eqb→eq}
use lib.Pow.{pow_mono}
use borrow.Author.Tests.{le-leb, lt-leb}
use Rattle.laws.specs.Lists.{All}
use Rattle.polar.specs.Bits.{Bit}
use Rattle.polar.specs.Transform.{transform}
use Rattle.polar.proofs.Transform.{transform-length, transform-bits}
use Rattle.codebook.specs.declared.Refusal.{Refusal}
use Rattle.codebook.specs.declared.Refusal.TheVariants.{AboveLimit, Unreadable}
use Rattle.codebook.specs.Refusals.{unless}
use Rattle.codebook.specs.declared.Shape.{Shape}
use Rattle.codebook.specs.declared.Tables.{Tables}
use Rattle.codebook.specs.Book.{Kind, free_count}
use Rattle.codebook.proofs.Placing.{free-le}
use Rattle.settings.specs.declared.Settings.{Settings}
use Rattle.settings.specs.Settings.{Ranged}
use Rattle.codec.specs.declared.Status.TheVariants.{Passed}
use Rattle.codec.specs.declared.HookRecord.{HookRecord}
use Rattle.codec.specs.Code.{free_bits, read_data}
use Rattle.codec.specs.Record.{no_record, read_record}
use Rattle.codec.specs.Calls.{record_read}
use Rattle.codec.proofs.Fill.{free-length, free-bits}
use Rattle.machine.specs.declared.Reads.{Reads}
use Rattle.machine.specs.declared.Reads.TheVariants.{Data, Record}
use Rattle.machine.specs.declared.Counts.{Counts}
use Rattle.queue.specs.Queue.{Step, Final, End, found, Run}
use Rattle.machine.specs.Calls.{Lent, numbers_needed, bytes_needed, holds, first_failed, final_in, verdict, verdicts, is_read, record_tests, within, outcome_of, record_or, hook_of, counts_of, no_counts, walked, after_run, ran_call}
use Rattle.runs.specs.Runs.{Exact}
use Rattle.reader.specs.Reader as R
use Rattle.reader.proofs.Agree.{valid-agree, reader-exact}
use Rattle.heights.specs.Workspace.{Room}
use Rattle.reading.specs.Running.{Running}
use Rattle.reading.proofs.Received.{received-root}
use Rattle.attempts.specs.Reading.{arrays_lent, reader_run}
use Rattle.attempts.specs.Attempt.{Ready, answered, judged_as, judged_final, RecordIn}

-- ---- parts of buffers

-- a lent part has the length that it is lent at
pub lent_length : {A : Type 0} (n : ℕ) (l : List A) → n ≤ length l → n ≡ length (take n l)
lent_length n l h = sym (length-take-le n l h)

-- a part at the start, cleared
pub part-cleared : {A : Type 0} (v : A) (n : ℕ) (l : List A) {new : List A} → n ≤ length l → new ≡ replicate (length (take n l)) v → new ++ drop n l ≡ replicate n v ++ drop n l
part-cleared v n l h e = ap (λ y. y ++ drop n l) (e ∙ ap (λ k. replicate k v) (length-take-le n l h))

-- no more kinds are free than there are
pub free-most : (ks : List Kind) → free_count ks ≤ length ks
free-most ks = subst (λ l. free_count l ≤ length ks) (take_all (length ks) ks (omega arith)) (free-le (length ks) ks)

-- ---- a book in tables, and values that fit it

module _ {x : Shape} {values : List ℤ} {tables : Tables} (r : Ready x values tables) where
  -- the shape's numbers are the book's
  pub ready-deep : x.m ≡ r.book.m
  ready-deep = ap (λ (y : Shape). y.m) r.shape

  pub ready-size : x.n ≡ 2 ^ r.book.m
  ready-size = ap (λ (y : Shape). y.n) r.shape

  pub ready-own : x.n ≡ 2 ^ x.m
  ready-own = ready-size ∙ ap (λ m. 2 ^ m) (sym ready-deep)

  pub ready-bits : x.k ≡ free_count r.book.kinds
  ready-bits = ap (λ (y : Shape). y.k) r.shape

  pub ready-small : x.n ≤ 512
  ready-small =
      let small : 2 ^ r.book.m ≤ 2 ^ 9 = pow_mono {j = 9} r.in_tables.booked.valid.high in
      omega (arith, ready-size)

  pub ready-free : x.k ≤ 512
  ready-free = omega (arith, ready-small, ready-size, ready-bits, r.in_tables.booked.valid.indices, free-most r.book.kinds)

  abbrev pub ready-running : Running x values tables
  ready-running =
      record {
        book = r.book;
        in_tables = r.in_tables;
        deep = sym ready-deep;
        blocks = sym (ap (λ (y : Shape). y.blocks) r.shape);
        size = r.fits ∙ ready-own;
        range = r.range;
      }

  -- the parts of the workspace that are lent have room
  module _ (s : Settings) {A : Type 0} (l : List A) where
    pub numbers-room : numbers_needed x s ≤ length l → Room x.m s.paths (take (numbers_needed x s) l)
    unfolding Room numbers_needed
    numbers-room h = rw (← ready-own, length-take-le (s.paths * (2 * x.n + 32)) l h) (mul-le-mul_left {m = 2 * x.n} {n = 2 * x.n + 32} s.paths (omega arith))

    pub bytes-room : bytes_needed x s ≤ length l → Room x.m s.paths (take (bytes_needed x s) l)
    unfolding Room bytes_needed
    bytes-room h = rw (← ready-own, length-take-le (s.paths * (2 * x.n)) l h) (omega arith)

  -- the reader's run on the workspace lent, which has room for its arrays
  module _ (s : Settings) (l : Lent) (ranged : Ranged s) (room : numbers_needed x s ≤ length l.numbers) where
    abbrev pub run_lent : Run Final
    run_lent = R.run_of r.book s.visits s.paths (arrays_lent x s values l)

    -- their root holds the values
    lent-root : (arrays_lent x s values l).vals r.book.m 1 ≡ values
    unfolding arrays_lent
    lent-root =
        ap (λ m. (arrays_lent x s values l).vals m 1) (sym ready-deep)
        ∙ received-root x.m s.paths values (take (numbers_needed x s) l.numbers) (numbers-room s l.numbers room) (omega (arith, ranged.alive)) (r.fits ∙ ready-own) _

    -- so its word is exact, and it finds one
    exact : Exact r.book values (final_in run_lent.end)
    exact = reader-exact r.book r.in_tables.booked.valid s.visits s.paths values (arrays_lent x s values l) ranged.visited (r.fits ∙ ready-size) lent-root

    pub finds : run_lent.end ≡ found (final_in run_lent.end)
    unfolding final_in
    finds =
        let f = (valid-agree r.book r.in_tables.booked.valid s.visits s.paths values (arrays_lent x s values l) ranged.visited (r.fits ∙ ready-size) lent-root).finds in
        f ∙ ap found (sym (ap final_in f))

    -- the word found
    module _ {word : List ℕ} (is : word ≡ (final_in run_lent.end).word) where
      pub word-size : length word ≡ x.n
      word-size = ap length is ∙ exact.size ∙ sym ready-size

      pub word-bits : All Bit word
      word-bits = subst (All Bit) (sym is) exact.bits

      -- its data
      module _ {ds : List ℕ} (read : ds ≡ free_bits r.book.kinds (transform x.m word)) where
        pub data_are : ds ≡ (final_in run_lent.end).bits
        unfolding read_data
        data_are = read ∙ ap₂ (λ m w. free_bits r.book.kinds (transform m w)) ready-deep is ∙ sym exact.databits

        pub data-size : length ds ≡ x.k
        unfolding read_data
        data-size =
            ap length (data_are ∙ exact.databits)
            ∙ free-length r.book.kinds _ (transform-length r.book.m _ exact.size ∙ sym r.in_tables.booked.valid.indices) ∙ sym ready-bits

        pub data-bits : All Bit ds
        unfolding read_data
        data-bits = subst (All Bit) (sym (data_are ∙ exact.databits)) (free-bits r.book.kinds _ (transform-bits r.book.m _ exact.bits))

-- where a record is read, there are 32 of them
pub record-in : (reads : Reads) (x : Shape) → T (holds reads x) → (ds : List ℕ) → length ds ≡ x.k → All Bit ds → RecordIn reads ds
unfolding RecordIn holds
record-in Data x t ds e h = tt
record-in Record x t ds e h = (e ∙ eqb→eq x.k 32 t, h)

-- ---- what is answered by default

pub default-record : (h : HookRecord) → (h.plant ≡ 0) × ((h.carcass ≡ 0) × ((h.side ≡ 0) × (h.status ≡ Passed))) → h ≡ no_record
unfolding no_record
default-record h d = λ i. record { plant = d.0 i; carcass = d.1.0 i; side = d.1.1.0 i; status = d.1.1.1 i }

pub default-counts : (x : Counts) → (x.extractions ≡ 0) × ((x.crowded ≡ 0) × ((x.outrun ≡ 0) × (x.discrepancy ≡ 0))) → x ≡ no_counts
unfolding no_counts
default-counts x d = λ i. record { extractions = d.0 i; crowded = d.1.0 i; outrun = d.1.1.0 i; discrepancy = d.1.1.1 i }

-- ---- the verdict

-- an answer tells what was refused, or that nothing was, and the record
pub answered-ok : (v : Option Refusal) (g h : HookRecord) → Ok h ≡ answered v g → (v ≡ none) × (h ≡ g)
unfolding answered
answered-ok none g h e = (refl, (cc))
answered-ok (some r) g h e = let z : ◌≡◌ {A = ℕ} 0 1 = cc in absurd (omega arith)

pub answered-err : (v : Option Refusal) (g : HookRecord) (r : Refusal) → Err r ≡ answered v g → v ≡ some r
unfolding answered
answered-err none g r e = let z : ◌≡◌ {A = ℕ} 0 1 = cc in absurd (omega arith)
answered-err (some x) g r e = cc

-- a record is read of the data alone
hook-same : (r : Reads) (v : Option Refusal) (f g : Final) → f.bits ≡ g.bits → hook_of r v f ≡ hook_of r v g
unfolding hook_of
hook-same Data v f g e = refl
hook-same Record none f g e = ap (λ (ds : List ℕ). record_or (read_record ds)) e
hook-same Record (some x) f g e = refl

-- the verdicts look at the discrepancy and the data alone
pub judged-same : (r : Reads) (s : Settings) (e : End Final) (f : Final) → e ≡ found f → (d : ℕ) (ds : List ℕ) → d ≡ f.discrepancy → ds ≡ f.bits
    → judged_as r s (judged_final d ds) ≡ (let v = verdict r s e in answered v (hook_of r v (final_in e)))
unfolding judged_as verdict verdicts first_failed record_tests within final_in hook_of
judged-same r s e f q d ds p w =
    ap₂ (λ (x : ℕ) (y : List ℕ). judged_as r s (judged_final x y)) p w ∙ go r
    ∙ ap (λ (o : End Final). let v = verdict r s o in answered v (hook_of r v (final_in o))) (sym q)
  where
    go : (t : Reads) → judged_as t s (judged_final f.discrepancy f.bits) ≡ (let v = verdict t s (found f) in answered v (hook_of t v f))
    go Data = refl
    go Record = ap (answered (verdict Record s (found f))) (hook-same Record (verdict Record s (found f)) (judged_final f.discrepancy f.bits) f refl)

-- what the code finds: above the limit; within it, without a record to be read, or with one
module _ (s : Settings) (f : Final) where
  pub judged-above : (r : Reads) → s.limit < f.discrepancy → Err AboveLimit ≡ judged_as r s f
  unfolding judged_as answered verdict verdicts first_failed unless within
  judged-above r h = rw (lt-leb f.discrepancy s.limit h) refl

  pub judged-data : f.discrepancy ≤ s.limit → Ok no_record ≡ judged_as Data s f
  unfolding judged_as answered verdict verdicts first_failed unless record_tests within hook_of
  judged-data h = rw (le-leb f.discrepancy s.limit h) refl

  pub judged-record : f.discrepancy ≤ s.limit → record_read (read_record f.bits) ≡ judged_as Record s f
  unfolding judged_as answered verdict verdicts first_failed unless record_tests is_read within hook_of record_or record_read final_in
  judged-record h = rw (le-leb f.discrepancy s.limit h) (go (read_record f.bits) refl)
    where
      go : (o : Option HookRecord) → read_record f.bits ≡ o → record_read o ≡ (let v = unless (is_read o) Unreadable none in answered v (hook_of Record v f))
      go none e = refl
      go (some h) e = ap Ok (sym (ap record_or e))

-- ---- the call after its run

-- the reader's run in the sizes of the shape
pub reader-same : {x : Shape} {values : List ℤ} {tables : Tables} (r : Ready x values tables) (s : Settings) (l : Lent)
    → R.run_of r.book s.visits s.paths (arrays_lent x s values l) ≡ reader_run r.book s values l
unfolding reader_run
reader-same {x} {values} r s l = ap (λ (y : Shape). R.run_of r.book s.visits s.paths (arrays_lent y s values l)) r.shape

-- what is handed out, by the verdict
module _ (new old : List ℕ) {v : Option Refusal} where
  pub given-out : v ≡ none → new ≡ cond (is_ok (outcome_of v)) new old
  unfolding outcome_of
  given-out e = rw e refl

  pub given-none : {r : Refusal} → v ≡ some r → old ≡ cond (is_ok (outcome_of v)) new old
  unfolding outcome_of
  given-none e = rw e refl

module _ (reads : Reads) (x : Shape) (s : Settings) (l : Lent) (run : Run Final) where
  -- the verdict on its word
  abbrev against : Option Refusal
  against = verdict reads s run.end

  module _ {counts : Counts} (counted : counts ≡ counts_of run.steps (final_in run.end)) where
    pub ran-done : {h : HookRecord} → against ≡ none → h ≡ hook_of reads against (final_in run.end)
        → record { outcome = Ok tt; counts = counts; hook = h } ≡ (ran_call reads x s l run).answer
    unfolding ran_call outcome_of
    ran-done e p = let o = ap outcome_of (sym e) in λ i. record { outcome = o i; counts = counted i; hook = p i }

    pub ran-refused : {r : Refusal} → against ≡ some r → record { outcome = Err r; counts = counts; hook = no_record } ≡ (ran_call reads x s l run).answer
    unfolding ran_call outcome_of hook_of
    ran-refused {r} e =
        let o = ap outcome_of (sym e) in
        let h = none-read reads ∙ ap (λ (v : Option Refusal). hook_of reads v (final_in run.end)) (sym e) in
        λ i. record { outcome = o i; counts = counted i; hook = h i }
      where
        none-read : (t : Reads) → no_record ≡ hook_of t (some r) (final_in run.end)
        none-read Data = refl
        none-read Record = refl

  pub ran-lent : (after : Lent)
      → after.word ≡ cond (is_ok (outcome_of against)) (final_in run.end).word l.word
      → after.bits ≡ cond (is_ok (outcome_of against)) (final_in run.end).bits l.bits
      → after.numbers ≡ replicate (numbers_needed x s) (pos 0) ++ drop (numbers_needed x s) l.numbers
      → after.bytes ≡ replicate (bytes_needed x s) 0 ++ drop (bytes_needed x s) l.bytes
      → after.walk_path ≡ walked (λ (z : Step). pos z.path) run.steps l.walk_path
      → after.walk_blocks ≡ walked (λ (z : Step). pos z.blocks) run.steps l.walk_blocks
      → after.walk_score ≡ walked (λ (z : Step). z.score) run.steps l.walk_score
      → after ≡ (ran_call reads x s l run).lent
  unfolding ran_call after_run
  ran-lent after w b n y p q t = λ i. record { word = w i; bits = b i; numbers = n i; bytes = y i; walk_path = p i; walk_blocks = q i; walk_score = t i }
