-- A clean hook in each call that makes a run: the run is clean (Run.antt), its discrepancy 0 is within every limit, and the call's definition says the rest; the
-- reader's run is the machine's by demand 3. Assumes nothing.
use mathlib.Core.Path.{◌≡◌, refl, sym, ap, ap₂, ◌∙◌, subst}
use mathlib.Core.Bool.{Bool}
use mathlib.Core.List.{List, ◌++◌, map, map-map}
use mathlib.Core.Option.{Option, none, some}
use Prim.Native.Nat.{ℕ}
use native.Mathlib.Omega.{arith}
use lib.ListN.{length, get_or, drop, length-map}
use Rattle.std.specs.Prelude.{Result, Ok, Err, is_ok}
use lib.IntN.{ℤ}
use borrow.Author.Tests.{le-leb, eq-eqb}
use Rattle.laws.specs.Lists.{over}
use Rattle.codebook.specs.declared.Refusal.{Refusal}
use Rattle.codebook.specs.declared.Refusal.TheVariants.{Unreadable}
use Rattle.codebook.specs.Refusals.{unless}
use Rattle.codebook.specs.Book.{Book}
use Rattle.codebook.specs.Loading.{book_shape}
use Rattle.codebook.proofs.Loaded.{loaded-valid}
use Rattle.settings.specs.declared.Settings.{Settings}
use Rattle.codec.specs.declared.HookRecord.{HookRecord}
use Rattle.codec.specs.Code.{read_data}
use Rattle.codec.specs.Record.{read_record}
use Rattle.codec.specs.Calls.{record_read, hook_read}
use Rattle.queue.specs.Queue.{Step, Final, End, found, Run}
use Rattle.machine.specs.declared.Reads.{Reads}
use Rattle.machine.specs.declared.Reads.TheVariants.{Data, Record}
use Rattle.machine.specs.declared.Manner.{Manner}
use Rattle.machine.specs.declared.HookDecoded.{HookDecoded}
use Rattle.machine.specs.Calls.{Input, Lent, readied, machine_run, final_in, first_failed, within, is_read, record_tests, verdicts, verdict, outcome_of, record_or, hook_of, walked, after_run, ran_call, call_of}
use Rattle.machine.proofs.Called.{call-ran}
use Rattle.runs.specs.Handed.{Made}
use Rattle.runs.proofs.Handed.{made-free}
use Rattle.attempts.specs.Reading.{reader_run}
use Rattle.attempts.proofs.Whole.{runs_same}
use Rattle.steprecords.specs.declared.StepRecord.{StepRecord}
use Rattle.steprecords.specs.Records.{record_of, blank, nth_record, recorded}
use Rattle.answers.specs.Slices.{counts_slice, record_slice, filled}
use Rattle.clean.specs.Clean.{Clean, clean_walk, clean_final, RunsClean}
use Rattle.clean.specs.Calls.{clean_read, read_outcome, clean_answer, clean_lent, ReadsClean, clean_records}
use Rattle.clean.proofs.Run.{machine-clean}

-- ---- the buffers after a clean run

-- a walk's buffer, whose entries are a part of the records
walk-over : (B : Book) (steps : List Step) (entry : StepRecord → ℤ) (old : List ℤ) → map record_of steps ≡ clean_walk B →
    walked (λ s. entry (record_of s)) steps old ≡ over (map entry (clean_walk B)) old
unfolding walked over
walk-over B steps entry old e =
    ap₂ (λ (l : List ℤ) (n : ℕ). l ++ drop n old) (sym (map-map entry record_of steps)) (sym (length-map (map record_of steps) entry ∙ length-map steps record_of))
    ∙ ap (λ (l : List StepRecord). over (map entry l) old) e

module _ (B : Book) (s : Settings) (l : Lent) (w : List ℕ) where
  lent-after : (steps : List Step) (success : Bool) → map record_of steps ≡ clean_walk B → after_run (book_shape B) s l steps (clean_final B w) success ≡ clean_lent B s l w success
  unfolding after_run clean_lent clean_final record_of
  lent-after steps success e =
      let p = walk-over B steps (λ r. r.path) l.walk_path e in
      let b = walk-over B steps (λ r. r.blocks) l.walk_blocks e in
      let q = walk-over B steps (λ r. r.score) l.walk_score e in
      let c = clean_lent B s l w success in
      λ i. record { word = c.word; bits = c.bits; numbers = c.numbers; bytes = c.bytes; walk_path = p i; walk_blocks = b i; walk_score = q i }

  -- ---- what a call makes of a clean run

  -- the verdicts on it: 0 is within every limit, so that the record alone decides
  clean-verdict : (r : Reads) (end : End Final) → end ≡ found (clean_final B w) →
      verdict r s end ≡ first_failed (record_tests r (clean_final B w))
  unfolding verdict verdicts first_failed unless within final_in clean_final
  clean-verdict r end e = rw (e, le-leb 0 s.limit (omega arith)) refl

  clean-outcome : (r : Reads) → outcome_of (first_failed (record_tests r (clean_final B w))) ≡ read_outcome (clean_read r (read_data B w))
  unfolding outcome_of first_failed unless record_tests is_read clean_read clean_final record_read read_outcome
  clean-outcome Data = refl
  clean-outcome Record = go (read_record (read_data B w))
    where
      go : (o : Option HookRecord) → outcome_of (unless (is_read o) Unreadable none) ≡ read_outcome (record_read o)
      go none = refl
      go (some h) = refl

  clean-hook : (r : Reads) → hook_of r (first_failed (record_tests r (clean_final B w))) (clean_final B w) ≡ hook_read (clean_read r (read_data B w))
  unfolding hook_of record_or first_failed unless record_tests is_read clean_read clean_final record_read hook_read
  clean-hook Data = refl
  clean-hook Record = go (read_record (read_data B w)) refl
    where
      go : (o : Option HookRecord) → read_record (read_data B w) ≡ o → hook_of Record (unless (is_read o) Unreadable none) (clean_final B w) ≡ hook_read (record_read o)
      go none e = refl
      go (some h) e = ap record_or e

  read-ok : (x : Result HookRecord Refusal) → is_ok (read_outcome x) ≡ is_ok x
  unfolding read_outcome
  read-ok (Ok h) = refl
  read-ok (Err r) = refl

  module _ (r : Reads) (run : Run Final) (k : RunsClean B s.visits s.paths w run.steps run.end) where
    ran-clean : ReadsClean r B s l w (ran_call r (book_shape B) s l run)
    unfolding ran_call clean_answer final_in
    ran-clean =
        let f : final_in run.end ≡ clean_final B w = ap final_in k.final in
        let v = clean-verdict r run.end k.final in
        let o = ap outcome_of v ∙ clean-outcome r in
        let h = ap₂ (hook_of r) v f ∙ clean-hook r in
        record {
          answer = λ i. record { outcome = o i; counts = k.counts i; hook = h i };
          buffers =
              ap₂ (λ (g : Final) (b : Bool). after_run (book_shape B) s l run.steps g b) f (ap is_ok o ∙ read-ok (clean_read r (read_data B w)))
              ∙ lent-after run.steps (is_ok (clean_read r (read_data B w))) k.walk;
          walk = k.walk;
        }

-- ---- the theorems

-- a call with a good book that nothing bars, on values that show the word w
module _ (k : Manner) (c : Input) (l : Lent) (B : Book) (w : List ℕ) (clean : Clean B (readied k c) w) (m : Made k c l B) where
  abbrev s : Settings
  s = c.settings

  -- the machine's run
  pub run-clean : let x = machine_run B s (readied k c) l in RunsClean B s.visits s.paths w x.steps x.end
  unfolding machine_run
  run-clean =
      let f = made-free k c l B m in
      machine-clean B (loaded-valid c.book B m.loads) (readied k c) w clean s.visits s.paths f.ranged.alive f.ranged.visited

  -- the reader's run, by demand 3
  pub reader-clean : let x = reader_run B s (readied k c) l in RunsClean B s.visits s.paths w x.steps x.end
  reader-clean = subst (λ (x : Run Final). RunsClean B s.visits s.paths w x.steps x.end) (sym (runs_same k c l B m)) run-clean

  -- the call: its answer, every buffer, the records of its extractions
  pub call-clean : ReadsClean k.reads B s l w (call_of k c l)
  call-clean = subst (ReadsClean k.reads B s l w) (sym (call-ran machine_run k c l B m.loads m.unbarred)) (ran-clean B s l w k.reads (machine_run B s (readied k c) l) run-clean)

  -- the step records, and the record of one extraction, zeros where there is none
  pub records-clean : (old : List StepRecord) → recorded (call_of k c l).steps old ≡ clean_records B old
  unfolding recorded clean_records over
  records-clean old =
      let steps = (call_of k c l).steps in
      ap (λ n. map record_of steps ++ drop n old) (sym (length-map steps record_of)) ∙ ap (λ (t : List StepRecord). over t old) call-clean.walk

  pub record-clean : (i : ℕ) → nth_record (call_of k c l).steps i ≡ get_or (clean_walk B) i blank
  unfolding nth_record
  record-clean i = ap (λ (t : List StepRecord). get_or t i blank) call-clean.walk

  -- counts and record as slices of their size
  pub counts-clean : (old : List ℕ) → length old ≡ 4 → filled (counts_slice (call_of k c l).answer.counts) old ≡ counts_slice (clean_answer k.reads B s w).counts
  unfolding filled counts_slice
  counts-clean old e = rw (eq-eqb (length old) 4 e) (ap (λ (a : HookDecoded). counts_slice a.counts) call-clean.answer)

  pub hook-clean : (old : List ℕ) → length old ≡ 4 → filled (record_slice (call_of k c l).answer.hook) old ≡ record_slice (clean_answer k.reads B s w).hook
  unfolding filled record_slice
  hook-clean old e = rw (eq-eqb (length old) 4 e) (ap (λ (a : HookDecoded). record_slice a.hook) call-clean.answer)
