-- Demand 2 of every decoding call, for every input: a call that is done, or refused with 10 or 11, made a run; the run is exact (Final.antt), and
-- by cases of the limit and of the record the call's definition says the rest. Assumes nothing.
use mathlib.Core.Path.{◌≡◌, refl, sym, ap, ◌∙◌, subst}
use Rattle.std.specs.Prelude.{Result, Ok, Err, is_ok}
use mathlib.Core.Bool.{Bool, true, false}
use mathlib.Core.List.{List}
use mathlib.Core.Logic.{◌↔◌, ◌⊎◌, inl, inr}
use mathlib.Core.Option.{Option, none, some}
use Prim.Native.Nat.{ℕ, ◌≤◌, ◌<◌}
use native.Mathlib.Omega.{arith}
use lib.Dec.{leb}
use borrow.Author.Tests.{le-leb, lt-leb}
use Rattle.laws.specs.Lists.{All, May}
use Rattle.laws.proofs.Tests.{lt-or}
use Rattle.codebook.specs.declared.Refusal.{Refusal}
use Rattle.codebook.specs.declared.Refusal.TheVariants.{AboveLimit, Unreadable}
use Rattle.codebook.specs.Refusals.{refusal_number, outcome_number, unless}
use Rattle.codebook.specs.Book.{Book}
use Rattle.codebook.specs.Loading.{Load, refused, loaded, load, book_shape}
use Rattle.codebook.proofs.Loaded.{loaded-valid}
use Rattle.codebook.proofs.Refused.{load-refuses}
use Rattle.codec.specs.declared.HookRecord.{HookRecord}
use Rattle.codec.specs.Record.{read_record}
use Rattle.machine.specs.declared.Reads.{Reads}
use Rattle.machine.specs.declared.Reads.TheVariants.{Data, Record}
use Rattle.machine.specs.declared.Manner.{Manner}
use Rattle.machine.specs.declared.HookDecoded.{HookDecoded}
use Rattle.queue.specs.Queue.{Step, Final, End, found, end_as}
use Rattle.machine.specs.Machine.{run_of}
use Rattle.machine.specs.Calls.{Input, Lent, lengths_of, first_failed, tests_before, barred, readied, final_of, end_of, machine_run, final_in, within, is_read, record_tests, verdicts, verdict}
use Rattle.machine.specs.Calls.{outcome_of, record_or, hook_of, counts_of, after_run, Called, refused_as, refused_call, ran_call, unbarred, call_with, call_by, call_of}
use Rattle.machine.specs.Numbers.{final_end, final_word}
use Rattle.machine.proofs.Unbarred.{failed-may, Free, nothing-bars}
use Rattle.runs.specs.Runs.{Ended}
use Rattle.runs.specs.Handed.{Made, Readable, Unread, RecordIs, HandedOut, Withheld, Handed}
use Rattle.runs.proofs.Ends.{run_ends}
use Rattle.runs.proofs.Final.{run-exact}

-- where a word is found, the limit alone decides
found_within : (limit : ℕ) (e : End Final) (f : Final) → e ≡ found f → within limit e ≡ leb (final_in e).discrepancy limit
unfolding within final_in
found_within limit e f q = subst (λ (o : End Final). within limit o ≡ leb (final_in o).discrepancy limit) (sym q) refl

-- ---- the record

-- the data hold what is to be read, or no record where one is
read_by : (Q : Option Refusal → Type 0) (r : Reads) (f : Final) → (Readable r f.bits → Q none) → (Unread r f.bits → Q (some Unreadable)) → Q (first_failed (record_tests r f))
unfolding first_failed record_tests unless is_read Readable Unread
read_by Q Data f good bad = good tt
read_by Q Record f good bad = go (read_record f.bits) refl
  where
    go : (o : Option HookRecord) → read_record f.bits ≡ o → Q (unless (is_read o) Unreadable none)
    go none e = bad e
    go (some h) e = good (h, e)

-- not both
read-apart : {A : Type 0} (r : Reads) (ds : List ℕ) → Readable r ds → Unread r ds → A
unfolding Readable Unread
read-apart Data ds h u = absurd u
read-apart Record ds h u = let e = h.1 in let z : ◌≡◌ {A = ℕ} 0 1 = cc in absurd (omega arith)

-- the record answered is that of the data
record_is : (r : Reads) (f : Final) → Readable r f.bits → RecordIs r f.bits (hook_of r none f)
unfolding Readable RecordIs hook_of record_or
record_is Data f h = refl
record_is Record f h = let e = h.1 in rw e refl

-- ---- which calls make a run

-- no refusal with 1 to 9
unfoldable Late : Result (Unit {0}) Refusal → Type 0
Late (Ok x) = Unit {0}
Late (Err r) = 9 < refusal_number r

module _ (k : Manner) (c : Input) (l : Lent) where
  -- what bars a call is 7, 8 or 9
  barred-low : (B : Book) (r : Refusal) → barred k B c l ≡ some r → refusal_number r ≤ 9
  unfolding barred tests_before May All
  barred-low B r e =
      let P : Refusal → Type 0 = λ r. refusal_number r ≤ 9 in
      subst (May P) e
      (failed-may P (tests_before k (book_shape B) c.settings (lengths_of c l) c.values) (omega arith, (omega arith, (omega arith, (omega arith, (omega arith, tt))))))

  makes : Late (call_of k c l).answer.outcome → (B : Book) × Made k c l B
  unfolding call_by call_with unbarred refused_as refused_call Late
  makes = go (load c.book) refl
    where
      checked : (B : Book) → load c.book ≡ loaded B → (o : Option Refusal) → barred k B c l ≡ o → Late (unbarred machine_run k B c l o).answer.outcome → (B : Book) × Made k c l B
      checked B e (some r) b h = absurd (omega (arith, barred-low B r b))
      checked B e none b h = (B, record { loads = e; unbarred = b })

      go : (x : Load) → load c.book ≡ x → Late (call_with machine_run k x c l).answer.outcome → (B : Book) × Made k c l B
      go (refused r) e h = absurd (omega (arith, load-refuses c.book r e))
      go (loaded B) e h = checked B e (barred k B c l) refl h

-- ---- a call that makes a run

module _ (k : Manner) (c : Input) (l : Lent) (B : Book) (m : Made k c l B) where
  abbrev steps : List Step
  steps = (run_of B c.settings.visits c.settings.paths (readied k c)).steps

  abbrev final : Final
  final = final_word k B c

  abbrev limit : ℕ
  limit = c.settings.limit

  pub made-free : Free k (book_shape B) c.settings (lengths_of c l) c.values
  unfolding barred
  made-free = nothing-bars k (book_shape B) c.settings (lengths_of c l) c.values m.unbarred

  -- a word that is handed out, and one that is not
  handed_out : final.discrepancy ≤ limit → HandedOut k B c (counts_of steps final) (after_run (book_shape B) c.settings l steps final true)
  unfolding final_word final_end counts_of after_run
  handed_out h =
      let x = run-exact B (loaded-valid c.book B m.loads) c.settings.visits c.settings.paths (readied k c) made-free.ranged.visited made-free.sized.values in
      record { final = refl; size = x.size; bits = x.bits; member = x.member; databits = x.databits; exact = x.discrepancy; within = h }

  withheld : Withheld k B c l (counts_of steps final) (after_run (book_shape B) c.settings l steps final false)
  unfolding final_word final_end counts_of after_run
  withheld =
      let x = run-exact B (loaded-valid c.book B m.loads) c.settings.visits c.settings.paths (readied k c) made-free.ranged.visited made-free.sized.values in
      record { word = refl; databits = refl; counted = refl; exact = x.discrepancy }

  -- the run finds a word, so the limit alone decides
  by-limit : within limit (final_end k B c) ≡ leb final.discrepancy limit
  unfolding Ended final_word final_end end_of end_as
  by-limit =
      let (p, q, _) = run_ends B c.settings.visits c.settings.paths (readied k c) made-free.ranged.visited in
      found_within limit (final_end k B c) (final_of B (readied k c) p) (ap (end_of B (readied k c)) q)

  -- what holds of the call's three ends, each under its condition, holds of the call
  abbrev ended : Option Refusal → Called HookDecoded
  ended v =
      record {
        answer = record { outcome = outcome_of v; counts = counts_of steps final; hook = hook_of k.reads v final };
        lent = after_run (book_shape B) c.settings l steps final (is_ok (outcome_of v));
        steps = steps;
      }

  call-by : (P : Called HookDecoded → Type 0)
      → (final.discrepancy ≤ limit → Readable k.reads final.bits → P (ended none))
      → (limit < final.discrepancy → P (ended (some AboveLimit)))
      → (final.discrepancy ≤ limit → Unread k.reads final.bits → P (ended (some Unreadable)))
      → P (call_of k c l)
  unfolding call_by call_with unbarred ran_call machine_run verdict verdicts first_failed unless final_word final_end
  call-by P done above unreadable = subst P (sym ran) (go (lt-or limit final.discrepancy))
    where
      judged : Bool → Option Refusal
      judged b = unless b AboveLimit (first_failed (record_tests k.reads final))

      ran : call_of k c l ≡ ended (judged (leb final.discrepancy limit))
      ran = ap (λ x. call_with machine_run k x c l) m.loads ∙ ap (unbarred machine_run k B c l) m.unbarred ∙ ap (λ (b : Bool). ended (judged b)) by-limit

      E : Bool → Type 0
      E b = P (ended (judged b))

      go : (limit < final.discrepancy) ⊎ (final.discrepancy ≤ limit) → E (leb final.discrepancy limit)
      go (inl h) = subst E (sym (lt-leb final.discrepancy limit h)) (above h)
      go (inr h) = subst E (sym (le-leb final.discrepancy limit h)) (read_by (λ v. P (ended v)) k.reads final (done h) (unreadable h))

-- ---- the theorem

-- two outcomes with different numbers
differ : {A : Type 0} {o p : Result (Unit {0}) Refusal} → o ≡ p → (outcome_number o ≡ outcome_number p → ⊥) → A
differ e f = absurd (f (ap outcome_number e))

pub handed : (k : Manner) (c : Input) (l : Lent) → Handed k c l (call_of k c l).answer (call_of k c l).lent
unfolding Late outcome_of counts_of after_run
handed k c l =
    record {
      done = λ q.
          let (B, m) = makes k c l (subst Late (sym q) tt) in
          let (x, r) = call-by k c l B m (λ x. x.answer.outcome ≡ Ok tt → HandedOut k B c x.answer.counts x.lent × RecordIs k.reads x.lent.bits x.answer.hook)
          (λ h r _. (handed_out k c l B m h, record_is k.reads (final_word k B c) r))
          (λ _ e. differ e (λ z. omega (arith, z)))
          (λ _ _ e. differ e (λ z. omega (arith, z))) q in
          (B, m, x, r);
      above = λ q.
          let (B, m) = makes k c l (subst Late (sym q) (omega arith)) in
          let (w, h) = call-by k c l B m (λ x. x.answer.outcome ≡ Err AboveLimit → Withheld k B c l x.answer.counts x.lent × (c.settings.limit < x.answer.counts.discrepancy))
          (λ _ _ e. differ e (λ z. omega (arith, z)))
          (λ h _. (withheld k c l B m, h))
          (λ _ _ e. differ e (λ z. omega (arith, z))) q in
          (B, m, w, h);
      unreadable = λ q.
          let (B, m) = makes k c l (subst Late (sym q) (omega arith)) in
          let (w, h, n) = call-by k c l B m
          (λ x. x.answer.outcome ≡ Err Unreadable
          → Withheld k B c l x.answer.counts x.lent × (x.answer.counts.discrepancy ≤ c.settings.limit) × Unread k.reads (final_word k B c).bits)
          (λ _ _ e. differ e (λ z. omega (arith, z)))
          (λ _ e. differ e (λ z. omega (arith, z)))
          (λ h n _. (withheld k c l B m, h, n)) q in
          (B, m, w, h, n);
      exactly-done = λ B m.
          call-by k c l B m (λ x. (x.answer.outcome ≡ Ok tt) ↔ (((final_word k B c).discrepancy ≤ c.settings.limit) × Readable k.reads (final_word k B c).bits))
          (λ h r. (λ _. (h, r), λ _. refl))
          (λ h. (λ e. differ e (λ z. omega (arith, z)), λ p. absurd (omega (arith, p.0))))
          (λ h n. (λ e. differ e (λ z. omega (arith, z)), λ p. read-apart k.reads (final_word k B c).bits p.1 n));
      exactly-above = λ B m.
          call-by k c l B m (λ x. (x.answer.outcome ≡ Err AboveLimit) ↔ (c.settings.limit < (final_word k B c).discrepancy))
          (λ h _. (λ e. differ e (λ z. omega (arith, z)), λ p. absurd (omega arith)))
          (λ h. (λ _. h, λ _. refl))
          (λ h _. (λ e. differ e (λ z. omega (arith, z)), λ p. absurd (omega arith)));
      exactly-unreadable = λ B m.
          call-by k c l B m (λ x. (x.answer.outcome ≡ Err Unreadable) ↔ (((final_word k B c).discrepancy ≤ c.settings.limit) × Unread k.reads (final_word k B c).bits))
          (λ h r. (λ e. differ e (λ z. omega (arith, z)), λ p. read-apart k.reads (final_word k B c).bits r p.1))
          (λ h. (λ e. differ e (λ z. omega (arith, z)), λ p. absurd (omega (arith, p.0))))
          (λ h n. (λ _. (h, n), λ _. refl));
    }
