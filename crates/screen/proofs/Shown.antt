-- What the screen's calls say, from what their covered parts leave: the records are those of the machine's extractions, which are the reader's. Once for
-- both calls. Assumes nothing.
use mathlib.Core.Path.{◌≡◌, refl, sym, ap, ◌∙◌}
use mathlib.Core.List.{List}
use Prim.Native.Nat.{ℕ, ◌≤◌}
use native.Mathlib.Omega.{arith}
use lib.ListN.{length}
use Rattle.codebook.specs.Book.{Book}
use Rattle.queue.specs.Queue.{Step, Final, Run}
use Rattle.machine.specs.declared.Reads.{Reads}
use Rattle.machine.specs.declared.Reads.TheVariants.{Data}
use Rattle.machine.specs.declared.Manner.{Manner}
use Rattle.machine.specs.declared.HookDecoded.{HookDecoded}
use Rattle.machine.specs.Calls.{Input, Lent, Called, readied, machine_run, ran_call, call_of, bare, unread}
use Rattle.machine.proofs.Called.{call-ran}
use Rattle.runs.specs.Handed.{Made}
use Rattle.attempts.specs.Reading.{reader_run}
use Rattle.attempts.proofs.Whole.{runs_same}
use Rattle.decoder.specs.Decodes.{Decodes}
use Rattle.decoder.proofs.Said.{without_record}
use Rattle.decoder.proofs.Walked.{extracted}
use Rattle.steprecords.specs.declared.StepRecord.{StepRecord}
use Rattle.steprecords.specs.Records.{recorded, copied}
use Rattle.steprecords.proofs.Copied.{copied-recorded}
use Rattle.screen.specs.Screen.{showing, Fitting, DecodesSteps}

-- a call's extractions, where it makes a run, are the reader's
pub reader-steps : (k : Manner) (c : Input) (l : Lent) (B : Book) → Made k c l B → (call_of k c l).steps ≡ (reader_run B c.settings (readied k c) l).steps
unfolding ran_call
reader-steps k c l B m =
    ap (λ (w : Called HookDecoded). w.steps) (call-ran machine_run k c l B m.loads m.unbarred) ∙ sym (ap (λ (x : Run Final). x.steps) (runs_same k c l B m))

-- what the covered call leaves: a decoding call with room for so many records, and a count that fits
abbrev pub Leaves : Reads → Input → Lent → ℕ → HookDecoded → Lent → Type 0
Leaves r c l room answer after = Decodes (showing r room) c l answer after × Fitting answer.counts room after

-- the walk's buffers, copied into the records
abbrev pub copies : List StepRecord → HookDecoded → Lent → List StepRecord
copies old answer after = copied old after.walk_path after.walk_blocks after.walk_score answer.counts.extractions

pub decodes-steps : (r : Reads) (c : Input) (l : Lent) (old : List StepRecord) (answer : HookDecoded) (after : Lent) → Leaves r c l (length old) answer after
    → DecodesSteps r c l old answer after (copies old answer after)
unfolding Fitting
decodes-steps r c l old answer after h = record { decodes = d; shown = shown; whole = λ B m. shown ∙ ap (λ (s : List Step). recorded s old) (reader-steps k c l B m) }
  where
    k : Manner
    k = showing r (length old)

    d : Decodes k c l answer after
    d = h.0

    shown : copies old answer after ≡ recorded (call_of k c l).steps old
    shown =
        let a = extracted k c l answer after d in
        let few-enough : length (call_of k c l).steps ≤ length old = omega (arith, a.counted, h.1.0) in
        rw (a.paths, a.blocks, a.scores, a.counted) (copied-recorded (call_of k c l).steps l.walk_path l.walk_blocks l.walk_score old few-enough)

-- where no record is read, the answer without its record is all of it
pub steps-unread : (c : Input) (l : Lent) (old : List StepRecord) (answer : HookDecoded) (after : Lent) (steps : List StepRecord)
    → DecodesSteps Data c l old answer after steps → DecodesSteps Data c l old (unread (bare answer)) after steps
steps-unread c l old answer after steps d =
    record { decodes = without_record (showing Data (length old)) c l answer after refl d.decodes; shown = d.shown; whole = d.whole }
