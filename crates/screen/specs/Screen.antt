-- The screen's calls: the plain decoding call and the hook call with a slice of step records besides the walk's number buffers. Document 01: "the screen's
-- call takes the walk as a lent slice of step records". With too few of them a call is refused with 7, in 7's place (machine/specs/Calls, beside_ok). And the plain call with one record of its walk, in
-- plain parameters. Assumes nothing.
use Rattle.std.specs.Prelude.{◌≡◌, List, ℕ, ◌≤◌, length, Some, None}
use Rattle.codebook.specs.Book.{Book}
use Rattle.codec.specs.Record.{no_record}
use Rattle.machine.specs.declared.Reads.{Reads}
use Rattle.machine.specs.declared.Manner.{Manner}
use Rattle.machine.specs.declared.Counts.{Counts}
use Rattle.machine.specs.declared.HookDecoded.{HookDecoded}
use Rattle.machine.specs.Calls.{Input, Lent, readied, call_of, plain}
use Rattle.runs.specs.Handed.{Made}
use Rattle.attempts.specs.Reading.{reader_run}
use Rattle.decoder.specs.Decodes.{Decodes}
use Rattle.steprecords.specs.declared.StepRecord.{StepRecord}
use Rattle.steprecords.specs.Records.{nth_record, recorded}
use Rattle.screen.specs.declared.step.StepDecoded.{StepDecoded}

-- a call that reads r, with so many step records beside
abbrev pub showing : Reads → ℕ → Manner
showing r room = record { reads = r; steps = Some room; counts = None; hook = None }

-- the count of extractions is at most the room for records, and the walk's buffers hold as many entries
unfoldable pub Fitting : Counts → ℕ → Lent → Type 0
Fitting counts room l =
    (counts.extractions ≤ room) × (counts.extractions ≤ length l.walk_path) × (counts.extractions ≤ length l.walk_blocks)
    × (counts.extractions ≤ length l.walk_score)

-- A call with step records, `old` before and `steps` after: it is a decoding call with so many of them beside; a record for each extraction of its run stands from entry 0 on, the rest as it was. And demand 3 of the records: where
-- a run is made, they are those of the reader's extractions.
pub record DecodesSteps (r : Reads) (c : Input) (l : Lent) (old : List StepRecord) (answer : HookDecoded) (after : Lent) (steps : List StepRecord) : Type 0 where
  pub decodes : Decodes (showing r (length old)) c l answer after
  pub shown : steps ≡ recorded (call_of (showing r (length old)) c l).steps old
  pub whole : (B : Book) → Made (showing r (length old)) c l B → steps ≡ recorded (reader_run B c.settings (readied (showing r (length old)) c) l).steps old

-- ---- the call with one record

-- its answer as a decoding call's
abbrev pub unstepped : StepDecoded → HookDecoded
unstepped a = record { outcome = a.outcome; counts = a.counts; hook = no_record }

-- the plain call, and the record of extraction i, zeros where there is none; where a run is made, that of the reader's extraction i
pub record DecodesStep (c : Input) (l : Lent) (i : ℕ) (answer : StepDecoded) (after : Lent) : Type 0 where
  pub decodes : Decodes plain c l (unstepped answer) after
  pub shown : answer.step ≡ nth_record (call_of plain c l).steps i
  pub whole : (B : Book) → Made plain c l B → answer.step ≡ nth_record (reader_run B c.settings (readied plain c) l).steps i
