-- What the parts of a decoding call need and answer: the run, the verdict on what it found, and what is handed out. The call itself is machine/specs/Calls' (call_by, with the
-- reader's run). Assumes nothing.
use Rattle.std.specs.Prelude.{◌≡◌, List, [], ℕ, length, ℤ, Result, Ok, Err}
use Rattle.std.proofs.Math.Option.{Option, none, some}
use Rattle.laws.specs.Lists.{All}
use Rattle.polar.specs.Bits.{Bit}
use Rattle.polar.specs.Layers.{Within}
use Rattle.codebook.specs.declared.Refusal.{Refusal}
use Rattle.codebook.specs.declared.Shape.{Shape}
use Rattle.codebook.specs.declared.Tables.{Tables}
use Rattle.codebook.specs.Book.{Book}
use Rattle.codebook.specs.Loading.{book_shape}
use Rattle.settings.specs.declared.Settings.{Settings}
use Rattle.codec.specs.declared.HookRecord.{HookRecord}
use Rattle.queue.specs.Queue.{Final, found}
use Rattle.machine.specs.declared.Reads.{Reads}
use Rattle.machine.specs.declared.Reads.TheVariants.{Data, Record}
use Rattle.machine.specs.Calls.{verdict, hook_of}
use Rattle.reading.specs.Running.{InTables}

-- a final word as far as the verdicts look at it: its discrepancy and its data
abbrev pub judged_final : ℕ → List ℕ → Final
judged_final discrepancy ds = record { word = []; bits = ds; discrepancy = discrepancy }

-- an answer, unless it is refused
unfoldable pub answered : Option Refusal → HookRecord → Result HookRecord Refusal
answered none h = Ok h
answered (some r) h = Err r

-- the answer of the verdicts: the record that goes with the word, or why it is refused
unfoldable pub judged_as : Reads → Settings → Final → Result HookRecord Refusal
judged_as r s f = let v = verdict r s (found f) in answered v (hook_of r v f)

-- where a record is read, there are 32 data bits
unfoldable pub RecordIn : Reads → List ℕ → Type 0
RecordIn Data ds = Unit {0}
RecordIn Record ds = (length ds ≡ 32) × All Bit ds

-- what a run needs: a loaded book, in tables and with this shape, and values that fit it
pub record Ready (x : Shape) (values : List ℤ) (tables : Tables) : Type 0 where
  pub book : Book
  pub in_tables : InTables book tables
  pub shape : x ≡ book_shape book
  pub fits : length values ≡ x.n
  pub range : All (Within 2047) values
