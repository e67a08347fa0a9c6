-- What a decoding call answers on a clean hook, and what it leaves in every lent buffer, for every manner and every L, D and T allowed: so of the plain call and the hook call, of the
-- screen's calls, and of C's. B is the book, s the settings, w the word that the values show. proofs/Calls.antt shows it. Assumes nothing.
use Rattle.std.specs.Prelude.{◌≡◌, Bool, cond, List, ◌++◌, map, ℕ, drop, replicate, pos, Result, Ok, Err, is_ok}
use Rattle.laws.specs.Lists.{over}
use Rattle.codebook.specs.declared.Refusal.{Refusal}
use Rattle.codebook.specs.Book.{Book}
use Rattle.codebook.specs.Loading.{book_shape}
use Rattle.settings.specs.declared.Settings.{Settings}
use Rattle.codec.specs.declared.HookRecord.{HookRecord}
use Rattle.codec.specs.Code.{read_data}
use Rattle.codec.specs.Record.{no_record, read_record}
use Rattle.codec.specs.Calls.{record_read, hook_read}
use Rattle.machine.specs.declared.Reads.{Reads}
use Rattle.machine.specs.declared.Reads.TheVariants.{Data, Record}
use Rattle.machine.specs.declared.HookDecoded.{HookDecoded}
use Rattle.machine.specs.Calls.{Lent, numbers_needed, bytes_needed, Called}
use Rattle.steprecords.specs.declared.StepRecord.{StepRecord}
use Rattle.steprecords.specs.Records.{record_of}
use Rattle.clean.specs.Clean.{clean_walk, clean_counts}

-- what is read of w's data: done; where a record is read, the record, or 11 where they hold none
unfoldable pub clean_read : Reads → List ℕ → Result HookRecord Refusal
clean_read Data ds = Ok no_record
clean_read Record ds = record_read (read_record ds)

-- the outcome of it
unfoldable pub read_outcome : Result HookRecord Refusal → Result (Unit {0}) Refusal
read_outcome (Ok h) = Ok tt
read_outcome (Err r) = Err r

-- the answer
unfoldable pub clean_answer : Reads → Book → Settings → List ℕ → HookDecoded
clean_answer r B s w =
    let read = clean_read r (read_data B w) in
    record { outcome = read_outcome read; counts = clean_counts B s.visits s.paths; hook = hook_read read }

-- The buffers afterwards: w and its data where they are handed out, the workspace zero at its stated size, and the walk, each with the rest as it was.
unfoldable pub clean_lent : Book → Settings → Lent → List ℕ → Bool → Lent
clean_lent B s l w success =
    record {
      word = cond success w l.word;
      bits = cond success (read_data B w) l.bits;
      numbers = replicate (numbers_needed (book_shape B) s) (pos 0) ++ drop (numbers_needed (book_shape B) s) l.numbers;
      bytes = replicate (bytes_needed (book_shape B) s) 0 ++ drop (bytes_needed (book_shape B) s) l.bytes;
      walk_path = over (map (λ (r : StepRecord). r.path) (clean_walk B)) l.walk_path;
      walk_blocks = over (map (λ (r : StepRecord). r.blocks) (clean_walk B)) l.walk_blocks;
      walk_score = over (map (λ (r : StepRecord). r.score) (clean_walk B)) l.walk_score;
    }

-- A call that reads clean: its answer, every buffer, and the records of its extractions. Word and data are handed out unless 11 is answered.
pub record ReadsClean (r : Reads) (B : Book) (s : Settings) (l : Lent) (w : List ℕ) (call : Called HookDecoded) : Type 0 where
  pub answer : call.answer ≡ clean_answer r B s w
  pub buffers : call.lent ≡ clean_lent B s l w (is_ok (clean_read r (read_data B w)))
  pub walk : map record_of call.steps ≡ clean_walk B

-- the step records afterwards
unfoldable pub clean_records : Book → List StepRecord → List StepRecord
clean_records B old = over (clean_walk B) old
