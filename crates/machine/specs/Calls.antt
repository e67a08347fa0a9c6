-- What a decoding call answers, and what it leaves in every lent buffer: document 01, "Refusal table" and "The marker's plain machine". One definition serves every call: a
-- manner says how one differs from another, and the run is an argument, so that the plain machine's and the reader's go into the same definition. Assumes nothing.
use Rattle.std.specs.List.{list_all}
use Rattle.std.specs.Prelude.{◌≡◌, Bool, true, false, cond, ◌&&◌, List, [], ◌∷◌, ◌++◌, map, ℕ, ◌+◌, ◌*◌, length, drop, replicate, ℤ, pos, nat_abs, leb, eqb, Option as Beside, Some, None, Result, Ok, Err, is_ok}
use Rattle.std.proofs.Math.Option.{Option, none, some}
use Rattle.std.specs.Borrow.{MutBor}
use denote.Triple.Both.{Both}
use Rattle.laws.specs.Lists.{sum}
use Rattle.polar.specs.Transform.{transform}
use Rattle.polar.specs.Value.{R}
use Rattle.codebook.specs.declared.Refusal.{Refusal}
use Rattle.codebook.specs.declared.Refusal.TheVariants.{Mismatch, BadSetting, BadValue, AboveLimit, Unreadable}
use Rattle.codebook.specs.declared.Shape.{Shape}
use Rattle.codebook.specs.Refusals.{unless}
use Rattle.codebook.specs.Book.{Book}
use Rattle.codebook.specs.Loading.{Load, refused, loaded, load, book_shape}
use Rattle.settings.specs.declared.Settings.{Settings}
use Rattle.settings.specs.Settings.{settings_ok}
use Rattle.codec.specs.declared.HookRecord.{HookRecord}
use Rattle.codec.specs.Code.{free_bits}
use Rattle.codec.specs.Record.{no_record, read_record}
use Rattle.machine.specs.declared.Reads.{Reads}
use Rattle.machine.specs.declared.Reads.TheVariants.{Data, Record}
use Rattle.machine.specs.declared.Manner.{Manner}
use Rattle.machine.specs.declared.Lengths.{Lengths}
use Rattle.machine.specs.declared.Output.{Output}
use Rattle.machine.specs.declared.Workspace.{Workspace}
use Rattle.machine.specs.declared.Walk.{Walk}
use Rattle.machine.specs.declared.Counts.{Counts}
use Rattle.machine.specs.declared.Decoded.{Decoded}
use Rattle.machine.specs.declared.HookDecoded.{HookDecoded}
use Rattle.queue.specs.Run.{most_extractions}
use Rattle.queue.specs.Queue.{Step, Final, End, found, dry, end_as, Run}
use Rattle.machine.specs.Machine.{Path, run_of}

-- ---- what a call is given and lent

-- what it is given: the book's bytes, the settings, and the soft values
pub record Input : Type 0 where
  pub book : List ℕ
  pub settings : Settings
  pub values : List ℤ

-- what it is lent, with what each buffer holds: word and data, the workspace's numbers and bytes, and the walk (document 01's word): path
-- number, blocks and score of each extraction
pub record Lent : Type 0 where
  pub word : List ℕ
  pub bits : List ℕ
  pub numbers : List ℤ
  pub bytes : List ℕ
  pub walk_path : List ℤ
  pub walk_blocks : List ℤ
  pub walk_score : List ℤ

-- both put together from their parts
abbrev pub given : List ℕ → Settings → List ℤ → Input
given book s values = record { book = book; settings = s; values = values }

abbrev pub lent : List ℕ → List ℕ → List ℤ → List ℕ → List ℤ → List ℤ → List ℤ → Lent
lent word bits numbers bytes walk_path walk_blocks walk_score =
    record {
      word = word;
      bits = bits;
      numbers = numbers;
      bytes = bytes;
      walk_path = walk_path;
      walk_blocks = walk_blocks;
      walk_score = walk_score;
    }

-- a slice that is lent to be written, as a contract has it at entry and at exit
abbrev pub Slice : Type 0 → Type 0
Slice A = Both (MutBor (List A)) (MutBor (List A))

-- what is lent, of a call's parameters: as it is at entry, and as it is at exit
abbrev pub lent_before : Slice ℕ → Slice ℕ → Slice ℤ → Slice ℕ → Slice ℤ → Slice ℤ → Slice ℤ → Lent
lent_before word bits numbers bytes path blocks score =
    lent word.entry.now bits.entry.now numbers.entry.now bytes.entry.now path.entry.now blocks.entry.now score.entry.now

abbrev pub lent_after : Slice ℕ → Slice ℕ → Slice ℤ → Slice ℕ → Slice ℤ → Slice ℤ → Slice ℤ → Lent
lent_after word bits numbers bytes path blocks score =
    lent word.exit.now bits.exit.now numbers.exit.now bytes.exit.now path.exit.now blocks.exit.now score.exit.now

-- what a call is lent, as it stands
abbrev pub lent_in : Output → Workspace → Walk → Lent
lent_in out workspace walk =
    lent out.word.now out.bits.now workspace.numbers.now workspace.bytes.now walk.path.now walk.blocks.now walk.score.now

-- the same buffers, as long as they were, whatever they hold
abbrev pub SameWalk : Walk → Walk → Type 0
SameWalk new old =
    (new.path.ghost_name ≡ old.path.ghost_name) × (new.blocks.ghost_name ≡ old.blocks.ghost_name) × (new.score.ghost_name ≡ old.score.ghost_name)
    × (length new.path.now ≡ length old.path.now) × (length new.blocks.now ≡ length old.blocks.now) × (length new.score.now ≡ length old.score.now)

abbrev pub SameOutput : Output → Output → Type 0
SameOutput new old =
    (new.word.ghost_name ≡ old.word.ghost_name) × (new.bits.ghost_name ≡ old.bits.ghost_name)
    × (length new.word.now ≡ length old.word.now) × (length new.bits.now ≡ length old.bits.now)

abbrev pub SameWorkspace : Workspace → Workspace → Type 0
SameWorkspace new old =
    (new.numbers.ghost_name ≡ old.numbers.ghost_name) × (new.bytes.ghost_name ≡ old.bytes.ghost_name)
    × (length new.numbers.now ≡ length old.numbers.now) × (length new.bytes.now ≡ length old.bytes.now)

-- the lengths of both
abbrev pub lengths_of : Input → Lent → Lengths
lengths_of c l =
    record {
      values = length c.values;
      word = length l.word;
      bits = length l.bits;
      numbers = length l.numbers;
      bytes = length l.bytes;
      paths = length l.walk_path;
      blocks = length l.walk_blocks;
      scores = length l.walk_score;
    }

-- ---- tests before the run

-- a test, and the refusal where it is not passed
pub record Test : Type 0 where
  pub passed : Bool
  pub refusal : Refusal

abbrev pub test : Bool → Refusal → Test
test passed refusal = record { passed = passed; refusal = refusal }

-- the refusal of the first test that is not passed
unfoldable pub first_failed : List Test → Option Refusal
first_failed [] = none
first_failed (t ∷ ts) = unless t.passed t.refusal (first_failed ts)

-- the least sizes of the workspace, in numbers and in bytes, and of a walk buffer
unfoldable pub numbers_needed : Shape → Settings → ℕ
numbers_needed x s = s.paths * (2 * x.n + 32)

unfoldable pub bytes_needed : Shape → Settings → ℕ
bytes_needed x s = s.paths * (2 * x.n)

unfoldable pub walk_needed : Shape → Settings → ℕ
walk_needed x s = most_extractions s.visits x.blocks

-- values and word are exactly n long, data exactly k; workspace and walk may be longer than asked
unfoldable pub lengths_ok : Shape → Settings → Lengths → Bool
lengths_ok x s l =
    eqb l.values x.n && eqb l.word x.n && eqb l.bits x.k
    && leb (numbers_needed x s) l.numbers
    && leb (bytes_needed x s) l.bytes
    && leb (walk_needed x s) l.paths
    && leb (walk_needed x s) l.blocks
    && leb (walk_needed x s) l.scores

-- a slice beside, if there is one, has at least, or exactly, so many entries
unfoldable pub at_least : ℕ → Beside ℕ → Bool
at_least n None = true
at_least n (Some size) = leb n size

unfoldable pub exactly : ℕ → Beside ℕ → Bool
exactly n None = true
exactly n (Some size) = eqb size n

-- how many entries counts and record have as slices
abbrev pub counts_size : ℕ
counts_size = 4

abbrev pub record_size : ℕ
record_size = 4

-- there are enough step records; counts and record have their size
unfoldable pub beside_ok : Manner → Shape → Settings → Bool
beside_ok k x s = at_least (walk_needed x s) k.steps && exactly counts_size k.counts && exactly record_size k.hook

-- a record needs k = 32
unfoldable pub holds : Reads → Shape → Bool
holds Data x = true
holds Record x = eqb x.k 32

-- every value lies in -2,047 to 2,047
unfoldable pub values_ok : List ℤ → Bool
values_ok = list_all (λ y. leb (nat_abs y) 2047)

-- the tests of a call whose book loads, in document 01's order: 8, 7, 9
unfoldable pub tests_before : Manner → Shape → Settings → Lengths → List ℤ → List Test
tests_before k x s l ys =
    test (settings_ok s) BadSetting
    ∷ test (holds k.reads x) Mismatch
    ∷ test (lengths_ok x s l) Mismatch
    ∷ test (beside_ok k x s) Mismatch
    ∷ test (values_ok ys) BadValue
    ∷ []

-- why a call with a good book makes no run
unfoldable pub barred : Manner → Book → Input → Lent → Option Refusal
barred k B c l = first_failed (tests_before k (book_shape B) c.settings (lengths_of c l) c.values)

-- the values that the run is made from: those given
abbrev pub readied : Manner → Input → List ℤ
readied k c = c.values

-- ---- what a run comes to

-- what a path with all blocks comes to: the word is u·A of its bits, its data the bits at the free indices, its discrepancy R without the sign
unfoldable pub final_of : Book → List ℤ → Path → Final
final_of B ys p =
    record {
      word = transform B.m p.bits;
      bits = free_bits B.kinds p.bits;
      discrepancy = nat_abs (R B.m ys p.bits);
    }

-- how a run ends, with the final word for the path found
unfoldable pub end_of : Book → List ℤ → End Path → End Final
end_of B ys e = end_as (final_of B ys) e

-- the plain machine's run, as a call has it
unfoldable pub machine_run : Book → Settings → List ℤ → Lent → Run Final
machine_run B s ys l =
    let r = run_of B s.visits s.paths ys in
    record { steps = r.steps; end = end_of B ys r.end }

-- the final word, or nothing where a run is dry, as no run of an accepted call is (runs/proofs/Ends)
unfoldable pub final_in : End Final → Final
final_in (found f) = f
final_in dry = record { word = []; bits = []; discrepancy = 0 }

-- ---- verdicts after the run

-- whether a final word is found, and within the limit
unfoldable pub within : ℕ → End Final → Bool
within limit (found f) = leb f.discrepancy limit
within limit dry = false

-- whether there is a record
unfoldable pub is_read : Option HookRecord → Bool
is_read none = false
is_read (some h) = true

-- where a record is read: whether the data hold one
unfoldable pub record_tests : Reads → Final → List Test
record_tests Data f = []
record_tests Record f = test (is_read (read_record f.bits)) Unreadable ∷ []

-- the verdicts on how a run ended, in document 01's order: 10, 11
unfoldable pub verdicts : Reads → Settings → End Final → List Test
verdicts r s end = test (within s.limit end) AboveLimit ∷ record_tests r (final_in end)

-- the refusal where a verdict goes against the word, if one does
unfoldable pub verdict : Reads → Settings → End Final → Option Refusal
verdict r s end = first_failed (verdicts r s end)

-- ---- what is handed out

-- the outcome by what was refused
unfoldable pub outcome_of : Option Refusal → Result (Unit {0}) Refusal
outcome_of none = Ok tt
outcome_of (some r) = Err r

-- a record, or zeros, passed
unfoldable pub record_or : Option HookRecord → HookRecord
record_or none = no_record
record_or (some h) = h

-- the record that is answered: that of the word's data, where one is read and nothing is refused
unfoldable pub hook_of : Reads → Option Refusal → Final → HookRecord
hook_of Data v f = no_record
hook_of Record none f = record_or (read_record f.bits)
hook_of Record (some r) f = no_record

-- the counts of a run
unfoldable pub counts_of : List Step → Final → Counts
counts_of steps f =
    record {
      extractions = length steps;
      crowded = sum (map (λ (s : Step). length s.crowded) steps);
      outrun = sum (map (λ (s : Step). length s.outrun) steps);
      discrepancy = f.discrepancy;
    }

-- the counts where no run is made
unfoldable pub no_counts : Counts
no_counts = record { extractions = 0; crowded = 0; outrun = 0; discrepancy = 0 }

-- a walk buffer: from entry 0 on an entry for each extraction, the rest as it was
unfoldable pub walked : (Step → ℤ) → List Step → List ℤ → List ℤ
walked entry steps old = map entry steps ++ drop (length steps) old

-- the buffers after a run: word and data are written on success alone, the walk always, and the workspace is zero at its stated size
unfoldable pub after_run : Shape → Settings → Lent → List Step → Final → Bool → Lent
after_run x s l steps f success =
    record {
      word = cond success f.word l.word;
      bits = cond success f.bits l.bits;
      numbers = replicate (numbers_needed x s) (pos 0) ++ drop (numbers_needed x s) l.numbers;
      bytes = replicate (bytes_needed x s) 0 ++ drop (bytes_needed x s) l.bytes;
      walk_path = walked (λ s. pos s.path) steps l.walk_path;
      walk_blocks = walked (λ s. pos s.blocks) steps l.walk_blocks;
      walk_score = walked (λ s. s.score) steps l.walk_score;
    }

-- ---- the call

-- a call's answer, the buffers afterwards, and the extractions of its run: none where it makes none
pub record Called (A : Type 0) : Type 0 where
  pub answer : A
  pub lent : Lent
  pub steps : List Step

-- a refusal with 1 to 9 gives counts of 0, a record of zeros, passed, and leaves every buffer
unfoldable pub refused_as : Refusal → HookDecoded
refused_as r = record { outcome = Err r; counts = no_counts; hook = no_record }

unfoldable pub refused_call : Refusal → Lent → Called HookDecoded
refused_call r l = record { answer = refused_as r; lent = l; steps = [] }

-- after a run: word, data and record are handed out exactly where no verdict is against them
unfoldable pub ran_call : Reads → Shape → Settings → Lent → Run Final → Called HookDecoded
ran_call r x s l run =
    let f = final_in run.end in
    let v = verdict r s run.end in
    record {
      answer = record { outcome = outcome_of v; counts = counts_of run.steps f; hook = hook_of r v f };
      lent = after_run x s l run.steps f (is_ok (outcome_of v));
      steps = run.steps;
    }

-- by a run that is made of a book, settings, values and what is lent
module _ (run : Book → Settings → List ℤ → Lent → Run Final) where
  -- on a loaded book: barred, or run
  unfoldable pub unbarred : Manner → Book → Input → Lent → Option Refusal → Called HookDecoded
  unbarred k B c l (some r) = refused_call r l
  unbarred k B c l none = ran_call k.reads (book_shape B) c.settings l (run B c.settings (readied k c) l)

  -- by what loading comes to, and the whole call
  unfoldable pub call_with : Manner → Load → Input → Lent → Called HookDecoded
  call_with k (refused r) c l = refused_call r l
  call_with k (loaded B) c l = unbarred k B c l (barred k B c l)

  unfoldable pub call_by : Manner → Input → Lent → Called HookDecoded
  call_by k c l = call_with k (load c.book) c l

-- document 01's call, by the plain machine's run
abbrev pub call_of : Manner → Input → Lent → Called HookDecoded
call_of k c l = call_by machine_run k c l

-- ---- its instances

-- the plain call and the hook call, with nothing lent beside
abbrev pub plain : Manner
plain = record { reads = Data; steps = None; counts = None; hook = None }

abbrev pub hooked : Manner
hooked = record { reads = Record; steps = None; counts = None; hook = None }

-- an answer without its record, and with the record of a call that reads none
abbrev pub bare : HookDecoded → Decoded
bare a = record { outcome = a.outcome; counts = a.counts }

abbrev pub unread : Decoded → HookDecoded
unread a = record { outcome = a.outcome; counts = a.counts; hook = no_record }

abbrev pub plain_call : Input → Lent → Called Decoded
plain_call c l = let w = call_of plain c l in record { answer = bare w.answer; lent = w.lent; steps = w.steps }

abbrev pub hook_call : Input → Lent → Called HookDecoded
hook_call c l = call_of hooked c l
