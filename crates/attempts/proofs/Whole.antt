-- Demand 3 of a call that makes a run: the reader's run of the call is the machine's (the whole-run theorem), its extractions remove what they say, and the counts and the walk
-- that the call leaves are those of that run. So the call by the reader's run is document 01's, by the machine's. Assumes nothing.
use mathlib.Core.Path.{◌≡◌, refl, ap, ap₂}
use mathlib.Core.List.{List}
use mathlib.Core.Option.{Option, none, some}
use Prim.Native.Nat.{◌+◌, ◌*◌, ◌^◌}
use native.Mathlib.Omega.{arith}
use lib.ListN.{take}
use lib.IntN.{ℤ}
use lib.Seq.{length-take-le}
use Rattle.codebook.specs.declared.Refusal.{Refusal}
use Rattle.codebook.specs.declared.Shape.{Shape}
use Rattle.codebook.specs.Book.{Book}
use Rattle.codebook.specs.Loading.{Load, refused, loaded, load, book_shape}
use Rattle.codebook.proofs.Loaded.{loaded-valid}
use Rattle.settings.specs.declared.Settings.{Settings}
use Rattle.machine.specs.declared.Manner.{Manner}
use Rattle.queue.specs.Queue.{Step, Final, End}
use Rattle.machine.specs.Calls.{Input, Lent, lengths_of, numbers_needed, barred, readied, machine_run, after_run, ran_call, unbarred, call_with, call_by, call_of}
use Rattle.machine.proofs.Unbarred.{Free}
use Rattle.machine.proofs.Called.{call-ran}
use Rattle.runs.specs.Handed.{Made}
use Rattle.runs.proofs.Handed.{made-free}
use Rattle.heights.specs.Workspace.{Room}
use Rattle.reader.specs.Agree.{Agree}
use Rattle.reader.proofs.Agree.{agree}
use Rattle.reader.proofs.Moments.{run-steps-are}
use Rattle.reader.proofs.Removed.{run-removed}
use Rattle.reader.proofs.Bounds.{steps-most, entries-most}
use Rattle.reading.proofs.Received.{received-root}
use Rattle.attempts.specs.Reading.{arrays_lent, reader_run}
use Rattle.attempts.specs.WholeRun.{Agreed, WholeRun}

module _ (k : Manner) (c : Input) (l : Lent) (B : Book) (m : Made k c l B) where
  abbrev s : Settings
  s = c.settings

  abbrev x : Shape
  x = book_shape B

  abbrev ys : List ℤ
  ys = readied k c

  free : Free k x s (lengths_of c l) c.values
  free = made-free k c l B m

  -- the workspace lent has room for the arrays, and their root holds the values
  lent-room : Room B.m s.paths (take (numbers_needed x s) l.numbers)
  unfolding Room numbers_needed
  lent-room = let e = length-take-le (s.paths * (2 * 2 ^ B.m + 32)) l.numbers free.sized.numbers in rw e (omega arith)

  lent-root : (arrays_lent x s ys l).vals B.m 1 ≡ ys
  unfolding arrays_lent
  lent-root = received-root B.m s.paths ys (take (numbers_needed x s) l.numbers) lent-room (omega (arith, free.ranged.alive)) free.sized.values _

  -- the reader's run of a call that nothing bars is the machine's
  pub runs-agree : Agree B s.visits s.paths ys (arrays_lent x s ys l)
  runs-agree = agree c.book B m.loads s.visits s.paths ys (arrays_lent x s ys l) free.ranged.visited free.sized.values lent-root

  pub runs_same : reader_run B s ys l ≡ machine_run B s ys l
  unfolding reader_run machine_run
  runs_same = ap₂ (λ (steps : List Step) (end : End Final). record { steps = steps; end = end }) runs-agree.steps runs-agree.end

  agreed : let w = ran_call k.reads x s l (reader_run B s ys l) in Agreed B s ys l w.answer.counts w.lent
  unfolding reader_run ran_call after_run
  agreed =
      let ok = loaded-valid c.book B m.loads in
      record {
        runs = runs-agree;
        moments = run-steps-are B s.visits s.paths (arrays_lent x s ys l);
        removed = run-removed B ys ok free.sized.values s.visits s.paths (arrays_lent x s ys l) lent-root;
        few = steps-most B ys ok free.sized.values s.visits s.paths (arrays_lent x s ys l) lent-root free.ranged.visited;
        entered = entries-most B ys ok free.sized.values s.visits s.paths (arrays_lent x s ys l) lent-root free.ranged.visited;
        counted = refl;
        paths = refl;
        blocks = refl;
        scores = refl;
      }

-- ---- the call, for every input

-- the reader's run of the call, where it makes one, is the whole run
pub whole-call : (k : Manner) (c : Input) (l : Lent) → WholeRun k c l (call_by reader_run k c l).answer.counts (call_by reader_run k c l).lent
unfolding WholeRun
whole-call k c l B m = rw (call-ran reader_run k c l B m.loads m.unbarred) (agreed k c l B m)

-- the call by the reader's run is the call by the machine's
pub calls-agree : (k : Manner) (c : Input) (l : Lent) → call_by reader_run k c l ≡ call_of k c l
unfolding call_by call_with unbarred
calls-agree k c l = go (load c.book) refl
  where
    checked : (B : Book) → load c.book ≡ loaded B → (o : Option Refusal) → barred k B c l ≡ o → unbarred reader_run k B c l o ≡ unbarred machine_run k B c l o
    checked B e (some r) b = refl
    checked B e none b = ap (ran_call k.reads (book_shape B) c.settings l) (runs_same k c l B (record { loads = e; unbarred = b }))

    go : (y : Load) → load c.book ≡ y → call_with reader_run k y c l ≡ call_with machine_run k y c l
    go (refused r) e = refl
    go (loaded B) e = checked B e (barred k B c l) refl
