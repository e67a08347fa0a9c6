-- The plain machine: document 01, "The marker's plain machine" and "The queue". Assumes nothing.
use Rattle.std.specs.Prelude.{cond, List, [], ◌∷◌, ℕ, zero, suc, length, replicate, ℤ, pos, ◌-ℤ◌, eqb}
use Rattle.std.proofs.Math.Option.{Option, none, some}
use Rattle.polar.specs.Value.{R}
use Rattle.codebook.specs.Book.{Book, block_at}
use Rattle.queue.specs.Run.{Next, on, over, Trace, trace, most_extractions}
use Rattle.queue.specs.Queue.{Key, insert, staying, outrun_by, numbers, room_for, crowded_out, visit, Step, End, found, dry, Run, run_in}
use Rattle.machine.specs.Words.{Ranked, nearest, next_after}

-- ---- paths

-- a path is its number, its blocks and its bits of u so far; its score is kept beside them, and is always `score_of` of them (runs/proofs/Scores)
pub record Path : Type 0 where
  pub number : ℕ
  pub blocks : ℕ
  pub bits : List ℕ
  pub score : ℤ

-- what the queue goes by
unfoldable pub key_of : Path → Key
key_of p = record { score = p.score; blocks = p.blocks; number = p.number }

-- the score of bits u over so many blocks: R less the bias of the last block, biases not being summed; the empty path scores 0
unfoldable pub score_of : Book → List ℤ → ℕ → List ℕ → ℤ
score_of B ys zero u = pos 0
score_of B ys (suc b) u = R B.m ys u -ℤ (block_at B b).bias

-- the path with this number, so many blocks and the bits u
unfoldable pub path : Book → List ℤ → ℕ → ℕ → List ℕ → Path
path B ys number blocks u = record { number = number; blocks = blocks; bits = u; score = score_of B ys blocks u }

-- path 0 is empty
unfoldable pub empty_path : Path
empty_path = record { number = 0; blocks = 0; bits = []; score = pos 0 }

-- ---- one extraction

-- step 2: a copy of the path, numbered n, with the next word in its last block, if there is one; the empty path has none
unfoldable pub copy_with : Book → List ℤ → ℕ → ℕ → Option Ranked → Option Path
copy_with B ys n blocks none = none
copy_with B ys n blocks (some x) = some (path B ys n blocks x.bits)

unfoldable pub copy_of : Book → List ℤ → ℕ → ℕ → List ℕ → Option Path
copy_of B ys n zero u = none
copy_of B ys n (suc b) u = copy_with B ys n (suc b) (next_after B ys u b)

-- the queue after step 2, the next number, and the numbers crowded out
pub record Cut : Type 0 where
  pub queue : List Path
  pub next : ℕ
  pub crowded : List ℕ

-- step 2: of the queue qs, D - 2 paths are left, the others are crowded out, and the copy is queued; without a next word nothing is crowded out
unfoldable pub cut : ℕ → List Path → ℕ → Option Path → Cut
cut D qs n none = record { queue = qs; next = n; crowded = [] }
cut D qs n (some copy) = record { queue = insert key_of copy (room_for D qs); next = suc n; crowded = numbers key_of (crowded_out D qs) }

-- step 3 enters block b: the path with its nearest word; there always is one (runs/proofs/Steps, nearest-found)
unfoldable pub advance_with : Book → List ℤ → Path → Option Ranked → Path
advance_with B ys p none = p
advance_with B ys p (some x) = path B ys p.number (suc p.blocks) x.bits

unfoldable pub advance : Book → List ℤ → Path → Path
advance B ys p = advance_with B ys p (nearest B ys p.bits p.blocks)

-- what the machine holds: the queued paths in their order, the next number, the visits to each block
pub record State : Type 0 where
  pub queue : List Path
  pub next : ℕ
  pub visits : List ℕ

-- an extraction: what the machine holds after it, and what it did
pub record Extracted : Type 0 where
  pub state : State
  pub step : Step

-- steps 2 to 4 for the path p, taken from before the queue qs
unfoldable pub extract : Book → ℕ → ℕ → List ℤ → Path → List Path → ℕ → List ℕ → Extracted
extract B L D ys p qs n visits =
    let b = p.blocks in
    let second = cut D qs n (copy_of B ys n b p.bits) in
    let third = insert key_of (advance B ys p) second.queue in
    let visited = visit visits b in
    record {
      state = record { queue = staying key_of L b visited third; next = second.next; visits = visited };
      step =
          record {
            path = p.number;
            blocks = b;
            score = p.score;
            crowded = second.crowded;
            outrun = numbers key_of (outrun_by key_of L b visited third);
          };
    }

-- ---- the run

-- a moment, when step 1 is done: the path taken, and what the machine holds without it
pub record Moment : Type 0 where
  pub path : Path
  pub state : State

-- step 1 takes the first of the queued paths; with none queued the run is dry
unfoldable pub taking_from : List Path → ℕ → List ℕ → Next Moment (End Path)
taking_from [] n visits = over dry
taking_from (p ∷ qs) n visits = on (record { path = p; state = record { queue = qs; next = n; visits = visits } })

-- step 1, from what the machine holds
unfoldable pub taking : State → Next Moment (End Path)
taking s = taking_from s.queue s.next s.visits

-- the extraction at a moment
unfoldable pub extract_at : Book → ℕ → ℕ → List ℤ → Moment → Extracted
extract_at B L D ys t = extract B L D ys t.path t.state.queue t.state.next t.state.visits

-- its step; a path that has all V blocks is taken last, and nothing is removed
unfoldable pub step_at : Book → ℕ → ℕ → List ℤ → Moment → Step
step_at B L D ys t =
    let last : Step = record { path = t.path.number; blocks = t.path.blocks; score = t.path.score; crowded = []; outrun = [] } in
    let more = (extract_at B L D ys t).step in
    cond (eqb t.path.blocks (length B.blocks)) last more

-- what it leads to: the run finds a path that has all V blocks, and else goes on
unfoldable pub next_at : Book → ℕ → ℕ → List ℤ → Moment → Next Moment (End Path)
next_at B L D ys t =
    let last : Next Moment (End Path) = over (found t.path) in
    let more = taking (extract_at B L D ys t).state in
    cond (eqb t.path.blocks (length B.blocks)) last more

-- the run begins with path 0 alone, no visits, next number 1
unfoldable pub first_state : Book → State
first_state B = record { queue = empty_path ∷ []; next = 1; visits = replicate (length B.blocks) 0 }

-- the whole run, moment by moment
unfoldable pub trace_of : Book → ℕ → ℕ → List ℤ → Trace Moment (End Path)
trace_of B L D ys = trace (next_at B L D ys) (most_extractions L (length B.blocks)) (taking (first_state B))

-- its moments
unfoldable pub moments_of : Book → ℕ → ℕ → List ℤ → List Moment
moments_of B L D ys = (trace_of B L D ys).states

-- its extractions, and how it ends: with the path at which step 1 stops (crate runs, proofs/Ends.antt, shows that there always is one)
unfoldable pub run_of : Book → ℕ → ℕ → List ℤ → Run Path
run_of B L D ys = run_in (step_at B L D ys) (trace_of B L D ys)
