-- The reader's decoder, as a function on its own state: 002's Figures 2 and 8 to 11 under document 01's queue. Assumes nothing.
use Rattle.std.specs.Prelude.{cond, List, [], ◌∷◌, ℕ, zero, suc, ◌+◌, ◌-◌, length, replicate, eqb}
use Rattle.std.proofs.Math.Option.{Option, none, some}
use Rattle.codebook.specs.Book.{Book, start_of, block_at}
use Rattle.codec.specs.Code.{read_data}
use Rattle.queue.specs.Run.{Next, on, over, Trace, trace, most_extractions}
use Rattle.queue.specs.Queue.{insert, staying, outrun_by, numbers, room_for, crowded_out, visit, Step, Final, End, found, dry, Run, run_in}
use Rattle.reader.specs.Arrays.{Arrays, View, vals_of, sums_of, put_sums, claim, descend, joined}
use Rattle.outer.specs.Words.{Word, nearest, next_after}
use Rattle.reader.specs.Paths.{Path, score_of, key_of, first_path, last_word, own_word, place, ids_of, view_of}

-- ---- step 2: the copy

-- the queue after step 2, the next number, the numbers crowded out, and the arrays
pub record Cut : Type 0 where
  pub arrays : Arrays
  pub queue : List Path
  pub next : ℕ
  pub crowded : List ℕ

-- A copy of p, numbered n, with the word x in its last block b. The queue is cut first. The copy holds p's arrays, and then takes one of its
-- own where its word will go; where that is of the block's own height, the block's values go along, since the copy finds its own next word from them.
unfoldable pub copy_with : Book → ℕ → Arrays → Path → ℕ → List Path → ℕ → Option Word → Cut
copy_with B D A p b qs n none = record { arrays = A; queue = qs; next = n; crowded = [] }
copy_with B D A p b qs n (some x) =
    let v = claim (p.ids ∷ ids_of (room_for D qs)) (block_at B b).j (place B b) (view_of A p) in
    let made : Path =
    record {
      number = n;
      blocks = suc b;
      spent = p.spent;
      cost = x.cost;
      setting = x.setting;
      earlier = p.earlier;
      parities = x.parities;
      ids = v.ids;
    } in
    record {
      arrays = v.arrays;
      queue = insert (key_of B) made (room_for D qs);
      next = suc n;
      crowded = numbers (key_of B) (crowded_out D qs);
    }

-- the next word is found from the block's values, which the path's array still holds; the empty path has none
unfoldable pub copy : Book → ℕ → Arrays → Path → List Path → ℕ → ℕ → Cut
copy B D A p qs n zero = record { arrays = A; queue = qs; next = n; crowded = [] }
copy B D A p qs n (suc b) =
    copy_with B D A p b qs n (next_after (own_word B p b) B (vals_of (view_of A p) (block_at B b).j) p.earlier b)

-- ---- step 3: the next block

-- the word of the last block, joined upwards, goes into the sums (IterativelyUpdateC)
unfoldable pub commit : Book → List (ℕ → ℕ) → Path → ℕ → View → View
commit B others p zero v = v
commit B others p (suc b) v =
    let j = (block_at B b).j in
    let h = place B b in
    put_sums others h (joined (sums_of v) j (h - j) (last_word B p b)) v

-- what the path sees, among other paths with these ids, once its last word is in the sums and the values of its next block b are there; and once
-- an array for that block's word is taken
abbrev pub down_to : Book → List (ℕ → ℕ) → Arrays → Path → ℕ → View
down_to B others A p b = descend others (B.m - (block_at B b).j) B.m (start_of B.blocks b) (commit B others p b (view_of A p))

abbrev pub next_view : Book → List (ℕ → ℕ) → Arrays → Path → ℕ → View
next_view B others A p b = claim others (block_at B b).j (place B b) (down_to B others A p b)

-- the path with its next block, and the arrays then
pub record Moved : Type 0 where
  pub arrays : Arrays
  pub path : Path

-- p with the word x in its next block, v what it sees then; a block always has a nearest word
unfoldable pub move_with : Arrays → Path → View → Option Word → Moved
move_with A p v none = record { arrays = A; path = p }
move_with A p v (some x) =
    record {
      arrays = v.arrays;
      path =
          record {
            number = p.number;
            blocks = suc p.blocks;
            spent = p.spent + p.cost;
            cost = x.cost;
            setting = x.setting;
            earlier = p.parities;
            parities = x.parities;
            ids = v.ids;
          };
    }

-- commit the last word, compute the values of the nodes that start here, take an array for the new word, find the nearest one
unfoldable pub move : Book → Arrays → Path → List Path → Moved
move B A p qs =
    let b = p.blocks in
    let v = next_view B (ids_of qs) A p b in
    move_with A p v (nearest B (vals_of v (block_at B b).j) p.parities b)

-- ---- one extraction

-- what the reader holds
pub record State : Type 0 where
  pub arrays : Arrays
  pub queue : List Path
  pub next : ℕ
  pub visits : List ℕ

-- what the reader holds after an extraction, and what the extraction was
pub record Extracted : Type 0 where
  pub state : State
  pub step : Step

-- steps 2 to 4 for the path p, taken from before the queue qs
unfoldable pub extract : Book → ℕ → ℕ → Arrays → Path → List Path → ℕ → List ℕ → Extracted
extract B L D A p qs n visits =
    let b = p.blocks in
    let second = copy B D A p qs n b in
    let third = move B second.arrays p second.queue in
    let queued = insert (key_of B) third.path second.queue in
    let visited = visit visits b in
    record {
      state = record { arrays = third.arrays; queue = staying (key_of B) L b visited queued; next = second.next; visits = visited };
      step =
          record {
            path = p.number;
            blocks = b;
            score = score_of B p b;
            crowded = second.crowded;
            outrun = numbers (key_of B) (outrun_by (key_of B) L b visited queued);
          };
    }

-- ---- the run

-- a moment, when step 1 is done: the path taken, and what the reader holds without it
pub record Moment : Type 0 where
  pub path : Path
  pub state : State

-- step 1 takes the first of the queued paths; with none queued the run is dry
unfoldable pub taking_from : Arrays → List Path → ℕ → List ℕ → Next Moment (End Final)
taking_from A [] n visits = over dry
taking_from A (p ∷ qs) n visits = on (record { path = p; state = record { arrays = A; queue = qs; next = n; visits = visits } })

-- step 1, from what the reader holds
unfoldable pub taking : State → Next Moment (End Final)
taking s = taking_from s.arrays s.queue s.next s.visits

-- the extraction at a moment
unfoldable pub extract_at : Book → ℕ → ℕ → Moment → Extracted
extract_at B L D t = extract B L D t.state.arrays t.path t.state.queue t.state.next t.state.visits

-- its step; a path that has all V blocks is taken last, and nothing is removed
unfoldable pub step_at : Book → ℕ → ℕ → Moment → Step
step_at B L D t =
    let last : Step =
    record { path = t.path.number; blocks = t.path.blocks; score = score_of B t.path t.path.blocks; crowded = []; outrun = [] } in
    let more = (extract_at B L D t).step in
    cond (eqb t.path.blocks (length B.blocks)) last more

-- what a path that has all V blocks comes to: its last block's word goes into the sums, which at the root are the final word
unfoldable pub final_at : Book → Moment → Final
final_at B t =
    let p = t.path in
    let word = sums_of (commit B (ids_of t.state.queue) p p.blocks (view_of t.state.arrays p)) B.m in
    record { word = word; bits = read_data B word; discrepancy = p.spent + p.cost }

-- what an extraction leads to: the run finds the final word, and else goes on
unfoldable pub next_at : Book → ℕ → ℕ → Moment → Next Moment (End Final)
next_at B L D t =
    let last : Next Moment (End Final) = over (found (final_at B t)) in
    let more = taking (extract_at B L D t).state in
    cond (eqb t.path.blocks (length B.blocks)) last more

-- the run begins with path 0 alone, no visits, next number 1, and arrays whose root values, array 1, are the received ones
unfoldable pub first_state : Book → Arrays → State
first_state B A = record { arrays = A; queue = first_path B ∷ []; next = 1; visits = replicate (length B.blocks) 0 }

-- the whole run, moment by moment
unfoldable pub trace_of : Book → ℕ → ℕ → Arrays → Trace Moment (End Final)
trace_of B L D A = trace (next_at B L D) (most_extractions L (length B.blocks)) (taking (first_state B A))

-- its moments
unfoldable pub moments_of : Book → ℕ → ℕ → Arrays → List Moment
moments_of B L D A = (trace_of B L D A).states

-- its extractions, and how it ends
unfoldable pub run_of : Book → ℕ → ℕ → Arrays → Run Final
run_of B L D A = run_in (step_at B L D) (trace_of B L D A)
