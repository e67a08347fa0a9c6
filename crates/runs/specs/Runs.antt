-- What is shown of the plain machine's run: its moments, how it ends, and what it finds. Assumes nothing.
use Rattle.std.specs.Prelude.{◌≡◌, not, List, [], ◌∷◌, ℕ, ◌^◌, ◌≤◌, ◌<◌, length, ℤ, T, eqb}
use Rattle.laws.specs.Lists.{All, Distinct, keep}
use Rattle.polar.specs.Bits.{Bit}
use Rattle.polar.specs.Soft.{discrepancy}
use Rattle.codebook.specs.Book.{Book}
use Rattle.codec.specs.Code.{in_code, read_data}
use Rattle.queue.specs.Queue.{Key, before, numbers, Step, Final, End, found, dry, Run}
use Rattle.machine.specs.Machine.{Path, State, Moment, key_of, score_of}

-- ---- the moments

-- the machine with this queue, next number and visits
abbrev pub state_of : List Path → ℕ → List ℕ → State
state_of qs n visits = record { queue = qs; next = n; visits = visits }

-- what the machine holds before the path of a moment is taken
abbrev pub state_at : Moment → State
state_at t = state_of (t.path ∷ t.state.queue) t.state.next t.state.visits

-- the extraction s takes the path of the moment t
pub record Takes (t : Moment) (s : Step) : Type 0 where
  pub path : s.path ≡ t.path.number
  pub blocks : s.blocks ≡ t.path.blocks
  pub score : s.score ≡ t.path.score

-- ---- what holds before each extraction

module _ {A : Type 0} (key : A → Key) where
  -- no path comes before an earlier one
  unfoldable pub Ordered : List A → Type 0
  Ordered [] = Unit {0}
  Ordered (p ∷ qs) = All (λ (q : A). T (not (before (key q) (key p)))) qs × Ordered qs

-- the queue is in order and holds at most D paths
pub record Alive (D : ℕ) (s : State) : Type 0 where
  pub ordered : Ordered key_of s.queue
  pub room : length s.queue ≤ D

-- the queued paths' numbers are below the next one, and distinct
pub record Numbered (s : State) : Type 0 where
  pub below : All (λ (p : Path). p.number < s.next) s.queue
  pub distinct : Distinct (numbers key_of s.queue)

-- the score kept beside a path's bits is that of its bits
abbrev pub OwnScore : Book → List ℤ → Path → Type 0
OwnScore B ys p = p.score ≡ score_of B ys p.blocks p.bits

-- and so of every queued path, ys the received values
pub record Scored (B : Book) (ys : List ℤ) (s : State) : Type 0 where
  pub queued : All (OwnScore B ys) s.queue

-- ---- how the run ends, and what it finds

-- whatever is found has P
unfoldable pub Finds : {A : Type 0} → (A → Type 0) → End A → Type 0
Finds P (found x) = P x
Finds P dry = Unit {0}

-- the run stopped with a path of all N blocks
unfoldable pub Ended : ℕ → Run Path → Type 0
Ended N r = (p : Path) × (r.end ≡ found p) × (p.blocks ≡ N)

-- the extractions that entered block b
unfoldable pub entries : ℕ → List Step → ℕ
entries b steps = length (keep (λ (s : Step). eqb s.blocks b) steps)

-- what the run found: a word of the code, its data, and its discrepancy from the values
pub record Exact (B : Book) (ys : List ℤ) (f : Final) : Type 0 where
  pub size : length f.word ≡ 2 ^ B.m
  pub bits : All Bit f.word
  pub member : T (in_code B f.word)
  pub databits : f.bits ≡ read_data B f.word
  pub discrepancy : f.discrepancy ≡ discrepancy f.word ys
