-- What the path in a slot sees, as the tables and the workspace hold it: the reader's view (reader/specs/Arrays) read off memory; and what a step
-- does to it. Assumes nothing.
use Rattle.std.specs.Prelude.{◌≡◌, List, ◌∷◌, ℕ, ◌+◌, ◌*◌, ◌≤◌, ◌<◌, ℤ, length, get_or}
use Rattle.reader.specs.Arrays.{View}
use Rattle.standing.specs.declared.Memory.{Memory as Lending}
use Rattle.sharing.specs.Sharing.{Held, Rows, HasIds, Counted}
use Rattle.heights.specs.Workspace.{Room, Parts}

-- the tables of ids and holders, and the workspace's values and sums
pub record Memory : Type 0 where
  pub rows : List ℕ
  pub holders : List ℕ
  pub numbers : List ℤ
  pub bytes : List ℕ

-- memory with these four
unfoldable pub memory : List ℕ → List ℕ → List ℤ → List ℕ → Memory
memory rows holders numbers bytes = record { rows = rows; holders = holders; numbers = numbers; bytes = bytes }

-- what the memory of a run holds
abbrev pub contents : Lending → Memory
contents x = memory x.rows.now x.holders x.numbers.now x.bytes.now

-- it is the same memory, of the same size, whatever it holds
abbrev pub SameMemory : Lending → Lending → Type 0
SameMemory new old =
    (new.rows.ghost_name ≡ old.rows.ghost_name) × (new.numbers.ghost_name ≡ old.numbers.ghost_name) × (new.bytes.ghost_name ≡ old.bytes.ghost_name)
    × (length new.rows.now ≡ length old.rows.now) × (length new.numbers.now ≡ length old.numbers.now) × (length new.bytes.now ≡ length old.bytes.now)

-- it holds what it held, but for the holders
abbrev pub HoldersOnly : Lending → Lending → Type 0
HoldersOnly new old = (new.rows.now ≡ old.rows.now) × (new.numbers.now ≡ old.numbers.now) × (new.bytes.now ≡ old.bytes.now)

-- the table of holders and the workspace have N arrays of each height up to m
pub record HasArrays (m N : ℕ) (x : Memory) : Type 0 where
  pub deep : m ≤ 9
  pub many : N ≤ 256
  pub held : Held x.holders
  pub numbers : Room m N x.numbers
  pub bytes : Room m N x.bytes

-- so many arrays of each height are enough for so many slots: a path always finds one that no other holds. (Today the two numbers are equal.)
abbrev pub Enough : ℕ → ℕ → Type 0
Enough D N = D ≤ N

-- memory has the rows of D slots, and N arrays of each height up to m, which are enough
pub record Lent (m D N : ℕ) (x : Memory) : Type 0 where
  pub few : D ≤ 256
  pub rows : Rows D x.rows
  pub has : HasArrays m N x
  pub enough : Enough D N

-- the path in slot s sees v of the N arrays, and the other paths alive, fewer than N, have these ids
pub record Seen (m N s : ℕ) (x : Memory) (others : List (ℕ → ℕ)) (v : View) : Type 0 where
  pub ids : HasIds m x.rows s v.ids
  pub low : (h : ℕ) → h ≤ m → v.ids h ≤ N
  pub counted : Counted m N x.holders (v.ids ∷ others)
  pub few : length others < N
  pub vals : Parts m N x.numbers v.arrays.vals
  pub sums : Parts m N x.bytes v.arrays.sums

-- the path in slot s sees something that a step can work on
pub record Viewed (m N s : ℕ) (x : Memory) (needs : View → Type 0) : Type 0 where
  pub others : List (ℕ → ℕ)
  pub view : View
  pub seen : Seen m N s x others view
  pub met : needs view

-- whatever it saw that a step can work on, it sees what the step makes of it
unfoldable pub StepSeen : ℕ → ℕ → ℕ → Memory → Memory → (View → Type 0) → (List (ℕ → ℕ) → View → View) → Type 0
StepSeen m N s x y needs step = (others : List (ℕ → ℕ)) (v : View) → Seen m N s x others v → needs v → Seen m N s y others (step others v)

-- of the rows, the ids of slot s at the heights up to m alone may have changed
pub record IdsOnly (m s : ℕ) (old new : List ℕ) : Type 0 where
  pub size : length new ≡ length old
  pub before : (k : ℕ) → k < s * 16 → get_or new k 0 ≡ get_or old k 0
  pub after : (k : ℕ) → s * 16 + m < k → get_or new k 0 ≡ get_or old k 0
