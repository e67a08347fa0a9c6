-- A run's start: the book in tables, who holds which array at first, and room in the walk. Assumes nothing.
use Rattle.std.specs.Prelude.{◌≡◌, cond, ℕ, ◌≤◌, ◌<◌, length, get_or, eqb, ltb, pos}
use Rattle.codebook.specs.declared.Tables.{Tables}
use Rattle.codebook.specs.Book.{Book, start_of, block_at}
use Rattle.machine.specs.declared.Walk.{Walk}
use Rattle.sharing.specs.Sharing.{one}
use Rattle.steps.specs.Steps.{Booked}

-- how many paths hold id i at height h at first: path 0 alone, which has array 1 at the root and none below
unfoldable pub first_held : ℕ → ℕ → ℕ → ℕ
first_held m h i = cond (eqb h m) (one 1 i) (cond (ltb h m) (one 0 i) 0)

-- the walk has room for n entries
abbrev pub HasEntries : ℕ → Walk → Type 0
HasEntries n walk = (n ≤ length walk.path.now) × (n ≤ length walk.blocks.now) × (n ≤ length walk.score.now)

-- the tables' heights, starts and biases are those of the book's blocks
pub record BlocksIn (B : Book) (tables : Tables) : Type 0 where
  pub height : (b : ℕ) → b < length B.blocks → get_or tables.heights b 0 ≡ (block_at B b).j
  pub start : (b : ℕ) → b < length B.blocks → get_or tables.starts b 0 ≡ start_of B.blocks b
  pub bias : (b : ℕ) → b < length B.blocks → get_or tables.biases b (pos 0) ≡ (block_at B b).bias

-- the tables are the book's: those of kinds and terms, and those of the blocks
pub record InTables (B : Book) (tables : Tables) : Type 0 where
  pub booked : Booked B tables.kinds tables.terms
  pub blocks : BlocksIn B tables
