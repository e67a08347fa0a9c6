-- What the parts of one extraction need: the path taken at a moment of the reader's run is in hand, and memory stands for what the reader holds then. Assumes nothing.
use Rattle.std.specs.Prelude.{◌≡◌, List, ◌∷◌, ℕ, suc, ◌+◌, ◌≤◌, length, get_or}
use Rattle.std.proofs.Math.Option.{some}
use Rattle.codebook.specs.Book.{block_at}
use Rattle.queue.specs.Queue.{visit}
use Rattle.outer.specs.Words.{Word, nearest}
use Rattle.reader.specs.Arrays.{vals_of}
use Rattle.reader.specs.Paths.{ids_of}
use Rattle.reader.specs.Reader.{next_view}
use Rattle.reader.specs.Moments.{Moment, RunMoment}
use Rattle.standing.specs.Seen.{Memory}
use Rattle.standing.specs.Standing.{InHand}
use Rattle.words.specs.declared.Block.{Block}
use Rattle.words.specs.Kept.{Table, Kepts}
use Rattle.steps.specs.Steps.{BlockIs, Booked, Moving}

-- the reader's moment at which the path in hand is taken, n being the next number and `visits` the visits so far
abbrev pub moment_in : {m D N : ℕ} {x : Memory} {e : ℕ} {es vs : List ℕ} → InHand m D N x e es vs → ℕ → List ℕ → Moment
moment_in h n visits = record { path = h.taken; state = record { arrays = h.arrays; queue = h.rest; next = n; visits = visits } }

-- step 2: the path taken at a moment of a run, k extractions being done, is in hand; it has a next block, and its last block, if it has one, is `last`; and the words kept
pub record Seconding (m L D N k n : ℕ) (x : Memory) (e : ℕ) (es vs : List ℕ) (kinds terms : List ℕ) (last : Block) (kept : Table) : Type 0 where
  pub hand : InHand m D N x e es vs
  pub booked : Booked hand.book kinds terms
  pub visits : List ℕ
  pub moment : RunMoment hand.book L D k (moment_in hand n visits)
  pub more : hand.taken.blocks ≡ length hand.book.blocks → ⊥
  pub last-is : (b : ℕ) → hand.taken.blocks ≡ suc b → BlockIs hand.book b last
  pub known : Kepts hand.book hand.arrays kept (e ∷ es) (hand.taken ∷ hand.rest)

-- step 3: a path in hand that has a next block, `at`; the words kept for the others; the nearest word of that block
pub record Thirding (m D N : ℕ) (x : Memory) (e : ℕ) (es vs : List ℕ) (kinds terms : List ℕ) (last at : Block) (kept : Table) : Type 0 where
  pub moving : Moving m D N x e es vs last at
  pub known : Kepts moving.hand.book moving.hand.arrays kept es moving.hand.rest
  pub booked : Booked moving.hand.book kinds terms
  pub word : Word
  pub found : (let c = moving.hand in let b = c.taken.blocks in
      nearest c.book (vals_of (next_view c.book (ids_of c.rest) c.arrays c.taken b) (block_at c.book b).j) c.taken.parities b ≡ some word)
  pub total : moving.hand.taken.spent + moving.hand.taken.cost + word.cost ≤ 1048064

-- all of it: the path taken at a moment of a run, k extractions being done, is in hand, and it has a next block, `at`; the table counts the visit to it as the reader does; and the words kept
pub record Extracting (m L D N k n : ℕ) (x : Memory) (e : ℕ) (es vs : List ℕ) (kinds terms : List ℕ) (last at : Block) (kept : Table) (counts : List ℕ) : Type 0 where
  pub hand : InHand m D N x e es vs
  pub booked : Booked hand.book kinds terms
  pub visits : List ℕ
  pub moment : RunMoment hand.book L D k (moment_in hand n visits)
  pub next : BlockIs hand.book hand.taken.blocks at
  pub last-is : (b : ℕ) → hand.taken.blocks ≡ suc b → BlockIs hand.book b last
  pub visited : (let b = hand.taken.blocks in get_or (visit visits b) b 0 ≡ get_or (visit counts b) b 0)
  pub known : Kepts hand.book hand.arrays kept (e ∷ es) (hand.taken ∷ hand.rest)
