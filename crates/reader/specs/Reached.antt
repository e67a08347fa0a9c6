-- What holds of the reader's queue at every extraction: each path stands for a path of the machine, by the bits u of that path; it has the arrays
-- that it will look at; the paths are at most D, and so are the ids that they hold. Assumes nothing.
use Rattle.std.specs.Prelude.{◌≡◌, List, [], ℕ, zero, suc, ◌+◌, ◌-◌, ◌^◌, ◌≤◌, ◌<◌, length, take, ℤ}
use Rattle.laws.specs.Lists.{All}
use Rattle.laws.specs.Pairs.{Paired}
use Rattle.polar.specs.Bits.{Bit}
use Rattle.polar.specs.Node.{rest, rest_bits, first, child}
use Rattle.polar.specs.Value.{costs}
use Rattle.codebook.specs.Book.{Book, start_of, block_at}
use Rattle.codec.specs.Ties.{parities_of, filled}
use Rattle.machine.specs.Machine as M
use Rattle.reader.specs.Arrays.{Arrays, View, vals_of, sums_of}
use Rattle.reader.specs.Paths.{Path, score_of, place, view_of}

-- ---- what the arrays hold, by the bits u

-- S holds the values of the d nodes on the way to t
unfoldable pub Vals : ℕ → ℕ → List ℤ → List ℕ → ℕ → (ℕ → List ℤ) → Type 0
Vals zero m ys u t S = Unit {0}
Vals (suc d) zero ys u t S = Unit {0}
Vals (suc d) (suc m) ys u t S = (S m ≡ child m t (first m u) ys) × Vals d m (child m t (first m u) ys) (rest_bits m t u) (rest m t) S

-- C holds the words of the first halves that lie before t
unfoldable pub Sums : ℕ → List ℕ → ℕ → (ℕ → List ℕ) → Type 0
Sums zero u t C = Unit {0}
Sums (suc m) u t C = (2 ^ m ≤ t → C m ≡ first m u) × Sums m (rest_bits m t u) (rest m t) C

-- ---- what is true of a queued path

-- The path p, whose last block is b, has the bits u, and v is what it sees. way k is the values of the node of height k on the way from the root to
-- the block; p sees them at every height but the one where the block's word will go (same), and at the block's own height always (own).
pub record Good (B : Book) (ys : List ℤ) (v : View) (u : List ℕ) (p : Path) (b : ℕ) : Type 0 where
  pub within : b < length B.blocks
  pub size : length u ≡ start_of B.blocks b + 2 ^ (block_at B b).j
  pub bits : All Bit u
  pub spent : p.spent ≡ costs B.m ys u 0 (start_of B.blocks b)
  pub cost : p.cost ≡ costs B.m ys u (start_of B.blocks b) (2 ^ (block_at B b).j)
  pub setting : u ≡ filled B (take (start_of B.blocks b) u) b p.setting
  pub earlier : p.earlier ≡ parities_of B (take (start_of B.blocks b) u)
  pub way : ℕ → List ℤ
  pub root : way B.m ≡ ys
  pub vals : Vals (B.m - (block_at B b).j) B.m ys u (start_of B.blocks b) way
  pub same : (k : ℕ) → (k ≡ place B b → ⊥) → vals_of v k ≡ way k
  pub own : vals_of v (block_at B b).j ≡ way (block_at B b).j
  pub sums : Sums (suc B.m) u (start_of B.blocks b) (sums_of v)

-- path 0, before its first block
pub record Empty (B : Book) (ys : List ℤ) (v : View) (u : List ℕ) (p : Path) : Type 0 where
  pub bits : u ≡ []
  pub spent : p.spent ≡ 0
  pub cost : p.cost ≡ 0
  pub root : vals_of v B.m ≡ ys

-- p with so many blocks
unfoldable pub Inv : Book → List ℤ → View → List ℕ → Path → ℕ → Type 0
Inv B ys v u p zero = Empty B ys v u p
Inv B ys v u p (suc b) = Good B ys v u p b

-- p, with what it keeps of the bits u and what it sees in the arrays
pub record HoldsBits (B : Book) (ys : List ℤ) (A : Arrays) (u : List ℕ) (p : Path) : Type 0 where
  pub parities : p.parities ≡ parities_of B u
  pub inv : Inv B ys (view_of A p) u p p.blocks

-- the machine's path with the bits u that p stands for
unfoldable pub plain : Book → Path → List ℕ → M.Path
plain B p u = record { number = p.number; blocks = p.blocks; bits = u; score = score_of B p p.blocks }

-- p stands for the machine's path q
pub record StandsFor (B : Book) (ys : List ℤ) (A : Arrays) (q : M.Path) (p : Path) : Type 0 where
  pub same : q ≡ plain B p q.bits
  pub holds : HoldsBits B ys A q.bits p

-- where p has arrays: at the root, and at each height from its last block's up
pub record Rooted (B : Book) (p : Path) : Type 0 where
  pub root : 1 ≤ p.ids B.m
  pub has : (b : ℕ) → p.blocks ≡ suc b → (h : ℕ) → (block_at B b).j ≤ h → h ≤ B.m → 1 ≤ p.ids h

-- ---- what is true of the queue

-- the queue ps stands, path by path, for the queue `machine` of the machine; every path has the arrays that it will look at; there are at most D paths,
-- and no id is above D
pub record Reached (B : Book) (ys : List ℤ) (D : ℕ) (A : Arrays) (ps : List Path) : Type 0 where
  pub machine : List M.Path
  pub stands : Paired (StandsFor B ys A) machine ps
  pub rooted : All (Rooted B) ps
  pub few : length ps ≤ D
  pub housed : All (λ (p : Path). (h : ℕ) → p.ids h ≤ D) ps
