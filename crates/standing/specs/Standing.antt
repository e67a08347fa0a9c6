-- The reader's state that the memory of a run stands for: each entry of the queue's order is a path of the reader's queue, whose row in the table of
-- paths holds the rest of it; the workspace holds the arrays. Assumes nothing.
use Rattle.std.specs.Prelude.{◌≡◌, List, ◌∷◌, ◌++◌, map, ℕ, suc, ◌+◌, ◌*◌, ◌≤◌, ◌<◌, length, get_or}
use Rattle.laws.specs.Lists.{All, Distinct}
use Rattle.laws.specs.Pairs.{Paired}
use Rattle.polar.specs.Bits.{number}
use Rattle.codebook.specs.Book.{Book}
use Rattle.outer.specs.Blocks.{parity_set}
use Rattle.reader.specs.Arrays.{Arrays}
use Rattle.reader.specs.Paths.{Path, key_of, last_word, ids_of}
use Rattle.order.specs.Entries.{key_at, slot_at}
use Rattle.sharing.specs.Sharing.{HasIds, Counted}
use Rattle.heights.specs.Workspace.{Parts}
use Rattle.standing.specs.Seen.{Memory}

-- cell f of the row of slot s
unfoldable pub cell : List ℕ → ℕ → ℕ → ℕ
cell rows s f = get_or rows (s * 16 + f) 0

-- the cells behind the ids: what the path spent before its last block, the cost of that block, the number of its word, and the sets of the parities before and after it
abbrev pub spent_at : ℕ
spent_at = 10

abbrev pub cost_at : ℕ
cost_at = 11

abbrev pub word_at : ℕ
word_at = 12

abbrev pub earlier_at : ℕ
earlier_at = 13

abbrev pub parities_at : ℕ
parities_at = 14

-- The row of slot s holds p, but for what the queue goes by: its ids by height, and the cells above. The setting itself is not kept.
pub record Row (B : Book) (rows : List ℕ) (s : ℕ) (p : Path) : Type 0 where
  pub ids : HasIds B.m rows s p.ids
  pub spent : cell rows s spent_at ≡ p.spent
  pub cost : cell rows s cost_at ≡ p.cost
  pub word : (b : ℕ) → p.blocks ≡ suc b → cell rows s word_at ≡ number (last_word B p b)
  pub earlier : cell rows s earlier_at ≡ parity_set B p.earlier
  pub parities : cell rows s parities_at ≡ parity_set B p.parities

-- an entry of the order is p's: its key is p's, and the row of its slot holds the rest
pub record EntryOf (B : Book) (rows : List ℕ) (e : ℕ) (p : Path) : Type 0 where
  pub key : key_at e ≡ key_of B p
  pub small : e < 36028797018963968
  pub row : Row B rows (slot_at e) p

-- Memory stands for the reader's arrays A and paths ps, each with its entry in es; the slots vs are vacant. There are D slots in all, each below D, and N arrays of each
-- height. (A path that was taken from the queue is the first of ps while its extraction lasts.)
pub record Stands (B : Book) (D N : ℕ) (x : Memory) (es vs : List ℕ) (A : Arrays) (ps : List Path) : Type 0 where
  pub queue : Paired (EntryOf B x.rows) es ps
  pub apart : Distinct (map slot_at es ++ vs)
  pub slots : All (λ (e : ℕ). slot_at e < D) es
  pub vacant : All (λ (s : ℕ). s < D) vs
  pub full : length es + length vs ≡ D
  pub counted : Counted B.m N x.holders (ids_of ps)
  pub housed : All (λ (p : Path). (h : ℕ) → h ≤ B.m → p.ids h ≤ N) ps
  pub vals : Parts B.m N x.numbers A.vals
  pub sums : Parts B.m N x.bytes A.sums

-- p with other arrays
unfoldable pub with_ids : Path → (ℕ → ℕ) → Path
with_ids p ids =
    record {
      number = p.number;
      blocks = p.blocks;
      spent = p.spent;
      cost = p.cost;
      setting = p.setting;
      earlier = p.earlier;
      parities = p.parities;
      ids = ids;
    }

-- five cells of the row of slot s are written, all else is as it was
pub record PutRow (s : ℕ) (old new : List ℕ) (spent' cost' word' earlier' parities' : ℕ) : Type 0 where
  pub size : length new ≡ length old
  pub spent : cell new s spent_at ≡ spent'
  pub cost : cell new s cost_at ≡ cost'
  pub word : cell new s word_at ≡ word'
  pub earlier : cell new s earlier_at ≡ earlier'
  pub parities : cell new s parities_at ≡ parities'
  pub before : (k : ℕ) → k < s * 16 + spent_at → get_or new k 0 ≡ get_or old k 0
  pub after : (k : ℕ) → s * 16 + parities_at < k → get_or new k 0 ≡ get_or old k 0

-- a path with entry e is in hand, es are queued and vs vacant: for some book of depth m, arrays, and paths
pub record InHand (m D N : ℕ) (x : Memory) (e : ℕ) (es vs : List ℕ) : Type 0 where
  pub book : Book
  pub arrays : Arrays
  pub taken : Path
  pub rest : List Path
  pub deep : book.m ≡ m
  pub stands : Stands book D N x (e ∷ es) vs arrays (taken ∷ rest)

-- entry d is that of path q in slot t, and these numbers are what the row of q holds besides its ids
pub record Made (B : Book) (q : Path) (d t spent' cost' word' earlier' parities' : ℕ) : Type 0 where
  pub entry : Rattle.order.specs.Entries.Packed d (key_of B q) t
  pub spent : spent' ≡ q.spent
  pub cost : cost' ≡ q.cost
  pub word : (b : ℕ) → q.blocks ≡ suc b → word' ≡ number (last_word B q b)
  pub earlier : earlier' ≡ parity_set B q.earlier
  pub parities : parities' ≡ parity_set B q.parities
