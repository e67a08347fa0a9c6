-- Ties kept as parities (002, Figure 3): of each tie the sum modulo 2 of the named bits so far, so that a path of the reader need not keep its
-- bits. Assumes nothing.
use Rattle.std.specs.Prelude.{cond, List, [], ◌∷◌, ℕ, suc, ◌+◌, ◌*◌, ◌%◌, get_or, eqb}
use Rattle.codebook.specs.Book.{Book, Kind, free, frozen, tied, free_count, start_of, kinds_of}
use Rattle.polar.specs.Bits.{to_bits}
use Rattle.codec.specs.Code.{parity, fill}

-- for each index the parity of its tie, if it has one
abbrev pub Parities : Type 0
Parities = ℕ → ℕ

-- how often a list names index k, and how often a kind does
unfoldable pub times : ℕ → List ℕ → ℕ
times k [] = 0
times k (i ∷ is) = cond (eqb i k) 1 0 + times k is

unfoldable pub names : ℕ → Kind → ℕ
names k free = 0
names k frozen = 0
names k (tied terms) = times k terms

-- the parity of a kind, and those of a path, with the bits u
unfoldable pub sum_at : List ℕ → Kind → ℕ
sum_at u free = 0
sum_at u frozen = 0
sum_at u (tied terms) = parity u terms

unfoldable pub parities_of : Book → List ℕ → Parities
parities_of B u i = sum_at u (get_or B.kinds i frozen)

-- the parities once index k has bit b
unfoldable pub absorb : Book → ℕ → ℕ → Parities → Parities
absorb B k b x i = (x i + b * names k (get_or B.kinds i frozen)) % 2

-- the bits of a block and the parities after it
pub record Filling : Type 0 where
  pub bits : List ℕ
  pub parities : Parities

-- a filling with bit b before its bits
unfoldable pub push : ℕ → Filling → Filling
push b f = record { bits = b ∷ f.bits; parities = f.parities }

-- indices from k on, of these kinds: data bits fill the free ones, zeros and parities follow
unfoldable pub fill_from : Book → Parities → ℕ → List Kind → List ℕ → Filling
fill_from B x k [] ds = record { bits = []; parities = x }
fill_from B x k (free ∷ ks) [] = push 0 (fill_from B (absorb B k 0 x) (suc k) ks [])
fill_from B x k (free ∷ ks) (d ∷ ds) = push d (fill_from B (absorb B k d x) (suc k) ks ds)
fill_from B x k (frozen ∷ ks) ds = push 0 (fill_from B (absorb B k 0 x) (suc k) ks ds)
fill_from B x k (tied terms ∷ ks) ds = push (x k) (fill_from B (absorb B k (x k) x) (suc k) ks ds)

-- the w-th setting of the free bits of block b, with the parities x before it
unfoldable pub fill_block : Book → Parities → ℕ → ℕ → Filling
fill_block B x b w = fill_from B x (start_of B.blocks b) (kinds_of B b) (to_bits (free_count (kinds_of B b)) w)

-- bits u up to block b, then those of the w-th setting of its free bits
abbrev pub filled : Book → List ℕ → ℕ → ℕ → List ℕ
filled B u b w = fill u (kinds_of B b) (to_bits (free_count (kinds_of B b)) w)
