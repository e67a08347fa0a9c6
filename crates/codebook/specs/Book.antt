-- A code book, loaded: the kind of each index of u and the blocks. Document 01, "The code". Assumes nothing.
use Rattle.std.specs.Prelude.{List, [], ◌∷◌, ℕ, zero, suc, ◌+◌, ◌^◌, get_or, take, drop, ℤ, pos}

-- An index of u is free; or frozen, its bit zero; or tied: its bit is the sum modulo 2 of the bits at the named indices, its terms
-- (002: a dynamic frozen symbol). "Zero" and "tied" are document 01's words.
pub data Kind : Type 0 where
  free : Kind
  frozen : Kind
  tied : List ℕ → Kind

-- a block (002: an outer code): 2^j indices, and its bias
pub record Block : Type 0 where
  pub j : ℕ
  pub bias : ℤ

-- the length is 2^m; a kind for each index; the blocks in order
pub record Book : Type 0 where
  pub m : ℕ
  pub kinds : List Kind
  pub blocks : List Block

-- how many of the kinds are free: of all kinds, this is k
unfoldable pub free_count : List Kind → ℕ
free_count [] = 0
free_count (free ∷ ks) = suc (free_count ks)
free_count (frozen ∷ ks) = free_count ks
free_count (tied ts ∷ ks) = free_count ks

-- how many of the kinds are tied
unfoldable pub tied_count : List Kind → ℕ
tied_count [] = 0
tied_count (free ∷ ks) = tied_count ks
tied_count (frozen ∷ ks) = tied_count ks
tied_count (tied ts ∷ ks) = suc (tied_count ks)

-- the index where the b-th of the blocks starts
unfoldable pub start_of : List Block → ℕ → ℕ
start_of bs zero = 0
start_of [] (suc b) = 0
start_of (x ∷ bs) (suc b) = 2 ^ x.j + start_of bs b

-- block b of a book
unfoldable pub block_at : Book → ℕ → Block
block_at B b = get_or B.blocks b (record { j = 0; bias = pos 0 })

-- the kinds of the indices of block b
unfoldable pub kinds_of : Book → ℕ → List Kind
kinds_of B b = take (2 ^ (block_at B b).j) (drop (start_of B.blocks b) B.kinds)
