-- The polar subcode: filling u from data, encode, test, read data. Document 01, "The code". Assumes nothing.
use Rattle.std.specs.Prelude.{Bool, true, ◌&&◌, List, [], ◌∷◌, ◌++◌, ℕ, suc, get_or, eqb}
use Rattle.polar.specs.Bits.{◌⊕◌}
use Rattle.polar.specs.Transform.{transform}
use Rattle.codebook.specs.Book.{Kind, free, frozen, tied, Book}

-- the sum modulo 2 of the bits of u at the named indices
unfoldable pub parity : List ℕ → List ℕ → ℕ
parity u [] = 0
parity u (i ∷ is) = get_or u i 0 ⊕ parity u is

-- the bits u go on over indices of these kinds: data bits fill the free ones in rising order, zeros and ties follow
unfoldable pub fill : List ℕ → List Kind → List ℕ → List ℕ
fill u [] ds = u
fill u (free ∷ ks) [] = fill (u ++ 0 ∷ []) ks []
fill u (free ∷ ks) (d ∷ ds) = fill (u ++ d ∷ []) ks ds
fill u (frozen ∷ ks) ds = fill (u ++ 0 ∷ []) ks ds
fill u (tied terms ∷ ks) ds = fill (u ++ parity u terms ∷ []) ks ds

-- the bits at the free indices
unfoldable pub free_bits : List Kind → List ℕ → List ℕ
free_bits [] u = []
free_bits (k ∷ ks) [] = []
free_bits (free ∷ ks) (b ∷ u) = b ∷ free_bits ks u
free_bits (frozen ∷ ks) (b ∷ u) = free_bits ks u
free_bits (tied terms ∷ ks) (b ∷ u) = free_bits ks u

-- whether bit i of u is what its kind asks: at a zero index 0, at a tied one the sum of the named bits
unfoldable pub obeys : List ℕ → ℕ → Kind → Bool
obeys u i free = true
obeys u i frozen = eqb (get_or u i 0) 0
obeys u i (tied terms) = eqb (get_or u i 0) (parity u terms)

-- and so for the indices from i on, of these kinds
unfoldable pub obeys_all : List ℕ → ℕ → List Kind → Bool
obeys_all u i [] = true
obeys_all u i (k ∷ ks) = obeys u i k && obeys_all u (suc i) ks

-- the word of the data
unfoldable pub encode : Book → List ℕ → List ℕ
encode B ds = transform B.m (fill [] B.kinds ds)

-- whether a word is in the code: the same step turns it back into u, whose every bit is what its kind asks
unfoldable pub in_code : Book → List ℕ → Bool
in_code B c = obeys_all (transform B.m c) 0 B.kinds

-- the data of a word: the bits of u at the free indices, also of a word outside the code
unfoldable pub read_data : Book → List ℕ → List ℕ
read_data B c = free_bits B.kinds (transform B.m c)
