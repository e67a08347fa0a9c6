-- The matrix A of document 01, "The code", entry by entry: proofs/Matrix.antt shows that `transform` is u·A. Assumes nothing.
use Rattle.std.specs.Prelude.{List, ℕ, zero, suc, ◌+◌, ◌*◌, ◌/◌, ◌%◌, ◌^◌, get_or}
use Rattle.laws.specs.Lists.{tab}

-- the rows (1,0) and (1,1)
unfoldable pub kernel : ℕ → ℕ → ℕ
kernel zero zero = 1
kernel zero (suc j) = 0
kernel (suc i) j = 1

-- row i, column j of their m-fold Kronecker power: a Kronecker product's entries are the products of its factors' entries
unfoldable pub entry : ℕ → ℕ → ℕ → ℕ
entry zero i j = 1
entry (suc m) i j = kernel (i / 2 ^ m) (j / 2 ^ m) * entry m (i % 2 ^ m) (j % 2 ^ m)

-- the sum over the first n rows of the bits of u times column j
unfoldable pub column : ℕ → List ℕ → ℕ → ℕ → ℕ
column m u j zero = 0
column m u j (suc n) = column m u j n + get_or u n 0 * entry m n j

-- u·A, modulo 2
unfoldable pub product : ℕ → List ℕ → List ℕ
product m u = tab (2 ^ m) (λ j. column m u j (2 ^ m) % 2)
