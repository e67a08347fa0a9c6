-- The polar transform: document 01, "The code" (002, II). Assumes nothing.
use Rattle.std.specs.Prelude.{List, ◌++◌, ℕ, zero, suc, ◌^◌, take, drop}
use Rattle.polar.specs.Bits.{add_bits}

-- c = u·A, for A the m-fold Kronecker power of the rows (1,0) and (1,1). By halves: the A of twice the size has the rows (A,0) and (A,A),
-- so that (a,b) times it is (a·A + b·A, b·A). proofs/Matrix.antt shows that this is the product with the matrix.
unfoldable pub transform : ℕ → List ℕ → List ℕ
transform zero u = u
transform (suc m) u =
    let a = transform m (take (2 ^ m) u) in
    let b = transform m (drop (2 ^ m) u) in
    add_bits a b ++ b
