-- Bytes as a number, the highest first, with one byte more. By induction on the bytes. Assumes nothing.
use mathlib.Core.Path.{◌≡◌, refl}
use mathlib.Core.List.{List, [], ◌∷◌, ◌++◌}
use Prim.Native.Nat.{ℕ, ◌+◌, ◌*◌}
use Rattle.codebook.specs.Loading.{big_endian}

pub big-endian-last : (digits : ℕ) (bs : List ℕ) (b : ℕ) → big_endian digits (bs ++ b ∷ []) ≡ 256 * big_endian digits bs + b
unfolding big_endian
big-endian-last digits [] b = refl
big-endian-last digits (x ∷ bs) b = big-endian-last (256 * digits + x) bs b
