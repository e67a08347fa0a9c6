-- A book has at most 512 blocks, since each has an index at least. By induction on the blocks. Assumes nothing.
use mathlib.Core.List.{List, [], ◌∷◌}
use Prim.Native.Nat.{◌^◌, ◌≤◌}
use native.Mathlib.Omega.{arith}
use lib.ListN.{length}
use lib.Pow.{pow_pos, pow_mono}
use Rattle.codebook.specs.Book.{Book, Block, start_of}
use Rattle.codebook.specs.Limits.{Valid}

count-start : (bs : List Block) → length bs ≤ start_of bs (length bs)
unfolding start_of
count-start [] = omega arith
count-start (x ∷ bs) = omega (arith, count-start bs, pow_pos x.j)

pub blocks-few : (B : Book) → Valid B → length B.blocks ≤ 512
blocks-few B ok =
    let top : 2 ^ B.m ≤ 2 ^ 9 = pow_mono ok.high in
    omega (arith, count-start B.blocks, ok.covered)
