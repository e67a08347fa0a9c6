-- The loop invariant of `number`: the number of the bytes so far.
use mathlib.Core.Path.{◌≡◌}
use Prim.Native.Nat.{◌*◌, ◌^◌, ◌<◌}
use lib.ListN.{take}
use Rattle.codebook.specs.Loading.{big_endian}
use Rattle.numerals.proofs.number.Given as goal

abbrev pub invariant-loop-b : goal.invariant-loop-b
invariant-loop-b l = (l.n ≡ big_endian 0 (take l.b-index l.bytes)) × (l.n < 2 ^ (8 * l.b-index))
