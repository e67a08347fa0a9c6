-- The loop invariant of distance.discrepancy: the sum so far and the discrepancy of what is left make the whole.
use mathlib.Core.Path.{◌≡◌}
use Prim.Native.Nat.{◌+◌, ◌*◌, ◌≤◌}
use lib.ListN.{length}
use Rattle.std.specs.Iterator.Adapters.{zip_first, zip_second}
use Rattle.std.specs.Slice.Iter.{iter_rest}
use Rattle.laws.specs.Lists.{All}
use Rattle.polar.specs.Soft.{discrepancy}
use Rattle.polar.specs.Layers.{Within}
use Rattle.polar.proofs.distance.discrepancy.Given as goal

abbrev pub invariant-loop-v : goal.invariant-loop-v
invariant-loop-v l =
    let bits = iter_rest (zip_first l.v-iterator) in
    let left = iter_rest (zip_second l.v-iterator) in record {
      whole : l.sum + discrepancy bits left ≡ discrepancy l.word l.values;
      small : l.sum + 1048064 * length bits ≤ 1048064 * length l.word;
      same : length bits ≡ length left;
      within : All (Within 1048064) left;
    }
