-- The loop of sum: the checksum so far is below 65521.
use Prim.Native.Nat.{◌<◌}
use Rattle.vectors.proofs.buffers.sum.Given as goal

abbrev pub invariant-loop-entry : goal.invariant-loop-entry
invariant-loop-entry g l = l.sum < 65521
