-- The loop of bytes.least_byte: the least of the rows of bytes so far.
use mathlib.Core.Path.{◌≡◌}
use Prim.Native.Nat.{◌*◌}
use Rattle.short.specs.Short.{least_key, byte_key}
use Rattle.short.proofs.bytes.least_byte.Given as goal

abbrev pub invariant-loop-add : goal.invariant-loop-add
invariant-loop-add l = l.best ≡ least_key (byte_key l.halves) l.bound (16 * l.add-index)
