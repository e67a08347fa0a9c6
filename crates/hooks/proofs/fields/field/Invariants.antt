-- The loop's invariant of fields.field: the digits so far, and the bits left, make the number.
use mathlib.Core.Path.{◌≡◌}
use Prim.Native.Nat.{◌^◌, ◌<◌}
use lib.ListN.{drop}
use Rattle.polar.specs.Bits.{from_bits}
use Rattle.hooks.proofs.fields.field.Given as goal

abbrev pub invariant-loop-bit : goal.invariant-loop-bit
invariant-loop-bit l = (l.x < 2 ^ l.bit-index) × (from_bits l.x (drop l.bit-index l.bits) ≡ from_bits 0 l.bits)
