-- The loop's invariant of fields.put_field: the first bits are the number's highest.
use mathlib.Core.Path.{◌≡◌}
use lib.ListN.{length, take}
use Rattle.polar.specs.Bits.{to_bits}
use Rattle.hooks.proofs.fields.put_field.Given as goal

abbrev pub invariant-loop-i : goal.invariant-loop-i
invariant-loop-i l = (l.width ≡ length l.bits) × (take l.i l.bits ≡ take l.i (to_bits l.width l.x))
