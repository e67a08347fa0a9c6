-- The loop invariant of layers.add_sums: the first i sums are written, and the rest is as it was.
use mathlib.Core.Path.{◌≡◌}
use lib.Seq.{paste}
use Rattle.polar.specs.Bits.{add_bits}
use Rattle.polar.specs.Layers.{part}
use Rattle.polar.proofs.layers.add_sums.Given as goal

abbrev pub invariant-loop-i : goal.invariant-loop-i
invariant-loop-i l = l.bytes ≡ paste l.initial.bytes l.to (add_bits (part l.low l.n l.initial.bytes) (part l.high l.n l.initial.bytes)) l.i
