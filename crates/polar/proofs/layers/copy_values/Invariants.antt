-- The loop invariant of layers.copy_values: the first i values are copied, and the rest is as it was.
use mathlib.Core.Path.{◌≡◌}
use lib.Seq.{paste}
use Rattle.polar.specs.Layers.{part}
use Rattle.polar.proofs.layers.copy_values.Given as goal

abbrev pub invariant-loop-i : goal.invariant-loop-i
invariant-loop-i l = l.numbers ≡ paste l.initial.numbers l.to (part l.from l.n l.initial.numbers) l.i
