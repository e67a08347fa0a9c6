-- The loop invariant of layers.lower_p: the first i values are written, and the rest is as it was.
use mathlib.Core.Path.{◌≡◌}
use lib.Seq.{paste}
use Rattle.polar.specs.Soft.{Ps}
use Rattle.polar.specs.Layers.{part}
use Rattle.polar.proofs.Writes.{first, last}
use Rattle.polar.proofs.layers.lower_p.Given as goal

abbrev pub invariant-loop-i : goal.invariant-loop-i
invariant-loop-i l = l.numbers ≡ paste l.initial.numbers l.to (Ps (part l.sums l.n l.bytes) (first l.from l.n l.initial.numbers) (last l.from l.n l.initial.numbers)) l.i
