-- The loop invariant of `count_free`: how many of the codes so far are those of free indices.
use mathlib.Core.Path.{◌≡◌}
use lib.ListN.{take}
use lib.Dec.{eqb}
use Rattle.std.specs.Prelude.{count_by}
use Rattle.obeying.proofs.count_free.Given as goal

abbrev pub invariant-loop-kind : goal.invariant-loop-kind
invariant-loop-kind l = l.free ≡ count_by (λ k. eqb k 0) (take l.kind-index l.kinds)
