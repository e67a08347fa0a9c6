-- The loop of messages.walk: the directions span the entries of the first i indices.
use mathlib.Core.Path.{◌≡◌}
use Prim.Native.Nat.{◌^◌}
use Rattle.outer.specs.Search.{settings, entry, Spans}
use Rattle.tables.proofs.messages.walk.Given as goal

abbrev pub invariant-loop-i : goal.invariant-loop-i
invariant-loop-i l =
    (2 ^ l.free ≡ settings l.tables.kinds l.start l.i) × Spans l.directions.words l.directions.sets l.free (entry l.tables.kinds l.tables.terms l.start l.parities l.i)
