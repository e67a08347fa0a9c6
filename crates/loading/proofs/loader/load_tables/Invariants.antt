-- The loop invariants of loader.load_tables, and what falls at each turn.
use Prim.Native.Nat.{◌-◌}
use lib.ListN.{length}
use Rattle.loading.proofs.Running.{Reached}
use Rattle.loading.proofs.loader.load_tables.Given as goal

abbrev pub invariant-loop-at : goal.invariant-loop-at
invariant-loop-at l =
    Reached l.book l.initial.tables l.p l.tables l.at

abbrev pub decreases-loop-at : goal.decreases-loop-at
decreases-loop-at l =
    length l.book - l.at
