-- The loop of replay: no more cases than turns so far.
use Prim.Native.Nat.{◌≤◌}
use Rattle.vectors.proofs.replay.Given as goal

abbrev pub invariant-loop-turn : goal.invariant-loop-turn
invariant-loop-turn l = l.case ≤ l._turn
