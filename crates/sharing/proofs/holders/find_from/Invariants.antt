-- The loop invariant of holders.find_from: each id from 1 on and below `id` is held.
use Prim.Native.Nat.{ℕ, ◌+◌, ◌≤◌, ◌<◌}
use Rattle.sharing.specs.Sharing.{held_at}
use Rattle.sharing.proofs.holders.find_from.Given as goal

abbrev pub invariant-loop-id : goal.invariant-loop-id
invariant-loop-id l = (1 ≤ l.id) × (l.id ≤ l.arrays + 1) × ((k : ℕ) → 1 ≤ k → k < l.id → 1 ≤ held_at l.holders l.height k)
