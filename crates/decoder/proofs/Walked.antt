-- What a decoding call leaves in the walk's buffers: an entry for each extraction that it counts. By the definition of a call. Assumes nothing.
use mathlib.Core.Path.{◌≡◌, ap}
use mathlib.Core.List.{List, map}
use Prim.Native.Nat.{◌≤◌}
use native.Mathlib.Omega.{arith}
use lib.IntN.{ℤ}
use lib.ListN.{length, drop, length-append, length-map}
use Rattle.queue.specs.Queue.{Step}
use Rattle.machine.specs.declared.Manner.{Manner}
use Rattle.machine.specs.declared.HookDecoded.{HookDecoded}
use Rattle.machine.specs.Calls.{Input, Lent, machine_run, walked, call_of}
use Rattle.machine.proofs.Called.{Extracted, call-walked}
use Rattle.decoder.specs.Decodes.{Decodes}

-- a walk buffer is at least as long as the walk
walked-long : (entry : Step → ℤ) (steps : List Step) (old : List ℤ) → length steps ≤ length (walked entry steps old)
unfolding walked
walked-long entry steps old = omega (arith, length-append (map entry steps) (drop (length steps) old), length-map steps entry)

module _ (k : Manner) (c : Input) (l : Lent) (answer : HookDecoded) (after : Lent) (d : Decodes k c l answer after) where
  pub extracted : Extracted (call_of k c l).steps l answer.counts.extractions after
  extracted = rw (d.answered, d.left) (call-walked machine_run k c l)

  -- the walk's buffers have an entry for each extraction
  pub left-long : let n = answer.counts.extractions in (n ≤ length after.walk_path) × (n ≤ length after.walk_blocks) × (n ≤ length after.walk_score)
  left-long =
      let x = extracted in
      let steps = (call_of k c l).steps in
      let long : (entry : Step → ℤ) (old new : List ℤ) → new ≡ walked entry steps old → answer.counts.extractions ≤ length new =
      λ entry old new e. omega (arith, x.counted, walked-long entry steps old, ap length e) in
      (long _ l.walk_path after.walk_path x.paths, long _ l.walk_blocks after.walk_blocks x.blocks, long _ l.walk_score after.walk_score x.scores)
