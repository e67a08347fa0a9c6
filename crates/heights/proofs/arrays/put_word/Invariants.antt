-- The loop's invariant in arrays.put_word: the bits so far are the word's, and what is left of it was halved so many times.
use mathlib.Core.Path.{◌≡◌}
use Prim.Native.Nat.{ℕ, ◌/◌, ◌^◌, ◌<◌}
use lib.ListN.{get_or, length}
use Rattle.heights.specs.Workspace.{bits_of}
use Rattle.heights.proofs.arrays.put_word.Given as goal

abbrev pub invariant-loop-bit : goal.invariant-loop-bit
invariant-loop-bit l =
    (l.left ≡ l.word / 2 ^ l.bit-index) × ((k : ℕ) → k < l.bit-index → get_or l.bits k 0 ≡ get_or (bits_of (length l.fn.bits) l.word) k 0)
