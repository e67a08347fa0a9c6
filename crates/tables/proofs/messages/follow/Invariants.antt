-- The loop of messages.follow: the first k entries of both tables are done.
use mathlib.Core.Path.{◌≡◌}
use Prim.Native.Nat.{◌*◌, ◌/◌, ◌%◌, ◌^◌}
use lib.ListN.{get_or}
use lib.Bits.{bit_xor}
use Rattle.laws.proofs.Stores.{Stored}
use Rattle.tables.proofs.messages.follow.Given as goal

abbrev pub invariant-loop-k : goal.invariant-loop-k
invariant-loop-k l =
    let d = l.initial.directions in
    (l.directions.free ≡ d.free) × Stored d.words l.directions.words 0 (λ i. bit_xor (get_or d.words i 0) (l.row * (get_or d.sets i 0 / 2 ^ l.t % 2))) l.k
    × Stored d.sets l.directions.sets 0 (λ i. bit_xor (get_or d.sets i 0) (l.ties * (get_or d.sets i 0 / 2 ^ l.t % 2))) l.k
