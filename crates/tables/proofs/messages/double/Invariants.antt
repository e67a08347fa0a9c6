-- The loop of messages.double: the first k entries after the table are stored.
use lib.ListN.{get_or}
use lib.Bits.{bit_xor}
use Rattle.laws.proofs.Stores.{Stored}
use Rattle.tables.proofs.messages.double.Given as goal

abbrev pub invariant-loop-k : goal.invariant-loop-k
invariant-loop-k l = Stored l.initial.table l.table l.count (λ i. bit_xor (get_or l.initial.table i 0) l.mask) l.k
