-- The loop of costs.half_bytes: the first v entries are stored.
use Prim.Native.Nat.{◌+◌, ◌*◌, ◌/◌, ◌%◌}
use lib.ListN.{get_or}
use Rattle.laws.proofs.Stores.{Stored}
use Rattle.tables.proofs.costs.half_bytes.Given as goal

abbrev pub invariant-loop-v : goal.invariant-loop-v
invariant-loop-v g l = Stored l.initial.table l.table l.to (λ i. (get_or l.low (i % 4) 0 + get_or l.high (i / 4) 0) * g.row.SCALE + i * g.row.STEP) l.v
