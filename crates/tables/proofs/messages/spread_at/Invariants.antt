-- The loop of messages.spread_at: what is left to spread, added to the sum so far.
use mathlib.Core.Path.{◌≡◌}
use lib.Bits.{bit_xor}
use Rattle.outer.specs.Search.{spread}
use Rattle.tables.proofs.messages.spread_at.Given as goal

abbrev pub invariant-loop-left : goal.invariant-loop-left
invariant-loop-left l = bit_xor l.sum (spread l.steps 0 l.left l.rest) ≡ spread l.steps 0 l.free l.w
