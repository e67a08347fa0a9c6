-- The run of any machine: extraction after extraction, until one ends it or no further one is allowed. Steps, moments and ends are read off its trace. Assumes nothing.
use Rattle.std.specs.Prelude.{List, [], ◌∷◌, ℕ, zero, suc, ◌+◌, ◌*◌}
use Rattle.std.proofs.Math.Option.{Option, none, some}

-- what an extraction leads to: the state of the next one, or the end
pub data Next (S E : Type 0) : Type 0 where
  on : S → Next S E
  over : E → Next S E

-- the states of the extractions, one for each, and the end, if the fuel reaches it
pub record Trace (S E : Type 0) : Type 0 where
  pub states : List S
  pub end : Option E

-- a trace that is over
unfoldable pub ended : {S E : Type 0} → Option E → Trace S E
ended e = record { states = []; end = e }

-- a trace with one extraction before it
unfoldable pub after : {S E : Type 0} → S → Trace S E → Trace S E
after s t = record { states = s ∷ t.states; end = t.end }

-- the trace from a state, or from an end; fuel bounds the extractions
unfoldable pub trace : {S E : Type 0} → (S → Next S E) → ℕ → Next S E → Trace S E
trace next zero (on s) = ended none
trace next zero (over e) = ended (some e)
trace next (suc fuel) (on s) = after s (trace next fuel (next s))
trace next (suc fuel) (over e) = ended (some e)

-- the most extractions with L visits and so many blocks: L of each block, and the last; document 01's walk buffers have as many entries
unfoldable pub most_extractions : ℕ → ℕ → ℕ
most_extractions L blocks = L * blocks + 1
