-- Counts and record as slices. Assumes nothing.
use Rattle.std.specs.Prelude.{cond, List, [], ◌∷◌, ℕ, length, eqb}
use Rattle.codec.specs.declared.HookRecord.{HookRecord}
use Rattle.codec.specs.Record.{status_number}
use Rattle.machine.specs.declared.Counts.{Counts}

-- extractions, crowded out, outrun, discrepancy
unfoldable pub counts_slice : Counts → List ℕ
counts_slice x = x.extractions ∷ x.crowded ∷ x.outrun ∷ x.discrepancy ∷ []

-- plant, carcass, side, status
unfoldable pub record_slice : HookRecord → List ℕ
record_slice h = h.plant ∷ h.carcass ∷ h.side ∷ status_number h.status ∷ []

-- a slice written with every answer; one that is lent at another size is left
unfoldable pub filled : List ℕ → List ℕ → List ℕ
filled new old = cond (eqb (length old) (length new)) new old
