-- The hook record and its 32 data bits: document 01, "The hook record". Assumes nothing.
use Rattle.std.specs.Prelude.{Bool, cond, ◌&&◌, List, [], ◌∷◌, ◌++◌, ℕ, zero, suc, ◌^◌, take, drop, ltb, eqb, Result, Ok, Err}
use Rattle.std.proofs.Math.Option.{Option, none, some}
use Rattle.polar.specs.Bits.{to_bits, from_bits}
use Rattle.codec.specs.declared.Status.{Status}
use Rattle.codec.specs.declared.Status.TheVariants.{Passed, HeldForLaboratory, HeldForVeterinarian, HeldForOwner, Condemned}
use Rattle.codec.specs.declared.HookRecord.{HookRecord}
use Rattle.codec.specs.declared.UnknownStatus.{UnknownStatus}

-- a status's number, and the status of a number
unfoldable pub status_number : Status → ℕ
status_number Passed = 0
status_number HeldForLaboratory = 1
status_number HeldForVeterinarian = 2
status_number HeldForOwner = 3
status_number Condemned = 4

unfoldable pub status_of : ℕ → Option Status
status_of zero = some Passed
status_of (suc zero) = some HeldForLaboratory
status_of (suc (suc zero)) = some HeldForVeterinarian
status_of (suc (suc (suc zero))) = some HeldForOwner
status_of (suc (suc (suc (suc zero)))) = some Condemned
status_of (suc (suc (suc (suc (suc n))))) = none

-- the same as an answer: the status, or the number that is none's
unfoldable pub known_status : ℕ → Option Status → Result Status UnknownStatus
known_status n (some s) = Ok s
known_status n none = Err (record { 0 = n })

unfoldable pub status_given : ℕ → Result Status UnknownStatus
status_given n = known_status n (status_of n)

-- the record that a refusal returns
unfoldable pub no_record : HookRecord
no_record = record { plant = 0; carcass = 0; side = 0; status = Passed }

-- whether each field fits its bits
unfoldable pub record_fits : HookRecord → Bool
record_fits r = ltb r.plant (2 ^ 6) && ltb r.carcass (2 ^ 20) && ltb r.side 2

-- the 32 bits of a record: plant 6, carcass 20, side 1, status 3, two spare zeros
unfoldable pub record_bits : HookRecord → List ℕ
record_bits r = to_bits 6 r.plant ++ (to_bits 20 r.carcass ++ (to_bits 1 r.side ++ (to_bits 3 (status_number r.status) ++ (0 ∷ 0 ∷ []))))

-- the field of w bits from bit i on
unfoldable pub field_at : List ℕ → ℕ → ℕ → ℕ
field_at ds i w = from_bits 0 (take w (drop i ds))

-- the record with this status, unless there is none or a spare bit is 1
unfoldable pub record_with : List ℕ → Option Status → Option HookRecord
record_with ds none = none
record_with ds (some s) =
    cond (eqb (field_at ds 30 2) 0) (some (record { plant = field_at ds 0 6; carcass = field_at ds 6 20; side = field_at ds 26 1; status = s })) none

-- the record of 32 data bits, unless its status is 5 to 7 or a spare bit is 1
unfoldable pub read_record : List ℕ → Option HookRecord
read_record ds = record_with ds (status_of (field_at ds 27 3))
