-- The refusals' numbers: document 01, "Refusal table". Assumes nothing.
use Rattle.std.specs.Prelude.{Bool, true, false, ℕ, Result, Ok, Err}
use Rattle.std.proofs.Math.Option.{Option, some}
use Rattle.codebook.specs.declared.Refusal.{Refusal}
use Rattle.codebook.specs.declared.Refusal.TheVariants.{Truncated, Unknown, Misplaced, OutOfRange, TooManyTied, TooManyFree, Mismatch, BadSetting, BadValue, AboveLimit, Unreadable}

-- a refusal's number
abbrev pub refusal_number : Refusal → ℕ
refusal_number Truncated = 1
refusal_number Unknown = 2
refusal_number Misplaced = 3
refusal_number OutOfRange = 4
refusal_number TooManyTied = 5
refusal_number TooManyFree = 6
refusal_number Mismatch = 7
refusal_number BadSetting = 8
refusal_number BadValue = 9
refusal_number AboveLimit = 10
refusal_number Unreadable = 11

-- an outcome's number, whatever it answers where nothing is refused: 0, or the refusal's
abbrev pub outcome_number : {A : Type 0} → Result A Refusal → ℕ
outcome_number (Ok answer) = 0
outcome_number (Err r) = refusal_number r

-- refusal r where the test fails, else what comes after it
unfoldable pub unless : Bool → Refusal → Option Refusal → Option Refusal
unless true r other = other
unless false r other = some r

-- the same in numbers: n where the test fails, else what comes after it
unfoldable pub unless_number : Bool → ℕ → ℕ → ℕ
unless_number true n other = other
unless_number false n other = n
