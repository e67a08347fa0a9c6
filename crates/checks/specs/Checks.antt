-- What the tests of a decoding call come to: document 01, "Refusal table", 8, 7 and 9. The tests themselves are machine/specs/Calls'. Assumes nothing.
use Rattle.std.specs.Prelude.{Bool, ◌&&◌, Result, Ok, Err}
use Rattle.std.proofs.Math.Option.{Option, none, some}
use Rattle.codebook.specs.declared.Refusal.{Refusal}
use Rattle.codebook.specs.declared.Shape.{Shape}
use Rattle.settings.specs.declared.Settings.{Settings}
use Rattle.machine.specs.declared.Manner.{Manner}
use Rattle.machine.specs.declared.Lengths.{Lengths}
use Rattle.machine.specs.Calls.{lengths_ok, beside_ok, holds}

-- whether the three tests for 7 are passed
unfoldable pub fitting : Manner → Shape → Settings → Lengths → Bool
fitting k x s l = holds k.reads x && lengths_ok x s l && beside_ok k x s

-- the settings that a call goes on with, or why it makes no run
unfoldable pub admitted_as : Option Refusal → Settings → Result Settings Refusal
admitted_as none s = Ok s
admitted_as (some r) s = Err r
