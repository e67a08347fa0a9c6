-- The loop of messages.double_all: the directions after `left` are spread.
use mathlib.Core.Path.{◌≡◌}
use Prim.Native.Nat.{◌-◌, ◌^◌}
use lib.ListN.{length}
use Rattle.tables.proofs.Spread.{SettingsFilled}
use Rattle.tables.proofs.messages.double_all.Given as goal

abbrev pub invariant-loop-left : goal.invariant-loop-left
invariant-loop-left l = let n = l.directions.free - l.left in (length l.table ≡ 256) × (l.count ≡ 2 ^ n) × SettingsFilled l.table l.directions.words l.left n
