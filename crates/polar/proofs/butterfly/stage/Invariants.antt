-- The loop invariant of butterfly.stage: what is done, and the stage over the runs left, make the whole stage.
use mathlib.Core.Path.{◌≡◌}
use mathlib.Core.List.{◌++◌}
use Prim.Native.Nat.{◌+◌, ◌-◌, ◌*◌}
use lib.ListN.{take, drop}
use Rattle.laws.specs.Lists.{All}
use Rattle.polar.specs.Bits.{Bit}
use Rattle.polar.specs.Layers.{stage}
use Rattle.polar.proofs.butterfly.stage.Given as goal

abbrev pub invariant-loop-run : goal.invariant-loop-run
invariant-loop-run l = All Bit l.c × (take (l.run * (l.h + l.h)) l.c ++ stage (l.k - l.run) l.h (drop (l.run * (l.h + l.h)) l.c) ≡ stage l.k l.h l.initial.c)
