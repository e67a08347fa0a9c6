-- The loop of flips.lead: the values from i on are led.
use mathlib.Core.Path.{◌≡◌}
use Prim.Native.Nat.{◌+◌, ◌^◌, ◌≤◌}
use lib.ListN.{drop}
use Rattle.short.specs.Flips.{led}
use Rattle.short.proofs.flips.lead.Given as goal

abbrev pub invariant-loop-i : goal.invariant-loop-i
invariant-loop-i l = (l.bit ≡ 2 ^ l.i) × (l.x.base + l.bit ≤ 256) × (l.x.odd ≤ 1) × (l.x ≡ led (2 ^ l.i) (drop l.i l.values))
