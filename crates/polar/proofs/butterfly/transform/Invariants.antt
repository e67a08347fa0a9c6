-- The loop invariant of butterfly.transform: each of the 2^(m - j) runs of 2^j bits is transformed by itself.
use mathlib.Core.Path.{◌≡◌}
use Prim.Native.Nat.{◌-◌, ◌^◌}
use Rattle.polar.proofs.Stages.{runs}
use Rattle.polar.proofs.butterfly.transform.Given as goal

abbrev pub invariant-loop-j : goal.invariant-loop-j
invariant-loop-j l = l.c ≡ runs (2 ^ (l.m - l.j)) l.j l.initial.c
