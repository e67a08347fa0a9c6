-- The invariant of begin's loop: the heights below h count one path more, which holds none there.
use Rattle.std.proofs.Common.{set}
use Rattle.sharing.specs.Sharing.{Held, MoreBy}
use Rattle.start.proofs.begin.Given as goal

abbrev pub invariant-loop-h : goal.invariant-loop-h
invariant-loop-h l = record { held : Held l.holders; more : MoreBy l.h (set l.rows l.m 1) 0 l.initial.holders l.holders }
