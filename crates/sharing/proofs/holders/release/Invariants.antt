-- The loop invariant of holders.release: the heights below h count one path fewer.
use Rattle.sharing.specs.Sharing.{Held, MoreBy}
use Rattle.sharing.proofs.holders.release.Given as goal

abbrev pub invariant-loop-h : goal.invariant-loop-h
invariant-loop-h l = Held l.holders × MoreBy l.h l.rows l.slot l.holders l.initial.holders
