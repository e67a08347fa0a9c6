-- The loop invariant of holders.share: the heights below h are copied, and counted once more.
use Prim.Native.Nat.{◌*◌}
use Rattle.laws.proofs.Stores.{Stored}
use Rattle.sharing.specs.Sharing.{id_at, Held, MoreBy}
use Rattle.sharing.proofs.holders.share.Given as goal

abbrev pub invariant-loop-h : goal.invariant-loop-h
invariant-loop-h l = record {
  held : Held l.holders;
  copied : Stored l.initial.rows l.rows (l.to * 16) (id_at l.initial.rows l.from) l.h;
  more : MoreBy l.h l.initial.rows l.from l.initial.holders l.holders;
}
