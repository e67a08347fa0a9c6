-- `filling::free_bits` meets its contract: by what one turn does. Assumes nothing.
use Prim.Native.Nat.{◌<◌}
use native.Mathlib.Omega.{arith}
use lib.ListN.{length}
use Rattle.codec.proofs.Turns.{read-end, read-room, read-free, read-other}
use Rattle.filling.proofs.free_bits.Goals as goal
use Rattle.filling.proofs.free_bits.Goals.{then-free, else-free}

pub bounds-bits-next : goal.bounds-bits-next
bounds-bits-next c =
    let (ks, (C, w, f)) = c.requires in
    read-room C (c.loop-i.invariant ks C w (omega arith)) (omega arith) w c.if-free.true

pub loop-i-preserved : goal.loop-i-preserved
loop-i-preserved c = λ ks C w f.
    let l = c.loop-i in
    let R = l.invariant ks C w (omega arith) in
    let h : l.i < length ks = omega arith in
    elim c.if-free.branch [
      | then-free v ↦ rw (v.bits-is, v.next-is) (read-free C R h w v.if-free.true)
      | else-free v ↦ rw (v.bits-is, v.next-is) (read-other C R h w v.if-free.false)
    ]

pub returns : goal.returns
returns c = λ ks C w f. read-end (c.loop-i.invariant ks C w (omega arith)) (omega arith)
