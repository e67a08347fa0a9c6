-- `start::receive` meets its contract: each value is stored where it belongs. Assumes nothing.
use mathlib.Core.Path.{◌≡◌, refl, ◌∙◌}
use mathlib.Core.List.{List}
use mathlib.Core.Logic.{inl}
use Prim.Native.Nat.{ℕ, ◌+◌, ◌≤◌}
use native.Mathlib.Omega.{arith}
use lib.IntN.{ℤ, pos}
use lib.ListN.{length, get_or}
use lib.Seq.{paste-zero}
use mir.Syntax.{w16, w32}
use mir.Facts.{to_z-of_z}
use Rattle.polar.specs.Layers.{Clear}
use Rattle.polar.proofs.Writes.{next, written}
use Rattle.start.proofs.receive.Goals as goal

-- nothing is read of what is written over
clear : (at : ℕ) (values numbers : List ℤ) → at + length values ≤ length numbers → Clear at (length values) at (length values) numbers
clear at values numbers h = record { source = h; room = h; ahead = inl (omega arith) }

pub loop-i-init : goal.loop-i-init
loop-i-init c = paste-zero _ c.args.at c.args.values.now

pub loop-i-preserved : goal.loop-i-preserved
loop-i-preserved c =
    let a = c.args in
    let read : c.from.result ≡ get_or a.values.now c.loop-i.i (pos 0) = c.from.ensures ∙ to_z-of_z {w = w16} (record { sfits = omega arith }) in
    next a.values.now (clear a.at a.values.now a.numbers.now c.requires) refl (pos 0) c.loop-i.i c.loop-i.invariant (omega arith)
    (to_z-of_z {w = w32} (record { sfits = c.from.type_inv }) ∙ read)

pub returns : goal.returns
returns c =
    let a = c.args in
    written a.values.now (clear a.at a.values.now a.numbers.now c.requires) refl c.loop-i.i c.loop-i.invariant (omega arith) (omega arith)
