-- `polar::layers::copy_values` meets its contract. Assumes nothing.
use mir.Syntax.{w32}
use mathlib.Core.Path.{sym, ◌∙◌}
use native.Mathlib.Omega.{arith}
use Prim.Native.Nat.{◌+◌}
use lib.IntN.{pos}
use lib.ListN.{get_or}
use mir.Val.{SFits}
use mir.Facts.{to_z-of_z}
use borrow.Author.Rules.{rules}
use Rattle.polar.specs.Layers.{part}
use Rattle.polar.proofs.Writes.{part_length, part_at, unread, next, written}
use Rattle.polar.proofs.layers.copy_values.Goals as goal

pub loop-i-preserved : goal.loop-i-preserved
loop-i-preserved c =
    let a = c.args in
    let new = part a.from a.n a.numbers.now in
    let size = part_length a.from a.n a.numbers.now c.requires.source in
    let i = c.loop-i.i in
    let q = c.loop-i.invariant in
    let f : SFits w32 (get_or c.loop-i.numbers (a.from + i) (pos 0)) = search rules in
    next new c.requires size (pos 0) i q (omega arith)
    (to_z-of_z f ∙ unread new c.requires size (pos 0) i i q (omega arith) (omega arith) (omega arith)
    ∙ sym (part_at a.from a.n a.numbers.now (pos 0) i (omega arith)))

pub returns : goal.returns
returns c =
    let a = c.args in
    written (part a.from a.n a.numbers.now) c.requires (part_length a.from a.n a.numbers.now c.requires.source) c.loop-i.i c.loop-i.invariant (omega arith) (omega arith)
