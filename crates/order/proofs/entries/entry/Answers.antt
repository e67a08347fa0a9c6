-- `order::entries::entry` meets its contract: the raised score is that of the definition. Assumes nothing.
use mathlib.Core.Path.{◌≡◌, sym, ◌∙◌}
use native.Mathlib.Omega.{arith}
use lib.IntN.{pos, nat_abs, ◌+ℤ◌}
use Rattle.laws.proofs.Signed.{back, abs-fits, add_is}
use Rattle.order.proofs.Digits.{raised, packed}
use Rattle.order.proofs.entries.entry.Goals as goal

pub returns : goal.returns
returns c =
    let a = c.args in
    let p = c.requires in
    let sum : back (back a.score +ℤ pos 2097152) ≡ pos (nat_abs (a.score +ℤ pos 2097152)) =
    add_is c.ranges.score (abs-fits (pos 2097152) (omega arith)) (omega arith) ∙ sym (raised a.score p.0).0 in
    rw sum (packed a.score a.blocks a.number a.slot p.0 p.1 p.2 p.3)
