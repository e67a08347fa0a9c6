-- `tables::messages::where_set` meets its contract: a number times 0 or 1. Assumes nothing.
use mathlib.Core.Path.{◌≡◌, sym, ap, ◌∙◌}
use Prim.Native.Nat.{◌*◌}
use native.Mathlib.Nat.{mul-zero, mul-one}
use native.Mathlib.Omega.{arith}
use Rattle.tables.proofs.messages.where_set.Goals as goal

pub returns-then-bit-eq0 : goal.returns-then-bit-eq0
returns-then-bit-eq0 c =
    let a = c.args in
    let e : 0 ≡ a.bit = omega arith in
    sym (mul-zero a.x) ∙ ap (λ b. a.x * b) e

pub returns : goal.returns
returns c =
    let a = c.args in
    let e : 1 ≡ a.bit = omega arith in
    sym (mul-one a.x) ∙ ap (λ b. a.x * b) e
