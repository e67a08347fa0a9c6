-- `sharing::holders::mark` meets its contract: the shift does not wrap. Assumes nothing.
use mathlib.Core.Path.{sym, ap, ◌∙◌}
use Prim.Native.Nat.{ℕ, ◌*◌, ◌^◌}
use native.Mathlib.Nat.{zero-mul}
use native.Mathlib.Omega.{arith}
use lib.Pow.{shl_exact}
use Rattle.sharing.proofs.Vacant.{vacant-none, vacant-held}
use Rattle.sharing.proofs.holders.mark.Goals as goal

pub returns-then-count-eq0 : goal.returns-then-count-eq0
returns-then-count-eq0 c =
    let a = c.args in
    shl_exact {a = 1} 1 a.k 32 (omega arith) (omega (arith, c.requires)) ∙ ap (λ (b : ℕ). b * 2 ^ a.k) (vacant-none a.count c.if-count-eq0.true)

pub returns-else-count-eq0 : goal.returns-else-count-eq0
returns-else-count-eq0 c =
    let a = c.args in
    sym (zero-mul (2 ^ a.k)) ∙ ap (λ (b : ℕ). b * 2 ^ a.k) (vacant-held a.count c.if-count-eq0.false)
