-- `polar::values::q` meets its contract: `least` is the lesser magnitude, negated where the signs differ. Assumes nothing.
use mathlib.Core.Path.{◌≡◌, sym, ap, ap₂, ◌∙◌}
use mathlib.Core.Bool.{beq}
use Prim.Native.Nat.{min}
use native.Mathlib.Omega.{arith}
use lib.IntN.{pos, neg_ℤ, nat_abs}
use mir.Facts.{to_z-of_z}
use Rattle.laws.proofs.Signed.{abs-fits, below-zero, neg_is}
use Rattle.polar.proofs.Soft.{Q-same, Q-other}
use Rattle.polar.proofs.values.q.Goals as goal

pub returns-then-a-b : goal.returns-then-a-b
returns-then-a-b c =
    let r = c.ranges in
    let least : c.min-least.result ≡ min (nat_abs c.args.a) (nat_abs c.args.b) =
    c.min-least.ensures ∙ ap₂ min (c.unsigned_abs.ensures.value ∙ ap nat_abs (to_z-of_z r.a)) (c.unsigned_abs-2.ensures.value ∙ ap nat_abs (to_z-of_z r.b)) in
    to_z-of_z (abs-fits (pos c.min-least.result) (omega arith)) ∙ ap pos least
    ∙ Q-same _ _ (ap₂ beq (sym (below-zero r.a)) (sym (below-zero r.b)) ∙ c.if-a-b.true)

pub returns-else-a-b : goal.returns-else-a-b
returns-else-a-b c =
    let r = c.ranges in
    let least : c.min-least.result ≡ min (nat_abs c.args.a) (nat_abs c.args.b) =
    c.min-least.ensures ∙ ap₂ min (c.unsigned_abs.ensures.value ∙ ap nat_abs (to_z-of_z r.a)) (c.unsigned_abs-2.ensures.value ∙ ap nat_abs (to_z-of_z r.b)) in
    neg_is (abs-fits (pos c.min-least.result) (omega arith)) (omega arith) ∙ ap (λ n. neg_ℤ (pos n)) least
    ∙ Q-other _ _ (ap₂ beq (sym (below-zero r.a)) (sym (below-zero r.b)) ∙ c.if-a-b.false)
