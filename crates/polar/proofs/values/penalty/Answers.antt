-- `polar::values::penalty` meets its contract: where v is not the hard decision, s below 0 is -|s| already, and else -s is. Assumes nothing.
use mathlib.Core.Path.{sym, ap, ◌∙◌}
use lib.IntN.{neg_ℤ, neg_ℤ-neg_ℤ}
use lib.Signed.{pos-nat_abs}
use mir.Facts.{to_z-of_z}
use Rattle.laws.proofs.Signed.{is_below, not-below, fits-abs, neg_is}
use Rattle.polar.specs.Soft.{hard}
use Rattle.polar.proofs.Soft.{abs-below, penalty-same, penalty-other}
use Rattle.polar.proofs.values.penalty.Goals as goal

pub returns-then-v-hard : goal.returns-then-v-hard
returns-then-v-hard c = penalty-same _ _ (c.if-v-hard.true ∙ c.hard.ensures ∙ ap hard (to_z-of_z c.ranges.s))

pub returns-then-s-lt0 : goal.returns-then-s-lt0
returns-then-s-lt0 c =
    let s = c.args.s in
    let f = c.ranges.s in
    to_z-of_z f ∙ sym (neg_ℤ-neg_ℤ s) ∙ ap neg_ℤ (abs-below s (is_below f c.if-s-lt0.true))
    ∙ penalty-other _ _ (λ e. c.if-v-hard.false (e ∙ sym (c.hard.ensures ∙ ap hard (to_z-of_z f))))

pub returns-else-s-lt0 : goal.returns-else-s-lt0
returns-else-s-lt0 c =
    let s = c.args.s in
    let f = c.ranges.s in
    let t = not-below f c.if-s-lt0.false in
    neg_is f (fits-abs s f t) ∙ ap neg_ℤ (sym (pos-nat_abs s t))
    ∙ penalty-other _ _ (λ e. c.if-v-hard.false (e ∙ sym (c.hard.ensures ∙ ap hard (to_z-of_z f))))
