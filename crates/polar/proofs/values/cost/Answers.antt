-- `polar::values::cost` meets its contract, by what `hard` ensures. Assumes nothing.
use mathlib.Core.Path.{sym, ap, ◌∙◌}
use lib.IntN.{nat_abs}
use mir.Facts.{to_z-of_z}
use Rattle.polar.specs.Soft.{hard}
use Rattle.polar.proofs.Soft.{cost-same, cost-other}
use Rattle.polar.proofs.values.cost.Goals as goal

pub returns-then-v-hard : goal.returns-then-v-hard
returns-then-v-hard c = cost-same _ _ (c.if-v-hard.true ∙ c.hard.ensures ∙ ap hard (to_z-of_z c.ranges.s))

pub returns-else-v-hard : goal.returns-else-v-hard
returns-else-v-hard c =
    c.unsigned_abs.ensures.value ∙ ap nat_abs (to_z-of_z c.ranges.s)
    ∙ cost-other _ _ (λ e. c.if-v-hard.false (e ∙ sym (c.hard.ensures ∙ ap hard (to_z-of_z c.ranges.s))))
