-- `attempts::verdict::give` meets its contract: by the outcome. Assumes nothing.
use Rattle.std.proofs.Common.{sym, ◌∙◌}
use Rattle.polar.specs.Layers.{part}
use Rattle.attempts.proofs.verdict.give.Goals as goal

pub returns-then-is_ok-clause-given : goal.returns-then-is_ok-clause-given
unfolding part
returns-then-is_ok-clause-given c =
    let q = sym c.is_ok.ensures.value ∙ c.if-is_ok.true in
    rw q (c.copy_from_slice.ensures.after, c.copy_from_slice-then-is_ok.ensures.after)
