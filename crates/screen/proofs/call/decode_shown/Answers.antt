-- `screen::call::decode_shown` meets its contract: what the call leaves fits the buffers and the records, and the walk's buffers, copied, are the records of its extractions.
-- Assumes nothing.
use Rattle.machine.specs.Calls.{given, lent_in}
use Rattle.screen.specs.Screen.{Fitting}
use Rattle.screen.proofs.Shown.{decodes-steps}
use Rattle.screen.proofs.call.decode_shown.Goals as goal

pub copy_steps-requires : goal.copy_steps-requires
unfolding Fitting
copy_steps-requires c = c.decode_within-x.ensures.fitting

pub returns-clause-decodes : goal.returns-clause-decodes
returns-clause-decodes c =
    let a = c.args in
    let x = c.decode_within-x in
    rw c.copy_steps.ensures
    (decodes-steps a.r (given a.book.now a.s a.values.now) (lent_in a.out.now a.workspace.now a.walk.now) a.steps.now x.result
    (lent_in x.new.out x.new.workspace x.new.walk) (x.ensures.decodes, x.ensures.fitting))
