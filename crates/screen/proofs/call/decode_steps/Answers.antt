-- `screen::call::decode_steps` meets its contract: the call that reads no record, whose answer without its record is all of it. Assumes nothing.
use Rattle.machine.specs.Calls.{given, lent_in}
use Rattle.screen.proofs.Shown.{steps-unread}
use Rattle.screen.proofs.call.decode_steps.Goals as goal

pub returns-clause-decodes : goal.returns-clause-decodes
returns-clause-decodes c =
    let a = c.args in
    let x = c.decode_shown-x in
    steps-unread (given a.book.now a.s a.values.now) (lent_in a.out.now a.workspace.now a.walk.now) a.steps.now x.result
    (lent_in x.new.out x.new.workspace x.new.walk) x.new.steps x.ensures.decodes
