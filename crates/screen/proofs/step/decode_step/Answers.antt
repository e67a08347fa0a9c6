-- `screen::step::decode_step` meets its contract: answer, buffers and demand 3 are the decoding call's, and the record is entry i of the walk it left.
-- Assumes nothing.
use Rattle.machine.specs.Calls.{given, lent_in}
use Rattle.screen.proofs.Stepped.{step_fits, decodes-step}
use Rattle.screen.proofs.step.decode_step.Goals as goal

pub record_at-step-requires : goal.record_at-step-requires
record_at-step-requires c =
    let a = c.args in
    let x = c.decode-r in
    step_fits (given a.book.now a.s a.values.now) (lent_in a.out.now a.workspace.now a.walk.now) x.result
    (lent_in x.new.out x.new.workspace x.new.walk) x.ensures.decodes

pub returns-clause-decodes : goal.returns-clause-decodes
returns-clause-decodes c =
    let a = c.args in
    let x = c.decode-r in
    decodes-step (given a.book.now a.s a.values.now) (lent_in a.out.now a.workspace.now a.walk.now) x.result
    (lent_in x.new.out x.new.workspace x.new.walk) x.ensures.decodes a.i c.record_at-step.result c.record_at-step.ensures
