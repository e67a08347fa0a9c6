-- `decoder::call::decode_in` meets its contract: the attempt is the call by the reader's run, and what a decoding call promises follows.
-- Assumes nothing.
use Rattle.machine.specs.Calls.{given, lent_in}
use Rattle.decoder.proofs.Said.{decodes}
use Rattle.decoder.proofs.call.decode_in.Goals as goal

pub returns-clause-decodes : goal.returns-clause-decodes
returns-clause-decodes c =
    let a = c.args in
    let x = c.attempt in
    decodes a.k (given a.book.now a.s a.values.now) (lent_in a.out.now a.workspace.now a.walk.now) x.result
    (lent_in x.new.out x.new.workspace x.new.walk) x.ensures.called.0 x.ensures.called.1
