-- `numbered::records::record_from` meets its contract: by the status's number. Assumes nothing.
use mathlib.Core.Path.{sym, ap}
use Rattle.codec.proofs.Record.{status-none, status-some}
use Rattle.numbered.specs.Answers.{record_from}
use Rattle.numbered.proofs.records.record_from.Goals as goal

pub returns-in_default : goal.returns-in_default
unfolding record_from
returns-in_default c = let a = c.args in sym (ap (record_from a.plant a.carcass a.side) (status-none a.status c.in_default.ensures))

pub returns : goal.returns
unfolding record_from
returns c = let a = c.args in sym (ap (record_from a.plant a.carcass a.side) (status-some a.status c.in-Ok.ensures))
