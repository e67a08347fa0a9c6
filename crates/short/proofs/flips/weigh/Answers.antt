-- `short::flips::weigh` meets its contract, by which of three weights are the two least. Assumes nothing.
use Rattle.short.proofs.Leads.{weighed-first, weighed-second, weighed-neither}
use Rattle.short.proofs.flips.weigh.Goals as goal

pub returns-then-w-x : goal.returns-then-w-x
returns-then-w-x c = let a = c.args in weighed-first a.w a.x c.if-w-x.true

pub returns-then-w-x-2 : goal.returns-then-w-x-2
returns-then-w-x-2 c = let a = c.args in weighed-second a.w a.x c.if-w-x.false c.if-w-x-2.true

pub returns : goal.returns
returns c = let a = c.args in weighed-neither a.w a.x c.if-w-x.false c.if-w-x-2.false
