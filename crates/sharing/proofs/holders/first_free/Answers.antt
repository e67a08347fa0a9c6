-- `sharing::holders::first_free` meets its contract: no id is free before the search begins; where it begins one is, or it is looked for from there on.
-- Assumes nothing.
use Rattle.sharing.specs.Sharing.{held_at}
use Rattle.sharing.proofs.holders.first_free.Goals as goal

pub returns-then-holders-height-eq0 : goal.returns-then-holders-height-eq0
unfolding held_at
returns-then-holders-height-eq0 c = let f = c.lowest-low.ensures in (f.0, f.1, f.2, λ _. c.if-holders-height-eq0.true)
