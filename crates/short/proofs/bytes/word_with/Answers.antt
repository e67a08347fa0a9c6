-- `short::bytes::word_with` meets its contract, by what `spread_at` ensures. Assumes nothing.
use Rattle.short.specs.Short.{word_with}
use Rattle.short.proofs.bytes.word_with.Goals as goal

pub returns : goal.returns
unfolding word_with
returns c = rw c.spread_at.ensures
