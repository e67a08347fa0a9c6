-- `words::nearest_words` meets its contract: the values and the parities are those of the row. Assumes nothing.
use Rattle.outer.proofs.Values.{searchable-values}
use Rattle.words.proofs.nearest_words.Goals as goal

pub nearest_pair-requires : goal.nearest_pair-requires
nearest_pair-requires c =
    let a = c.args in
    record { searchable = rw c.values_of-values.ensures (searchable-values a.memory.now.numbers.now _ a.tables.now.kinds a.at.start a.at.height c.requires.searchable) }
