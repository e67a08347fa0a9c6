-- `words::next_word` meets its contract: the values, the parities before the last block, and that block's cost and word are those of the row. Assumes nothing.
use mathlib.Core.Path.{sym, ◌∙◌, subst}
use mathlib.Core.List.{List}
use lib.IntN.{ℤ}
use Rattle.outer.specs.Blocks.{Nexts}
use Rattle.outer.specs.Words.{next_after}
use Rattle.outer.proofs.Values.{searchable-values}
use Rattle.reader.specs.Paths.{own_word}
use Rattle.words.proofs.next_word.Goals as goal

pub next_after-requires-clause-searchable : goal.next_after-requires-clause-searchable
next_after-requires-clause-searchable c =
    let a = c.args in
    rw c.values_of-values.ensures (searchable-values a.memory.now.numbers.now _ a.tables.now.kinds a.last.start a.last.height c.requires.searchable)

pub returns : goal.returns
unfolding own_word
returns c = record {
  fact = λ B b p o h r e.
      subst (λ (vs : List ℤ). Nexts B vs p.earlier b (next_after (own_word B p b) B vs p.earlier b) c.next_after.result) c.values_of-values.ensures
      (c.next_after.ensures.fact B b p.earlier (own_word B p b) o h (c.cells_of-own.ensures.earlier ∙ r.earlier) (sym (c.cells_of-own.ensures.cost ∙ r.cost)) (sym (c.cells_of-own.ensures.word ∙ r.word b e)));
}
