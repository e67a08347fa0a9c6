-- `words::other_word` meets its contract: a word kept for the path's slot is its next one, where that is said of it; else the search answers. Assumes
-- nothing.
use mathlib.Core.Bool.{false≢true}
use Rattle.words.specs.Kept.{Keeps}
use Rattle.words.proofs.other_word.Goals as goal

pub returns-in-Some : goal.returns-in-Some
unfolding Keeps
returns-in-Some c = record {
  nexts = λ B b p o bits row q k. record { first = k c.in-Some.first (rw c.slot_of-slot.ensures.0 at c.in-Some.is); second = λ known. absurd (false≢true known) };
}

pub next_word-requires : goal.next_word-requires
next_word-requires c = let f = c.slot_of-slot.ensures in
    let p = c.requires.has_row in
    record {
      has_row = rw f.0 (p.0, p.1, p.2, p.3);
      searchable = rw f.0 c.requires.searchable;
      cost = rw f.0 c.requires.cost;
    }

pub returns-in-None : goal.returns-in-None
returns-in-None c = let f = c.slot_of-slot.ensures.0 in
    record { nexts = λ B b p o bits row q k. rw f at (c.next_word.ensures.fact B b p o bits (rw f row) q) }
