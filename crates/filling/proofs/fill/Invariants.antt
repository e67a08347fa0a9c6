-- The loop's invariant of fill: the bits before index i are filled.
use mathlib.Core.Path.{◌≡◌}
use mathlib.Core.List.{List}
use lib.ListN.{length, take}
use Rattle.codebook.specs.Book.{Kind, free_count}
use Rattle.codec.specs.Tabled.{Tabled}
use Rattle.codec.proofs.Turns.{PartFilled}
use Rattle.filling.proofs.fill.Given as goal

abbrev pub invariant-loop-i : goal.invariant-loop-i
invariant-loop-i l =
    (ks : List Kind) → Tabled ks l.tables.kinds l.tables.terms → length ks ≡ length l.word → free_count ks ≡ length l.bits → PartFilled ks l.bits (take l.i l.word) l.i l.next l.parities
