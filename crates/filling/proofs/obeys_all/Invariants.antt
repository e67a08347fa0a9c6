-- The loop's invariant of obeys_all: whether u obeys goes by the bits from index i on.
use mathlib.Core.Path.{◌≡◌}
use mathlib.Core.List.{List}
use lib.ListN.{length}
use Rattle.codebook.specs.Book.{Kind}
use Rattle.codec.specs.Tabled.{Tabled}
use Rattle.codec.proofs.Turns.{Obeying}
use Rattle.filling.proofs.obeys_all.Given as goal

abbrev pub invariant-loop-i : goal.invariant-loop-i
invariant-loop-i l = (ks : List Kind) → Tabled ks l.tables.kinds l.tables.terms → length ks ≡ length l.u → Obeying ks l.u l.i l.parities
