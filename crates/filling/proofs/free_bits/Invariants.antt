-- The loop's invariant of free_bits: the free bits before index i are written.
use mathlib.Core.Path.{◌≡◌}
use mathlib.Core.List.{List}
use lib.ListN.{length}
use Rattle.codebook.specs.Book.{Kind, free_count}
use Rattle.codec.specs.Tabled.{Coded}
use Rattle.codec.proofs.Turns.{Reading}
use Rattle.filling.proofs.free_bits.Given as goal

abbrev pub invariant-loop-i : goal.invariant-loop-i
invariant-loop-i l = (ks : List Kind) → Coded ks l.tables.kinds → length ks ≡ length l.u → free_count ks ≡ length l.bits → Reading ks l.u l.bits l.i l.next
