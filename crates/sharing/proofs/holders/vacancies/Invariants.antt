-- The loop invariant of holders.vacancies: the set of the first k counts.
use mathlib.Core.Path.{◌≡◌}
use Prim.Native.Nat.{◌+◌}
use lib.ListN.{get_or}
use Rattle.laws.specs.Sets.{set_of}
use Rattle.sharing.specs.Sharing.{vacant_bit}
use Rattle.sharing.proofs.holders.vacancies.Given as goal

abbrev pub invariant-loop-k : goal.invariant-loop-k
invariant-loop-k l = l.set ≡ set_of l.k (λ k. vacant_bit (get_or l.holders (l.at + k) 0))
