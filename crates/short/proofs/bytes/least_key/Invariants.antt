-- The loop of bytes.least_key: the least of the keys so far.
use mathlib.Core.Path.{◌≡◌}
use lib.ListN.{get_or}
use Rattle.short.specs.Short.{least_key}
use Rattle.short.proofs.bytes.least_key.Given as goal

abbrev pub invariant-loop-key : goal.invariant-loop-key
invariant-loop-key l = l.best ≡ least_key (λ w. get_or l.keys w 0) l.bound l.key-index
