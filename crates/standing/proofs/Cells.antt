-- A run of stores, one after the other, each at an index that an equation tells. Assumes nothing.
use mathlib.Core.Path.{◌≡◌}
use mathlib.Core.List.{List}
use Prim.Native.Nat.{ℕ, ◌+◌, ◌<◌}
use native.Mathlib.Omega.{arith}
use lib.ListN.{length, get_or, set}
use Rattle.laws.proofs.Stores.{Stored, stored_more}

-- a store more
pub store-next : {old new : List ℕ} {from i : ℕ} {f : ℕ → ℕ} (at v : ℕ) → Stored old new from f i → at ≡ from + i → at < length old → v ≡ f i → Stored old (set new at v) from f (i + 1)
store-next at v s q h e = rw q (stored_more v s (omega arith) e)

-- a cell of the run
pub store-read : {old new : List ℕ} {from i : ℕ} {f : ℕ → ℕ} (at k : ℕ) → Stored old new from f i → at ≡ from + k → k < i → get_or new at 0 ≡ f k
store-read at k s q h = rw q (s.done k h)
