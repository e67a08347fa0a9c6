-- A set of numbers below n as one number: member t counts 2^t. Assumes nothing.
use Rattle.std.specs.Prelude.{ℕ, zero, suc, ◌+◌, ◌*◌, ◌^◌}

-- the set of the t below n at which f is 1
unfoldable pub set_of : ℕ → (ℕ → ℕ) → ℕ
set_of zero f = 0
set_of (suc n) f = f n * 2 ^ n + set_of n f
