-- Values that show a bit, as document 02's first request has it: not 0, and with the bit's sign. Assumes nothing.
use Rattle.std.specs.Prelude.{◌≡◌, ℕ, ◌<◌, ℤ, nat_abs}
use Rattle.polar.specs.Soft.{hard}

-- a value shows the bit c: it is above 0 where c is 0, and below 0 where c is 1
pub record Shows (c : ℕ) (y : ℤ) : Type 0 where
  -- it is not 0
  pub some : 0 < nat_abs y
  -- its hard decision is c
  pub sign : c ≡ hard y
