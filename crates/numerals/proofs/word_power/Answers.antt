-- `numerals::word_power` meets its contract: a shift below the width loses nothing. Assumes nothing.
use native.Mathlib.Nat.{one-mul, mod-eq_of_lt}
use lib.Pow.{pow-lt}
use Rattle.numerals.proofs.word_power.Goals as goal

pub returns : goal.returns
returns c = rw one-mul (mod-eq_of_lt (pow-lt {i = c.args.e} {j = 32} c.requires))
