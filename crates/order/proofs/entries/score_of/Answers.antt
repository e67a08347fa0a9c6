-- `order::entries::score_of` meets its contract: the raised score is below 2^22, so the difference fits. Assumes nothing.
use Prim.Native.Nat.{◌/◌}
use native.Mathlib.Omega.{arith}
use lib.IntN.{pos}
use Rattle.laws.proofs.Signed.{abs-fits, sub_is}
use Rattle.order.specs.Entries.{key_at}
use Rattle.order.proofs.entries.score_of.Goals as goal

pub returns : goal.returns
unfolding key_at
returns c = sub_is (abs-fits (pos (c.args.e / 8589934592)) (omega arith)) (abs-fits (pos 2097152) (omega arith)) (omega arith)
