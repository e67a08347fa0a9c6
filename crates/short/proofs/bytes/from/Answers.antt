-- `short::bytes::from` meets its contract, by its test. Assumes nothing.
use mathlib.Core.Path.{sym}
use native.Mathlib.Omega.{arith}
use Rattle.short.proofs.LeastKey.{kept_out, kept_in}
use Rattle.short.proofs.bytes.from.Goals as goal

pub returns-then-key-bound : goal.returns-then-key-bound
returns-then-key-bound c = sym (kept_out _ _ (omega arith))

pub returns-else-key-bound : goal.returns-else-key-bound
returns-else-key-bound c = sym (kept_in _ _ (omega arith))
