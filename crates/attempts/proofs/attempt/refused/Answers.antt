-- `attempts::attempt::refused` meets its contract: the record by default is that of zeros. Assumes nothing.
use mathlib.Core.Path.{ap}
use Rattle.std.specs.Prelude.{Err}
use Rattle.codec.specs.declared.HookRecord.{HookRecord}
use Rattle.attempts.proofs.Judged.{default-record}
use Rattle.attempts.proofs.attempt.refused.Goals as goal

pub returns : goal.returns
returns c = ap (λ (h : HookRecord). record { outcome = Err c.args.r; counts = c.args.counts; hook = h }) (default-record c.default.result c.default.ensures)
