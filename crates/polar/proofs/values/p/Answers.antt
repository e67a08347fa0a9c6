-- `polar::values::p` meets its contract: the sum and the difference fit, since the magnitudes together are below 2^31. Assumes nothing.
use native.Mathlib.Omega.{arith}
use Rattle.laws.proofs.Signed.{add-fits, sub-fits}
use Rattle.polar.proofs.values.p.Goals as goal

pub overflow_add-result : goal.overflow_add-result
overflow_add-result c = add-fits c.ranges.b c.ranges.a (omega arith)

pub overflow_sub-result : goal.overflow_sub-result
overflow_sub-result c = sub-fits c.ranges.b c.ranges.a (omega arith)
