-- `reading::run::run` meets its contract: the run's own, with tables that are large enough for its paths and hold zeros. Assumes nothing.
use Prim.Native.Nat.{ℕ}
use native.Mathlib.Omega.{arith}
use lib.ListN.{length-replicate}
use Rattle.laws.proofs.Lists.{get_d-zeros}
use Rattle.reading.proofs.run.run.Goals as goal

pub run_with-requires-clause-rows : goal.run_with-requires-clause-rows
run_with-requires-clause-rows c = (omega (arith, length-replicate {A = ℕ} 512 0), get_d-zeros 512, omega (arith, length-replicate {A = ℕ} 128 0))

pub run_with-requires-2-clause-rows : goal.run_with-requires-2-clause-rows
run_with-requires-2-clause-rows c =
    (omega (arith, c.requires.ranged.paths, length-replicate {A = ℕ} 4096 0), get_d-zeros 4096, omega (arith, c.requires.ranged.paths, length-replicate {A = ℕ} 1024 0))
