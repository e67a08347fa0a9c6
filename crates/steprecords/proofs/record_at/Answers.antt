-- `steprecords::record_at` meets its contract where there is an entry i. Assumes nothing.
use Rattle.std.proofs.Common.{arith}
use Rattle.std.proofs.lemmas.Int.{to_z-of_z}
use Rattle.steprecords.proofs.Entries.{entry-made}
use Rattle.steprecords.proofs.record_at.Goals as goal

pub returns-then-i-n : goal.returns-then-i-n
returns-then-i-n c =
    let a = c.args in
    entry-made a.paths.now a.blocks.now a.scores.now a.n a.i c.if-i-n.true _ _ _ (grind (arith, to_z-of_z)) (grind (arith, to_z-of_z)) (grind (arith, to_z-of_z))
