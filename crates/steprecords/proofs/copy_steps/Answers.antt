-- `steprecords::copy_steps` meets its contract: a turn copies one more record. Assumes nothing.
use Rattle.std.proofs.Common.{◌≡◌, ◌++◌, ◌∙◌, ap, refl, arith, take, drop}
use Rattle.std.proofs.lemmas.Int.{to_z-of_z}
use Rattle.std.proofs.lemmas.List.{length-take}
use Rattle.steprecords.specs.Records.{copied}
use Rattle.steprecords.proofs.Copied.{copied-next, copied-part}
use Rattle.steprecords.proofs.copy_steps.Goals as goal

pub loop-i-init : goal.loop-i-init
unfolding copied
loop-i-init c = refl

pub loop-i-preserved : goal.loop-i-preserved
loop-i-preserved c =
    let a = c.args in
    copied-next (take a.n a.steps.now) a.paths.now a.blocks.now a.scores.now c.loop-i.i c.loop-i.step-items _ _ _ c.loop-i.invariant (grind (arith, to_z-of_z)) (grind (arith, to_z-of_z)) (grind (arith, to_z-of_z))

pub returns : goal.returns
returns c =
    let a = c.args in
    let e : c.loop-i.i ≡ a.n = omega (arith, length-take a.n a.steps.now) in
    ap (λ l. l ++ drop a.n a.steps.now) (c.loop-i.invariant ∙ ap (λ i. copied (take a.n a.steps.now) a.paths.now a.blocks.now a.scores.now i) e)
    ∙ copied-part a.steps.now a.paths.now a.blocks.now a.scores.now a.n a.n (omega arith) (omega arith)
