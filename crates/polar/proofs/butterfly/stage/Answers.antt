-- `polar::butterfly::stage` meets its contract. Assumes nothing.
use mathlib.Core.Path.{◌≡◌, ap, ◌∙◌}
use mathlib.Core.List.{◌++◌}
use Prim.Native.Nat.{suc, ◌+◌, ◌-◌, ◌*◌, ◌≤◌}
use native.Mathlib.Nat.{suc-mul, mul-le-mul_right}
use native.Mathlib.Numerals.{add-one}
use native.Mathlib.Omega.{arith}
use lib.ListN.{length, take, drop}
use Rattle.polar.specs.Layers.{stage}
use Rattle.polar.proofs.Stages.{stage-end, turn-bits, turn-stage}
use Rattle.polar.proofs.butterfly.stage.Goals as goal

pub loop-run-preserved : goal.loop-run-preserved
loop-run-preserved c =
    let x = c.loop-run in
    let h = c.args.h in
    let at = x.run * (h + h) in
    let w = c.add_run.new.c in
    let next : (x.run + 1) * (h + h) ≡ at + (h + h) = ap (λ n. n * (h + h)) (add-one x.run) ∙ suc-mul x.run (h + h) in
    let all : (x.run + 1) * (h + h) ≤ c.args.k * (h + h) = mul-le-mul_right (h + h) (omega arith) in
    let room : at + (h + h) ≤ length x.c = omega (arith, c.requires.0) in
    let left : suc (c.args.k - (x.run + 1)) ≡ c.args.k - x.run = omega arith in (
      turn-bits at h x.c w room c.add_run.ensures x.invariant.0,
      ap (λ n. take n w ++ stage (c.args.k - (x.run + 1)) h (drop n w)) next
          ∙ turn-stage at h x.c w room c.add_run.ensures (c.args.k - (x.run + 1)) ∙ ap (λ n. take at x.c ++ stage n h (drop at x.c)) left
          ∙ x.invariant.1,
    )

pub returns : goal.returns
returns c =
    let x = c.loop-run in
    stage-end (x.run * (c.args.h + c.args.h)) (c.args.k - x.run) c.args.h x.c (omega arith) ∙ x.invariant.1
