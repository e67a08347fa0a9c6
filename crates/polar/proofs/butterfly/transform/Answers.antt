-- `polar::butterfly::transform` meets its contract. Assumes nothing.
use mathlib.Core.Path.{◌≡◌, sym, ap, ap₂, ◌∙◌, subst}
use Prim.Native.Nat.{◌-◌, ◌^◌}
use native.Mathlib.Nat.{sub-zero}
use native.Mathlib.Omega.{arith}
use Rattle.laws.specs.Lists.{All}
use Rattle.polar.specs.Bits.{Bit}
use Rattle.polar.proofs.Stages.{runs, runs-bits, runs-first, runs_last, pairs-length, joined, shifts, pairs, run-size}
use Rattle.polar.proofs.butterfly.transform.Goals as goal

pub loop-j-init : goal.loop-j-init
loop-j-init c =
    let l = c.args.c.now in
    sym (runs-first (2 ^ (c.args.m - 0)) l (c.requires.0 ∙ ap (λ n. 2 ^ n) (sym (sub-zero c.args.m))))

pub overflow_shr-n : goal.overflow_shr-n
overflow_shr-n c = let h = shifts c.requires.0 (omega arith) in omega arith

pub overflow_shl-j : goal.overflow_shl-j
overflow_shl-j c = let h = shifts c.requires.0 (omega arith) in omega arith

pub stage-requires : goal.stage-requires
stage-requires c =
    let x = c.loop-j in
    let q = c.loop-j-test.true in (
      pairs-length c.args.c.now c.requires.0 q x.invariant (pairs c.requires.0 (omega arith) x.j q) (run-size c.requires.0 (omega arith) x.j q),
      subst (All Bit) (sym x.invariant) (runs-bits (2 ^ (c.args.m - x.j)) x.j c.args.c.now c.requires.1),
    )

pub loop-j-preserved : goal.loop-j-preserved
loop-j-preserved c =
    let x = c.loop-j in
    let q = c.loop-j-test.true in
    c.stage.ensures ∙ joined c.args.c.now c.requires.0 q x.invariant (pairs c.requires.0 (omega arith) x.j q) (run-size c.requires.0 (omega arith) x.j q)

pub returns : goal.returns
returns c =
    let x = c.loop-j in
    let e : x.j ≡ c.args.m = omega arith in
    let z : c.args.m - x.j ≡ 0 = omega arith in
    x.invariant ∙ ap₂ (λ i j. runs (2 ^ i) j c.args.c.now) z e ∙ runs_last c.args.m c.args.c.now c.requires.0
