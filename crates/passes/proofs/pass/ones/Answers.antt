-- `passes::pass::ones` meets its contract: the shift does not wrap. Assumes nothing.
use mathlib.Core.Path.{◌≡◌, ap, ◌∙◌}
use Prim.Native.Nat.{ℕ, ◌-◌, ◌*◌, ◌%◌, ◌^◌, ◌≤◌}
use native.Mathlib.Nat.{one-mul}
use native.Mathlib.Omega.{arith}
use lib.Pow.{pow_mono, pow_pos, shl_exact}
use Rattle.passes.proofs.pass.ones.Goals as goal

-- the power that the shift makes
all : (n : ℕ) → n ≤ 32 → 1 * 2 ^ n % 18446744073709551616 ≡ 2 ^ n
all n h = shl_exact {a = 1} 1 n 64 (omega arith) (omega arith) ∙ one-mul (2 ^ n)

pub overflow_sub-result : goal.overflow_sub-result
overflow_sub-result c = omega (arith, all c.args.n c.requires, pow_pos c.args.n)

pub overflow_cast-result : goal.overflow_cast-result
overflow_cast-result c =
    let h : c.args.n ≤ 32 = c.requires in
    let p : 2 ^ c.args.n ≤ 2 ^ 32 = pow_mono h in
    omega (arith, all c.args.n c.requires)

pub returns : goal.returns
returns c = ap (λ x. x - 1) (all c.args.n c.requires)
