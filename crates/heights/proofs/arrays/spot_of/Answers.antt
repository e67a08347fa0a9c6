-- `heights::arrays::spot_of` meets its contract: the place is below 2^18, so nothing wraps. Assumes nothing.
use mathlib.Core.Path.{◌≡◌}
use Prim.Native.Nat.{ℕ, ◌-◌, ◌*◌, ◌^◌, ◌≤◌}
use native.Mathlib.Nat.{mul-le-mul}
use native.Mathlib.Omega.{arith}
use lib.Pow.{pow_mono}
use Rattle.heights.specs.Workspace.{spot, Id}
use Rattle.heights.proofs.arrays.spot_of.Goals as goal

-- the power, and where a row begins, are small
row : {m id p : ℕ} → m ≤ 9 → Id 256 id → p ≡ 2 ^ m → (p ≤ 512) × ((id - 1) * (2 * p) ≤ 255 * 1024)
row {m} {id} {p} h d e =
    let b : p ≤ 512 = omega (arith, pow_mono h) in
    let g = d.most in
    (b, mul-le-mul {n₁ = id - 1} {m₁ = 2 * p} {n₂ = 255} {m₂ = 1024} (omega arith) (omega arith))

pub overflow_mul-result : goal.overflow_mul-result
overflow_mul-result c = omega (arith, row c.requires.0 c.requires.2 c.power.ensures)

pub overflow_mul-result-2 : goal.overflow_mul-result-2
overflow_mul-result-2 c = omega (arith, row c.requires.0 c.requires.2 c.power.ensures)

pub overflow_add-result : goal.overflow_add-result
overflow_add-result c = omega (arith, row c.requires.0 c.requires.2 c.power.ensures, pow_mono c.requires.1)

pub returns : goal.returns
unfolding spot
returns c = let p = c.power.ensures in let q = c.power-2.ensures in rw (p, q)
