-- `tables::costs::pairs` meets its contract: the costs of two bits at each value, and their four sums. Assumes nothing.
use mathlib.Core.Path.{◌≡◌, ap, ◌∙◌}
use mathlib.Core.List.{[], ◌∷◌}
use Prim.Native.Nat.{ℕ, zero, suc, ◌+◌, ◌≤◌, ◌<◌}
use native.Mathlib.Omega.{arith}
use lib.IntN.{ℤ, nat_abs}
use lib.ListN.{get_or}
use mir.Syntax.{w32}
use mir.Val.{SFits}
use mir.Facts.{to_z-of_z}
use Rattle.laws.proofs.Signed.{back}
use Rattle.polar.specs.Soft.{cost}
use Rattle.polar.proofs.Soft.{cost-le}
use Rattle.outer.specs.Search.{cost_of}
use Rattle.tables.proofs.costs.pairs.Statement.{statement}
use Rattle.tables.proofs.costs.pairs.Tie as tie

-- a callee's answer: the cost of a bit at a value, and its bound
paid : {r : ℕ} (b : ℕ) {s : ℤ} → SFits w32 s → r ≡ cost b (back s) → nat_abs s ≤ 1048064 → (r ≡ cost b s) × (r ≤ 1048064)
paid b {s} f e h =
    let p = e ∙ ap (cost b) (to_z-of_z f) in
    (p, omega (arith, cost-le b s))

z0 : (c : tie.After-cost-z0) → let a = c.before.args in (c.cost-z0.result ≡ cost 0 a.s0) × (c.cost-z0.result ≤ 1048064)
z0 c = paid 0 c.before.ranges.s0 c.cost-z0.ensures c.before.requires.0

o0 : (c : tie.After-cost-o0) → let a = c.before.before.args in (c.cost-o0.result ≡ cost 1 a.s0) × (c.cost-o0.result ≤ 1048064)
o0 c = paid 1 c.before.before.ranges.s0 c.cost-o0.ensures c.before.before.requires.0

z1 : (c : tie.After-cost-z1) → let a = c.before.before.before.args in (c.cost-z1.result ≡ cost 0 a.s1) × (c.cost-z1.result ≤ 1048064)
z1 c = paid 0 c.before.before.before.ranges.s1 c.cost-z1.ensures c.before.before.before.requires.1

o1 : (c : tie.After-cost-o1) → let a = c.before.before.before.before.args in (c.cost-o1.result ≡ cost 1 a.s1) × (c.cost-o1.result ≤ 1048064)
o1 c = paid 1 c.before.before.before.before.ranges.s1 c.cost-o1.ensures c.before.before.before.before.requires.1

cost-requires : tie.Need-cost-z0-requires
cost-requires c κs = omega (arith, ap nat_abs (to_z-of_z c.ranges.s0))

cost-requires-2 : tie.Need-cost-o0-requires
cost-requires-2 c κs = omega (arith, ap nat_abs (to_z-of_z c.before.ranges.s0))

cost-requires-3 : tie.Need-cost-z1-requires
cost-requires-3 c κs = omega (arith, ap nat_abs (to_z-of_z c.before.before.ranges.s1))

cost-requires-4 : tie.Need-cost-o1-requires
cost-requires-4 c κs = omega (arith, ap nat_abs (to_z-of_z c.before.before.before.ranges.s1))

add-t7 : tie.Need-overflow_add-result
add-t7 c = omega (arith, z0 c.before.before.before, z1 c.before)

add-t8 : tie.Need-overflow_add-result-2
add-t8 c = omega (arith, o0 c.before.before, z1 c.before)

add-t9 : tie.Need-overflow_add-result-3
add-t9 c = omega (arith, z0 c.before.before.before, o1 c)

add-t10 : tie.Need-overflow_add-result-4
add-t10 c = omega (arith, o0 c.before.before, o1 c)

-- the four sums are the costs
sums : {a b d e : ℕ} (s t : ℤ) → (a ≡ cost 0 s) × (a ≤ 1048064) → (b ≡ cost 1 s) × (b ≤ 1048064) → (d ≡ cost 0 t) × (d ≤ 1048064) → (e ≡ cost 1 t) × (e ≤ 1048064)
    → (v : ℕ) → v < 4 → (get_or ((a + d) ∷ (b + d) ∷ (a + e) ∷ (b + e) ∷ []) v 0 ≡ cost_of v (s ∷ t ∷ [])) × (get_or ((a + d) ∷ (b + d) ∷ (a + e) ∷ (b + e) ∷ []) v 0 ≤ 2096128)
unfolding cost_of
sums s t h i j k zero l = (omega arith, omega arith)
sums s t h i j k (suc zero) l = (omega arith, omega arith)
sums s t h i j k (suc (suc zero)) l = (omega arith, omega arith)
sums s t h i j k (suc (suc (suc zero))) l = (omega arith, omega arith)
sums s t h i j k (suc (suc (suc (suc v)))) l = absurd (omega arith)

returns : tie.Need-returns
returns c =
    let a = c.before.before.before.before.args in
    sums a.s0 a.s1 (z0 c.before.before.before) (o0 c.before.before) (z1 c.before) (o1 c)

pub pairs_spec : {M : Type 1} → statement M
pairs_spec =
    tie.close
    (tie.spec
    cost-requires
    cost-requires-2
    cost-requires-3
    cost-requires-4
    add-t7
    add-t8
    add-t9
    add-t10
    returns)
