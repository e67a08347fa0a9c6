-- `tables::costs::half_bytes` meets its contract: a half byte's cost is the sum of those of two pairs of bits. Assumes nothing.
use mathlib.Core.Path.{◌≡◌, refl, ap, ap₂, ◌∙◌}
use mathlib.Core.List.{List}
use Prim.Native.Nat.{ℕ, ◌+◌, ◌*◌, ◌/◌, ◌%◌, ◌≤◌}
use native.Mathlib.Omega.{arith}
use lib.IntN.{ℤ, pos, nat_abs}
use lib.ListN.{get_or}
use borrow.Author.Rules.{rules}
use Rattle.std.proofs.lemmas.Nat.{mul-le}
use Rattle.laws.specs.Lists.{All}
use Rattle.laws.proofs.Signed.{back}
use Rattle.laws.proofs.Stores.{stored_more}
use Rattle.polar.specs.Layers.{Within}
use Rattle.outer.proofs.Sums.{two-pairs, read_back, four-back}
use Rattle.tables.proofs.costs.half_bytes.Goals as goal

-- a value that was read is small
small_back : {r : ℤ} (l : List ℤ) (i : ℕ) → All (Within 1048064) l → r ≡ get_or l i (pos 0) → nat_abs (back r) ≤ 1048064
small_back l i h e = (read_back l i h e).1

pub pairs-low-requires : goal.pairs-low-requires
pairs-low-requires g c = (search (rules, small_back), search (rules, small_back))

pub pairs-high-requires : goal.pairs-high-requires
pairs-high-requires g c = (search (rules, small_back), search (rules, small_back))

pub overflow_mul-table : goal.overflow_mul-table
overflow_mul-table g c =
    let v = c.loop-v.v in
    let small : get_or c.pairs-low.result (v % 4) 0 + get_or c.pairs-high.result (v / 4) 0 ≤ 4192256 = omega (arith, (c.pairs-low.ensures (v % 4) (omega arith)).1, (c.pairs-high.ensures (v / 4) (omega arith)).1) in
    omega (arith, mul-le _ _ 4192256 256 small c.requires.scale.0)

pub overflow_add-table-in-loop-v : goal.overflow_add-table-in-loop-v
overflow_add-table-in-loop-v g c =
    let v = c.loop-v.v in
    let small : get_or c.pairs-low.result (v % 4) 0 + get_or c.pairs-high.result (v / 4) 0 ≤ 4192256 = omega (arith, (c.pairs-low.ensures (v % 4) (omega arith)).1, (c.pairs-high.ensures (v / 4) (omega arith)).1) in
    omega (
      arith,
      mul-le _ _ 4192256 256 small c.requires.scale.0,
      mul-le v g.row.STEP 16 16 (omega arith) c.requires.scale.1,
    )

pub loop-v-preserved : goal.loop-v-preserved
loop-v-preserved g c = stored_more _ c.loop-v.invariant (omega arith) refl

pub returns-clause-costs : goal.returns-clause-costs
returns-clause-costs g c = λ v l.
    let low = c.pairs-low.ensures (v % 4) (omega arith) in
    let high = c.pairs-high.ensures (v / 4) (omega arith) in
    c.loop-v.invariant.done v (omega arith)
    ∙ ap (λ x. x * g.row.SCALE + v * g.row.STEP) (ap₂ ◌+◌ low.0 high.0 ∙ two-pairs v _ _ _ _ ∙ search (rules, four-back))
