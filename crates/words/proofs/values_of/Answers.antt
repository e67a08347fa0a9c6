-- `words::values_of` meets its contract: the values lie where `spot_of` says. Assumes nothing.
use mathlib.Core.Path.{◌≡◌, ap, ap₂, ◌∙◌}
use Prim.Native.Nat.{ℕ, ◌+◌, ◌-◌, ◌^◌}
use native.Mathlib.Omega.{arith}
use lib.ListN.{take, drop}
use Rattle.heights.specs.Workspace.{spot}
use Rattle.polar.specs.Layers.{part}
use Rattle.words.proofs.values_of.Goals as goal

pub returns : goal.returns
unfolding part
returns c =
    let a = c.args in
    let from : ℕ = c.spot_of-from.result in
    let count : from + c.power.result - from ≡ 2 ^ a.j = omega (arith, c.power.ensures) in
    let at = c.spot_of-from.ensures ∙ ap (λ i. spot a.m i a.j) c.id_of.ensures in
    ap₂ (λ n k. take n (drop k a.memory.now.numbers.now)) count at
