-- `hooks::fields::field` meets its contract. Assumes nothing.
use mathlib.Core.Path.{sym, ap, ◌∙◌}
use Prim.Native.Nat.{ℕ, ◌^◌, ◌≤◌, ◌<◌}
use native.Mathlib.Omega.{arith}
use lib.Pow.{pow_mono}
use lib.ListN.{length, drop_of_length-le}
use Rattle.polar.specs.Bits.{Bit, from_bits}
use Rattle.laws.proofs.Lists.{all-at}
use Rattle.hooks.proofs.Parts.{from_more, digits_lt}
use Rattle.hooks.proofs.fields.field.Goals as goal

-- the digits so far are few
few : (i n : ℕ) → i < n → n ≤ 20 → 2 ^ i ≤ 2 ^ 19
few i n h k = pow_mono {j = 19} (omega arith)

pub overflow_add-x : goal.overflow_add-x
overflow_add-x c =
    let p = few c.loop-bit.bit-index (length c.args.bits.now) c.loop-bit-test.true c.requires.short in
    omega (arith, c.loop-bit.invariant.0, all-at Bit c.args.bits.now c.loop-bit.bit-index 0 c.loop-bit-test.true c.requires.bits)

pub loop-bit-preserved : goal.loop-bit-preserved
loop-bit-preserved c =
    let l = c.loop-bit in
    let b = all-at Bit c.args.bits.now l.bit-index 0 c.loop-bit-test.true c.requires.bits in (
      digits_lt l.x c.from.result l.bit-index l.invariant.0 (omega arith),
      from_more c.args.bits.now l.x l.bit-index c.from.result c.loop-bit-test.true c.from.ensures ∙ l.invariant.1,
    )

pub returns : goal.returns
unfolding from_bits
returns c = sym (ap (from_bits c.loop-bit.x) (drop_of_length-le c.args.bits.now {i = c.loop-bit.bit-index} c.loop-bit-test.false)) ∙ c.loop-bit.invariant.1
