-- `numerals::number` meets its contract: each byte makes the number so far 256 times as large and adds itself. Assumes nothing.
use mathlib.Core.Path.{◌≡◌, refl}
use Prim.Native.Nat.{◌+◌, ◌*◌, ◌^◌}
use native.Mathlib.Numerals.{add-one}
use native.Mathlib.Omega.{arith}
use lib.ListN.{get_or, take}
use lib.Seq.{take-suc}
use lib.Pow.{pow_mono}
use Rattle.std.proofs.lemmas.Nat.{pow-add}
use Rattle.codebook.specs.Loading.{big_endian}
use Rattle.numerals.proofs.Bytes.{big-endian-last}
use Rattle.numerals.proofs.number.Goals as goal

pub loop-b-init : goal.loop-b-init
unfolding big_endian
loop-b-init c = (refl, omega arith)

pub overflow_mul-n : goal.overflow_mul-n
overflow_mul-n c = omega (arith, pow_mono {i = 8 * c.loop-b.b-index} {j = 24} (omega arith))

pub loop-b-preserved : goal.loop-b-preserved
loop-b-preserved c =
    let l = c.loop-b in
    let bytes = c.args.bytes.now in
    let last = big-endian-last 0 (take l.b-index bytes) (get_or bytes l.b-index 0) in
    let e : 8 * (l.b-index + 1) ≡ 8 * l.b-index + 8 = omega arith in
    let power : 2 ^ (8 * (l.b-index + 1)) ≡ 2 ^ (8 * l.b-index) * 256 = rw e (pow-add 2 (8 * l.b-index) 8) in
    (rw (add-one, take-suc bytes l.b-index 0 c.loop-b-test.true, last) (omega arith), omega (arith, power))
