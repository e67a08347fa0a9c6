-- `heights::arrays::put_word` meets its contract: a bit of the word is what the halvings before it left, modulo 2. Assumes nothing.
use mathlib.Core.Path.{sym, ap, ◌∙◌}
use Prim.Native.Nat.{◌/◌, ◌%◌, ◌<◌}
use native.Mathlib.Omega.{arith}
use borrow.Author.Count.{below_more}
use lib.ListN.{length}
use lib.Pow.{shr-shr}
use lib.Seq.{ext_get_or}
use Rattle.std.proofs.Common.{◌≢◌, get_or-set_other, get_or-set_same}
use Rattle.heights.specs.Workspace.{bits_of}
use Rattle.heights.proofs.Words.{bits-length, bits_at}
use Rattle.heights.proofs.arrays.put_word.Goals as goal

pub loop-bit-preserved : goal.loop-bit-preserved
loop-bit-preserved c =
    let i = c.loop-bit.bit-index in
    let w = c.args.word in
    let inv = c.loop-bit.invariant in
    let lt : i < length c.loop-bit.bits = omega arith in (
      ap (λ x. x / 2) inv.0 ∙ shr-shr w i 1,
      below_more _ _
          (λ k h. let ne : k ≢ i = omega arith in rw get_or-set_other (inv.1 k h))
          (rw get_or-set_same (ap (λ x. x % 2) inv.0 ∙ sym (bits_at (length c.args.bits.now) w i (omega arith)))),
    )

pub returns : goal.returns
returns c =
    let l = c.loop-bit in
    let n = bits-length (length c.args.bits.now) c.args.word in
    ext_get_or 0 l.bits (bits_of (length c.args.bits.now) c.args.word) (omega arith) (λ k h. l.invariant.1 k (omega arith))
