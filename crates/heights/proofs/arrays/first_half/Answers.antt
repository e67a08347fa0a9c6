-- `heights::arrays::first_half` meets its contract: an array of the height above does not overlap the one that is written, and what is written is
-- Q of the halves of its contents. Assumes nothing.
use mathlib.Core.Path.{sym, ◌∙◌}
use Prim.Native.Nat.{suc, ◌^◌}
use native.Mathlib.Nat.{two-pow-succ}
use native.Mathlib.Numerals.{add-one}
use native.Mathlib.Omega.{arith}
use lib.ListN.{take, drop}
use borrow.Author.Rules.{rules}
use Rattle.polar.specs.Soft.{Qs}
use Rattle.polar.proofs.Bits.{first-half, last-half}
use Rattle.polar.proofs.Soft.{Qs-length}
use Rattle.heights.proofs.Spots.{spots-clear}
use Rattle.heights.proofs.Contents.{parts-above, parts-length, parts-written}
use Rattle.heights.proofs.arrays.first_half.Goals as goal

pub lower_q-requires : goal.lower_q-requires
lower_q-requires c = record {
  clear = rw (c.spot_of.ensures, c.spot_of-2.ensures, c.power-n.ensures, add-one, ← two-pow-succ c.args.h)
      (spots-clear c.args.numbers.now c.requires.m_bound.3 c.requires.m_bound.1 (search) (omega arith) (search));
  all = rw (c.spot_of.ensures, c.power-n.ensures, add-one, ← two-pow-succ c.args.h) c.requires.all;
}

pub returns : goal.returns
returns c = let h = c.args.h in
    let l = c.args.numbers.now in
    let n = c.power-n.ensures in record {
      numbers_len_unchanged = search rules;
      by_index = λ vals p.
          let ys = vals (suc h) c.args.from in
          let y = parts-above l vals p c.requires.m_bound.1 c.requires.m_bound.4 c.spot_of.ensures n in
          let b = parts-length l vals p c.requires.m_bound.3 c.requires.m_bound.1 c.requires.m_bound.4 in
          parts-written l vals p c.requires.m_bound.3 (omega arith) c.requires.m_bound.5 c.lower_q.ensures c.spot_of-2.ensures
          (λ k. Qs (take (n k) (y k)) (drop (n k) (y k)))
          (Qs-length (take (2 ^ h) ys) (drop (2 ^ h) ys) (first-half h ys b ∙ sym (last-half h ys b)) ∙ first-half h ys b);
    }
