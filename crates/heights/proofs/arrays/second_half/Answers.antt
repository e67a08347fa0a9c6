-- `heights::arrays::second_half` meets its contract: an array of the height above does not overlap the one that is written, and what is written is
-- P of the halves of its contents, by the sums of the word's array. Assumes nothing.
use mathlib.Core.Path.{sym, ◌∙◌}
use Prim.Native.Nat.{suc, ◌^◌, ◌≤◌}
use native.Mathlib.Nat.{two-pow-succ}
use native.Mathlib.Numerals.{add-one}
use native.Mathlib.Omega.{arith}
use lib.ListN.{take, drop}
use borrow.Author.Rules.{rules}
use Rattle.laws.proofs.Lists.{all_map}
use Rattle.polar.specs.Soft.{Ps}
use Rattle.polar.proofs.Bits.{first-half, last-half}
use Rattle.polar.proofs.Soft.{Ps-length}
use Rattle.heights.proofs.Spots.{spot-room, spots-clear}
use Rattle.heights.proofs.Contents.{parts-read, parts-above, parts-length, parts-written}
use Rattle.heights.proofs.arrays.second_half.Goals as goal

pub lower_p-requires : goal.lower_p-requires
lower_p-requires c = record {
  clear = rw (c.spot_of.ensures, c.spot_of-2.ensures, c.power-n.ensures, add-one, ← two-pow-succ c.args.h)
      (spots-clear c.args.numbers.now c.requires.m_bound.3 c.requires.m_bound.1 (search) (omega arith) (search));
  n_in_bounds = rw (c.spot_of-3.ensures, c.power-n.ensures) (spot-room (omega arith) (search) c.args.bytes.now c.requires.m_bound.4);
  all = rw (c.spot_of.ensures, c.power-n.ensures, add-one, ← two-pow-succ c.args.h) (all_map (λ y b. omega arith) _ c.requires.all);
}

pub returns : goal.returns
returns c = let a = c.args in
    let l = a.numbers.now in
    let g : a.h ≤ a.layout.m = omega arith in
    let n = c.power-n.ensures in record {
      numbers_len_unchanged = search rules;
      by_index = λ vals sums p q.
          let ws = sums a.h a.word in
          let ys = vals (suc a.h) a.from in
          let w = parts-read a.bytes.now sums q g c.requires.id.1 c.spot_of-3.ensures n in
          let v = parts-length a.bytes.now sums q c.requires.m_bound.4 g c.requires.id.1 in
          let y = parts-above l vals p c.requires.m_bound.1 c.requires.id.0 c.spot_of.ensures n in
          let b = parts-length l vals p c.requires.m_bound.3 c.requires.m_bound.1 c.requires.id.0 in
          parts-written l vals p c.requires.m_bound.3 g c.requires.id.2 c.lower_p.ensures c.spot_of-2.ensures
          (λ k. Ps (w k) (take (n k) (y k)) (drop (n k) (y k)))
          (Ps-length ws (take (2 ^ a.h) ys) (drop (2 ^ a.h) ys) (v ∙ sym (first-half a.h ys b)) (first-half a.h ys b ∙ sym (last-half a.h ys b)) ∙ v);
    }
