-- A part of a list that another list was written over: what was written where it stands, and elsewhere what was there. By the laws of take and
-- drop over a join. Assumes nothing.
use mathlib.Core.Path.{◌≡◌, sym, ap, ◌∙◌}
use mathlib.Core.List.{List, ◌++◌, append_assoc}
use mathlib.Core.Logic.{◌⊎◌, inl, inr}
use Prim.Native.Nat.{ℕ, ◌+◌, ◌-◌, ◌≤◌}
use native.Mathlib.Omega.{arith}
use lib.ListN.{length, take, drop, length-append, length-drop}
use borrow.Rule.Slice.PartMut.{put_mid}
use lib.Seq.{length-take-le, take-take, take-append-le, take_at, drop-append-le, drop_at, drop-drop}
use Rattle.laws.proofs.Lists.{drop-take}
use Rattle.polar.specs.Layers.{part, over_at}

module _ {A : Type 0} (to : ℕ) (new l : List A) (h : to + length new ≤ length l) where
  -- what stands before the rest of the old list
  head-length : length (take to l ++ new) ≡ to + length new
  head-length = length-append (take to l) new ∙ omega (arith, length-take-le to l (omega arith))

  split-over : over_at to new l ≡ take to l ++ (new ++ drop (to + length new) l)
  unfolding over_at
  split-over = append_assoc (take to l) new (drop (to + length new) l)

  rest_over : drop (to + length new) (over_at to new l) ≡ drop (to + length new) l
  unfolding over_at
  rest_over = drop_at (take to l ++ new) (drop (to + length new) l) (to + length new) head-length

  -- the part that was written
  pub part-over : (n : ℕ) → length new ≡ n → part to n (over_at to new l) ≡ new
  unfolding part
  part-over n e =
      ap (λ x. take n (drop to x)) split-over
      ∙ ap (take n) (drop_at (take to l) (new ++ drop (to + length new) l) to (length-take-le to l (omega arith)))
      ∙ take_at new (drop (to + length new) l) n e

  -- a part that ends before it, or begins behind it
  pub part-over-apart : (at n : ℕ) → (at + n ≤ to) ⊎ (to + length new ≤ at) → part at n (over_at to new l) ≡ part at n l
  unfolding part
  part-over-apart at n (inl b) =
      let s = length-take-le to l (omega arith) in
      ap (λ x. take n (drop at x)) split-over
      ∙ ap (take n) (drop-append-le at (take to l) (new ++ drop (to + length new) l) (omega arith))
      ∙ ap (λ x. take n (x ++ (new ++ drop (to + length new) l))) (drop-take at to l)
      ∙ take-append-le n (take (to - at) (drop at l)) (new ++ drop (to + length new) l)
      (omega (arith, length-take-le (to - at) (drop at l) (omega (arith, length-drop at l))))
      ∙ take-take n (to - at) (drop at l) (omega arith)
  part-over-apart at n (inr b) =
      let e : to + length new + (at - (to + length new)) ≡ at = omega arith in
      let k = at - (to + length new) in
      ap (λ x. take n (drop x (over_at to new l))) (sym e)
      ∙ ap (take n) (sym (drop-drop k (to + length new) (over_at to new l)))
      ∙ ap (λ x. take n (drop k x)) rest_over
      ∙ ap (take n) (drop-drop k (to + length new) l)
      ∙ ap (λ x. take n (drop x l)) e

-- another list in the place of as many elements
pub mid-over : {A : Type 0} (to n : ℕ) (new l : List A) → length new ≡ n → put_mid to n l new ≡ over_at to new l
unfolding over_at
mid-over to n new l e =
    ap (λ x. take to l ++ (new ++ x)) (drop-drop n to l ∙ ap (λ k. drop (to + k) l) (sym e))
    ∙ sym (append_assoc (take to l) new (drop (to + length new) l))
