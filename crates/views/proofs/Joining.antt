-- A word joined with the sums of the heights above it, at the end of an array's cells: what one turn of the loop needs, and what it leaves. By
-- the places of the arrays (heights) and the parts before and behind what is written. Assumes nothing.
use mathlib.Core.Path.{◌≡◌, refl, sym, ap, ap₂, ◌∙◌, subst}
use mathlib.Core.List.{List, ◌++◌}
use mathlib.Core.Logic.{inl, inr, ⊎_elim}
use Prim.Native.Nat.{ℕ, zero, suc, ◌+◌, ◌-◌, ◌^◌, ◌≤◌, ◌<◌}
use native.Mathlib.Nat.{two-pow-succ}
use native.Mathlib.Numerals.{add-one}
use native.Mathlib.Omega.{arith}
use lib.ListN.{length, take, drop}
use lib.Pow.{pow_mono}
use lib.Seq.{take-add, drop-drop}
use Rattle.laws.specs.Lists.{All}
use Rattle.laws.proofs.Lists.{all_append}
use Rattle.polar.specs.Bits.{Bit, add_bits}
use Rattle.polar.specs.Layers.{part, over_at, Clear}
use Rattle.polar.proofs.Bits.{add-bits}
use Rattle.polar.proofs.Writes.{add-sums-length}
use Rattle.reader.specs.Arrays.{joined}
use Rattle.heights.specs.Workspace.{spot, Room, Id}
use Rattle.heights.proofs.Over.{part-over, part-over-apart}
use Rattle.heights.proofs.Spots.{spot-room, spots-apart}
use Rattle.views.specs.Steps.{Joined}
use Rattle.views.proofs.Inside.{joined-none, joined-on, over-joined, joined-apart}

-- ---- the joined word

-- it reads the sums of its heights alone
pub joined_same : (f g : ℕ → List ℕ) (j d : ℕ) (w : List ℕ) → ((k : ℕ) → j ≤ k → k < j + d → f k ≡ g k) → joined f j d w ≡ joined g j d w
unfolding joined
joined_same f g j zero w e = refl
joined_same f g j (suc d) w e =
    ap₂ (λ s c. add_bits s c ++ c) (e (j + d) (omega arith) (omega arith)) (joined_same f g j d w (λ k a b. e k a (omega arith)))

-- one height more
joined-next : (f : ℕ → List ℕ) {j k : ℕ} (w : List ℕ) → j ≤ k → joined f j (suc k - j) w ≡ add_bits (f k) (joined f j (k - j) w) ++ joined f j (k - j) w
unfolding joined
joined-next f {j} {k} w l =
    let d : suc k - j ≡ suc (k - j) = omega arith in
    let e : j + (k - j) ≡ k = omega arith in
    ap (λ n. joined f j n w) d ∙ ap (λ n. add_bits (f n) (joined f j (k - j) w) ++ joined f j (k - j) w) e

-- a part in two pieces
part-split : (at n k : ℕ) (l : List ℕ) → part at (n + k) l ≡ part at n l ++ part (at + n) k l
unfolding part
part-split at n k l = take-add n k (drop at l) ∙ ap (λ x. take n (drop at l) ++ take k x) (drop-drop n at l)

-- ---- the loop

-- the sum and the word of a lower height are within the cells
pub twice-fits : {k h : ℕ} → k < h → 2 ^ k + 2 ^ k ≤ 2 ^ h
twice-fits {k} l = omega (arith, two-pow-succ k, pow_mono l)

-- after the height below k: the word's part of 2^k bits stands at the end of the cells, and is of bits; else nothing changed
pub record Progress (m h i j : ℕ) (ids : ℕ → ℕ) (old : List ℕ) (k : ℕ) (new : List ℕ) : Type 0 where
  pub low : j ≤ k
  pub high : k ≤ h
  pub inside : Joined m h i old new
  pub word : part (spot m i h + 2 ^ h - 2 ^ k) (2 ^ k) new
      ≡ joined (λ g. part (spot m (ids g) g) (2 ^ g) old) j (k - j) (part (spot m i h + (2 ^ h - 2 ^ j)) (2 ^ j) old)
  pub bits : All Bit (part (spot m i h + 2 ^ h - 2 ^ k) (2 ^ k) new)

module _ {m h i j : ℕ} {ids : ℕ → ℕ} {old : List ℕ} where
  pub progress-none : j ≤ h → All Bit (part (spot m i h + (2 ^ h - 2 ^ j)) (2 ^ j) old) → Progress m h i j ids old j old
  unfolding joined
  progress-none l b =
      let s : spot m i h + (2 ^ h - 2 ^ j) ≡ spot m i h + 2 ^ h - 2 ^ j = omega (arith, pow_mono l) in
      let z : 0 ≡ j - j = omega arith in
      let w : List ℕ = part (spot m i h + (2 ^ h - 2 ^ j)) (2 ^ j) old in
      record {
        low = omega arith;
        high = l;
        inside = joined-none old;
        word = ap (λ n. part n (2 ^ j) old) (sym s) ∙ ap (λ n. joined (λ g. part (spot m (ids g) g) (2 ^ g) old) j n w) z;
        bits = subst (λ (n : ℕ). All Bit (part n (2 ^ j) old)) s b;
      }

  pub progress-done : {k : ℕ} {new : List ℕ} → h ≤ k → Progress m h i j ids old k new →
      part (spot m i h) (2 ^ h) new
      ≡ joined (λ g. part (spot m (ids g) g) (2 ^ g) old) j (h - j) (part (spot m i h + (2 ^ h - 2 ^ j)) (2 ^ j) old)
  progress-done {k} {new} l p =
      let e : k ≡ h = omega (arith, p.high) in
      let s : spot m i h ≡ spot m i h + 2 ^ h - 2 ^ h = omega arith in
      let w : List ℕ = part (spot m i h + (2 ^ h - 2 ^ j)) (2 ^ j) old in
      ap (λ n. part n (2 ^ h) new) s
      ∙ subst (λ (n : ℕ). part (spot m i h + 2 ^ h - 2 ^ n) (2 ^ n) new ≡ joined (λ g. part (spot m (ids g) g) (2 ^ g) old) j (n - j) w) e p.word

-- one turn, at height k
module _ {m N h i j : ℕ} {ids : ℕ → ℕ} {old : List ℕ} {k : ℕ} {new : List ℕ} (g : h ≤ m) (d : Id N i) (r : Room m N old) (l : k < h) (d' : Id N (ids k))
    (p : Progress m h i j ids old k new) where
  size : length new ≡ length old
  size = p.inside.size

  low_same : part (spot m (ids k) k) (2 ^ k) new ≡ part (spot m (ids k) k) (2 ^ k) old
  low_same = joined-apart g d old new r p.inside (omega arith) d' (λ e. omega arith)

  -- the sums are read while the sum is written, and so is the word
  turn_low : Clear (spot m (ids k) k) (2 ^ k) (spot m i h + 2 ^ h - (2 ^ k + 2 ^ k)) (2 ^ k) new
  turn_low =
      let a : k ≤ m = omega arith in
      let f = twice-fits l in
      let e = size in
      let b = spot-room g d old r in
      let b' = spot-room a d' old r in
      record {
        source = omega arith;
        room = omega arith;
        ahead = ⊎_elim (λ o. inr (omega arith)) (λ o. inl (omega arith)) (spots-apart a d' g d (λ e. omega arith));
      }

  turn-high : Clear (spot m i h + 2 ^ h - 2 ^ k) (2 ^ k) (spot m i h + 2 ^ h - (2 ^ k + 2 ^ k)) (2 ^ k) new
  turn-high =
      let f = twice-fits l in
      let e = size in
      let b = spot-room g d old r in
      record { source = omega arith; room = omega arith; ahead = inl (omega arith) }

  -- after the write
  module _ {new' : List ℕ} (q : new' ≡ over_at (spot m i h + 2 ^ h - (2 ^ k + 2 ^ k)) (add_bits (part (spot m (ids k) k) (2 ^ k) new) (part (spot m i h + 2 ^ h - 2 ^ k) (2 ^ k) new)) new) where
    to : ℕ
    to = spot m i h + 2 ^ h - (2 ^ k + 2 ^ k)

    written : List ℕ
    written = add_bits (part (spot m (ids k) k) (2 ^ k) new) (part (spot m i h + 2 ^ h - 2 ^ k) (2 ^ k) new)

    length-written : length written ≡ 2 ^ k
    unfolding written
    length-written = add-sums-length (spot m (ids k) k) (spot m i h + 2 ^ h - 2 ^ k) (2 ^ k) new turn_low.source turn-high.source

    -- twice the bits: the sum, and the word as it was
    twice : part (spot m i h + 2 ^ h - 2 ^ (k + 1)) (2 ^ (k + 1)) new' ≡ written ++ part (spot m i h + 2 ^ h - 2 ^ k) (2 ^ k) new
    unfolding to written
    twice =
        let n : 2 ^ (k + 1) ≡ 2 ^ k + 2 ^ k = ap (λ x. 2 ^ x) (add-one k) ∙ two-pow-succ k in
        let f = twice-fits l in
        let w = length-written in
        let c : to + length written ≤ length new = omega (arith, turn-high.room) in
        let s : to + 2 ^ k ≡ spot m i h + 2 ^ h - 2 ^ k = omega arith in
        ap (λ x. part (spot m i h + 2 ^ h - x) x new') n
        ∙ part-split to (2 ^ k) (2 ^ k) new'
        ∙ ap (λ y. part to (2 ^ k) y ++ part (to + 2 ^ k) (2 ^ k) y) q
        ∙ ap₂ (λ (x y : List ℕ). x ++ y) (part-over to written new c (2 ^ k) w) (part-over-apart to written new c (to + 2 ^ k) (2 ^ k) (inr (omega arith)))
        ∙ ap (λ x. written ++ part x (2 ^ k) new) s

    leaves : Progress m h i j ids old (k + 1) new'
    unfolding to written
    leaves =
        let f = twice-fits l in
        let w = length-written in
        let b = spot-room g d old r in
        let e = size in
        let a = p.low in
        let sums : ℕ → List ℕ = λ n. part (spot m (ids n) n) (2 ^ n) old in
        let v : List ℕ = part (spot m i h + (2 ^ h - 2 ^ j)) (2 ^ j) old in
        record {
          low = omega arith;
          high = omega arith;
          inside = joined-on old new p.inside (over-joined to written new q (omega arith) (omega arith) (omega arith));
          word =
              twice
              ∙ ap₂ (λ (x y : List ℕ). add_bits x y ++ y) low_same p.word
              ∙ sym (joined-next sums v a)
              ∙ ap (λ n. joined sums j (n - j) v) (sym (add-one k));
          bits = subst (All Bit) (sym twice) (all_append Bit written _ (add-bits _ _) p.bits);
        }

  -- the same by the code's numbers: the place of the sums, the end of the cells and the size of the word
  module _ {low end n : ℕ} (a : low ≡ spot m (ids k) k) (b : end ≡ spot m i h + 2 ^ h) (e : n ≡ 2 ^ k) where
    pub turn-needs : All Bit (part (spot m (ids k) k) (2 ^ k) old) →
        Clear low n (end - (n + n)) n new × Clear (end - n) n (end - (n + n)) n new × All Bit (part low n new) × All Bit (part (end - n) n new)
    turn-needs c = rw (a, b, e) (turn_low, turn-high, subst (All Bit) (sym low_same) c, p.bits)

    pub progress-more : {new' : List ℕ} → new' ≡ over_at (end - (n + n)) (add_bits (part low n new) (part (end - n) n new)) new → Progress m h i j ids old (k + 1) new'
    progress-more q = leaves (rw (a, b, e) at q)
