-- A word put at the end of the array taken, and joined there with the path's sums of the lower heights: what the path then sees. The ids and sums
-- of the lower heights are those that it saw before. Assumes nothing.
use mathlib.Core.Path.{◌≡◌, sym, ap, ap₂, ◌∙◌, subst}
use mathlib.Core.List.{List}
use Prim.Native.Nat.{ℕ, ◌+◌, ◌-◌, ◌^◌, ◌≤◌, ◌<◌}
use native.Mathlib.Omega.{arith}
use lib.ListN.{length}
use lib.Pow.{pow_mono}
use borrow.Rule.Slice.PartMut.{mid_of, put_mid}
use Rattle.laws.specs.Lists.{All}
use Rattle.polar.specs.Bits.{Bit}
use Rattle.polar.specs.Layers.{part, over_at}
use Rattle.polar.proofs.Writes.{part_length}
use Rattle.reader.specs.Arrays.{View, sums_of, put_sums, joined}
use Rattle.sharing.specs.Sharing.{id_at, HasRow}
use Rattle.heights.specs.Workspace.{spot, Room, Id, bits_of}
use Rattle.heights.proofs.Over.{part-over, mid-over}
use Rattle.heights.proofs.Spots.{spot-room}
use Rattle.heights.proofs.Words.{bits-length}
use Rattle.standing.specs.Seen.{Memory, memory, HasArrays, Seen}
use Rattle.views.specs.Steps.{Joinable, Joined}
use Rattle.views.proofs.Seeing.{Took, took-other, seen-some, seen-sums, seen-put-sums}
use Rattle.views.proofs.Inside.{joined-on, over-joined, joined-apart, joined-parts}
use Rattle.views.proofs.Joining.{joined_same}

-- ---- the word put into the last cells of an array

module _ {m N h i j : ℕ} (g : h ≤ m) (d : Id N i) (a : j ≤ h) (old : List ℕ) (r : Room m N old) (w : ℕ) {at n : ℕ} {bits : List ℕ}
    (e : at ≡ spot m i h + 2 ^ h - 2 ^ j) (f : n ≡ 2 ^ j) (q : bits ≡ bits_of (length (mid_of at n old)) w) where
  -- they lie within the bytes
  fits : at + n ≤ length old
  fits = let b = pow_mono a in let k = spot-room g d old r in omega arith

  bits_are : bits ≡ bits_of (2 ^ j) w
  unfolding part
  bits_are = q ∙ ap (λ k. bits_of k w) (part_length at n old fits ∙ f)

  size : length bits ≡ 2 ^ j
  size = ap length bits_are ∙ bits-length (2 ^ j) w

  over-is : put_mid at n old bits ≡ over_at at bits old
  over-is = mid-over at n bits old (size ∙ sym f)

  pub put-joined : Joined m h i old (put_mid at n old bits)
  put-joined =
      let b = pow_mono a in
      let s = size in
      over-joined at bits old over-is (omega arith) (omega arith) (spot-room g d old r)

  pub put_word : part (spot m i h + (2 ^ h - 2 ^ j)) (2 ^ j) (put_mid at n old bits) ≡ bits_of (2 ^ j) w
  put_word =
      let b = pow_mono a in
      let s : spot m i h + (2 ^ h - 2 ^ j) ≡ at = omega arith in
      let z = size in
      let k = fits in
      ap₂ (λ x y. part x (2 ^ j) y) s over-is
      ∙ part-over at bits old (omega arith) (2 ^ j) size
      ∙ bits_are

-- ---- what the path sees

module _ {m N s h j r : ℕ} {x : Memory} {rows' holders' : List ℕ} {others : List (ℕ → ℕ)} {v : View} (has : HasArrays m N x) (l : h ≤ m)
    (t : Took N s h x.rows x.holders rows' holders' r) (new : List ℕ) (p : Joined m h r x.bytes new)
    (seen : Seen m N s x others v) (met : Joinable j h v) where
  -- the arrays of the lower heights
  pub lower-id : (k : ℕ) → j ≤ k → k < h → Id N (id_at rows' s k)
  unfolding Joinable
  lower-id k a b = subst (Id N) (sym (took-other t (λ e. omega arith))) (seen-some seen (omega arith) (met k a b).0)

  lower-sums : (k : ℕ) → j ≤ k → k < h → part (spot m (id_at rows' s k) k) (2 ^ k) new ≡ sums_of v k
  unfolding Joinable
  lower-sums k a b =
      joined-apart l t.id x.bytes new has.bytes p (omega arith) (lower-id k a b) (λ e. omega arith)
      ∙ ap (λ i. part (spot m i k) (2 ^ k) x.bytes) (took-other t (λ e. omega arith))
      ∙ seen-sums seen (omega arith) (met k a b).0

  pub lower-bits : (k : ℕ) → j ≤ k → k < h → All Bit (part (spot m (id_at rows' s k) k) (2 ^ k) new)
  unfolding Joinable
  lower-bits k a b = subst (All Bit) (sym (lower-sums k a b)) (met k a b).1

  -- the joined word in the array taken
  pub seen-commit : HasRow s x.rows → j ≤ h → (w : List ℕ) {w' : List ℕ} (last : List ℕ) → Joined m h r new last →
      part (spot m r h) (2 ^ h) last ≡ joined (λ k. part (spot m (id_at rows' s k) k) (2 ^ k) new) j (h - j) w' → w' ≡ w →
      Seen m N s (memory rows' holders' x.numbers last) others (put_sums others h (joined (sums_of v) j (h - j) w) v)
  seen-commit b a w {w'} last q e f =
      seen-put-sums seen has b l t last (joined (sums_of v) j (h - j) w)
      (joined-parts l t.id x.bytes last has.bytes (joined-on x.bytes new p q) v.arrays.sums seen.sums
      (e
      ∙ joined_same (λ k. part (spot m (id_at rows' s k) k) (2 ^ k) new) (sums_of v) j (h - j) w' (λ k c d. lower-sums k c (omega arith))
      ∙ ap (joined (sums_of v) j (h - j)) f))
