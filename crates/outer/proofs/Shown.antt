-- The words of a block where the values show a codeword, after that codeword's own bits: the right word is that of one setting and costs 0, and the word of every
-- other setting costs at least 1. The right bits are a setting because they obey the kinds; the block's values show the right word by the law of signs. Assumes
-- nothing.
use mathlib.Core.Path.{◌≡◌, refl, sym, ap, ◌∙◌, subst}
use mathlib.Core.Bool.{◌&&◌}
use mathlib.Core.List.{List}
use mathlib.Core.Logic.{◌≢◌}
use Prim.Native.Nat.{ℕ, zero, suc, ◌+◌, ◌-◌, ◌^◌, ◌≤◌, ◌<◌}
use native.Mathlib.Nat.{zero-add}
use native.Mathlib.Omega.{arith}
use lib.ListN.{length, take, drop, length-drop, take-append-drop}
use lib.Seq.{take-take, length-take-le}
use lib.IntN.{ℤ}
use lib.Dec.{T}
use Rattle.laws.specs.Lists.{All}
use Rattle.laws.specs.Pairs.{Paired}
use Rattle.laws.proofs.Tests.{and_left, and_right}
use Rattle.laws.proofs.Lists.{all_take, all_drop, drop-take}
use Rattle.polar.specs.Bits.{Bit, to_bits, from_bits}
use Rattle.polar.specs.Transform.{transform}
use Rattle.polar.specs.Soft.{discrepancy}
use Rattle.polar.specs.Shown.{Shows}
use Rattle.polar.specs.Node.{node}
use Rattle.polar.proofs.Bits.{to_bits-bits, to_bits-length}
use Rattle.polar.proofs.Transform.{transform-length, transform-twice}
use Rattle.polar.proofs.Shown.{shown-costs, shown-only, node-shown}
use Rattle.codebook.specs.Book.{Book, Kind, free_count, start_of, block_at, kinds_of}
use Rattle.codebook.specs.Limits.{KindsOk, Valid}
use Rattle.codebook.proofs.Indices.{kinds-part}
use Rattle.codec.specs.Code.{fill, free_bits, obeys_all}
use Rattle.codec.specs.Ties.{parities_of, filled}
use Rattle.codec.proofs.Fill.{After, fill-after, fill-free, obeys-fill, obeys-append, obeys-front, free-length, free-bits}
use Rattle.codec.proofs.Digits.{from-to, from-lt, to-bits}
use Rattle.codec.proofs.Ties.{filled-drop}
use Rattle.outer.specs.Words.{Word, word_of}
use Rattle.outer.proofs.Blocks.{Placed, placed}

-- u is the bits of a codeword that the values show
pub record Right (B : Book) (ys : List ℤ) (u : List ℕ) : Type 0 where
  pub size : length u ≡ 2 ^ B.m
  pub bits : All Bit u
  pub shown : Paired Shows (transform B.m u) ys
  pub obey : T (obeys_all u 0 B.kinds)

-- the bits of the blocks before b
abbrev pub up_to : Book → List ℕ → ℕ → List ℕ
up_to B u b = take (start_of B.blocks b) u

module _ (B : Book) (ok : Valid B) (ys : List ℤ) (u : List ℕ) (r : Right B ys u) (b : ℕ) (l : b < length B.blocks) where
  abbrev j : ℕ
  j = (block_at B b).j

  abbrev n : ℕ
  n = 2 ^ (block_at B b).j

  abbrev s : ℕ
  s = start_of B.blocks b

  abbrev ks : List Kind
  ks = kinds_of B b

  -- the block's values after the right bits
  abbrev pub block_values : List ℤ
  block_values = node (B.m - j) B.m ys (up_to B u b) s

  place : Placed B b
  place = placed B ok b l

  within : s + n ≤ 2 ^ B.m
  within = (ok.blocks b l).within

  pub before-length : length (up_to B u b) ≡ s
  before-length = length-take-le s u (omega (arith, within, r.size))

  -- the right bits over the block
  through : up_to B u (suc b) ≡ take (s + n) u
  through = ap (λ i. take i u) place.next

  last-bits : drop s (up_to B u (suc b)) ≡ take n (drop s u)
  last-bits =
      let e : s + n - s ≡ n = omega arith in
      ap (drop s) through ∙ drop-take s (s + n) u ∙ ap (λ i. take i (drop s u)) e

  -- ---- the right bits are a setting

  right-after : After (up_to B u b) n (up_to B u (suc b))
  right-after =
      rw through
      (record {
        front = ap (λ i. take i (take (s + n) u)) before-length ∙ take-take s (s + n) u (omega arith);
        size = length-take-le (s + n) u (omega (arith, within, r.size)) ∙ ap (λ i. i + n) (sym before-length);
        bits = all_take Bit (s + n) u r.bits;
      })

  kinds-ok : KindsOk s ks
  unfolding kinds_of
  kinds-ok = kinds-part s n B.kinds ok.kinds

  right-obeys : T (obeys_all (up_to B u (suc b)) s ks)
  unfolding kinds_of
  right-obeys =
      let k0 : List Kind = take s B.kinds in
      let k1 : List Kind = drop s B.kinds in
      let k2 : List Kind = drop n k1 in
      let e0 : length k0 ≡ s = length-take-le s B.kinds (omega (arith, within, ok.indices)) in
      let all : T (obeys_all u 0 k0 && obeys_all u (0 + length k0) k1) = subst T (ap (obeys_all u 0) (sym (take-append-drop s B.kinds)) ∙ obeys-append u 0 k0 k1) r.obey in
      let from : T (obeys_all u s k1) = subst (λ (i : ℕ). T (obeys_all u i k1)) (zero-add (length k0) ∙ e0) (and_right (obeys_all u 0 k0) (obeys_all u (0 + length k0) k1) all) in
      let both : T (obeys_all u s ks && obeys_all u (s + length ks) k2) = subst T (ap (obeys_all u s) (sym (take-append-drop n k1)) ∙ obeys-append u s ks k2) from in
      let this : T (obeys_all u s ks) = and_left (obeys_all u s ks) (obeys_all u (s + length ks) k2) both in
      subst T (obeys-front (s + n) s u (up_to B u (suc b)) ks (omega (arith, place.size)) kinds-ok (sym (ap (take (s + n)) through ∙ take-take (s + n) (s + n) u (omega arith)))) this

  abbrev data-bits : List ℕ
  data-bits = free_bits ks (drop s (up_to B u (suc b)))

  -- its number
  pub right_setting : ℕ
  right_setting = from_bits 0 data-bits

  data-length : length data-bits ≡ free_count ks
  data-length = free-length ks (drop s (up_to B u (suc b))) (omega (arith, length-drop s (up_to B u (suc b)), right-after.size, before-length, place.size))

  data-are : All Bit data-bits
  data-are = free-bits ks (drop s (up_to B u (suc b))) (all_drop Bit s (up_to B u (suc b)) right-after.bits)

  pub right-among : right_setting < 2 ^ free_count ks
  unfolding right_setting
  right-among = subst (λ (i : ℕ). from_bits 0 data-bits < 2 ^ i) data-length (from-lt data-bits data-are)

  pub right-filled : filled B (up_to B u b) b right_setting ≡ up_to B u (suc b)
  unfolding right_setting
  right-filled =
      ap (fill (up_to B u b) ks) (to-bits (free_count ks) data-bits data-length data-are ∙ ap (λ i. free_bits ks (drop i (up_to B u (suc b)))) (sym before-length))
      ∙ obeys-fill (up_to B u b) ks (up_to B u (suc b)) (subst (λ (i : ℕ). After (up_to B u b) i (up_to B u (suc b))) (sym place.size) right-after)
      (subst (λ (i : ℕ). KindsOk i ks) (sym before-length) kinds-ok) (subst (λ (i : ℕ). T (obeys_all (up_to B u (suc b)) i ks)) (sym before-length) right-obeys)

  -- ---- what its words cost

  abbrev right : List ℕ
  right = take n (drop s u)

  -- the block's values show the right word
  block-shown : Paired Shows (transform j right) block_values
  block-shown = node-shown (B.m - j) j B.m ys u (up_to B u b) s place.small place.starts r.size r.bits r.shown (sym (take-take s s u (omega arith)))

  abbrev word : ℕ → Word
  word w = word_of B block_values (parities_of B (up_to B u b)) b w

  word-cost : (w : ℕ) → (word w).cost ≡ discrepancy (transform j (drop s (filled B (up_to B u b) b w))) block_values
  unfolding word_of
  word-cost w = ap (λ x. discrepancy (transform j x) block_values) (sym (filled-drop B (up_to B u b) b w before-length))

  -- the right word costs nothing
  pub right-cost : (word right_setting).cost ≡ 0
  right-cost =
      word-cost right_setting ∙ ap (λ x. discrepancy (transform j x) block_values) (ap (drop s) right-filled ∙ last-bits) ∙ shown-costs (transform j right) block_values block-shown

  -- a word that costs nothing has the right bits
  free-right : (w : ℕ) → (word w).cost ≡ 0 → drop s (filled B (up_to B u b) b w) ≡ right
  free-right w e =
      let x : List ℕ = drop s (filled B (up_to B u b) b w) in
      let a : After (up_to B u b) (length ks) (filled B (up_to B u b) b w) = fill-after (up_to B u b) ks _ (all_take Bit s u r.bits) (to_bits-bits (free_count ks) w) in
      let lx : length x ≡ n = omega (arith, length-drop s (filled B (up_to B u b) b w), a.size, before-length, place.size) in
      let bx : All Bit x = all_drop Bit s (filled B (up_to B u b) b w) a.bits in
      let ly : length right ≡ n = length-take-le n (drop s u) (omega (arith, length-drop s u, r.size, within)) in
      let by : All Bit right = all_take Bit n (drop s u) (all_drop Bit s u r.bits) in
      let same : transform j x ≡ transform j right =
      shown-only (transform j right) (transform j x) block_values block-shown (transform-length j x lx ∙ sym (transform-length j right ly)) (sym (word-cost w) ∙ e) in
      sym (transform-twice j x lx bx) ∙ ap (transform j) same ∙ transform-twice j right ly by

  -- so it is the right one
  free-only : (w : ℕ) → w < 2 ^ free_count ks → (word w).cost ≡ 0 → w ≡ right_setting
  unfolding right_setting
  free-only w h e =
      let ds : List ℕ = to_bits (free_count ks) w in
      let f : free_bits ks (drop s (filled B (up_to B u b) b w)) ≡ ds =
      ap (λ i. free_bits ks (drop i (filled B (up_to B u b) b w))) (sym before-length) ∙ fill-free (up_to B u b) ks ds (all_take Bit s u r.bits) (to_bits-bits (free_count ks) w) (to_bits-length (free_count ks) w) in
      sym (from-to (free_count ks) w h) ∙ ap (from_bits 0) (sym f ∙ ap (free_bits ks) (free-right w e ∙ sym last-bits))

  -- every other word costs at least 1
  pub other-cost : (w : ℕ) → w < 2 ^ free_count ks → w ≢ right_setting → 1 ≤ (word w).cost
  other-cost w h q = go (word w).cost (free-only w h)
    where
      go : (k : ℕ) → (k ≡ 0 → w ≡ right_setting) → 1 ≤ k
      go zero f = absurd (q (f refl))
      go (suc k) f = omega arith
