-- Where the arrays of each height stand: rows of 2^(m+1) cells, and in a row the 2^h cells from 2^h on. Arrays of two rows, or of two heights,
-- do not overlap; and all lie within a list with room. By the bound of one product. Assumes nothing.
use mathlib.Core.Path.{◌≡◌, ap₂}
use mathlib.Core.List.{List}
use mathlib.Core.Logic.{◌⊎◌, inl, inr, ⊎_elim}
use Prim.Native.Nat.{ℕ, ◌+◌, ◌-◌, ◌*◌, ◌^◌, ◌≤◌, ◌<◌}
use native.Mathlib.Nat.{mul-le-mul_right, two-pow-succ}
use native.Mathlib.Omega.{arith}
use lib.ListN.{length}
use lib.Pow.{pow_mono}
use Rattle.laws.proofs.Tests.{lt-or}
use Rattle.polar.specs.Layers.{Clear}
use Rattle.heights.specs.Workspace.{spot, Room, Id}

-- a row ends where the next begins, or before
row-end : (r : ℕ) {i k : ℕ} → i < k → i * r + r ≤ k * r
row-end r l = omega (arith, mul-le-mul_right r l)

-- an array of a lower id, or of a lower height and an id that is no higher, ends before the other begins
lower-row : (m : ℕ) {N h i : ℕ} (h' : ℕ) {i' : ℕ} → h ≤ m → Id N i → i < i' → spot m i h + 2 ^ h ≤ spot m i' h'
unfolding spot
lower-row m {i = i} h' {i'} g d l = let b = d.some in omega (arith, row-end (2 * 2 ^ m) {i = i - 1} {k = i' - 1} (omega arith), pow_mono g)

lower-height : (m : ℕ) {h i h' i' : ℕ} → i ≤ i' → h < h' → spot m i h + 2 ^ h ≤ spot m i' h'
unfolding spot
lower-height m {h} {i} {i' = i'} e l =
    let b : i - 1 ≤ i' - 1 = omega arith in
    omega (arith, mul-le-mul_right (2 * 2 ^ m) b, pow_mono l, two-pow-succ h)

module _ {m N h i : ℕ} (g : h ≤ m) (d : Id N i) where
  pub spot-within : spot m i h + 2 ^ h ≤ N * (2 * 2 ^ m)
  unfolding spot
  spot-within = let b = d.some in let e = d.most in omega (arith, row-end (2 * 2 ^ m) {i = i - 1} {k = N} (omega arith), pow_mono g)

  pub spot-room : {A : Type 0} (l : List A) → Room m N l → spot m i h + 2 ^ h ≤ length l
  unfolding Room
  spot-room l r = omega (arith, spot-within)

  module _ {h' i' : ℕ} (g' : h' ≤ m) (d' : Id N i') where
    -- one ends before the other begins
    abbrev pub Apart : Type 0
    Apart = (spot m i h + 2 ^ h ≤ spot m i' h') ⊎ (spot m i' h' + 2 ^ h' ≤ spot m i h)

    -- the two are one array, or do not overlap
    same-or-apart : ((h ≡ h') × (i ≡ i')) ⊎ Apart
    same-or-apart = go (lt-or i i') (lt-or i' i) (lt-or h h') (lt-or h' h)
      where
        go : (i < i') ⊎ (i' ≤ i) → (i' < i) ⊎ (i ≤ i') → (h < h') ⊎ (h' ≤ h) → (h' < h) ⊎ (h ≤ h') → ((h ≡ h') × (i ≡ i')) ⊎ Apart
        go (inl a) y z w = inr (inl (lower-row m h' g d a))
        go (inr a) (inl b) z w = inr (inr (lower-row m h g' d' b))
        go (inr a) (inr b) (inl u) w = inr (inl (lower-height m b u))
        go (inr a) (inr b) (inr u) (inl v) = inr (inr (lower-height m a v))
        go (inr a) (inr b) (inr u) (inr v) = inl (omega arith, omega arith)

    pub spots-apart : ((h ≡ h') × (i ≡ i') → ⊥) → Apart
    spots-apart n = ⊎_elim (λ e. absurd (n e)) (λ o. o) same-or-apart

module _ {A : Type 0} {m N : ℕ} (l : List A) (r : Room m N l) {h i h' i' : ℕ} (g : h ≤ m) (d : Id N i) (g' : h' ≤ m) (d' : Id N i') where
  -- the first can be read while the second is written
  pub spots-clear : Clear (spot m i h) (2 ^ h) (spot m i' h') (2 ^ h') l
  spots-clear =
      record {
        source = spot-room g d l r;
        room = spot-room g' d' l r;
        ahead =
            ⊎_elim (λ e. inl (omega (arith, ap₂ (spot m) e.1 e.0))) (λ o. ⊎_elim (λ a. inr a) (λ a. inl (omega arith)) o)
            (same-or-apart g d g' d');
      }
