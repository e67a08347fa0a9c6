-- The words of a block of 8 positions where all indices are free, or all but the first: index by index they are those of the settings of 8 free
-- indices, the first bit being the first index's. That so many are free follows from the number of settings. Assumes nothing.
use mathlib.Core.Path.{◌≡◌, refl, sym, ap, ap₂, ◌∙◌}
use mathlib.Core.List.{List, zip_with}
use mathlib.Core.Logic.{◌⊎◌, inl, inr}
use Prim.Native.Nat.{ℕ, zero, suc, ◌+◌, ◌*◌, ◌/◌, ◌%◌, ◌^◌, ◌≤◌, ◌<◌}
use native.Mathlib.Nat.{two-pow-succ, mul-zero, mul-add}
use native.Mathlib.Omega.{arith}
use lib.Bits.{bit_xor, xor_zero_r}
use lib.Dec.{eqb, eqb→eq}
use lib.ListN.{get_or}
use lib.Pow.{pow_pos}
use Rattle.laws.proofs.Tests.{lt-or}
use Rattle.polar.specs.Bits.{add_bits, number}
use Rattle.polar.specs.Transform.{transform}
use Rattle.outer.specs.Search.{unit, row_of, put, later, grown, settings, entry, spread, Spans}
use Rattle.outer.proofs.Rows.{every-at}
use Rattle.tables.proofs.Advance.{grown-free, grown-other}
use Rattle.short.specs.Short.{byte_rows, Octets}

-- the setting of no bit
spread_none : (ds : List ℕ) (from n : ℕ) → spread ds from n 0 ≡ get_or ds 0 0
unfolding spread
spread_none ds from zero = refl
spread_none ds from (suc n) = ap (bit_xor (spread ds from n 0)) (mul-zero (get_or ds (from + suc n) 0)) ∙ xor_zero_r (spread ds from n 0) ∙ spread_none ds from n

module _ (kinds terms : List ℕ) (start : ℕ) where
  settings-most : (i : ℕ) → settings kinds start i ≤ 2 ^ i
  unfolding settings
  settings-most zero = omega arith
  settings-most (suc i) = go (settings-most i) (lt-or 0 (get_or kinds (start + i) 0))
    where
      go : settings kinds start i ≤ 2 ^ i → (0 < get_or kinds (start + i) 0) ⊎ (get_or kinds (start + i) 0 ≤ 0) → grown (get_or kinds (start + i) 0) (settings kinds start i) ≤ 2 ^ suc i
      go ih (inl l) = omega (arith, grown-other (get_or kinds (start + i) 0) (settings kinds start i) (λ e. omega arith), two-pow-succ i)
      go ih (inr l) = omega (arith, grown-free (get_or kinds (start + i) 0) (settings kinds start i) (omega arith), two-pow-succ i)

  -- the most settings: all are free
  all-free : (i : ℕ) → settings kinds start i ≡ 2 ^ i → (k : ℕ) → k < i → get_or kinds (start + k) 0 ≡ 0
  unfolding settings
  all-free zero h k l = absurd (omega arith)
  all-free (suc i) h k l = go (all-free i) (lt-or 0 (get_or kinds (start + i) 0)) (lt-or k i)
    where
      go : (settings kinds start i ≡ 2 ^ i → (k : ℕ) → k < i → get_or kinds (start + k) 0 ≡ 0) → (0 < get_or kinds (start + i) 0) ⊎ (get_or kinds (start + i) 0 ≤ 0)
          → (k < i) ⊎ (i ≤ k) → get_or kinds (start + k) 0 ≡ 0
      go ih (inl c) m =
          absurd (omega (arith, grown-other (get_or kinds (start + i) 0) (settings kinds start i) (λ e. omega arith), settings-most i, two-pow-succ i, pow_pos i))
      go ih (inr c) (inl m) = ih (omega (arith, grown-free (get_or kinds (start + i) 0) (settings kinds start i) (omega arith), two-pow-succ i)) k m
      go ih (inr c) (inr m) = let e : k ≡ i = omega arith in ap (λ n. get_or kinds (start + n) 0) e ∙ omega arith

  rows_at : (i : ℕ) → i < 8 → get_or byte_rows (0 + suc i) 0 ≡ row_of i
  unfolding row_of unit transform number add_bits zip_with byte_rows
  rows_at i h = eqb→eq (get_or byte_rows (0 + suc i) 0) (row_of i) (every-at (λ (k : ℕ). eqb (get_or byte_rows (0 + suc k) 0) (row_of k)) 8 tt i h)

  entry-all : (p i : ℕ) → i ≤ 8 → ((k : ℕ) → k < i → get_or kinds (start + k) 0 ≡ 0) → (w : ℕ) → (entry kinds terms start p i w).word ≡ spread byte_rows 0 i w
  unfolding entry spread later put byte_rows
  entry-all p zero h f w = refl
  entry-all p (suc i) h f w =
      ap (λ c. (later c (row_of i) (get_or terms (start + i) 0) (entry kinds terms start p i) w).word) (f i (omega arith))
      ∙ ap₂ (λ x r. bit_xor x (r * (w % 2))) (entry-all p i (omega arith) (λ k l. f k (omega arith)) (w / 2)) (sym (rows_at i h))

  -- 256 settings of 8 indices
  pub octets-free : (p : ℕ) (steps ties : List ℕ) → settings kinds start 8 ≡ 256 → Spans steps ties 8 (entry kinds terms start p 8) → Octets 0 256 8 ties (entry kinds terms start p 8)
  unfolding Spans
  octets-free p steps ties h s =
      record {
        words = λ w l. let e : w ≡ 0 + w = omega arith in entry-all p 8 (omega arith) (all-free 8 h) w ∙ ap (spread byte_rows 0 8) e;
        spans = λ w. (s w).1;
      }

  -- ---- the first index is not free

  module _ (fixed : get_or kinds (start + 0) 0 ≡ 0 → ⊥) where
    fixed-most : (i : ℕ) → settings kinds start (suc i) ≤ 2 ^ i
    unfolding settings
    fixed-most zero = omega (arith, grown-other (get_or kinds (start + 0) 0) 1 fixed)
    fixed-most (suc i) = go (fixed-most i) (lt-or 0 (get_or kinds (start + suc i) 0))
      where
        go : settings kinds start (suc i) ≤ 2 ^ i → (0 < get_or kinds (start + suc i) 0) ⊎ (get_or kinds (start + suc i) 0 ≤ 0)
            → grown (get_or kinds (start + suc i) 0) (settings kinds start (suc i)) ≤ 2 ^ suc i
        go ih (inl l) = omega (arith, grown-other (get_or kinds (start + suc i) 0) (settings kinds start (suc i)) (λ e. omega arith), two-pow-succ i)
        go ih (inr l) = omega (arith, grown-free (get_or kinds (start + suc i) 0) (settings kinds start (suc i)) (omega arith), two-pow-succ i)

    -- the most settings then: all others are free
    rest-free : (i : ℕ) → settings kinds start (suc i) ≡ 2 ^ i → (k : ℕ) → k < i → get_or kinds (start + suc k) 0 ≡ 0
    unfolding settings
    rest-free zero h k l = absurd (omega arith)
    rest-free (suc i) h k l = go (rest-free i) (lt-or 0 (get_or kinds (start + suc i) 0)) (lt-or k i)
      where
        go : (settings kinds start (suc i) ≡ 2 ^ i → (k : ℕ) → k < i → get_or kinds (start + suc k) 0 ≡ 0) → (0 < get_or kinds (start + suc i) 0) ⊎ (get_or kinds (start + suc i) 0 ≤ 0)
            → (k < i) ⊎ (i ≤ k) → get_or kinds (start + suc k) 0 ≡ 0
        go ih (inl c) m =
            absurd (omega (arith, grown-other (get_or kinds (start + suc i) 0) (settings kinds start (suc i)) (λ e. omega arith), fixed-most i, two-pow-succ i, pow_pos i))
        go ih (inr c) (inl m) = ih (omega (arith, grown-free (get_or kinds (start + suc i) 0) (settings kinds start (suc i)) (omega arith), two-pow-succ i)) k m
        go ih (inr c) (inr m) = let e : k ≡ i = omega arith in ap (λ n. get_or kinds (start + suc n) 0) e ∙ omega arith

    -- the first index's bit
    module _ (p : ℕ) where
      record First (c : ℕ) : Type 0 where
        bit : ℕ
        low : bit < 2
        is : (w : ℕ) → (later c (row_of 0) (get_or terms (start + 0) 0) (entry kinds terms start p 0) w).word ≡ bit

      first : (c : ℕ) → (c ≡ 0 → ⊥) → First c
      unfolding later put entry row_of unit transform number add_bits zip_with
      first zero z = absurd (z refl)
      first (suc zero) z = record { bit = 0; low = omega arith; is = λ w. refl }
      first (suc (suc t)) z = record { bit = p / 2 ^ t % 2; low = omega arith; is = λ w. omega arith }

      abbrev b : ℕ
      b = (first (get_or kinds (start + 0) 0) fixed).bit

      -- twice a multiple of a power of two
      twice : (i : ℕ) → b * 2 ^ suc i ≡ 2 * (b * 2 ^ i)
      twice i = let e : b * 2 ^ suc i ≡ b * 2 ^ i + b * 2 ^ i = ap (λ (n : ℕ). b * n) (two-pow-succ i) ∙ mul-add b (2 ^ i) (2 ^ i) in omega arith

      entry-fixed : settings kinds start 8 ≡ 128 → (i : ℕ) → i ≤ 7 → (w : ℕ) → w < 2 ^ i → (entry kinds terms start p (suc i) w).word ≡ spread byte_rows 0 (suc i) (b * 2 ^ i + w)
      unfolding entry spread later put byte_rows
      entry-fixed h zero l w m =
          let f = first (get_or kinds (start + 0) 0) fixed in
          let e : b ≡ (b * 1 + w) % 2 = omega (arith, f.low) in
          f.is w ∙ e ∙ omega arith
      entry-fixed h (suc i) l w m =
          let v : ℕ = b * 2 ^ suc i + w in
          let low : w / 2 < 2 ^ i = omega (arith, two-pow-succ i) in
          let q : b * 2 ^ i + w / 2 ≡ v / 2 = omega (arith, twice i) in
          let r : w % 2 ≡ v % 2 = omega (arith, twice i) in
          ap (λ c. (later c (row_of (suc i)) (get_or terms (start + suc i) 0) (entry kinds terms start p (suc i)) w).word) (rest-free 7 h i (omega arith))
          ∙ ap₂ (λ x y. bit_xor x (y * (w % 2))) (entry-fixed h i (omega arith) (w / 2) low ∙ ap (spread byte_rows 0 (suc i)) q) (sym (rows_at (suc i) (omega arith)))
          ∙ ap (λ y. bit_xor (spread byte_rows 0 (suc i) (v / 2)) (get_or byte_rows (0 + suc (suc i)) 0 * y)) r

      -- the first index alone
      alone : spread byte_rows 0 8 (b * 128 + 0) ≡ b
      unfolding spread byte_rows
      alone = go b (first (get_or kinds (start + 0) 0) fixed).low
        where
          go : (c : ℕ) → c < 2 → spread byte_rows 0 8 (c * 128 + 0) ≡ c
          go zero l = refl
          go (suc zero) l = refl
          go (suc (suc c)) l = absurd (omega arith)

      -- 128 settings of 8 indices, the first of which is not free
      pub octets-checked : (steps ties : List ℕ) → settings kinds start 8 ≡ 128 → Spans steps ties 7 (entry kinds terms start p 8)
          → (get_or steps 0 0 < 2) × Octets (128 * get_or steps 0 0) 128 7 ties (entry kinds terms start p 8)
      unfolding Spans
      octets-checked steps ties h s =
          let q : get_or steps 0 0 ≡ b = sym (spread_none steps 0 7) ∙ (s 0).0 ∙ entry-fixed h 7 (omega arith) 0 (omega arith) ∙ alone in (
            omega (arith, q, (first (get_or kinds (start + 0) 0) fixed).low),
            record {
              words = λ w l.
                  let e : b * 128 + w ≡ 128 * get_or steps 0 0 + w = omega (arith, q) in
                  entry-fixed h 7 (omega arith) w l ∙ ap (spread byte_rows 0 8) e;
              spans = λ w. (s w).1;
            },
          )
