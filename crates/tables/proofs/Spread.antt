-- A short table of one entry and some directions, spread to all settings of the free bits. Adding a direction, and following a tie, may come
-- before the spreading or after it: both are sums of masks by bits. Doubling a table upwards, the last direction first, spreads it. By induction
-- on the number of directions. Assumes nothing.
use mathlib.Core.Path.{◌≡◌, refl, sym, ap, ap₂, ◌∙◌, subst}
use mathlib.Core.List.{List}
use mathlib.Core.Logic.{◌⊎◌, inl, inr}
use Prim.Native.Nat.{ℕ, zero, suc, ◌+◌, ◌-◌, ◌*◌, ◌/◌, ◌%◌, ◌^◌, ◌≤◌, ◌<◌}
use native.Mathlib.Nat.{mul-zero, mul-one, two-pow-succ}
use native.Mathlib.Omega.{arith}
use lib.Bits.{bit_xor, xor_comm, xor_zero_r}
use lib.ListN.{length, get_or, set}
use lib.Pow.{high, shr-shr}
use lib.Seq.{get_or-set_same, get_or-set_other}
use Rattle.laws.proofs.Tests.{lt-or}
use Rattle.outer.specs.Search.{spread}
use Rattle.tables.proofs.Xor.{xor_assoc, xor-swap, xor-pairs, xor-bit, xor-masks}

-- by the entries up to n alone
spread_same : (ds es : List ℕ) (n w : ℕ) → ((k : ℕ) → k ≤ n → get_or es k 0 ≡ get_or ds k 0) → spread es 0 n w ≡ spread ds 0 n w
unfolding spread
spread_same ds es zero w h = h 0 (omega arith)
spread_same ds es (suc n) w h =
    ap₂ (λ x d. bit_xor x (d * (w % 2))) (spread_same ds es n (w / 2) (λ k l. h k (omega arith))) (h (0 + suc n) (omega arith))

-- one direction more, as the last
pub spread-more : (ds : List ℕ) (d n w : ℕ) → n + 1 < length ds → spread (set ds (n + 1) d) 0 (n + 1) w ≡ bit_xor (spread ds 0 n (w / 2)) (d * (w % 2))
unfolding spread
spread-more ds d n w h =
    let e : n + 1 ≡ suc n = omega arith in
    let f : 0 + suc n ≡ n + 1 = omega arith in
    ap (λ k. spread (set ds (n + 1) d) 0 k w) e
    ∙ ap₂ (λ x y. bit_xor x (y * (w % 2)))
    (spread_same ds (set ds (n + 1) d) n (w / 2) (λ k l. get_or-set_other ds (n + 1) k d 0 (λ q. omega arith)))
    (ap (λ k. get_or (set ds (n + 1) d) k 0) f ∙ get_or-set_same ds (n + 1) d 0 h)

-- the last direction's bit is the lowest: added to a sum, it may be added first
pub spread-last : (ds : List ℕ) (s n w : ℕ) → 0 < n → bit_xor (bit_xor s (get_or ds n 0 * (w % 2))) (spread ds 0 (n - 1) (w / 2)) ≡ bit_xor s (spread ds 0 n w)
unfolding spread
spread-last ds s zero w h = absurd (omega arith)
spread-last ds s (suc n) w h =
    let d : ℕ = get_or ds (suc n) 0 * (w % 2) in
    let e : suc n - 1 ≡ n = omega arith in
    let f : suc n ≡ 0 + suc n = omega arith in
    ap (λ k. bit_xor (bit_xor s d) (spread ds 0 k (w / 2))) e ∙ xor_assoc s d (spread ds 0 n (w / 2)) ∙ ap (bit_xor s) (xor_comm d (spread ds 0 n (w / 2)) ∙ ap (λ k. bit_xor (spread ds 0 n (w / 2)) (get_or ds k 0 * (w % 2))) f)

-- ---- a tie

-- one direction more: the mask m where bit t is 1, added to both
tie-one : (m t a b c d e : ℕ) → e < 2 →
    bit_xor (bit_xor a (m * (b / 2 ^ t % 2))) (bit_xor c (m * (d / 2 ^ t % 2)) * e) ≡ bit_xor (bit_xor a (c * e)) (m * (bit_xor b (d * e) / 2 ^ t % 2))
tie-one m t a b c d zero h =
    ap (bit_xor (bit_xor a (m * (b / 2 ^ t % 2)))) (mul-zero (bit_xor c (m * (d / 2 ^ t % 2))))
    ∙ xor_zero_r (bit_xor a (m * (b / 2 ^ t % 2)))
    ∙ ap₂ (λ x y. bit_xor x (m * (y / 2 ^ t % 2))) (sym (ap (bit_xor a) (mul-zero c) ∙ xor_zero_r a)) (sym (ap (bit_xor b) (mul-zero d) ∙ xor_zero_r b))
tie-one m t a b c d (suc zero) h =
    ap (bit_xor (bit_xor a (m * (b / 2 ^ t % 2)))) (mul-one (bit_xor c (m * (d / 2 ^ t % 2))))
    ∙ xor-pairs a (m * (b / 2 ^ t % 2)) c (m * (d / 2 ^ t % 2))
    ∙ ap (bit_xor (bit_xor a c)) (xor-masks m (b / 2 ^ t % 2) (d / 2 ^ t % 2) (omega arith) (omega arith) ∙ ap (λ x. m * x) (sym (xor-bit b d t)))
    ∙ ap₂ (λ x y. bit_xor (bit_xor a x) (m * (bit_xor b y / 2 ^ t % 2))) (sym (mul-one c)) (sym (mul-one d))
tie-one m t a b c d (suc (suc e)) h = absurd (omega arith)

-- a mask added to each entry where bit t of another table's is 1 is added so to each entry of what they spread to
pub spread-tie : (ds ss es : List ℕ) (m t n w : ℕ) → ((k : ℕ) → k ≤ n → get_or es k 0 ≡ bit_xor (get_or ds k 0) (m * (get_or ss k 0 / 2 ^ t % 2))) →
    spread es 0 n w ≡ bit_xor (spread ds 0 n w) (m * (spread ss 0 n w / 2 ^ t % 2))
unfolding spread
spread-tie ds ss es m t zero w h = h 0 (omega arith)
spread-tie ds ss es m t (suc n) w h =
    ap₂ (λ x d. bit_xor x (d * (w % 2))) (spread-tie ds ss es m t n (w / 2) (λ k l. h k (omega arith))) (h (0 + suc n) (omega arith))
    ∙ tie-one m t (spread ds 0 n (w / 2)) (spread ss 0 n (w / 2)) (get_or ds (0 + suc n) 0) (get_or ss (0 + suc n) 0) (w % 2) (omega arith)

-- ---- doubling

-- the first direction's bit is the highest
spread-high : (ds : List ℕ) (from n w : ℕ) → spread ds from (suc n) w ≡ bit_xor (spread ds (suc from) n w) (get_or ds (suc from) 0 * (w / 2 ^ n % 2))
unfolding spread
spread-high ds from zero w =
    let e : from + 1 ≡ suc from = omega arith in
    let f : w % 2 ≡ w / 2 ^ 0 % 2 = omega arith in
    ap₂ (λ k b. bit_xor (get_or ds 0 0) (get_or ds k 0 * b)) e f
spread-high ds from (suc n) w =
    let e : from + suc (suc n) ≡ suc from + suc n = omega arith in
    let f : w / 2 / 2 ^ n ≡ w / 2 ^ suc n = shr-shr w 1 n ∙ ap (λ k. w / 2 ^ k) (omega arith) in
    ap₂ (λ x k. bit_xor x (get_or ds k 0 * (w % 2))) (spread-high ds from n (w / 2)) e
    ∙ xor-swap (spread ds (suc from) n (w / 2)) (get_or ds (suc from) 0 * (w / 2 / 2 ^ n % 2)) (get_or ds (suc from + suc n) 0 * (w % 2))
    ∙ ap (λ q. bit_xor (spread ds (suc from) (suc n) w) (get_or ds (suc from) 0 * (q % 2))) f

-- by the n lowest bits alone
spread-low : (ds : List ℕ) (from n w : ℕ) → spread ds from n (2 ^ n + w) ≡ spread ds from n w
unfolding spread
spread-low ds from zero w = refl
spread-low ds from (suc n) w =
    let e : (2 ^ suc n + w) / 2 ≡ 2 ^ n + w / 2 = omega (arith, two-pow-succ n) in
    let f : (2 ^ suc n + w) % 2 ≡ w % 2 = omega (arith, two-pow-succ n) in
    ap₂ (λ x b. bit_xor x (get_or ds (from + suc n) 0 * b)) (ap (spread ds from n) e ∙ spread-low ds from n (w / 2)) f

-- the first n settings of a table are these
abbrev pub SettingsFilled : List ℕ → List ℕ → ℕ → ℕ → Type 0
SettingsFilled table ds from n = (k : ℕ) → k < 2 ^ n → get_or table k 0 ≡ spread ds from n k

pub filled_none : (table ds : List ℕ) (from n : ℕ) → n ≡ 0 → 0 < length table → SettingsFilled (set table 0 (get_or ds 0 0)) ds from n
unfolding spread
filled_none table ds from zero e h k l =
    let z : k ≡ 0 = omega arith in
    ap (λ i. get_or (set table 0 (get_or ds 0 0)) i 0) z ∙ get_or-set_same table 0 (get_or ds 0 0) 0 h
filled_none table ds from (suc n) e h k l = absurd (omega arith)

-- one direction more: the table, and after it the table with the direction added
filled-suc : (table new ds : List ℕ) (from n : ℕ) → SettingsFilled table ds (suc from) n → ((k : ℕ) → k < 2 ^ n → get_or new k 0 ≡ get_or table k 0)
    → ((k : ℕ) → k < 2 ^ n → get_or new (2 ^ n + k) 0 ≡ bit_xor (get_or table k 0) (get_or ds (suc from) 0)) → SettingsFilled new ds from (suc n)
filled-suc table new ds from n h low up k l = go (lt-or k (2 ^ n))
  where
    d : ℕ
    d = get_or ds (suc from) 0

    go : (k < 2 ^ n) ⊎ (2 ^ n ≤ k) → get_or new k 0 ≡ spread ds from (suc n) k
    go (inl a) =
        let z : k / 2 ^ n ≡ 0 = ap (λ x. x / 2 ^ n) (omega arith) ∙ high 0 n a in
        low k a ∙ h k a ∙ sym (xor_zero_r (spread ds (suc from) n k))
        ∙ ap (bit_xor (spread ds (suc from) n k)) (sym (ap (λ q. d * (q % 2)) z ∙ mul-zero d))
        ∙ sym (spread-high ds from n k)
    go (inr a) =
        let i : ℕ = k - 2 ^ n in
        let b : i < 2 ^ n = omega (arith, two-pow-succ n) in
        let e : 2 ^ n + i ≡ k = omega arith in
        let z : (2 ^ n + i) / 2 ^ n ≡ 1 = ap (λ x. x / 2 ^ n) (omega arith) ∙ high 1 n b in
        ap (λ x. get_or new x 0) (sym e) ∙ up i b
        ∙ ap₂ bit_xor (h i b ∙ sym (spread-low ds (suc from) n i)) (sym (ap (λ q. d * (q % 2)) z ∙ mul-one d))
        ∙ sym (spread-high ds from n (2 ^ n + i))
        ∙ ap (spread ds from (suc n)) e

-- the same, where the directions after `left` are spread
pub filled_more : (table new ds : List ℕ) (free left count : ℕ) → 0 < left → left ≤ free → count ≡ 2 ^ (free - left) → SettingsFilled table ds left (free - left)
    → ((k : ℕ) → k < count → get_or new k 0 ≡ get_or table k 0) → ((k : ℕ) → k < count → get_or new (count + k) 0 ≡ bit_xor (get_or table k 0) (get_or ds left 0))
    → (count + count ≡ 2 ^ (free - (left - 1))) × SettingsFilled new ds (left - 1) (free - (left - 1))
filled_more table new ds free left count z l e h low up =
    let from : ℕ = left - 1 in
    let n : ℕ = free - left in
    let q : left ≡ suc from = omega arith in
    let f : suc n ≡ free - from = omega arith in (
      omega (arith, two-pow-succ n, ap (λ k. 2 ^ k) f),
      subst (SettingsFilled new ds from) f
          (filled-suc table new ds from n (subst (λ (i : ℕ). SettingsFilled table ds i n) q h) (λ k g. low k (omega arith))
          (λ k g. ap (λ i. get_or new (i + k) 0) (sym e) ∙ up k (omega arith) ∙ ap (λ i. bit_xor (get_or table k 0) (get_or ds i 0)) q)),
    )
