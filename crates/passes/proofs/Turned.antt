-- A word with every bit turned: its cost and the word's are the sum of the magnitudes. So where the last direction is the word of ones, the
-- costs of each two words from an even setting on have one sum, and the cost of one gives the keys of both. By induction on the values.
-- Assumes nothing.
use mathlib.Core.Path.{◌≡◌, refl, sym, ap, ap₂, ◌∙◌}
use mathlib.Core.List.{List, [], ◌∷◌}
use Prim.Native.Nat.{ℕ, zero, suc, ◌+◌, ◌-◌, ◌*◌, ◌/◌, ◌%◌, ◌^◌, ◌≤◌, ◌<◌}
use native.Mathlib.Nat.{two-pow-succ, mul-zero, mul-one}
use native.Mathlib.Omega.{arith}
use lib.Bits.{bit_xor, xor_shr, xor_add_and, xor_zero_r}
use lib.IntN.{ℤ, pos, negsuc, nat_abs}
use lib.ListN.{length, get_or}
use lib.Pow.{pow_pos}
use Rattle.polar.specs.Soft.{cost, hard}
use Rattle.polar.proofs.Soft.{cost-same, cost-other}
use Rattle.outer.specs.Search.{spread, cost_of, picked, Costs, key_of}
use Rattle.passes.specs.declared.Two.{Two}
use Rattle.passes.specs.Pass.{two_least, Turned, summed_key}
use Rattle.outer.proofs.Sums.{picked-costs}

-- the costs of the two bits
both : (s : ℤ) → cost 0 s + cost 1 s ≡ nat_abs s
unfolding hard
both (pos n) = omega (arith, cost-same 0 (pos n) refl, cost-other 1 (pos n) (λ e. omega arith))
both (negsuc n) = omega (arith, cost-same 1 (negsuc n) refl, cost-other 0 (negsuc n) (λ e. omega arith))

one : (v w : ℕ) (s : ℤ) → w < 2 → v ≡ (w + 1) % 2 → cost v s + cost w s ≡ nat_abs s
one v zero s h e = let q : v ≡ 1 = omega arith in omega (arith, ap (λ b. cost b s) q, both s)
one v (suc zero) s h e = let q : v ≡ 0 = omega arith in omega (arith, ap (λ b. cost b s) q, both s)
one v (suc (suc w)) s h e = absurd (omega arith)

-- the sum of the magnitudes
abbrev sizes : List ℤ → ℕ
sizes [] = 0
sizes (s ∷ vs) = nat_abs s + sizes vs

turned : (x d : ℕ) (vs : List ℤ) → d ≡ 2 ^ length vs - 1 → cost_of x vs + cost_of (bit_xor x d) vs ≡ sizes vs
unfolding cost_of
turned x d [] e = refl
turned x d (s ∷ vs) e =
    let half : d / 2 ≡ 2 ^ length vs - 1 = omega (arith, two-pow-succ (length vs), pow_pos (length vs)) in
    let odd : d % 2 ≡ 1 = omega (arith, two-pow-succ (length vs), pow_pos (length vs)) in
    let low : bit_xor x d % 2 ≡ (x % 2 + 1) % 2 = omega (arith, xor_add_and x d) in
    omega (arith, one (bit_xor x d % 2) (x % 2) s (omega arith) low, ap (λ y. cost_of y vs) (xor_shr x d 1), turned (x / 2) (d / 2) vs half)

-- the words of an even setting and of the next
spread-even : (ds : List ℕ) (m k : ℕ) → spread ds 0 (suc m) (2 * k) ≡ spread ds 0 m k
unfolding spread
spread-even ds m k =
    let d : ℕ = get_or ds (0 + suc m) 0 in
    let h : 2 * k / 2 ≡ k = omega arith in
    let z : 2 * k % 2 ≡ 0 = omega arith in
    ap₂ (λ i b. bit_xor (spread ds 0 m i) (d * b)) h z ∙ ap (bit_xor (spread ds 0 m k)) (mul-zero d) ∙ xor_zero_r (spread ds 0 m k)

spread-odd : (ds : List ℕ) (m k : ℕ) → spread ds 0 (suc m) (2 * k + 1) ≡ bit_xor (spread ds 0 m k) (get_or ds (suc m) 0)
unfolding spread
spread-odd ds m k =
    let d : ℕ = get_or ds (0 + suc m) 0 in
    let h : (2 * k + 1) / 2 ≡ k = omega arith in
    let z : (2 * k + 1) % 2 ≡ 1 = omega arith in
    let e : 0 + suc m ≡ suc m = omega arith in
    ap₂ (λ i b. bit_xor (spread ds 0 m i) (d * b)) h z ∙ ap (bit_xor (spread ds 0 m k)) (mul-one d ∙ ap (λ i. get_or ds i 0) e)

pub turned-pairs : (words ds sums : List ℕ) (free count runs total n : ℕ) (vs : List ℤ) → 0 < free → count ≡ 2 ^ free
    → ((k : ℕ) → k < 2 ^ free → get_or words k 0 ≡ spread ds 0 free k) → Costs sums runs vs → get_or ds free 0 ≡ 2 ^ n - 1 → length vs ≡ n
    → total ≡ picked sums 0 runs (get_or words 0 0) + picked sums 0 runs (get_or words 1 0) → Turned sums runs words count total
turned-pairs words ds sums zero count runs total n vs h q d c o l t = absurd (omega arith)
turned-pairs words ds sums (suc m) count runs total n vs h q d c o l t = record { even = omega (arith, two-pow-succ m); sum = λ k i. pair k i ∙ sym first }
  where
    last : get_or ds (suc m) 0 ≡ 2 ^ length vs - 1
    last = o ∙ ap (λ i. 2 ^ i - 1) (sym l)

    pair : (k : ℕ) → 2 * k + 1 < count → picked sums 0 runs (get_or words (2 * k) 0) + picked sums 0 runs (get_or words (2 * k + 1) 0) ≡ sizes vs
    pair k i =
        let x : ℕ = spread ds 0 m k in
        ap₂ ◌+◌ (picked-costs c (get_or words (2 * k) 0) ∙ ap (λ y. cost_of y vs) (d (2 * k) (omega arith) ∙ spread-even ds m k))
        (picked-costs c (get_or words (2 * k + 1) 0) ∙ ap (λ y. cost_of y vs) (d (2 * k + 1) (omega arith) ∙ spread-odd ds m k))
        ∙ turned x (get_or ds (suc m) 0) vs last

    first : total ≡ sizes vs
    first =
        let z : 0 ≡ 2 * 0 = omega arith in
        let y : 1 ≡ 2 * 0 + 1 = omega arith in
        t ∙ ap₂ (λ a b. picked sums 0 runs (get_or words a 0) + picked sums 0 runs (get_or words b 0)) z y ∙ pair 0 (omega (arith, two-pow-succ m, pow_pos m))

-- ---- what the loops over two words a turn go by

-- the loops' invariant: the two least of the first w settings, where w is even
abbrev pub Passed : List ℕ → List ℕ → ℕ → ℕ → ℕ → Two → ℕ → Type 0
Passed sums words runs n bound two w = (w ≤ n) × (w % 2 ≡ 0) × (two ≡ two_least (summed_key sums runs words) bound w)

-- the keys of an even setting and the next, by the cost of the first: that of the second is what is left of the sum
pub pair-keys : {sums words : List ℕ} {runs n total w cost : ℕ} → Turned sums runs words n total → w % 2 ≡ 0 → w < n → cost ≡ picked sums 0 runs (get_or words w 0)
    → (cost ≤ total) × (key_of cost (get_or words w 0) ≡ summed_key sums runs words w) × (key_of (total - cost) (get_or words (w + 1) 0) ≡ summed_key sums runs words (w + 1))
unfolding summed_key
pair-keys {sums} {words} {runs} {n} {total} {w} {cost} t e l c =
    let k : ℕ = w / 2 in
    let p : w ≡ 2 * k = omega arith in
    let q : w + 1 ≡ 2 * k + 1 = omega arith in
    let sum : picked sums 0 runs (get_or words w 0) + picked sums 0 runs (get_or words (w + 1) 0) ≡ total =
    ap₂ (λ a b. picked sums 0 runs (get_or words a 0) + picked sums 0 runs (get_or words b 0)) p q ∙ t.sum k (omega (arith, t.even)) in
    let left : total - cost ≡ picked sums 0 runs (get_or words (w + 1) 0) = omega arith in
    (omega arith, ap (λ i. key_of i (get_or words w 0)) c, ap (λ i. key_of i (get_or words (w + 1) 0)) left)
