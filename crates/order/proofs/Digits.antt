-- Entries as numbers: an entry divided by 2^8 has the digits score, blocks and number, so that one path comes before another exactly where its
-- number is the greater; and what an entry is packed from is read off it. By cases on the first digit that differs. Assumes nothing.
use mathlib.Core.Path.{◌≡◌, refl, sym, ap, ◌∙◌}
use mathlib.Core.Bool.{not, ◌&&◌, ◌||◌}
use mathlib.Core.Logic.{◌⊎◌, inl, inr}
use Prim.Native.Nat.{ℕ, suc, ◌+◌, ◌-◌, ◌*◌, ◌/◌, ◌%◌, ◌≤◌, ◌<◌}
use native.Mathlib.Omega.{arith}
use lib.IntN.{ℤ, pos, negsuc, nat_abs, sub_ℕ, ◌+ℤ◌, ◌-ℤ◌, +ℤ-neg_ℤ_cancel}
use lib.Signed.{lt_z}
use lib.Dec.{ltb, eqb}
use borrow.Author.Tests.{lt-ltb, le-ltb, eq-eqb, ne_eqb}
use Rattle.laws.proofs.Tests.{lt-or}
use Rattle.queue.specs.Queue.{before}
use Rattle.order.specs.Entries.{key_at, slot_at, Packed}

-- ---- the order

-- two tests that pass together
both_below : (a b c d : ℕ) → (a < b → c < d) → (b ≤ a → d ≤ c) → ltb a b ≡ ltb c d
both_below a b c d f g = go (lt-or a b)
  where
    go : (a < b) ⊎ (b ≤ a) → ltb a b ≡ ltb c d
    go (inl l) = lt-ltb a b l ∙ sym (lt-ltb c d (f l))
    go (inr l) = le-ltb a b l ∙ sym (le-ltb c d (g l))

-- numbers lowered by as much come in the same order
lowered : (n x y : ℕ) → lt_z (sub_ℕ x n) (sub_ℕ y n) ≡ ltb x y
lowered n x y = go (lt-or x n) (lt-or y n)
  where
    go : (x < n) ⊎ (n ≤ x) → (y < n) ⊎ (n ≤ y) → lt_z (sub_ℕ x n) (sub_ℕ y n) ≡ ltb x y
    go (inl h) (inl k) = rw (lt-ltb x n h, lt-ltb y n k) (both_below (n - suc y) (n - suc x) x y (λ l. omega arith) (λ l. omega arith))
    go (inl h) (inr k) = rw (lt-ltb x n h, le-ltb y n k, lt-ltb x y (omega arith))
    go (inr h) (inl k) = rw (le-ltb x n h, lt-ltb y n k, le-ltb x y (omega arith))
    go (inr h) (inr k) = rw (le-ltb x n h, le-ltb y n k) (both_below (x - n) (y - n) x y (λ l. omega arith) (λ l. omega arith))

-- numbers of three digits, h, m and l, come in the order of the first digit that differs
by_digits : (x h m l y i n k : ℕ) → x ≡ h * 33554432 + m * 32768 + l → y ≡ i * 33554432 + n * 32768 + k → m < 1024 → l < 32768 → n < 1024 → k < 32768 →
    (ltb i h || not (ltb h i) && (ltb n m || eqb n m && ltb (32767 - l) (32767 - k))) ≡ ltb y x
by_digits x h m l y i n k e f a b c d = go (lt-or i h) (lt-or h i) (lt-or n m) (lt-or m n)
  where
    go : (i < h) ⊎ (h ≤ i) → (h < i) ⊎ (i ≤ h) → (n < m) ⊎ (m ≤ n) → (m < n) ⊎ (n ≤ m) →
        (ltb i h || not (ltb h i) && (ltb n m || eqb n m && ltb (32767 - l) (32767 - k))) ≡ ltb y x
    go (inl p) q r s = rw (lt-ltb i h p, lt-ltb y x (omega arith))
    go (inr p) (inl q) r s = rw (le-ltb i h p, lt-ltb h i q, le-ltb y x (omega arith))
    go (inr p) (inr q) (inl r) s = rw (le-ltb i h p, le-ltb h i q, lt-ltb n m r, lt-ltb y x (omega arith))
    go (inr p) (inr q) (inr r) (inl s) = rw (le-ltb i h p, le-ltb h i q, le-ltb n m r, ne_eqb n m (λ t. omega arith), le-ltb y x (omega arith))
    go (inr p) (inr q) (inr r) (inr s) =
        rw (le-ltb i h p, le-ltb h i q, le-ltb n m r, eq-eqb n m (omega arith))
        (both_below (32767 - l) (32767 - k) y x (λ t. omega arith) (λ t. omega arith))

digits : (e : ℕ) → e / 256 ≡ e / 8589934592 * 33554432 + e / 8388608 % 1024 * 32768 + e / 256 % 32768
digits e = omega arith

-- the greater entry, whatever the slots, has the path that comes first
pub before-entries : (a b : ℕ) → before (key_at a) (key_at b) ≡ ltb (b / 256) (a / 256)
unfolding before key_at
before-entries a b =
    rw (lowered 2097152 (a / 8589934592) (b / 8589934592), lowered 2097152 (b / 8589934592) (a / 8589934592))
    (by_digits _ (a / 8589934592) (a / 8388608 % 1024) (a / 256 % 32768) _ (b / 8589934592) (b / 8388608 % 1024) (b / 256 % 32768) (digits a) (digits b) (omega arith) (omega arith) (omega arith) (omega arith))

-- ---- packed and read

-- a score raised is not below 0, and is below 2^22
pub raised : (z : ℤ) → nat_abs z ≤ 2097151 → (pos (nat_abs (z +ℤ pos 2097152)) ≡ z +ℤ pos 2097152) × (nat_abs (z +ℤ pos 2097152) < 4194304)
raised (pos n) h = (refl, omega arith)
raised (negsuc n) h = rw (le-ltb 2097152 (suc n) (omega arith)) (refl, omega arith)

pub packed : (z : ℤ) (b n s : ℕ) → nat_abs z ≤ 2097151 → b < 1024 → n < 32768 → s < 256 →
    Packed (((nat_abs (z +ℤ pos 2097152) * 1024 + b) * 32768 + (32767 - n)) * 256 + s) (record { score = z; blocks = b; number = n }) s
unfolding key_at slot_at
packed z b n s h j k l =
    let u = nat_abs (z +ℤ pos 2097152) in
    let e = ((u * 1024 + b) * 32768 + (32767 - n)) * 256 + s in
    let low : u < 4194304 = (raised z h).1 in
    let x : e / 8589934592 ≡ u = omega arith in
    let y : e / 8388608 % 1024 ≡ b = omega arith in
    let w : 32767 - e / 256 % 32768 ≡ n = omega arith in
    let g : pos (e / 8589934592) -ℤ pos 2097152 ≡ z =
    ap (λ i. pos i -ℤ pos 2097152) x ∙ ap (λ i. i -ℤ pos 2097152) (raised z h).0 ∙ +ℤ-neg_ℤ_cancel z (pos 2097152) in
    record { key = λ t. record { score = g t; blocks = y t; number = w t }; slot = omega arith; low = omega arith }
