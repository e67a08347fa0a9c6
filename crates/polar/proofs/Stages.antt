-- The transform by stages: after j of them each run of 2^j bits is transformed by itself, and one more joins the runs by pairs. By induction on
-- the number of runs. Assumes nothing.
use mathlib.Core.Path.{◌≡◌, refl, sym, ap, ap₂, ◌∙◌}
use mathlib.Core.List.{List, [], ◌∷◌, ◌++◌, append_assoc, append-nil}
use Prim.Native.Nat.{ℕ, zero, suc, ◌+◌, ◌-◌, ◌*◌, ◌/◌, ◌%◌, ◌^◌, ◌≤◌, ◌<◌}
use native.Mathlib.Nat.{two-pow-succ, suc-mul, zero-mul, add_assoc, add-mul, mul-add, mul-div_cancel, mod-eq_of_lt, lt_of_not-le}
use native.Mathlib.Numerals.{add-one}
use native.Mathlib.Omega.{arith}
use lib.ListN.{length, take, drop, length-append, length-drop, take-append-drop}
use lib.Pow.{pow-add, pow_mono, pow_pos}
use lib.Seq.{take_at, drop_at, take_all, take-take, drop-drop, length-take-le}
use Rattle.laws.specs.Lists.{All}
use Rattle.laws.proofs.Lists.{all_take, all_drop, all_append, drop-take}
use Rattle.polar.specs.Bits.{Bit, add_bits}
use Rattle.polar.specs.Transform.{transform}
use Rattle.polar.specs.Layers.{part, over_at, stage}
use Rattle.polar.proofs.Bits.{add-bits, add-length}
use Rattle.polar.proofs.Writes.{part_length}
use Rattle.polar.proofs.Transform.{transform-suc, transform-length, transform-bits}

-- the first k runs of 2^j bits, each transformed by itself
unfoldable pub runs : ℕ → ℕ → List ℕ → List ℕ
runs zero j l = []
runs (suc k) j l = transform j (take (2 ^ j) l) ++ runs k j (drop (2 ^ j) l)

-- what is left after the first of k + 1 runs
rest-length : (k n : ℕ) (l : List ℕ) → length l ≡ suc k * n → length (drop n l) ≡ k * n
rest-length k n l e = length-drop n l ∙ omega (arith, suc-mul k n)

head-length : (k n : ℕ) (l : List ℕ) → length l ≡ suc k * n → length (take n l) ≡ n
head-length k n l e = length-take-le n l (omega (arith, suc-mul k n))

runs-length : (k j : ℕ) (l : List ℕ) → length l ≡ k * 2 ^ j → length (runs k j l) ≡ k * 2 ^ j
unfolding runs
runs-length zero j l e = sym (zero-mul (2 ^ j))
runs-length (suc k) j l e =
    length-append (transform j (take (2 ^ j) l)) (runs k j (drop (2 ^ j) l))
    ∙ omega (arith, transform-length j (take (2 ^ j) l) (head-length k (2 ^ j) l e), runs-length k j (drop (2 ^ j) l) (rest-length k (2 ^ j) l e), suc-mul k (2 ^ j))

pub runs-bits : (k j : ℕ) (l : List ℕ) → All Bit l → All Bit (runs k j l)
unfolding runs All
runs-bits zero j l h = tt
runs-bits (suc k) j l h =
    all_append Bit (transform j (take (2 ^ j) l)) (runs k j (drop (2 ^ j) l)) (transform-bits j (take (2 ^ j) l) (all_take Bit (2 ^ j) l h))
    (runs-bits k j (drop (2 ^ j) l) (all_drop Bit (2 ^ j) l h))

-- before the first stage
pub runs-first : (k : ℕ) (l : List ℕ) → length l ≡ k → runs k 0 l ≡ l
unfolding runs transform
runs-first zero [] e = refl
runs-first zero (x ∷ l) e = absurd (omega arith)
runs-first (suc k) [] e = absurd (omega arith)
runs-first (suc k) (x ∷ l) e = ap (λ r. x ∷ r) (runs-first k l (omega arith))

-- after the last
pub runs_last : (m : ℕ) (l : List ℕ) → length l ≡ 2 ^ m → runs 1 m l ≡ transform m l
unfolding runs
runs_last m l e = append-nil (transform m (take (2 ^ m) l)) ∙ ap (transform m) (take_all (2 ^ m) l (omega arith))

-- a stage over k + 1 runs that are given in pieces
stage-pieces : (k h : ℕ) (a b l : List ℕ) → length a ≡ h → length b ≡ h → stage (suc k) h (a ++ (b ++ l)) ≡ add_bits a b ++ b ++ stage k h l
unfolding stage part
stage-pieces k h a b l ea eb =
    let x : take h (a ++ (b ++ l)) ≡ a = take_at a (b ++ l) h ea in
    let y : drop h (a ++ (b ++ l)) ≡ b ++ l = drop_at a (b ++ l) h ea in
    let p : take h (drop h (a ++ (b ++ l))) ≡ b = ap (take h) y ∙ take_at b l h eb in
    let r : drop (h + h) (a ++ (b ++ l)) ≡ l = sym (drop-drop h h (a ++ (b ++ l))) ∙ ap (drop h) y ∙ drop_at b l h eb in
    ap₂ (λ u v. add_bits u v ++ v ++ stage k h (drop (h + h) (a ++ (b ++ l)))) x p ∙ ap (λ u. add_bits a b ++ b ++ stage k h u) r

-- a run of 2^(j + 1) bits is transformed by its halves
pair-run : (j : ℕ) (l : List ℕ) → let n = 2 ^ j in
    transform (suc j) (take (2 ^ suc j) l) ≡ add_bits (transform j (take n l)) (transform j (take n (drop n l))) ++ transform j (take n (drop n l))
pair-run j l =
    let n : ℕ = 2 ^ j in
    let q : 2 ^ suc j - n ≡ n = omega (arith, two-pow-succ j) in
    transform-suc j (take (2 ^ suc j) l)
    ∙ ap₂ (λ (a b : List ℕ). add_bits (transform j a) (transform j b) ++ transform j b)
    (take-take n (2 ^ suc j) l (omega (arith, two-pow-succ j)))
    (drop-take n (2 ^ suc j) l ∙ ap (λ i. take i (drop n l)) q)

-- one more stage
runs-stage : (k j : ℕ) (l : List ℕ) → length l ≡ (k + k) * 2 ^ j → stage k (2 ^ j) (runs (k + k) j l) ≡ runs k (suc j) l
unfolding runs
runs-stage zero j l e = unfold stage in refl
runs-stage (suc k) j l e =
    let n : ℕ = 2 ^ j in
    let two : suc k + suc k ≡ suc (suc (k + k)) = omega arith in
    let e2 : length l ≡ suc (suc (k + k)) * n = e ∙ ap (λ i. i * n) two in
    let d : List ℕ = drop n l in
    let ed : length d ≡ suc (k + k) * n = rest-length (suc (k + k)) n l e2 in
    let a : List ℕ = transform j (take n l) in
    let b : List ℕ = transform j (take n d) in
    let r : List ℕ = drop n d in
    let er : r ≡ drop (2 ^ suc j) l = drop-drop n n l ∙ ap (λ i. drop i l) (sym (two-pow-succ j)) in
    ap (λ i. stage (suc k) n (runs i j l)) two
    ∙ stage-pieces k n a b (runs (k + k) j r) (transform-length j (take n l) (head-length (suc (k + k)) n l e2)) (transform-length j (take n d) (head-length (k + k) n d ed))
    ∙ ap (λ x. add_bits a b ++ b ++ x) (runs-stage k j r (rest-length (k + k) n d ed))
    ∙ ap₂ (λ x y. x ++ runs k (suc j) y) (sym (pair-run j l)) er

-- no run is left
pub stage-end : (at k h : ℕ) (c : List ℕ) → k ≡ 0 → c ≡ take at c ++ stage k h (drop at c)
unfolding stage
stage-end at k h c e = rw e (sym (take-append-drop at c))

-- ---- one turn of a stage's loop: w is c after it, at the run of 2h bits at `at`

regroup : (a b c d : List ℕ) → a ++ b ++ c ++ d ≡ a ++ (b ++ c ++ d)
regroup a b c d = simp append_assoc

module _ (at h : ℕ) (c w : List ℕ) (room : at + (h + h) ≤ length c) (e : w ≡ over_at at (add_bits (part at h c) (part (at + h) h c)) c) where
  abbrev low : List ℕ
  low = part at h c

  abbrev high : List ℕ
  high = part (at + h) h c

  abbrev after : List ℕ
  after = drop (at + (h + h)) c

  abbrev done : List ℕ
  done = take at c ++ add_bits low high ++ high

  tail : drop (at + h) c ≡ high ++ after
  unfolding part
  tail = sym (take-append-drop h (drop (at + h) c)) ∙ ap (λ r. high ++ r) (drop-drop h (at + h) c ∙ ap (λ n. drop n c) (add_assoc at h h))

  cut : drop at c ≡ low ++ (high ++ after)
  unfolding part
  cut = sym (take-append-drop h (drop at c)) ∙ ap (λ r. low ++ r) (drop-drop h at c ∙ tail)

  low-length : length low ≡ h
  low-length = part_length at h c (omega arith)

  high-length : length high ≡ h
  high-length = part_length (at + h) h c (omega arith)

  sum-length : length (add_bits low high) ≡ h
  sum-length = add-length low high (low-length ∙ sym high-length) ∙ low-length

  done-length : length done ≡ at + (h + h)
  done-length =
      length-append (take at c ++ add_bits low high) high
      ∙ omega (arith, length-append (take at c) (add_bits low high), length-take-le at c (omega arith), sum-length, high-length)

  turn_is : w ≡ done ++ after
  unfolding over_at
  turn_is =
      e ∙ ap (λ n. take at c ++ add_bits low high ++ drop (at + n) c) sum-length
      ∙ ap (λ r. take at c ++ add_bits low high ++ r) tail
      ∙ sym (append_assoc (take at c ++ add_bits low high) high after)

  pub turn-bits : All Bit c → All Bit w
  unfolding part
  turn-bits b =
      rw turn_is
      (all_append Bit done after
      (all_append Bit (take at c ++ add_bits low high) high
      (all_append Bit (take at c) (add_bits low high) (all_take Bit at c b) (add-bits low high))
      (all_take Bit h (drop (at + h) c) (all_drop Bit (at + h) c b)))
      (all_drop Bit (at + (h + h)) c b))

  -- what is done, and the stage over what is left, is as before the turn
  pub turn-stage : (k : ℕ) → take (at + (h + h)) w ++ stage k h (drop (at + (h + h)) w) ≡ take at c ++ stage (suc k) h (drop at c)
  turn-stage k =
      ap (λ l. take (at + (h + h)) l ++ stage k h (drop (at + (h + h)) l)) turn_is
      ∙ ap₂ (λ x y. x ++ stage k h y) (take_at done after (at + (h + h)) done-length) (drop_at done after (at + (h + h)) done-length)
      ∙ regroup (take at c) (add_bits low high) high (stage k h after)
      ∙ ap (λ r. take at c ++ r) (sym (ap (stage (suc k) h) cut ∙ stage-pieces k h low high after low-length high-length))

-- ---- one turn of the transform's loop: c after j stages, k the number of pairs of runs, h the size of a run

module _ {m j : ℕ} (l : List ℕ) {c : List ℕ} (e : length l ≡ 2 ^ m) (f : j < m) (ec : c ≡ runs (2 ^ (m - j)) j l)
    {k h : ℕ} (ek : k ≡ 2 ^ (m - (j + 1))) (eh : h ≡ 2 ^ j) where
  paired : 2 ^ (m - j) ≡ k + k
  paired =
      let d : m - j ≡ suc (m - (j + 1)) = omega arith in
      omega (arith, ap (λ n. 2 ^ n) d, two-pow-succ (m - (j + 1)))

  whole : length l ≡ (k + k) * 2 ^ j
  whole =
      let d : m ≡ m - j + j = omega arith in
      e ∙ ap (λ n. 2 ^ n) d ∙ pow-add 2 (m - j) j ∙ ap (λ n. n * 2 ^ j) paired

  pub pairs-length : length c ≡ k * (h + h)
  pairs-length =
      ap length (ec ∙ ap (λ n. runs n j l) paired) ∙ runs-length (k + k) j l whole ∙ ap (λ n. (k + k) * n) (sym eh)
      ∙ add-mul k k h ∙ sym (mul-add k h h)

  pub joined : stage k h c ≡ runs (2 ^ (m - (j + 1))) (j + 1) l
  joined =
      ap₂ (stage k) eh (ec ∙ ap (λ n. runs n j l) paired) ∙ runs-stage k j l whole
      ∙ ap₂ (λ n i. runs n i l) ek (sym (add-one j))

-- ---- the shifts that give k and h, for a word of n = 2^m bits

module _ {m n : ℕ} (e : n ≡ 2 ^ m) (fits : n < 18446744073709551616) where
  pub shifts : m < 64
  shifts = lt_of_not-le (λ g. let p : 2 ^ 64 ≤ 2 ^ m = pow_mono g in omega (arith, e))

  pub pairs : (j : ℕ) → j < m → n / 2 ^ (j + 1) ≡ 2 ^ (m - (j + 1))
  pairs j f =
      let d : m ≡ m - (j + 1) + (j + 1) = omega arith in
      ap (λ i. i / 2 ^ (j + 1)) (e ∙ ap (λ i. 2 ^ i) d ∙ pow-add 2 (m - (j + 1)) (j + 1)) ∙ mul-div_cancel (2 ^ (m - (j + 1))) (pow_pos (j + 1))

  pub run-size : (j : ℕ) → j < m → 1 * 2 ^ j % 18446744073709551616 ≡ 2 ^ j
  run-size j f =
      let p : 2 ^ j ≤ 2 ^ m = pow_mono (omega arith) in
      let s : 1 * 2 ^ j % 18446744073709551616 ≡ 1 * 2 ^ j = mod-eq_of_lt (omega (arith, e)) in
      omega (arith, s)
