-- Values that show a word: the values of every node, under the right bits of u before it, show the node's own word; so that word costs nothing, and no other
-- word does. One step down by the signs of Q and P, then by induction on the steps down; m is a parameter. Assumes nothing.
use mathlib.Core.Path.{◌≡◌, refl, sym, ap, ap₂, ◌∙◌, subst}
use mathlib.Core.List.{List, [], ◌∷◌, ◌++◌, zip_with}
use mathlib.Core.Logic.{◌⊎◌, inl, inr}
use Prim.Native.Nat.{ℕ, zero, suc, ◌+◌, ◌-◌, ◌^◌, ◌≤◌, ◌<◌}
use native.Mathlib.Nat.{two-pow-succ}
use native.Mathlib.Decide.{ℕ_discrete}
use native.Mathlib.Omega.{arith}
use lib.ListN.{length, take, drop, length-drop}
use lib.Seq.{take_all, take-take, drop-drop, take_at, drop_at, length-take-le}
use lib.IntN.{ℤ, pos, negsuc, nat_abs}
use Rattle.laws.specs.Lists.{All}
use Rattle.laws.specs.Pairs.{Paired}
use Rattle.laws.proofs.Tests.{lt-or}
use Rattle.laws.proofs.Lists.{all_take, all_drop, drop-take}
use Rattle.laws.proofs.Pairs.{paired-take, paired-drop}
use Rattle.polar.specs.Bits.{Bit, ◌⊕◌, add_bits}
use Rattle.polar.specs.Transform.{transform}
use Rattle.polar.specs.Soft.{Q, P, Qs, Ps, hard, cost, discrepancy}
use Rattle.polar.specs.Shown.{Shows}
use Rattle.polar.specs.Node.{rest, rest_bits, first, child, node}
use Rattle.polar.proofs.Bits.{first-half, last-half, add-length}
use Rattle.polar.proofs.Transform.{transform-suc, transform-length, transform-bits}
use Rattle.polar.proofs.Soft.{pair, Q-abs, cost-same, cost-other}
use Rattle.polar.proofs.Value.{Same}
use Rattle.polar.proofs.Node.{Starts, rest-low, rest-high, rest_bits-low, rest_bits-high, rest-bits, child-low, child-high, node-same}

-- ---- what words cost

-- a value costs the bit that it shows nothing, and no other
shows-cost : (v : ℕ) (s : ℤ) → Shows v s → cost v s ≡ 0
shows-cost v s h = sym (cost-same v s h.sign)

shows-of : (v : ℕ) (s : ℤ) → 0 < nat_abs s → cost v s ≡ 0 → Shows v s
shows-of v s h e = go (ℕ_discrete v (hard s))
  where
    go : Dec (v ≡ hard s) → Shows v s
    go (yes q) = record { some = omega arith; sign = q }
    go (no q) = absurd (omega (arith, cost-other v s q))

-- the word that the values show costs nothing
pub shown-costs : (c : List ℕ) (ys : List ℤ) → Paired Shows c ys → discrepancy c ys ≡ 0
unfolding discrepancy Paired
shown-costs [] ys p = refl
shown-costs (c ∷ cs) [] p = absurd p
shown-costs (c ∷ cs) (y ∷ ys) p = omega (arith, shows-cost c y p.0, shown-costs cs ys p.1)

-- and no other word does
pub shown-only : (c d : List ℕ) (ys : List ℤ) → Paired Shows c ys → length d ≡ length c → discrepancy d ys ≡ 0 → d ≡ c
unfolding discrepancy Paired
shown-only [] [] ys p l e = refl
shown-only [] (d ∷ ds) ys p l e = absurd (omega arith)
shown-only (c ∷ cs) [] ys p l e = absurd (omega arith)
shown-only (c ∷ cs) (d ∷ ds) [] p l e = absurd p
shown-only (c ∷ cs) (d ∷ ds) (y ∷ ys) p l e =
    ap₂ (λ (x : ℕ) (xs : List ℕ). x ∷ xs) ((shows-of d y (omega (arith, p.0.some)) (omega arith)).sign ∙ sym p.0.sign) (shown-only cs ds ys p.1 (omega arith) (omega arith))

-- ---- one step down

-- P with the right bit adds magnitudes
P-some : (v w : ℕ) (a b : ℤ) → Bit v → Bit w → Shows (v ⊕ w) a → Shows w b → 0 < nat_abs (P v a b)
unfolding P hard
P-some zero w (pos x) (pos y) p q h k = omega arith
P-some zero w (pos x) (negsuc y) p q h k = absurd (omega arith)
P-some zero w (negsuc x) (pos y) p q h k = absurd (omega arith)
P-some zero w (negsuc x) (negsuc y) p q h k = omega arith
P-some (suc v) w (pos x) (pos y) p q h k = absurd (omega arith)
P-some (suc v) w (pos zero) (negsuc y) p q h k = absurd (omega arith)
P-some (suc v) w (pos (suc x)) (negsuc y) p q h k = omega arith
P-some (suc v) w (negsuc x) (pos y) p q h k = omega arith
P-some (suc v) w (negsuc x) (negsuc y) p q h k = absurd (omega arith)

-- two values that show v + w and w: Q of them shows v, P with v shows w
one_down : (v w : ℕ) (a b : ℤ) → Bit v → Bit w → Shows (v ⊕ w) a → Shows w b → Shows v (Q a b) × Shows w (P v a b)
one_down v w a b p q h k =
    let e : cost v (Q a b) + cost w (P v a b) ≡ 0 = pair v w a b p q ∙ ap₂ ◌+◌ (shows-cost (v ⊕ w) a h) (shows-cost w b k) in
    (shows-of v (Q a b) (omega (arith, Q-abs a b, h.some, k.some)) (omega arith), shows-of w (P v a b) (P-some v w a b p q h k) (omega arith))

-- position by position
step_down : (v w : List ℕ) (a b : List ℤ) → length v ≡ length w → All Bit v → All Bit w → Paired Shows (add_bits v w) a → Paired Shows w b →
    Paired Shows v (Qs a b) × Paired Shows w (Ps v a b)
unfolding add_bits zip_with Paired All Qs Ps
step_down [] [] [] [] e p q h k = (tt, tt)
step_down [] [] [] (y ∷ b) e p q h k = absurd k
step_down [] [] (x ∷ a) b e p q h k = absurd h
step_down [] (w ∷ ws) a b e p q h k = absurd (omega arith)
step_down (v ∷ vs) [] a b e p q h k = absurd (omega arith)
step_down (v ∷ vs) (w ∷ ws) [] b e p q h k = absurd h
step_down (v ∷ vs) (w ∷ ws) (x ∷ a) [] e p q h k = absurd k
step_down (v ∷ vs) (w ∷ ws) (x ∷ a) (y ∷ b) e p q h k =
    let one = one_down v w x y p.0 q.0 h.0 k.0 in
    let more = step_down vs ws a b (omega arith) p.1 q.1 h.1 k.1 in
    ((one.0, more.0), (one.1, more.1))

-- from values that show the word of u to those that show the words of its two halves
module _ (m : ℕ) (ys : List ℤ) (u : List ℕ) (l : length u ≡ 2 ^ suc m) (h : All Bit u) (p : Paired Shows (transform (suc m) u) ys) where
  abbrev va : List ℤ
  va = take (2 ^ m) ys

  abbrev vb : List ℤ
  vb = drop (2 ^ m) ys

  abbrev ca : List ℕ
  ca = transform m (take (2 ^ m) u)

  abbrev cb : List ℕ
  cb = transform m (drop (2 ^ m) u)

  halves : Paired Shows ca (Qs va vb) × Paired Shows cb (Ps ca va vb)
  halves =
      let n : ℕ = 2 ^ m in
      let lv : length ca ≡ n = transform-length m (take n u) (first-half m u l) in
      let lw : length cb ≡ n = transform-length m (drop n u) (last-half m u l) in
      let la : length (add_bits ca cb) ≡ n = add-length ca cb (lv ∙ sym lw) ∙ lv in
      let q : Paired Shows (add_bits ca cb ++ cb) ys = subst (λ (x : List ℕ). Paired Shows x ys) (transform-suc m u) p in
      let f : Paired Shows (add_bits ca cb) va = subst (λ (x : List ℕ). Paired Shows x va) (take_at (add_bits ca cb) cb n la) (paired-take Shows n (add_bits ca cb ++ cb) ys q) in
      let g : Paired Shows cb vb = subst (λ (x : List ℕ). Paired Shows x vb) (drop_at (add_bits ca cb) cb n la) (paired-drop Shows n (add_bits ca cb ++ cb) ys q) in
      step_down ca cb va vb (lv ∙ sym lw) (transform-bits m (take n u) (all_take Bit n u h)) (transform-bits m (drop n u) (all_drop Bit n u h)) f g

-- ---- every node

-- the word of the first 2^m of the bits u
abbrev word_of : ℕ → List ℕ → List ℕ
word_of m u = transform m (take (2 ^ m) u)

-- the values of the half that holds s show the word of that half's bits
child-shows : (m : ℕ) (ys : List ℤ) (u : List ℕ) (s : ℕ) → 2 ^ suc m ≤ length u → All Bit u → Paired Shows (word_of (suc m) u) ys →
    Paired Shows (word_of m (rest_bits m s u)) (child m s (first m u) ys)
child-shows m ys u s l h p = go (lt-or s (2 ^ m))
  where
    x : List ℕ
    x = take (2 ^ suc m) u

    two : Paired Shows (transform m (take (2 ^ m) x)) (Qs (take (2 ^ m) ys) (drop (2 ^ m) ys)) × Paired Shows (transform m (drop (2 ^ m) x)) (Ps (transform m (take (2 ^ m) x)) (take (2 ^ m) ys) (drop (2 ^ m) ys))
    two = halves m ys x (length-take-le (2 ^ suc m) u l) (all_take Bit (2 ^ suc m) u h) p

    low : take (2 ^ m) x ≡ take (2 ^ m) u
    low = take-take (2 ^ m) (2 ^ suc m) u (omega (arith, two-pow-succ m))

    high : drop (2 ^ m) x ≡ take (2 ^ m) (drop (2 ^ m) u)
    high = let e : 2 ^ suc m - 2 ^ m ≡ 2 ^ m = omega (arith, two-pow-succ m) in drop-take (2 ^ m) (2 ^ suc m) u ∙ ap (λ n. take n (drop (2 ^ m) u)) e

    go : (s < 2 ^ m) ⊎ (2 ^ m ≤ s) → Paired Shows (word_of m (rest_bits m s u)) (child m s (first m u) ys)
    go (inl q) = rw (rest_bits-low m s u q, child-low m s (first m u) ys q) (subst (λ (v : List ℕ). Paired Shows (transform m v) (Qs (take (2 ^ m) ys) (drop (2 ^ m) ys))) low two.0)
    go (inr q) =
        rw (rest_bits-high m s u q, child-high m s (first m u) ys q)
        (subst (λ (v : List ℕ). Paired Shows (transform m (take (2 ^ m) (drop (2 ^ m) u))) (Ps (transform m v) (take (2 ^ m) ys) (drop (2 ^ m) ys))) low
        (subst (λ (w : List ℕ). Paired Shows (transform m w) (Ps (transform m (take (2 ^ m) x)) (take (2 ^ m) ys) (drop (2 ^ m) ys))) high two.1))

-- the bits from that half on: enough of them, and those from s on
rest-long : (m s : ℕ) (u : List ℕ) → 2 ^ suc m ≤ length u → 2 ^ m ≤ length (rest_bits m s u)
rest-long m s u l = go (lt-or s (2 ^ m))
  where
    go : (s < 2 ^ m) ⊎ (2 ^ m ≤ s) → 2 ^ m ≤ length (rest_bits m s u)
    go (inl q) = rw (rest_bits-low m s u q) (omega (arith, two-pow-succ m))
    go (inr q) = rw (rest_bits-high m s u q) (omega (arith, length-drop (2 ^ m) u, two-pow-succ m))

rest-drop : (m s : ℕ) (u : List ℕ) → drop (rest m s) (rest_bits m s u) ≡ drop s u
rest-drop m s u = go (lt-or s (2 ^ m))
  where
    go : (s < 2 ^ m) ⊎ (2 ^ m ≤ s) → drop (rest m s) (rest_bits m s u) ≡ drop s u
    go (inl q) = ap₂ (λ (t : ℕ) (v : List ℕ). drop t v) (rest-low m s q) (rest_bits-low m s u q)
    go (inr q) =
        let e : 2 ^ m + (s - 2 ^ m) ≡ s = omega arith in
        ap₂ (λ (t : ℕ) (v : List ℕ). drop t v) (rest-high m s q) (rest_bits-high m s u q) ∙ drop-drop (s - 2 ^ m) (2 ^ m) u ∙ ap (λ t. drop t u) e

node-shows : (d j m : ℕ) (ys : List ℤ) (u : List ℕ) (s : ℕ) → m ≡ d + j → Starts d m s → 2 ^ m ≤ length u → All Bit u → Paired Shows (word_of m u) ys →
    Paired Shows (word_of j (drop s u)) (node d m ys u s)
unfolding Starts node
node-shows zero j m ys u s e a l h p = let i : j ≡ m = omega arith in rw (i, a) p
node-shows (suc d) j zero ys u s e a l h p = absurd a
node-shows (suc d) j (suc m) ys u s e a l h p =
    subst (λ (v : List ℕ). Paired Shows (word_of j v) (node d m (child m s (first m u) ys) (rest_bits m s u) (rest m s))) (rest-drop m s u)
    (node-shows d j m (child m s (first m u) ys) (rest_bits m s u) (rest m s) (omega arith) a (rest-long m s u l) (rest-bits m s u h) (child-shows m ys u s l h p))

-- The law of signs: where the values show the word of the 2^m bits u, the node of height j that starts at s, found under bits v that are u's before s, has
-- values that show the word of u's 2^j bits from s on.
pub node-shown : (d j m : ℕ) (ys : List ℤ) (u v : List ℕ) (s : ℕ) → m ≡ d + j → Starts d m s → length u ≡ 2 ^ m → All Bit u → Paired Shows (transform m u) ys → Same s u v →
    Paired Shows (transform j (take (2 ^ j) (drop s u))) (node d m ys v s)
node-shown d j m ys u v s e a l h p q =
    subst (λ (zs : List ℤ). Paired Shows (word_of j (drop s u)) zs) (node-same d m ys u v s q)
    (node-shows d j m ys u s e a (omega arith) h (subst (λ (x : List ℕ). Paired Shows (transform m x) ys) (sym (take_all (2 ^ m) u (omega arith))) p))
