-- Q by the signs of its arguments, the penalty as a cost with the other sign, and 002's Lemma 1: what a pair of bits costs is what they cost
-- after one step down. Then lengths, magnitudes, and each definition by the tests that the code makes. By cases on the signs. Assumes nothing.
use mathlib.Core.Path.{◌≡◌, refl, sym, ap, ap₂, ◌∙◌, subst}
use mathlib.Core.Bool.{Bool, true, false, cond, ◌||◌, not, beq, true≢false}
use mathlib.Core.List.{List, [], ◌∷◌, ◌++◌, zip_with}
use Prim.Native.Nat.{ℕ, zero, suc, ◌+◌, ◌-◌, ◌*◌, ◌≤◌, min, ◌<◌}
use native.Mathlib.Omega.{arith}
use lib.ListN.{length}
use lib.IntN.{ℤ, pos, negsuc, neg_ℤ, nat_abs, sub_ℕ, ◌+ℤ◌, ◌-ℤ◌, neg_ℤ-+ℤ}
use lib.Signed.{non_neg, lt_z}
use lib.Dec.{T, ltb, eqb, ltb→lt, nltb→le, eqb→eq}
use borrow.Author.Tests.{eq-eqb, ne_eqb}
use mir.Syntax.{w32}
use mir.Val.{SFits}
use Rattle.laws.specs.Lists.{All}
use Rattle.laws.proofs.Tests.{cond-case}
use Rattle.laws.proofs.Signed.{back, is_below, not-below, abs-fits, add_is, sub_is}
use mir.Facts.{to_z-of_z}
use Rattle.laws.proofs.Integers.{neg-abs, add-abs}
use Rattle.laws.proofs.Lists.{length-zip}
use Rattle.polar.specs.Bits.{Bit, ◌⊕◌, add_bits}
use Rattle.polar.specs.Layers.{Within}
use Rattle.polar.specs.Soft.{sign, Q, P, Qs, Ps, hard, penalty, cost, discrepancy, ellipsoidal_weight}

-- ---- Q by signs

-- minus a number that is 0
minus-zero : (n : ℕ) → n ≡ 0 → pos 0 ≡ neg_ℤ (pos n)
minus-zero n e = ap (λ k. neg_ℤ (pos k)) (sym e)

pub Q-pos-pos : (a b : ℕ) → Q (pos a) (pos b) ≡ pos (min a b)
unfolding Q sign
Q-pos-pos zero zero = refl
Q-pos-pos zero (suc b) = ap pos (omega arith)
Q-pos-pos (suc a) zero = ap pos (omega arith)
Q-pos-pos (suc a) (suc b) = ap pos (omega arith)

pub Q-pos-neg : (a b : ℕ) → Q (pos a) (negsuc b) ≡ neg_ℤ (pos (min a (suc b)))
unfolding Q sign
Q-pos-neg zero b = ap pos (omega arith) ∙ minus-zero (min 0 (suc b)) (omega arith)
Q-pos-neg (suc a) b = let e : 1 * min (suc a) (suc b) ≡ min (suc a) (suc b) = omega arith in ap (λ n. neg_ℤ (pos n)) e

pub Q-neg-pos : (a b : ℕ) → Q (negsuc a) (pos b) ≡ neg_ℤ (pos (min (suc a) b))
unfolding Q sign
Q-neg-pos a zero = ap pos (omega arith) ∙ minus-zero (min (suc a) 0) (omega arith)
Q-neg-pos a (suc b) = let e : 1 * min (suc a) (suc b) ≡ min (suc a) (suc b) = omega arith in ap (λ n. neg_ℤ (pos n)) e

pub Q-neg-neg : (a b : ℕ) → Q (negsuc a) (negsuc b) ≡ pos (min (suc a) (suc b))
unfolding Q sign
Q-neg-neg a b = ap pos (omega arith)

-- ---- the penalty

pub penalty-cost : (v : ℕ) (s : ℤ) → penalty v s ≡ neg_ℤ (pos (cost v s))
unfolding penalty cost
penalty-cost v s = go (eqb (nat_abs s) 0) (eqb v (hard s)) (eqb→eq (nat_abs s) 0)
  where
    go : (none agree : Bool) → (T none → nat_abs s ≡ 0) → cond (none || agree) (pos 0) (neg_ℤ (pos (nat_abs s))) ≡ neg_ℤ (pos (cond agree 0 (nat_abs s)))
    go true true h = refl
    go true false h = minus-zero (nat_abs s) (h tt)
    go false true h = refl
    go false false h = refl

-- ---- 002's Lemma 1, at one position

cost-sub-0 : (x y : ℕ) → cost 0 (sub_ℕ x y) ≡ y - x
unfolding cost hard
cost-sub-0 x y = cond-case (λ (z : ℤ). cost 0 z ≡ y - x) (ltb x y) (λ t. omega (arith, ltb→lt x y t)) (λ t. omega (arith, nltb→le x y t))

cost-sub-1 : (x y : ℕ) → cost 1 (sub_ℕ x y) ≡ x - y
unfolding cost hard
cost-sub-1 x y = cond-case (λ (z : ℤ). cost 1 z ≡ x - y) (ltb x y) (λ t. omega (arith, ltb→lt x y t)) (λ t. omega arith)

cost-neg-0 : (n : ℕ) → cost 0 (neg_ℤ (pos n)) ≡ n
unfolding cost hard
cost-neg-0 zero = refl
cost-neg-0 (suc n) = refl

cost-neg-1 : (n : ℕ) → cost 1 (neg_ℤ (pos n)) ≡ 0
unfolding cost hard
cost-neg-1 zero = refl
cost-neg-1 (suc n) = refl

pair-00 : (a b : ℤ) → cost 0 (Q a b) + cost 0 (P 0 a b) ≡ cost 0 a + cost 0 b
unfolding P cost hard
pair-00 (pos x) (pos y) = rw (Q-pos-pos x y)
pair-00 (pos x) (negsuc y) = rw (Q-pos-neg x y) (omega (arith, cost-neg-0 (min x (suc y)), cost-sub-0 x (suc y)))
pair-00 (negsuc x) (pos y) = rw (Q-neg-pos x y) (omega (arith, cost-neg-0 (min (suc x) y), cost-sub-0 y (suc x)))
pair-00 (negsuc x) (negsuc y) = rw (Q-neg-neg x y) (omega arith)

pair-01 : (a b : ℤ) → cost 0 (Q a b) + cost 1 (P 0 a b) ≡ cost 1 a + cost 1 b
unfolding P cost hard
pair-01 (pos x) (pos y) = rw (Q-pos-pos x y) (omega arith)
pair-01 (pos x) (negsuc y) = rw (Q-pos-neg x y) (omega (arith, cost-neg-0 (min x (suc y)), cost-sub-1 x (suc y)))
pair-01 (negsuc x) (pos y) = rw (Q-neg-pos x y) (omega (arith, cost-neg-0 (min (suc x) y), cost-sub-1 y (suc x)))
pair-01 (negsuc x) (negsuc y) = rw (Q-neg-neg x y)

pair-10 : (a b : ℤ) → cost 1 (Q a b) + cost 0 (P 1 a b) ≡ cost 1 a + cost 0 b
unfolding P cost hard
pair-10 (pos zero) (pos y) = rw (Q-pos-pos 0 y) (omega arith)
pair-10 (pos (suc x)) (pos y) = rw (Q-pos-pos (suc x) y) (omega (arith, cost-sub-0 y (suc x)))
pair-10 (pos zero) (negsuc y) = rw (Q-pos-neg 0 y) (omega (arith, cost-neg-1 (min 0 (suc y)), cost-sub-0 0 (suc y)))
pair-10 (pos (suc x)) (negsuc y) = rw (Q-pos-neg (suc x) y) (omega (arith, cost-neg-1 (min (suc x) (suc y))))
pair-10 (negsuc x) (pos y) = rw (Q-neg-pos x y) (omega (arith, cost-neg-1 (min (suc x) y)))
pair-10 (negsuc x) (negsuc y) = rw (Q-neg-neg x y) (omega (arith, cost-sub-0 (suc x) (suc y)))

pair-11 : (a b : ℤ) → cost 1 (Q a b) + cost 1 (P 1 a b) ≡ cost 0 a + cost 1 b
unfolding P cost hard
pair-11 (pos zero) (pos y) = rw (Q-pos-pos 0 y) (omega arith)
pair-11 (pos (suc x)) (pos y) = rw (Q-pos-pos (suc x) y) (omega (arith, cost-sub-1 y (suc x)))
pair-11 (pos zero) (negsuc y) = rw (Q-pos-neg 0 y) (omega (arith, cost-neg-1 (min 0 (suc y)), cost-sub-1 0 (suc y)))
pair-11 (pos (suc x)) (negsuc y) = rw (Q-pos-neg (suc x) y) (omega (arith, cost-neg-1 (min (suc x) (suc y))))
pair-11 (negsuc x) (pos y) = rw (Q-neg-pos x y) (omega (arith, cost-neg-1 (min (suc x) y)))
pair-11 (negsuc x) (negsuc y) = rw (Q-neg-neg x y) (omega (arith, cost-sub-1 (suc x) (suc y)))

pub pair : (v w : ℕ) (a b : ℤ) → Bit v → Bit w → cost v (Q a b) + cost w (P v a b) ≡ cost (v ⊕ w) a + cost w b
pair zero zero a b h k = pair-00 a b
pair zero (suc zero) a b h k = pair-01 a b
pair zero (suc (suc w)) a b h k = absurd (omega arith)
pair (suc zero) zero a b h k = pair-10 a b
pair (suc zero) (suc zero) a b h k = pair-11 a b
pair (suc zero) (suc (suc w)) a b h k = absurd (omega arith)
pair (suc (suc v)) w a b h k = absurd (omega arith)

-- ---- 002's Lemma 1, for words

pub lemma1 : (v w : List ℕ) (a b : List ℤ) → length v ≡ length w → length v ≡ length a → length v ≡ length b → All Bit v → All Bit w →
    discrepancy v (Qs a b) + discrepancy w (Ps v a b) ≡ discrepancy (add_bits v w) a + discrepancy w b
unfolding discrepancy Qs Ps add_bits zip_with All
lemma1 [] [] a b l m n h k = refl
lemma1 [] (w ∷ ws) a b l m n h k = absurd (omega arith)
lemma1 (v ∷ vs) [] a b l m n h k = absurd (omega arith)
lemma1 (v ∷ vs) (w ∷ ws) [] b l m n h k = absurd (omega arith)
lemma1 (v ∷ vs) (w ∷ ws) (a ∷ xs) [] l m n h k = absurd (omega arith)
lemma1 (v ∷ vs) (w ∷ ws) (a ∷ xs) (b ∷ ys) l m n h k =
    omega (arith, lemma1 vs ws xs ys (omega arith) (omega arith) (omega arith) h.1 k.1, pair v w a b h.0 k.0)

-- 002's ellipsoidal weight is the discrepancy with the other sign
pub weight-discrepancy : (c : List ℕ) (ys : List ℤ) → ellipsoidal_weight c ys ≡ neg_ℤ (pos (discrepancy c ys))
unfolding ellipsoidal_weight discrepancy
weight-discrepancy [] ys = refl
weight-discrepancy (c ∷ cs) [] = refl
weight-discrepancy (c ∷ cs) (y ∷ ys) = ap₂ ◌+ℤ◌ (penalty-cost c y) (weight-discrepancy cs ys) ∙ sym (neg_ℤ-+ℤ (pos (cost c y)) (pos (discrepancy cs ys)))

pub discrepancy-append : (v w : List ℕ) (a b : List ℤ) → length v ≡ length a → discrepancy (v ++ w) (a ++ b) ≡ discrepancy v a + discrepancy w b
unfolding discrepancy
discrepancy-append [] w [] b l = omega arith
discrepancy-append [] w (a ∷ xs) b l = absurd (omega arith)
discrepancy-append (v ∷ vs) w [] b l = absurd (omega arith)
discrepancy-append (v ∷ vs) w (a ∷ xs) b l = omega (arith, discrepancy-append vs w xs b (omega arith))

pub cost-le : (v : ℕ) (s : ℤ) → cost v s ≤ nat_abs s
unfolding cost
cost-le v s = cond-case (λ (n : ℕ). n ≤ nat_abs s) (eqb v (hard s)) (λ _. omega arith) (λ _. omega arith)

-- where the words go on with the bit v and the value s, a small one as all are
module _ {c cs : List ℕ} {l ys : List ℤ} {v : ℕ} {s : ℤ} (e : c ≡ v ∷ cs) (f : l ≡ s ∷ ys) (a : All (Within 1048064) l) where
  small-here : All (Within 1048064) (s ∷ ys)
  small-here = subst (All (Within 1048064)) f a

  pub here-back : back s ≡ s
  unfolding All
  here-back = let h : nat_abs s ≤ 1048064 = small-here.0 in to_z-of_z (abs-fits s (omega arith))

  pub here-small : nat_abs (back s) ≤ 1048064
  unfolding All
  here-small = omega (arith, small-here.0, ap nat_abs here-back)

  pub cost-small : cost v (back s) ≤ 1048064
  cost-small = omega (arith, cost-le v (back s), here-small)

  pub rest-small : All (Within 1048064) ys
  unfolding All
  rest-small = small-here.1

  -- the discrepancy: this position's cost and the rest's
  pub discrepancy-turn : discrepancy c l ≡ cost v (back s) + discrepancy cs ys
  unfolding discrepancy
  discrepancy-turn = ap₂ discrepancy e f ∙ ap (λ z. cost v z + discrepancy cs ys) (sym here-back)

pub discrepancy-end : (c : List ℕ) (ys : List ℤ) → length c ≡ 0 → discrepancy c ys ≡ 0
unfolding discrepancy
discrepancy-end [] ys e = refl
discrepancy-end (v ∷ cs) ys e = absurd (omega arith)

-- ---- lengths

pub Qs-length : (a b : List ℤ) → length a ≡ length b → length (Qs a b) ≡ length a
unfolding Qs
Qs-length a b l = length-zip Q a b ∙ omega arith

pub Ps-length : (v : List ℕ) (a b : List ℤ) → length v ≡ length a → length a ≡ length b → length (Ps v a b) ≡ length v
unfolding Ps
Ps-length [] a b k l = refl
Ps-length (v ∷ vs) [] b k l = absurd (omega arith)
Ps-length (v ∷ vs) (a ∷ xs) [] k l = absurd (omega arith)
Ps-length (v ∷ vs) (a ∷ xs) (b ∷ ys) k l = ap suc (Ps-length vs xs ys (omega arith) (omega arith))

-- ---- magnitudes

pub Q-abs : (a b : ℤ) → nat_abs (Q a b) ≡ min (nat_abs a) (nat_abs b)
Q-abs (pos a) (pos b) = ap nat_abs (Q-pos-pos a b)
Q-abs (pos a) (negsuc b) = ap nat_abs (Q-pos-neg a b) ∙ neg-abs (pos (min a (suc b)))
Q-abs (negsuc a) (pos b) = ap nat_abs (Q-neg-pos a b) ∙ neg-abs (pos (min (suc a) b))
Q-abs (negsuc a) (negsuc b) = ap nat_abs (Q-neg-neg a b)

pub P-abs : (v : ℕ) (a b : ℤ) → nat_abs (P v a b) ≤ nat_abs a + nat_abs b
unfolding P
P-abs zero a b = omega (arith, add-abs b a)
P-abs (suc v) a b = omega (arith, add-abs b (neg_ℤ a), neg-abs a)

-- ---- each definition by the tests that the code makes

pub hard-below : (s : ℤ) → T (not (non_neg s)) → 1 ≡ hard s
unfolding hard
hard-below (pos n) t = absurd t
hard-below (negsuc n) t = refl

pub hard-above : (s : ℤ) → T (non_neg s) → 0 ≡ hard s
unfolding hard
hard-above (pos n) t = refl
hard-above (negsuc n) t = absurd t

-- the same by the code's test of a local
pub hard_one : (s : ℤ) → SFits w32 s → lt_z (back s) (pos 0) ≡ true → 1 ≡ hard s
hard_one s f e = hard-below s (is_below f e)

pub hard_zero : (s : ℤ) → SFits w32 s → lt_z (back s) (pos 0) ≡ false → 0 ≡ hard s
hard_zero s f e = hard-above s (not-below f e)

pub abs-below : (s : ℤ) → T (not (non_neg s)) → neg_ℤ s ≡ pos (nat_abs s)
abs-below (pos n) t = absurd t
abs-below (negsuc n) t = refl

-- the flags are those of the tests for being below 0
pub Q-same : (a b : ℤ) → beq (not (non_neg a)) (not (non_neg b)) ≡ true → pos (min (nat_abs a) (nat_abs b)) ≡ Q a b
Q-same (pos a) (pos b) e = sym (Q-pos-pos a b)
Q-same (pos a) (negsuc b) e = absurd (true≢false (sym e))
Q-same (negsuc a) (pos b) e = absurd (true≢false (sym e))
Q-same (negsuc a) (negsuc b) e = sym (Q-neg-neg a b)

pub Q-other : (a b : ℤ) → beq (not (non_neg a)) (not (non_neg b)) ≡ false → neg_ℤ (pos (min (nat_abs a) (nat_abs b))) ≡ Q a b
Q-other (pos a) (pos b) e = absurd (true≢false e)
Q-other (pos a) (negsuc b) e = sym (Q-pos-neg a b)
Q-other (negsuc a) (pos b) e = sym (Q-neg-pos a b)
Q-other (negsuc a) (negsuc b) e = absurd (true≢false e)

pub P-zero : (v : ℕ) (a b : ℤ) → v ≡ 0 → b +ℤ a ≡ P v a b
unfolding P
P-zero zero a b e = refl
P-zero (suc v) a b e = absurd (omega arith)

pub P-one : (v : ℕ) (a b : ℤ) → (v ≡ 0 → ⊥) → b -ℤ a ≡ P v a b
unfolding P
P-one zero a b e = absurd (e refl)
P-one (suc v) a b e = refl

-- the same by the code's sum and difference of locals
pub p_sum : (v : ℕ) (a b : ℤ) → SFits w32 a → SFits w32 b → nat_abs a + nat_abs b < 2147483648 → v ≡ 0 → back (back b +ℤ back a) ≡ P v a b
p_sum v a b f g h e = add_is g f (omega arith) ∙ P-zero v a b e

pub p_difference : (v : ℕ) (a b : ℤ) → SFits w32 a → SFits w32 b → nat_abs a + nat_abs b < 2147483648 → (v ≡ 0 → ⊥) → back (back b -ℤ back a) ≡ P v a b
p_difference v a b f g h e = sub_is g f (omega arith) ∙ P-one v a b e

pub cost-same : (v : ℕ) (s : ℤ) → v ≡ hard s → 0 ≡ cost v s
unfolding cost
cost-same v s e = rw (eq-eqb v (hard s) e)

pub cost-other : (v : ℕ) (s : ℤ) → (v ≡ hard s → ⊥) → nat_abs s ≡ cost v s
unfolding cost
cost-other v s e = rw (ne_eqb v (hard s) e)

pub penalty-same : (v : ℕ) (s : ℤ) → v ≡ hard s → pos 0 ≡ penalty v s
penalty-same v s e = ap (λ n. neg_ℤ (pos n)) (cost-same v s e) ∙ sym (penalty-cost v s)

pub penalty-other : (v : ℕ) (s : ℤ) → (v ≡ hard s → ⊥) → neg_ℤ (pos (nat_abs s)) ≡ penalty v s
penalty-other v s e = ap (λ n. neg_ℤ (pos n)) (cost-other v s e) ∙ sym (penalty-cost v s)
