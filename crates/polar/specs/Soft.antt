-- Soft values: Q, P, hard decisions, penalties, discrepancy, and 002's name for it. Document 01, "Soft values and scores". A value is an integer; positive
-- favours 0. Assumes nothing.
use Rattle.std.specs.Prelude.{cond, ◌||◌, ℕ, zero, suc, ◌+◌, min, ℤ, pos, negsuc, neg_ℤ, nat_abs, ◌+ℤ◌, ◌-ℤ◌, ◌*ℤ◌, eqb}
use mathlib.Core.List.{List, [], ◌∷◌, zip_with}

-- the sign of a value: -1, 0 or 1 (negsuc n is -(n + 1))
unfoldable pub sign : ℤ → ℤ
sign (pos zero) = pos 0
sign (pos (suc n)) = pos 1
sign (negsuc n) = negsuc 0

-- Q(a,b) has magnitude min(|a|,|b|), and sign the product of the signs, 0 if either is 0
unfoldable pub Q : ℤ → ℤ → ℤ
Q a b = sign a *ℤ sign b *ℤ pos (min (nat_abs a) (nat_abs b))

-- P(v,a,b) is b + a for v = 0, b - a for v = 1
unfoldable pub P : ℕ → ℤ → ℤ → ℤ
P zero a b = b +ℤ a
P (suc v) a b = b -ℤ a

-- Q and P position by position
unfoldable pub Qs : List ℤ → List ℤ → List ℤ
Qs = zip_with Q

unfoldable pub Ps : List ℕ → List ℤ → List ℤ → List ℤ
Ps [] xs ys = []
Ps (v ∷ vs) [] ys = []
Ps (v ∷ vs) (a ∷ xs) [] = []
Ps (v ∷ vs) (a ∷ xs) (b ∷ ys) = P v a b ∷ Ps vs xs ys

-- a hard decision is 1 where the value is below 0, else 0
unfoldable pub hard : ℤ → ℕ
hard (pos n) = 0
hard (negsuc n) = 1

-- the penalty of bit v at value s is 0 if s is 0 or its sign agrees with v, else -|s|
unfoldable pub penalty : ℕ → ℤ → ℤ
penalty v s = cond (eqb (nat_abs s) 0 || eqb v (hard s)) (pos 0) (neg_ℤ (pos (nat_abs s)))

-- |s| where bit v differs from the hard decision, else 0
unfoldable pub cost : ℕ → ℤ → ℕ
cost v s = cond (eqb v (hard s)) 0 (nat_abs s)

-- a word's discrepancy: the sum of the values' magnitudes over the positions where it differs from the hard decisions
unfoldable pub discrepancy : List ℕ → List ℤ → ℕ
discrepancy [] ys = 0
discrepancy (c ∷ cs) [] = 0
discrepancy (c ∷ cs) (y ∷ ys) = cost c y + discrepancy cs ys

-- 002's ellipsoidal weight of a word with respect to values (III-A), also known there as correlation discrepancy: the sum of the penalties of its bits, so minus the
-- values' magnitudes where it differs from the hard decisions; not above 0, by 002's second footnote
unfoldable pub ellipsoidal_weight : List ℕ → List ℤ → ℤ
ellipsoidal_weight [] ys = pos 0
ellipsoidal_weight (c ∷ cs) [] = pos 0
ellipsoidal_weight (c ∷ cs) (y ∷ ys) = penalty c y +ℤ ellipsoidal_weight cs ys
