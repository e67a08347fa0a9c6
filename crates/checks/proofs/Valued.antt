-- Every value lies in -2,047 to 2,047 exactly where the greatest magnitude is at most 2,047: value by value. Assumes nothing.
use mathlib.Core.Path.{◌≡◌, sym, ap, ◌∙◌}
use mathlib.Core.Bool.{◌&&◌}
use Rattle.std.proofs.Math.Bool.{and-true, and_assoc}
use mathlib.Core.List.{List, [], ◌∷◌}
use Prim.Native.Nat.{ℕ, max}
use lib.IntN.{ℤ, nat_abs}
use lib.Dec.{leb}
use native.Mathlib.Omega.{arith}
use native.Mathlib.Nat.{le-max_left, le-max_right}
use Rattle.std.proofs.lemmas.Bool.Decides.{nat_tests}
use Rattle.std.specs.List.{fold}
use Rattle.machine.specs.Calls.{values_ok}

-- the greater of two is at most 2047 exactly where both are
two : (a b : ℕ) → leb (max a b) 2047 ≡ (leb a 2047 && leb b 2047)
two a b = grind (arith, nat_tests, le-max_left a b, le-max_right a b)

from : (ys : List ℤ) (m : ℕ) → leb (fold (λ most y. max most (nat_abs y)) m ys) 2047 ≡ (leb m 2047 && values_ok ys)
unfolding values_ok
from [] m = sym (and-true (leb m 2047))
from (y ∷ ys) m = from ys (max m (nat_abs y)) ∙ ap (λ b. b && values_ok ys) (two m (nat_abs y)) ∙ and_assoc (leb m 2047) (leb (nat_abs y) 2047) (values_ok ys)

pub greatest_ok : (ys : List ℤ) → leb (fold (λ most y. max most (nat_abs y)) 0 ys) 2047 ≡ values_ok ys
greatest_ok ys = from ys 0
