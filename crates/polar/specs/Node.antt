-- The values of a node: what a bit's value passes through, stopped at a block's length (002, IV). A node of height h has 2^h values; 002's
-- layer is m - h. Assumes nothing.
use Rattle.std.specs.Prelude.{cond, List, ℕ, zero, suc, ◌-◌, ◌^◌, take, drop, ℤ, ltb}
use Rattle.polar.specs.Transform.{transform}
use Rattle.polar.specs.Soft.{Qs, Ps}

-- the offset t in a node of height m + 1, counted in the half that holds it
unfoldable pub rest : ℕ → ℕ → ℕ
rest m t = cond (ltb t (2 ^ m)) t (t - 2 ^ m)

-- the bits u from a node of height m + 1 on, from the half that holds t on
unfoldable pub rest_bits : ℕ → ℕ → List ℕ → List ℕ
rest_bits m t u = cond (ltb t (2 ^ m)) u (drop (2 ^ m) u)

-- the word of the first half of the bits u
abbrev pub first : ℕ → List ℕ → List ℕ
first m u = transform m (take (2 ^ m) u)

-- the values of the half that holds t: Q of the halves, or P with the word c of the first half
unfoldable pub child : ℕ → ℕ → List ℕ → List ℤ → List ℤ
child m t c ys =
    let a = take (2 ^ m) ys in
    let b = drop (2 ^ m) ys in
    cond (ltb t (2 ^ m)) (Qs a b) (Ps c a b)

-- the values of the node that holds index t, d steps below the root of height m, given the bits u before it
unfoldable pub node : ℕ → ℕ → List ℤ → List ℕ → ℕ → List ℤ
node zero m ys u t = ys
node (suc d) zero ys u t = ys
node (suc d) (suc m) ys u t = node d m (child m t (first m u) ys) (rest_bits m t u) (rest m t)
