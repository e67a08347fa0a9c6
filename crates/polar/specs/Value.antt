-- The value of a bit, and R: document 01, "The marker's plain machine". Assumes nothing.
use Rattle.std.specs.Prelude.{cond, List, ℕ, zero, suc, ◌+◌, ◌-◌, ◌^◌, length, get_or, take, drop, ℤ, pos, ◌+ℤ◌, ltb}
use Rattle.polar.specs.Transform.{transform}
use Rattle.polar.specs.Soft.{Qs, Ps, penalty, cost}

-- The value of bit i over N = 2^m values, given the bits u before it. For N = 1, the value itself. Else a is the first half of the
-- values, b the last. For i below N/2, go on in Q(a,b). Else v is the first N/2 bits times the A of that size: go on in P(v,a,b), with
-- the bits from N/2 on, at i - N/2.
unfoldable pub value : ℕ → List ℤ → List ℕ → ℕ → ℤ
value zero ys u i = get_or ys 0 (pos 0)
value (suc m) ys u i =
    let half = 2 ^ m in
    let a = take half ys in
    let b = drop half ys in
    let v = transform m (take half u) in
    let low = value m (Qs a b) (take half u) i in
    let high = value m (Ps v a b) (drop half u) (i - half) in
    cond (ltb i half) low high

-- the sum of the penalties of n bits of u from bit i on, each bit's value found from the received ones
unfoldable pub penalties : ℕ → List ℤ → List ℕ → ℕ → ℕ → ℤ
penalties m ys u i zero = pos 0
penalties m ys u i (suc n) = penalties m ys u i n +ℤ penalty (get_or u (i + n) 0) (value m ys u (i + n))

-- the costs of n bits of u from bit i on: their penalties with the other sign (proofs/Value, penalties-costs)
unfoldable pub costs : ℕ → List ℤ → List ℕ → ℕ → ℕ → ℕ
costs m ys u i zero = 0
costs m ys u i (suc n) = costs m ys u i n + cost (get_or u (i + n) 0) (value m ys u (i + n))

-- R, a path's sum of penalties over its bits
unfoldable pub R : ℕ → List ℤ → List ℕ → ℤ
R m ys u = penalties m ys u 0 (length u)
