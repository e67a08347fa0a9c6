-- The key of a byte is that of the hard decisions and the weights of the positions where it differs from them: the weight of a position is what
-- turning its bit adds. The two least weights, position by position from the last one on. Assumes nothing.
use Rattle.std.specs.Prelude.{cond, List, [], ◌∷◌, ℕ, zero, suc, ◌+◌, ◌-◌, ◌*◌, ◌/◌, ◌%◌, ltb, ℤ, pos, negsuc}
use Rattle.short.specs.declared.Lead.{Lead}

-- whether the n lowest bits of y have an odd number of ones: 1 or 0
unfoldable pub odd_of : ℕ → ℕ → ℕ
odd_of zero y = 0
odd_of (suc n) y = (y % 2 + odd_of n (y / 2)) % 2

-- one weight more
unfoldable pub weighed : ℕ → Lead → Lead
weighed w x =
    cond (ltb w x.least)
    (record { base = x.base; odd = x.odd; least = w; next = x.least })
    (cond (ltb w x.next) (record { base = x.base; odd = x.odd; least = x.least; next = w }) x)

-- one position more, before the others: its value s, and what a 1 there counts in the number, c
unfoldable pub led_more : ℤ → ℕ → Lead → Lead
led_more (pos a) c x = weighed (a * 256 + c) x
led_more (negsuc a) c x = weighed (suc a * 256 - c) (record { base = x.base + c; odd = 1 - x.odd; least = x.least; next = x.next })

-- the values ss, the first of which counts c; the greatest number stands for no weight
unfoldable pub led : ℕ → List ℤ → Lead
led c [] = record { base = 0; odd = 0; least = 4294967295; next = 4294967295 }
led c (s ∷ ss) = led_more s c (led (c + c) ss)
