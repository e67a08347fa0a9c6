-- `short::bytes::least_row` meets its contract: the least of the low halves, or of those from the bound less the high half on. Assumes nothing.
use mathlib.Core.Path.{◌≡◌, sym, ap, ◌∙◌}
use mathlib.Core.List.{List}
use Prim.Native.Nat.{ℕ, ◌+◌, ◌-◌, ◌≤◌, ◌<◌}
use native.Mathlib.Omega.{arith}
use lib.ListN.{length, get_or}
use Rattle.short.specs.Short.{least_key}
use Rattle.short.proofs.LeastKey.{key-le, key-least, key-small, lifted, lifted-key, lifted-none, key-lifted, lifted-all}
use Rattle.short.proofs.bytes.least_row.Goals as goal

-- the low halves' keys
abbrev low-key : List ℕ → ℕ → ℕ
low-key t w = get_or t w 0

-- the least of them
low_small : (t : List ℕ) (least : ℕ) → ((k : ℕ) → k < 16 → get_or t k 0 ≤ 1073217776) → least ≡ least_key (low-key t) 0 16 → least ≤ 1073217776
low_small t least h e = omega (arith, e, key-least (low-key t) 16 0 (omega arith), h 0 (omega arith))

-- the least from a bound on
key-is : (t : List ℕ) (b : ℕ) {key : ℕ} → length t ≡ 16 → key ≡ least_key (low-key t) b (length t) → key ≡ least_key (low-key t) b 16
key-is t b n e = e ∙ ap (least_key (low-key t) b) n

pub overflow_add-least : goal.overflow_add-least
overflow_add-least c = let h = c.requires in omega (arith, low_small c.args.low.now c.args.least h.1 h.3, h.2)

pub overflow_add-result : goal.overflow_add-result
overflow_add-result c = let h = c.requires in omega (arith, low_small c.args.low.now c.args.least h.1 h.3, h.2)

pub returns-then-bound-least : goal.returns-then-bound-least
returns-then-bound-least c =
    let a = c.args in
    let h = c.requires in
    ap (λ x. x + a.add) h.3 ∙ lifted-all (low-key a.low.now) a.add a.bound 16 (omega arith) (λ w l. omega (arith, h.1 w l, h.2)) (omega (arith, h.3, c.if-bound-least.true))

pub returns-then-key : goal.returns-then-key
returns-then-key c =
    let a = c.args in
    let h = c.requires in
    let k = c.least_key-key in
    c.if-key.true ∙ sym (key-lifted (low-key a.low.now) a.add a.bound 16 (λ w l. omega (arith, h.1 w l, h.2)) ∙ ap (lifted a.add) (sym (key-is a.low.now (a.bound - a.add) h.0 k.ensures)) ∙ lifted-none a.add k.result (omega (arith, c.if-key.true)))

pub overflow_add-result-2 : goal.overflow_add-result-2
overflow_add-result-2 c =
    let f = low-key c.args.low.now in
    let h = c.requires in
    let b = c.args.bound - c.args.add in
    let e = key-is c.args.low.now b h.0 c.least_key-key.ensures in
    omega (arith, h.2, e, key-small f b 16 1073217776 h.1 (omega (arith, e, key-le f b 16)))

pub returns : goal.returns
returns c =
    let a = c.args in
    let h = c.requires in
    let f = low-key a.low.now in
    let b = a.bound - a.add in
    let k = c.least_key-key in
    let e = key-is a.low.now b h.0 k.ensures in
    sym (key-lifted f a.add a.bound 16 (λ w l. omega (arith, h.1 w l, h.2)) ∙ ap (lifted a.add) (sym e) ∙ lifted-key a.add k.result (omega (arith, e, key-le f b 16)))
