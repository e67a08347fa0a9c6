-- The least key from a bound on, as a number: it is the key of what the scan by settings finds; the keys of two runs in turn; keys that one
-- number is added to. By induction on how many there are. Assumes nothing.
use mathlib.Core.Path.{◌≡◌, refl, sym, ap, ap₂, ◌∙◌}
use mathlib.Core.Bool.{cond}
use mathlib.Core.Logic.{◌⊎◌, inl, inr}
use mathlib.Core.Option.{Option, none, some}
use Prim.Native.Nat.{ℕ, zero, suc, ◌+◌, ◌-◌, ◌≤◌, ◌<◌, min}
use native.Mathlib.Numerals.{add-one}
use native.Mathlib.Omega.{arith}
use lib.Dec.{ltb, leb}
use borrow.Author.Tests.{lt-ltb, le-ltb, le-leb, lt-leb}
use Rattle.laws.specs.Lists.{May}
use Rattle.laws.proofs.Tests.{lt-or}
use Rattle.machine.specs.Choice.{choose, first_of}
use Rattle.outer.specs.Search.{tried, lesser, least_from}
use Rattle.short.specs.Short.{kept, least_key}
use Rattle.outer.proofs.Least.{least-below}

pub kept_out : (b k : ℕ) → k < b → kept b k ≡ 4294967295
unfolding kept
kept_out b k l = rw (lt-ltb k b l)

pub kept_in : (b k : ℕ) → b ≤ k → kept b k ≡ k
unfolding kept
kept_in b k l = rw (le-ltb k b l)

pub key_more : (f : ℕ → ℕ) (b n : ℕ) → min (kept b (f n)) (least_key f b n) ≡ least_key f b (n + 1)
unfolding least_key
key_more f b n = rw add-one

-- keys that agree
pub key-same : (f g : ℕ → ℕ) (b n : ℕ) → ((w : ℕ) → w < n → f w ≡ g w) → least_key f b n ≡ least_key g b n
unfolding least_key
key-same f g b zero h = refl
key-same f g b (suc n) h = ap₂ min (ap (kept b) (h n (omega arith))) (key-same f g b n (λ w l. h w (omega arith)))

-- ---- the key of the setting that the scan finds

abbrev pub key_or : (ℕ → ℕ) → Option ℕ → ℕ
key_or f none = 4294967295
key_or f (some w) = f w

pub key-found : (f : ℕ → ℕ) (b n : ℕ) → ((w : ℕ) → w < n → f w < 4294967295) → least_key f b n ≡ key_or f (least_from f b n)
unfolding least_key least_from first_of tried choose lesser May
key-found f b zero h = refl
key-found f b (suc n) h = go (lt-or (f n) b) (least_from f b n) (least-below f b n) (key-found f b n (λ w l. h w (omega arith)))
  where
    go : (f n < b) ⊎ (b ≤ f n) → (o : Option ℕ) → May (λ (w : ℕ). w < n) o → least_key f b n ≡ key_or f o
        → min (kept b (f n)) (least_key f b n) ≡ key_or f (choose (lesser f) (leb b (f n)) n o)
    go (inl l) none m e = rw (lt-leb b (f n) l) (omega (arith, kept_out b (f n) l))
    go (inl l) (some y) m e = rw (lt-leb b (f n) l) (omega (arith, kept_out b (f n) l, h y (omega arith)))
    go (inr l) none m e = rw (le-leb b (f n) l) (omega (arith, kept_in b (f n) l, h n (omega arith)))
    go (inr l) (some y) m e = rw (le-leb b (f n) l) (pick (lt-or (f n) (f y)))
      where
        pick : (f n < f y) ⊎ (f y ≤ f n) → min (kept b (f n)) (least_key f b n) ≡ f (cond (ltb (f n) (f y)) n y)
        pick (inl j) = rw (lt-ltb (f n) (f y) j) (omega (arith, kept_in b (f n) l))
        pick (inr j) = rw (le-ltb (f n) (f y) j) (omega (arith, kept_in b (f n) l))

-- ---- runs of keys

-- no key is above the greatest number
pub key-le : (f : ℕ → ℕ) (b n : ℕ) → least_key f b n ≤ 4294967295
unfolding least_key
key-le f b zero = omega arith
key-le f b (suc n) = omega (arith, key-le f b n)

-- n keys and then m
pub key-runs : (f : ℕ → ℕ) (b n m : ℕ) → min (least_key (λ i. f (n + i)) b m) (least_key f b n) ≡ least_key f b (n + m)
unfolding least_key
key-runs f b n zero = let e : n ≡ n + 0 = omega arith in omega (arith, ap (least_key f b) e, key-le f b n)
key-runs f b n (suc m) = let e : suc (n + m) ≡ n + suc m = omega arith in omega (arith, key-runs f b n m, ap (least_key f b) e)

-- it is at most each of them
pub key-least : (f : ℕ → ℕ) (n w : ℕ) → w < n → least_key f 0 n ≤ f w
unfolding least_key
key-least f zero w l = absurd (omega arith)
key-least f (suc n) w l = go (key-least f n w) (lt-or w n)
  where
    go : (w < n → least_key f 0 n ≤ f w) → (w < n) ⊎ (n ≤ w) → min (kept 0 (f n)) (least_key f 0 n) ≤ f w
    go ih (inl m) = omega (arith, ih m)
    go ih (inr m) = let e : n ≡ w = omega arith in omega (arith, kept_in 0 (f n) (omega arith), ap f e)

-- a bound that none of them is below
pub key-free : (f : ℕ → ℕ) (b n : ℕ) → b ≤ least_key f 0 n → least_key f b n ≡ least_key f 0 n
unfolding least_key
key-free f b zero h = refl
key-free f b (suc n) h =
    let z : kept 0 (f n) ≡ f n = kept_in 0 (f n) (omega arith) in
    omega (arith, kept_in b (f n) (omega arith), key-free f b n (omega arith))

-- a key that is one of them
pub key-small : (f : ℕ → ℕ) (b n m : ℕ) → ((w : ℕ) → w < n → f w ≤ m) → least_key f b n < 4294967295 → least_key f b n ≤ m
unfolding least_key
key-small f b zero m h l = absurd (omega arith)
key-small f b (suc n) m h l = go (key-small f b n m (λ w k. h w (omega arith))) (lt-or (f n) b) (lt-or (least_key f b n) 4294967295)
  where
    go : (least_key f b n < 4294967295 → least_key f b n ≤ m) → (f n < b) ⊎ (b ≤ f n) → (least_key f b n < 4294967295) ⊎ (4294967295 ≤ least_key f b n)
        → min (kept b (f n)) (least_key f b n) ≤ m
    go ih (inl j) (inl k) = omega (arith, ih k)
    go ih (inl j) (inr k) = absurd (omega (arith, kept_out b (f n) j))
    go ih (inr j) k = omega (arith, kept_in b (f n) j, h n (omega arith))

-- ---- a number added to each

-- to a key, if it is one
abbrev pub lifted : ℕ → ℕ → ℕ
lifted a k = cond (ltb k 4294967295) (k + a) 4294967295

pub lifted-key : (a k : ℕ) → k < 4294967295 → lifted a k ≡ k + a
lifted-key a k l = rw (lt-ltb k 4294967295 l)

pub lifted-none : (a k : ℕ) → 4294967295 ≤ k → lifted a k ≡ 4294967295
lifted-none a k l = rw (le-ltb k 4294967295 l)

pub key-lifted : (f : ℕ → ℕ) (a b n : ℕ) → ((w : ℕ) → w < n → f w + a < 4294967295) → least_key (λ w. f w + a) b n ≡ lifted a (least_key f (b - a) n)
unfolding least_key
key-lifted f a b zero h = refl
key-lifted f a b (suc n) h = go (lt-or (f n) (b - a)) (lt-or (least_key f (b - a) n) 4294967295) (key-lifted f a b n (λ w l. h w (omega arith))) (h n (omega arith))
  where
    go : (f n < b - a) ⊎ (b - a ≤ f n) → (least_key f (b - a) n < 4294967295) ⊎ (4294967295 ≤ least_key f (b - a) n)
        → least_key (λ w. f w + a) b n ≡ lifted a (least_key f (b - a) n) → f n + a < 4294967295
        → min (kept b (f n + a)) (least_key (λ w. f w + a) b n) ≡ lifted a (min (kept (b - a) (f n)) (least_key f (b - a) n))
    go (inl l) (inl m) e s =
        let i : kept (b - a) (f n) ≡ 4294967295 = kept_out (b - a) (f n) l in
        omega (arith, key-le (λ w. f w + a) b n, kept_out b (f n + a) (omega arith), lifted-key a (least_key f (b - a) n) m, lifted-key a (min (kept (b - a) (f n)) (least_key f (b - a) n)) (omega arith))
    go (inl l) (inr m) e s =
        let i : kept (b - a) (f n) ≡ 4294967295 = kept_out (b - a) (f n) l in
        omega (arith, kept_out b (f n + a) (omega arith), lifted-none a (least_key f (b - a) n) m, lifted-none a (min (kept (b - a) (f n)) (least_key f (b - a) n)) (omega arith))
    go (inr l) (inl m) e s =
        let i : kept (b - a) (f n) ≡ f n = kept_in (b - a) (f n) l in
        omega (arith, kept_in b (f n + a) (omega arith), lifted-key a (least_key f (b - a) n) m, lifted-key a (min (kept (b - a) (f n)) (least_key f (b - a) n)) (omega arith))
    go (inr l) (inr m) e s =
        let i : kept (b - a) (f n) ≡ f n = kept_in (b - a) (f n) l in
        omega (arith, kept_in b (f n + a) (omega arith), lifted-none a (least_key f (b - a) n) m, lifted-key a (min (kept (b - a) (f n)) (least_key f (b - a) n)) (omega arith))

-- where none of them is below the bound, their least
pub lifted-all : (f : ℕ → ℕ) (a b n : ℕ) → 0 < n → ((w : ℕ) → w < n → f w + a < 4294967295) → b ≤ least_key f 0 n + a → least_key f 0 n + a ≡ least_key (λ w. f w + a) b n
lifted-all f a b n z h l =
    sym (key-lifted f a b n h ∙ ap (lifted a) (key-free f (b - a) n (omega arith)) ∙ lifted-key a (least_key f 0 n) (omega (arith, key-least f n 0 z, h 0 z)))
