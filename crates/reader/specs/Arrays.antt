-- The shared arrays of 002's Figures 8 to 11, as the reader has them. A node of height h has 2^h values and 2^h sums; 002's layer is m - h.
-- The values and the sums of a height stand under one id. Assumes nothing.
use Rattle.std.specs.Prelude.{Bool, false, cond, ◌&&◌, ◌||◌, List, [], ◌∷◌, ◌++◌, map, ℕ, zero, suc, ◌+◌, ◌^◌, length, take, drop, ℤ, leb, eqb}
use Rattle.polar.specs.Bits.{add_bits}
use Rattle.polar.specs.Soft.{Qs, Ps}
use Rattle.polar.specs.Node.{rest, child}

module _ {A : Type 0} where
  -- a function changed at one place
  unfoldable pub upd : (ℕ → A) → ℕ → A → ℕ → A
  upd f i x k = cond (eqb k i) x (f k)

  -- arrays by height and id, with one of them changed
  unfoldable pub store : (ℕ → ℕ → A) → ℕ → ℕ → A → ℕ → ℕ → A
  store arrays h i x k = cond (eqb k h) (upd (arrays k) i x) (arrays k)

-- the values and the sums of each height, by id
pub record Arrays : Type 0 where
  pub vals : ℕ → ℕ → List ℤ
  pub sums : ℕ → ℕ → List ℕ

-- the arrays, and a path's id at each height; id 0 is no array
pub record View : Type 0 where
  pub arrays : Arrays
  pub ids : ℕ → ℕ

-- what the path sees at a height
abbrev pub vals_of : View → ℕ → List ℤ
vals_of v h = v.arrays.vals h (v.ids h)

abbrev pub sums_of : View → ℕ → List ℕ
sums_of v h = v.arrays.sums h (v.ids h)

-- ---- which array a path writes to (Figures 9 and 11)

-- whether an id is one of these
unfoldable pub among : ℕ → List ℕ → Bool
among i [] = false
among i (k ∷ ks) = eqb k i || among i ks

-- the first id from i on that is none of these, looking at so many
unfoldable pub first_free : ℕ → ℕ → List ℕ → ℕ
first_free zero i is = i
first_free (suc n) i is = let later = first_free n (suc i) is in cond (among i is) later i

-- where a path holds i and the other paths alive hold these: its own, unless it is none or held by another; else the first free one
unfoldable pub own_of : ℕ → List ℕ → ℕ
own_of i others =
    let taken : List ℕ = 0 ∷ others in
    let free = first_free (length taken) 0 taken in
    cond (among i taken) free i

-- the id at height h that the path of a view writes to, among other paths with these ids
unfoldable pub writes : List (ℕ → ℕ) → ℕ → View → ℕ
writes others h v = own_of (v.ids h) (map (λ (o : ℕ → ℕ). o h) others)

-- ---- writing

-- write the values, or the sums, of height h; the other half of the array stays what it was
unfoldable pub put_vals : List (ℕ → ℕ) → ℕ → List ℤ → View → View
put_vals others h x v =
    let i = writes others h v in
    record { arrays = record { vals = store v.arrays.vals h i x; sums = v.arrays.sums }; ids = upd v.ids h i }

unfoldable pub put_sums : List (ℕ → ℕ) → ℕ → List ℕ → View → View
put_sums others h x v =
    let i = writes others h v in
    record { arrays = record { vals = v.arrays.vals; sums = store v.arrays.sums h i x }; ids = upd v.ids h i }

-- take an array of height h; what it held is of no use
unfoldable pub take_array : List (ℕ → ℕ) → ℕ → View → View
take_array others h v = record { arrays = v.arrays; ids = upd v.ids h (writes others h v) }

-- take the array where the word of a block of height j will go; where it is of the block's own height, the block's values go along, since the next
-- word is found from them
unfoldable pub claim : List (ℕ → ℕ) → ℕ → ℕ → View → View
claim others j h v = cond (eqb h j) (put_vals others h (vals_of v h) v) (take_array others h v)

-- ---- down and up the tree

-- the height of the first half that ends at t, for 0 < t < 2^m: the exponent of the largest power of two that divides t (m less 002's layer
-- λ - δ)
unfoldable pub turn : ℕ → ℕ → ℕ
turn zero t = 0
turn (suc m) t = let lower = turn m (rest m t) in cond (leb (2 ^ m) t && eqb (rest m t) 0) m lower

-- the values of the nodes that start at t, from height m down to m - d (IterativelyCalcS)
unfoldable pub descend : List (ℕ → ℕ) → ℕ → ℕ → ℕ → View → View
descend others zero m t v = v
descend others (suc d) zero t v = v
descend others (suc d) (suc m) t v =
    let t' = rest m t in
    descend others d m t' (cond (eqb t' 0) (put_vals others m (child m t (sums_of v m) (vals_of v (suc m))) v) v)

-- one height of that way, as views/src/view.rt goes it, height h from the one above: by Q where a first half starts, by P with the word in the sums of height h where a last one does
abbrev pub by_q : List (ℕ → ℕ) → ℕ → View → View
by_q others h v = put_vals others h (Qs (take (2 ^ h) (vals_of v (suc h))) (drop (2 ^ h) (vals_of v (suc h)))) v

abbrev pub by_p : List (ℕ → ℕ) → ℕ → View → View
by_p others h v = put_vals others h (Ps (sums_of v h) (take (2 ^ h) (vals_of v (suc h))) (drop (2 ^ h) (vals_of v (suc h)))) v

-- a word of height j, joined with the sums of the k heights from j on
unfoldable pub joined : (ℕ → List ℕ) → ℕ → ℕ → List ℕ → List ℕ
joined sums j zero w = w
joined sums j (suc k) w = let c = joined sums j k w in add_bits (sums (j + k)) c ++ c
