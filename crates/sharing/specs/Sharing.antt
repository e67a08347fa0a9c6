-- Who holds which array: the ids of each path's arrays in rows of a table, and how many paths hold each array in another. Assumes nothing.
use Rattle.std.specs.Prelude.{◌≡◌, cond, List, ◌∷◌, map, ℕ, ◌+◌, ◌*◌, ◌≤◌, ◌<◌, length, get_or, eqb}
use Rattle.codec.specs.Ties.{times}

-- the id at height h in the row of slot s: a row has 16 numbers, its ids by height first
unfoldable pub id_at : List ℕ → ℕ → ℕ → ℕ
id_at rows s h = get_or rows (s * 16 + h) 0

-- how many paths hold id i at height h: 257 numbers for each height, by id; id 0 is no array, and is counted like any other
unfoldable pub held_at : List ℕ → ℕ → ℕ → ℕ
held_at holders h i = get_or holders (h * 257 + i) 0

-- 1 where a count is 0, else 0
unfoldable pub vacant_bit : ℕ → ℕ
vacant_bit count = cond (eqb count 0) 1 0

-- 1 where two ids are the same, else 0
unfoldable pub one : ℕ → ℕ → ℕ
one i k = cond (eqb i k) 1 0

-- where the search for a free id of height h begins: a number behind the ten heights, for each of them
unfoldable pub low_at : List ℕ → ℕ → ℕ
low_at holders h = get_or holders (2570 + h) 0

-- the table of holders has ten heights, and these numbers, one for each; each id from 1 on and below a height's number is held
pub record Held (holders : List ℕ) : Type 0 where
  pub size : length holders ≡ 2580
  pub below : (h k : ℕ) → h ≤ 9 → 1 ≤ k → k ≤ 256 → k < low_at holders h → 1 ≤ held_at holders h k

-- the table of rows has one for each of the first D slots
abbrev pub Rows : ℕ → List ℕ → Type 0
Rows D rows = D * 16 ≤ length rows

-- it has one for slot s, which is one of the 256 that there may be
abbrev pub HasRow : ℕ → List ℕ → Type 0
HasRow s rows = (s < 256) × (s * 16 + 16 ≤ length rows)

-- a path holds id i at height h, other paths hold these, the holders of the N arrays are counted, and the arrays are more than the other paths
pub record Shared (holders : List ℕ) (h N i : ℕ) : Type 0 where
  pub others : List ℕ
  pub low : i ≤ N
  pub counted : (k : ℕ) → k ≤ N → held_at holders h k ≡ times k (i ∷ others)
  pub few : length others < N

-- a path fewer holds id i of height h
unfoldable pub OneLess : ℕ → ℕ → List ℕ → List ℕ → Type 0
OneLess h i old new =
    ((x : ℕ) → x ≤ 256 → held_at old h x ≡ held_at new h x + one i x)
    × ((g x : ℕ) → (g ≡ h → ⊥) → g ≤ 9 → x ≤ 256 → held_at new g x ≡ held_at old g x)

-- one path more, or one fewer, at the heights below n, holds what a row holds; the table is else as it was
pub record MoreBy (n : ℕ) (rows : List ℕ) (s : ℕ) (old new : List ℕ) : Type 0 where
  pub done : (h i : ℕ) → h < n → i ≤ 256 → held_at new h i ≡ held_at old h i + one (id_at rows s h) i
  pub rest : (h i : ℕ) → n ≤ h → h ≤ 9 → i ≤ 256 → held_at new h i ≡ held_at old h i

unfoldable pub LessBy : ℕ → List ℕ → ℕ → List ℕ → List ℕ → Type 0
LessBy n rows s old new = MoreBy n rows s new old

-- a holder of one id of height h holds another instead
unfoldable pub Exchanged : ℕ → ℕ → ℕ → List ℕ → List ℕ → Type 0
Exchanged h i k old new =
    ((x : ℕ) → x ≤ 256 → held_at new h x + one i x ≡ held_at old h x + one k x)
    × ((g x : ℕ) → (g ≡ h → ⊥) → g ≤ 9 → x ≤ 256 → held_at new g x ≡ held_at old g x)

-- row c holds the ids that row s holds at the heights up to m; the table is else as it was
unfoldable pub Copied : ℕ → ℕ → ℕ → List ℕ → List ℕ → Type 0
Copied m s c old new =
    ((h : ℕ) → h ≤ m → id_at new c h ≡ id_at old s h)
    × ((k : ℕ) → (k < c * 16) → get_or new k 0 ≡ get_or old k 0)
    × ((k : ℕ) → (c * 16 + m < k) → get_or new k 0 ≡ get_or old k 0)

-- the row of slot s holds these ids at the heights up to m
unfoldable pub HasIds : ℕ → List ℕ → ℕ → (ℕ → ℕ) → Type 0
HasIds m rows s ids = (h : ℕ) → h ≤ m → id_at rows s h ≡ ids h

-- the holders are counted, for paths with these ids: of each id up to N, at each height up to m
unfoldable pub Counted : ℕ → ℕ → List ℕ → List (ℕ → ℕ) → Type 0
Counted m N holders paths = (h i : ℕ) → h ≤ m → i ≤ N → held_at holders h i ≡ times i (map (λ (o : ℕ → ℕ). o h) paths)
