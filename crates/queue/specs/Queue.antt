-- The queue's order, its steps, and a run's record: document 01, "The queue", whose words are "crowded out", "outrun" and "visit". Over any
-- kind of path that has a key, so that the plain machine and the reader each use it for their own. Assumes nothing.
use Rattle.std.specs.Prelude.{Bool, cond, not, ◌&&◌, ◌||◌, List, [], ◌∷◌, map, ℕ, suc, ◌-◌, get_or, take, drop, set, ℤ, leb, ltb, eqb}
use Rattle.std.proofs.Math.Option.{Option, none, some}
use Rattle.std.specs.Int.Signed.{lt_z}
use Rattle.laws.specs.Lists.{keep}
use Rattle.queue.specs.Run.{Trace}

-- what the order goes by
pub record Key : Type 0 where
  pub score : ℤ
  pub blocks : ℕ
  pub number : ℕ

-- the order is higher score, then more blocks, then lower number
unfoldable pub before : Key → Key → Bool
before p q =
    let higher = lt_z q.score p.score in
    let lower = lt_z p.score q.score in
    let longer = ltb q.blocks p.blocks in
    let same_length = eqb q.blocks p.blocks in
    let older = ltb p.number q.number in
    higher || not lower && (longer || same_length && older)

module _ {A : Type 0} (key : A → Key) where
  -- a path queued: put into its place in the order
  unfoldable pub insert : A → List A → List A
  insert p [] = p ∷ []
  insert p (q ∷ qs) = let later = insert p qs in cond (before (key p) (key q)) (p ∷ q ∷ qs) (q ∷ later)

  -- the paths with more than b blocks, and those with b or fewer
  unfoldable pub ahead : ℕ → List A → List A
  ahead b qs = keep (λ (p : A). ltb b (key p).blocks) qs

  unfoldable pub behind : ℕ → List A → List A
  behind b qs = keep (λ (p : A). leb (key p).blocks b) qs

  -- step 4, after the L-th visit to block b: the queued paths that stay, and those outrun
  unfoldable pub staying : ℕ → ℕ → List ℕ → List A → List A
  staying L b visits qs = cond (eqb (get_or visits b 0) L) (ahead b qs) qs

  unfoldable pub outrun_by : ℕ → ℕ → List ℕ → List A → List A
  outrun_by L b visits qs = cond (eqb (get_or visits b 0) L) (behind b qs) []

  -- the paths' numbers
  unfoldable pub numbers : List A → List ℕ
  numbers qs = map (λ (p : A). (key p).number) qs

module _ {A : Type 0} where
  -- step 2 removes paths from the order's end until D - 2 are left: those left, and those crowded out
  unfoldable pub room_for : ℕ → List A → List A
  room_for D qs = take (D - 2) qs

  unfoldable pub crowded_out : ℕ → List A → List A
  crowded_out D qs = drop (D - 2) qs

-- the visits to each block, with one more to block b
unfoldable pub visit : List ℕ → ℕ → List ℕ
visit visits b = set visits b (suc (get_or visits b 0))

-- one extraction (steps 1 to 4): the path taken, its blocks and its score, which make the walk's entry, and the numbers crowded out and outrun
pub record Step : Type 0 where
  pub path : ℕ
  pub blocks : ℕ
  pub score : ℤ
  pub crowded : List ℕ
  pub outrun : List ℕ

-- what a run comes to: the final word, its data (bits) and its discrepancy
pub record Final : Type 0 where
  pub word : List ℕ
  pub bits : List ℕ
  pub discrepancy : ℕ

-- how a run ends: something is found when a path with all blocks is taken; it is dry (document 02's word) where no path is left, or no further extraction is allowed
pub data End (A : Type 0) : Type 0 where
  found : A → End A
  dry : End A

-- an end with what is found seen otherwise
unfoldable pub end_as : {A B : Type 0} → (A → B) → End A → End B
end_as f (found x) = found (f x)
end_as f dry = dry

-- a run: its extractions, and how it ends
pub record Run (A : Type 0) : Type 0 where
  pub steps : List Step
  pub end : End A

-- the end that a trace comes to; with its fuel spent it is dry
unfoldable pub end_in : {A : Type 0} → Option (End A) → End A
end_in none = dry
end_in (some e) = e

-- the run that a trace is, each state with its step
unfoldable pub run_in : {S A : Type 0} → (S → Step) → Trace S (End A) → Run A
run_in step t = record { steps = map step t.states; end = end_in t.end }
