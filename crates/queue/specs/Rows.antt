-- Small queues, step by step: rows that pin document 01's "The queue" beside the runs of the marked table (machine/specs/Table). Assumes nothing.
use Rattle.std.specs.Prelude.{◌≡◌, List, [], ◌∷◌, ℕ, ℤ, pos, neg_ℤ}
use Rattle.queue.specs.Run.{most_extractions}
use Rattle.queue.specs.Queue.{Key, insert, staying, outrun_by, numbers, room_for, crowded_out, visit}

-- a path's key by its score, blocks and number; it is its own key
unfoldable pub path : ℤ → ℕ → ℕ → Key
path score blocks number = record { score = score; blocks = blocks; number = number }

unfoldable pub own : Key → Key
own p = p

-- five paths in order, by score, then blocks, then number
unfoldable pub queued : List Key
queued = path (pos 7) 1 6 ∷ path (pos 5) 2 8 ∷ path (pos 5) 1 3 ∷ path (pos 5) 1 9 ∷ path (neg_ℤ (pos 4)) 3 1 ∷ []

-- what document 01 says of them
pub record Rows : Type 0 where
  -- one more is queued: higher score, then more blocks, then lower number
  pub between : numbers own (insert own (path (pos 5) 1 4) queued) ≡ 6 ∷ 8 ∷ 3 ∷ 4 ∷ 9 ∷ 1 ∷ []
  pub last : numbers own (insert own (path (neg_ℤ (pos 4)) 3 2) queued) ≡ 6 ∷ 8 ∷ 3 ∷ 9 ∷ 1 ∷ 2 ∷ []
  -- step 2 at D = 5 and at D = 2: D - 2 are left, the others are crowded out from the order's end; at D = 7 all five are left
  pub left : numbers own (room_for 5 queued) ≡ 6 ∷ 8 ∷ 3 ∷ []
  pub crowded : numbers own (crowded_out 5 queued) ≡ 9 ∷ 1 ∷ []
  pub none_left : numbers own (room_for 2 queued) ≡ []
  pub all_crowded : numbers own (crowded_out 2 queued) ≡ 6 ∷ 8 ∷ 3 ∷ 9 ∷ 1 ∷ []
  pub all_left : numbers own (room_for 7 queued) ≡ 6 ∷ 8 ∷ 3 ∷ 9 ∷ 1 ∷ []
  pub none_crowded : numbers own (crowded_out 7 queued) ≡ []
  -- step 4 at the second visit of two to block 2: every path with 2 blocks or fewer is outrun
  pub ahead : numbers own (staying own 2 2 (0 ∷ 0 ∷ 2 ∷ []) queued) ≡ 1 ∷ []
  pub outrun : numbers own (outrun_by own 2 2 (0 ∷ 0 ∷ 2 ∷ []) queued) ≡ 6 ∷ 8 ∷ 3 ∷ 9 ∷ []
  -- at the first of two none is, whatever visits the other blocks had; nor at a third, were there one
  pub all_stay : numbers own (staying own 2 2 (2 ∷ 2 ∷ 1 ∷ []) queued) ≡ 6 ∷ 8 ∷ 3 ∷ 9 ∷ 1 ∷ []
  pub none_outrun : numbers own (outrun_by own 2 2 (2 ∷ 2 ∷ 1 ∷ []) queued) ≡ []
  pub later_stay : numbers own (staying own 2 2 (2 ∷ 2 ∷ 3 ∷ []) queued) ≡ 6 ∷ 8 ∷ 3 ∷ 9 ∷ 1 ∷ []
  pub later_outrun : numbers own (outrun_by own 2 2 (2 ∷ 2 ∷ 3 ∷ []) queued) ≡ []
  -- with four visits and three blocks a walk has at most 13 entries
  pub most : most_extractions 4 3 ≡ 13
  -- a visit counts for its own block alone
  pub visited : visit (3 ∷ 5 ∷ 0 ∷ []) 1 ≡ 3 ∷ 6 ∷ 0 ∷ []
