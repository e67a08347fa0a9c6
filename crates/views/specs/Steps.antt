-- What each step of a view needs: arrays where it looks, values within range, sums of bits; and which bytes a join changes. Assumes nothing.
use Rattle.std.specs.Prelude.{◌≡◌, List, ℕ, suc, ◌+◌, ◌^◌, ◌≤◌, ◌<◌, length, get_or}
use Rattle.laws.specs.Lists.{All}
use Rattle.polar.specs.Bits.{Bit}
use Rattle.polar.specs.Layers.{Within}
use Rattle.reader.specs.Arrays.{View, vals_of, sums_of}
use Rattle.heights.specs.Workspace.{spot}

-- the path has an array of height h, with values within range
pub record Upper (h : ℕ) (v : View) : Type 0 where
  pub has : 1 ≤ v.ids h
  pub range : All (Within 1048064) (vals_of v h)

-- the path has arrays of height h and above it, and P leaves the values within range
pub record Turning (h : ℕ) (v : View) : Type 0 where
  pub has : 1 ≤ v.ids h
  pub upper : 1 ≤ v.ids (suc h)
  pub range : All (Within 524032) (vals_of v (suc h))

-- the sums of the heights from j on, below h, are there, and are bits
unfoldable pub Joinable : ℕ → ℕ → View → Type 0
Joinable j h v = (k : ℕ) → j ≤ k → k < h → (1 ≤ v.ids k) × All Bit (sums_of v k)

-- the block's own values are there, where they go along
unfoldable pub Claimable : ℕ → ℕ → View → Type 0
Claimable j h v = h ≡ j → 1 ≤ v.ids h

-- bytes changed within height h of array i alone
pub record Joined (m h i : ℕ) (old new : List ℕ) : Type 0 where
  pub size : length new ≡ length old
  pub before : (k : ℕ) → k < spot m i h → get_or new k 0 ≡ get_or old k 0
  pub after : (k : ℕ) → spot m i h + 2 ^ h ≤ k → get_or new k 0 ≡ get_or old k 0
