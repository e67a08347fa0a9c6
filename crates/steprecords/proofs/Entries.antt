-- What record_at makes of the walk's buffers: entry i of each, and zeros where there is none. Assumes nothing.
use mathlib.Core.Path.{◌≡◌, refl}
use mathlib.Core.Bool.{cond}
use mathlib.Core.List.{List}
use Prim.Native.Nat.{ℕ, ◌<◌, ◌≤◌}
use lib.Dec.{ltb}
use lib.IntN.{ℤ, pos}
use lib.ListN.{get_or}
use borrow.Author.Tests.{lt-ltb, le-ltb}
use Rattle.steprecords.specs.Records.{blank, record_at}

module _ (paths blocks scores : List ℤ) (n i : ℕ) where
  pub entry-made : i < n → (p b z : ℤ) → p ≡ get_or paths i (pos 0) → b ≡ get_or blocks i (pos 0) → z ≡ get_or scores i (pos 0)
      → record { path = p; blocks = b; score = z } ≡ cond (ltb i n) (record_at paths blocks scores i) blank
  unfolding record_at
  entry-made h p b z ep eb ez = rw (lt-ltb i n h, ep, eb, ez) refl

  pub none_made : n ≤ i → record { path = pos 0; blocks = pos 0; score = pos 0 } ≡ cond (ltb i n) (record_at paths blocks scores i) blank
  unfolding blank
  none_made h = rw (le-ltb i n h) refl
