-- The received values at the root: array 1 holds them there, and the workspace is as large as it was. By the laws of a list written over another.
-- Assumes nothing.
use mathlib.Core.Path.{◌≡◌, sym, ap, ◌∙◌}
use mathlib.Core.List.{List, ◌++◌}
use Prim.Native.Nat.{ℕ, ◌+◌, ◌^◌, ◌≤◌}
use native.Mathlib.Omega.{arith}
use lib.IntN.{ℤ}
use lib.ListN.{length, take, drop, length-append, length-drop}
use lib.Seq.{length-take-le}
use Rattle.polar.specs.Layers.{over_at}
use Rattle.heights.specs.Workspace.{spot, Room, Id}
use Rattle.heights.proofs.Over.{part-over}
use Rattle.heights.proofs.Spots.{spot-room}
use Rattle.reading.specs.Running.{arrays_of, received}

-- array 1 begins the workspace
pub root-spot : (m : ℕ) → spot m 1 m ≡ 2 ^ m
unfolding spot
root-spot m = omega arith

-- a list written over another leaves its length
over-size : {A : Type 0} (to : ℕ) (new l : List A) → to + length new ≤ length l → length (over_at to new l) ≡ length l
unfolding over_at
over-size to new l h =
    length-append (take to l ++ new) (drop (to + length new) l)
    ∙ omega (arith, length-append (take to l) new, length-take-le to l (omega arith), length-drop (to + length new) l)

-- values written from cell 2^m on
pub received_is : (m at : ℕ) (values numbers : List ℤ) → at ≡ 2 ^ m → over_at at values numbers ≡ received m values numbers
unfolding received
received_is m at values numbers e = ap (λ k. over_at k values numbers) (e ∙ sym (root-spot m))

module _ (m N : ℕ) (values numbers : List ℤ) (room : Room m N numbers) (some : 1 ≤ N) (size : length values ≡ 2 ^ m) where
  -- they lie within the workspace
  pub root-within : spot m 1 m + length values ≤ length numbers
  root-within =
      let d : Id N 1 = record { some = omega arith; most = some } in
      omega (arith, spot-room {m = m} {N = N} {h = m} {i = 1} (omega arith) d numbers room)

  pub received-root : (bytes : List ℕ) → (arrays_of m (received m values numbers) bytes).vals m 1 ≡ values
  unfolding arrays_of received
  received-root bytes = part-over (spot m 1 m) values numbers root-within (2 ^ m) size

  pub received-room : Room m N (received m values numbers)
  unfolding Room received
  received-room = omega (arith, over-size (spot m 1 m) values numbers root-within)
