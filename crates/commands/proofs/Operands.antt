-- The operands of a block command, which may be lacking: its first byte, and the others as two's complement. Assumes nothing.
use mathlib.Core.Path.{◌≡◌, refl}
use mathlib.Core.Bool.{Bool, true, false}
use mathlib.Core.List.{List, [], ◌∷◌}
use mathlib.Core.Logic.{◌⊎◌, inl, inr}
use Prim.Native.Nat.{ℕ, suc, ◌-◌, ◌^◌, ◌≤◌, ◌<◌, min}
use native.Mathlib.Omega.{arith}
use lib.ListN.{length, take, drop}
use mir.Syntax.{w32}
use mir.Val.{to_z}
use borrow.Author.Tests.{lt-ltb, le-ltb}
use Rattle.laws.proofs.Tests.{lt-or}
use Rattle.codebook.specs.Loading.{signed}

pub first-byte : (bytes : List ℕ) → take (min (length bytes) 1) bytes ≡ take 1 bytes
first-byte [] = refl
first-byte (b ∷ bytes) = let e : min (suc (length bytes)) 1 ≡ 1 = omega arith in rw e

pub other-bytes : (bytes : List ℕ) → drop (min (length bytes) 1) bytes ≡ drop 1 bytes
other-bytes [] = refl
other-bytes (b ∷ bytes) = let e : min (suc (length bytes)) 1 ≡ 1 = omega arith in rw e

pub signed-is : (n : ℕ) → n < 2 ^ 32 → to_z w32 n ≡ signed n
unfolding signed
signed-is n h = go (lt-or n (2 ^ 31))
  where
    go : (n < 2 ^ 31) ⊎ (2 ^ 31 ≤ n) → to_z w32 n ≡ signed n
    go (inl l) = rw (lt-ltb n (2 ^ 31) l)
    go (inr l) = let e : 2 ^ 32 - n ≡ suc (2 ^ 32 - suc n) = omega arith in rw (le-ltb n (2 ^ 31) l, e)

-- a test that does not hold fails
pub fails : (b : Bool) → (b ≡ true → ⊥) → b ≡ false
fails true h = absurd (h refl)
fails false h = refl
