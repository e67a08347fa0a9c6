-- The order of refusals within a command, for whatever is loaded, every byte and all bytes after it: a byte that is not listed is 2; a listed one that may not stand here is 3, also where its operands are
-- cut off; one that may stand and is cut off is 1, whatever its operands are. Assumes nothing.
use mathlib.Core.Path.{◌≡◌, refl}
use mathlib.Core.Bool.{true, false}
use mathlib.Core.List.{List}
use mathlib.Core.Option.{some}
use Prim.Native.Nat.{ℕ}
use lib.ListN.{length, take}
use lib.Dec.{T, leb}
use Rattle.codebook.specs.declared.Refusal.TheVariants.{Truncated, Unknown, Misplaced}
use Rattle.codebook.specs.Refusals.{unless}
use Rattle.codebook.specs.Loading.{Loading, listed, width, command, placed, fault, refusal}
use Rattle.codebook.proofs.Commands.{Passed, passed-test, passed-rest}

module _ (s : Loading) (byte : ℕ) (after : List ℕ) where
  pub unknown-first : listed byte ≡ false → refusal s byte after ≡ some Unknown
  unfolding refusal unless
  unknown-first e = rw e refl

  pub misplaced-next : listed byte ≡ true → placed s byte ≡ false → refusal s byte after ≡ some Misplaced
  unfolding refusal unless
  misplaced-next e p = rw (e, p) refl

  pub truncated-then : listed byte ≡ true → placed s byte ≡ true → leb (width byte) (length after) ≡ false → refusal s byte after ≡ some Truncated
  unfolding refusal unless
  truncated-then e p w = rw (e, p, w) refl

  -- where nothing is refused, the byte may stand here and its command has no fault
  pub none-refused : Passed (refusal s byte after) → T (placed s byte) × Passed (fault s (command byte (take (width byte) after)))
  unfolding refusal
  none-refused p =
      let q = passed-rest (listed byte) _ _ p in
      (passed-test (placed s byte) _ _ q, passed-rest (leb (width byte) (length after)) _ _ (passed-rest (placed s byte) _ _ q))
