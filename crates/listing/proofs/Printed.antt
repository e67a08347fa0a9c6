-- No more indices of a loaded book are free than there are, by its limits: so the data printed are no longer than a word. Assumes nothing.
use mathlib.Core.Path.{◌≡◌, refl}
use mathlib.Core.List.{List}
use Prim.Native.Nat.{ℕ, ◌≤◌}
use native.Mathlib.Omega.{arith}
use Rattle.std.specs.Result.{IfOk}
use Rattle.codebook.specs.Loading.{Load, refused, loaded, load, shape_of}
use Rattle.codebook.proofs.Loaded.{loaded-valid}
use Rattle.attempts.proofs.Judged.{free-most}

pub free-within : (bytes : List ℕ) → IfOk (shape_of (load bytes)) (λ x. x.k ≤ x.n)
unfolding shape_of
free-within bytes = go (load bytes) refl
  where
    go : (y : Load) → load bytes ≡ y → IfOk (shape_of y) (λ x. x.k ≤ x.n)
    go (refused r) h = tt
    go (loaded B) h = omega (arith, free-most B.kinds, (loaded-valid bytes B h).indices)
