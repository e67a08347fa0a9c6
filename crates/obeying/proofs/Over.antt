-- Values written behind the first ones of a table. By the laws of joined lists. Assumes nothing.
use mathlib.Core.Path.{◌≡◌}
use mathlib.Core.List.{List, ◌++◌, append_assoc}
use Prim.Native.Nat.{ℕ, ◌+◌, ◌≤◌}
use native.Mathlib.Omega.{arith}
use lib.ListN.{length, take, drop, replicate, length-append, length-drop, length-replicate}
use lib.Seq.{drop-drop, take-append_seam, drop-append_seam}
use Rattle.std.proofs.lemmas.List.{length-take-le}
use Rattle.laws.specs.Lists.{over}

-- the same value so many times
pub over-fill : {A : Type 0} (xs old t part : List A) (v : A) (n k : ℕ) → t ≡ over xs old → length xs ≡ n → n + k ≤ length t → part ≡ replicate (length (take k (drop n t))) v
    → take n t ++ (part ++ drop k (drop n t)) ≡ over (xs ++ replicate k v) old
unfolding over
over-fill xs old t part v n k e l room f =
    let size : length (take k (drop n t)) ≡ k = length-take-le k (drop n t) (omega (arith, length-drop n t)) in
    rw (f, size, e, ← l, take-append_seam, drop-append_seam, drop-drop, length-append, length-replicate, append_assoc)
