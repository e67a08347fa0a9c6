-- Where blocks start and the limits on blocks, as one more block is put last. By induction on the blocks. Assumes nothing.
use mathlib.Core.Path.{◌≡◌, refl, ap}
use mathlib.Core.List.{List, [], ◌∷◌, ◌++◌}
use mathlib.Core.Logic.{◌⊎◌, inl, inr}
use Prim.Native.Nat.{ℕ, zero, suc, ◌+◌, ◌^◌, ◌%◌, ◌≤◌, ◌<◌}
use native.Mathlib.Nat.{not-suc-le-zero, le_of_suc-le-suc}
use native.Mathlib.Omega.{arith}
use lib.ListN.{length, get_or, take, drop, length-append, get_or-append}
use lib.Seq.{get_or_at}
use lib.IntN.{pos, nat_abs}
use Rattle.laws.proofs.Tests.{lt-or}
use Rattle.codebook.specs.Book.{Kind, Block, Book, free_count, start_of, block_at, kinds_of}
use Rattle.codebook.specs.Limits.{BlockOk}

-- ---- where blocks start

next_start : (bs : List Block) (b : ℕ) (none : Block) → b < length bs → start_of bs (suc b) ≡ start_of bs b + 2 ^ (get_or bs b none).j
unfolding start_of
next_start [] b none h = absurd (not-suc-le-zero h)
next_start (x ∷ bs) zero none h = omega arith
next_start (x ∷ bs) (suc b) none h = omega (arith, next_start bs b none (le_of_suc-le-suc h))

-- the next block starts where a block ends
pub start-next : (B : Book) (b : ℕ) → b < length B.blocks → start_of B.blocks (suc b) ≡ start_of B.blocks b + 2 ^ (block_at B b).j
unfolding block_at
start-next B b h = next_start B.blocks b _ h

pub start-append : (bs cs : List Block) (b : ℕ) → b ≤ length bs → start_of (bs ++ cs) b ≡ start_of bs b
unfolding start_of
start-append bs cs zero h = refl
start-append [] cs (suc b) h = absurd (not-suc-le-zero h)
start-append (x ∷ bs) cs (suc b) h = ap (λ (n : ℕ). 2 ^ x.j + n) (start-append bs cs b (le_of_suc-le-suc h))

-- the number of indices in the blocks, with one block more
pub start-last : (bs : List Block) (x : Block) → start_of (bs ++ x ∷ []) (length (bs ++ x ∷ [])) ≡ start_of bs (length bs) + 2 ^ x.j
unfolding start_of
start-last [] x = omega arith
start-last (y ∷ bs) x = omega (arith, start-last bs x)

-- where an index is in a block, there is a block
pub start-some : (bs : List Block) → 0 < start_of bs (length bs) → 0 < length bs
unfolding start_of
start-some [] h = h
start-some (x ∷ bs) h = omega arith

-- ---- the limits

-- a block that starts at a, in a book of length 2^m and kinds ks, keeps the limits
pub record Fits (m : ℕ) (ks : List Kind) (a : ℕ) (x : Block) : Type 0 where
  pub short : x.j ≤ 5
  pub aligned : a % 2 ^ x.j ≡ 0
  pub within : a + 2 ^ x.j ≤ 2 ^ m
  pub light : free_count (take (2 ^ x.j) (drop a ks)) ≤ 8
  pub bias : nat_abs x.bias ≤ 1048576

-- what block_at answers where there is no block
abbrev pub no_block : Block
no_block = record { j = 0; bias = pos 0 }

-- each of the blocks keeps them where it starts
unfoldable pub AllFit : ℕ → List Kind → List Block → Type 0
AllFit m ks bs = (b : ℕ) → b < length bs → Fits m ks (start_of bs b) (get_or bs b no_block)

pub all-fit-none : (m : ℕ) (ks : List Kind) (bs : List Block) → length bs ≡ 0 → AllFit m ks bs
unfolding AllFit
all-fit-none m ks bs e b h = absurd (omega arith)

pub all-fit-last : (m : ℕ) (ks : List Kind) (bs : List Block) (x : Block) → AllFit m ks bs → Fits m ks (start_of bs (length bs)) x → AllFit m ks (bs ++ x ∷ [])
unfolding AllFit
all-fit-last m ks bs x h f b l =
    go (lt-or b (length bs))
  where
    go : (b < length bs) ⊎ (length bs ≤ b) → Fits m ks (start_of (bs ++ x ∷ []) b) (get_or (bs ++ x ∷ []) b no_block)
    go (inl k) = rw (start-append bs (x ∷ []) b (omega arith), get_or-append bs (x ∷ []) no_block b k) (h b k)
    go (inr k) =
        let e : length bs ≡ b = omega (arith, length-append bs (x ∷ [])) in
        rw (start-append bs (x ∷ []) b (omega arith), get_or_at bs x [] no_block b e, ← e) f

pub all-fit-ok : (B : Book) (b : ℕ) → AllFit B.m B.kinds B.blocks → b < length B.blocks → BlockOk B b
unfolding AllFit block_at kinds_of
all-fit-ok B b h l =
    let f = h b l in
    record { short = f.short; aligned = f.aligned; within = f.within; light = f.light; bias = f.bias }
