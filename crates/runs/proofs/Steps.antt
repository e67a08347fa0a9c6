-- What one extraction does to the queue: what holds of the queued paths, of the copy and of the path with its next block holds of the queue
-- afterwards; and how many blocks those two have. Assumes nothing.
use mathlib.Core.Path.{◌≡◌, refl}
use mathlib.Core.Bool.{true}
use mathlib.Core.List.{List}
use mathlib.Core.Option.{Option, none, some}
use Prim.Native.Nat.{ℕ, zero, suc, ◌-◌}
use lib.Pow.{pow_pos}
use lib.ListN.{take}
use lib.IntN.{ℤ}
use Rattle.laws.specs.Lists.{All, May}
use Rattle.laws.proofs.Lists.{all_take}
use Rattle.codebook.specs.Book.{Book}
use Rattle.queue.specs.Queue.{room_for}
use Rattle.machine.specs.Words.{Ranked, nearer, nearest_with, nearest}
use Rattle.machine.specs.Machine.{Path, key_of, path, copy_with, copy_of, cut, advance_with, advance, extract}
use Rattle.runs.proofs.Choice.{Found, first_found}
use Rattle.runs.proofs.Order.{all_insert, all-staying}

-- ---- words that are found

-- a block always has a nearest word
pub nearest-found : (B : Book) (ys : List ℤ) (u : List ℕ) (b : ℕ) → Found (nearest B ys u b)
unfolding nearest nearest_with
nearest-found B ys u b = first_found nearer (λ _. true) _ _ 0 (pow_pos _) tt

-- ---- the blocks of a copy, and of a path with its next block

copy_with-blocks : (B : Book) (ys : List ℤ) (n b : ℕ) (o : Option Ranked) → May (λ (c : Path). c.blocks ≡ b) (copy_with B ys n b o)
unfolding copy_with path May
copy_with-blocks B ys n b none = tt
copy_with-blocks B ys n b (some x) = refl

pub copy_blocks : (B : Book) (ys : List ℤ) (n b : ℕ) (u : List ℕ) → May (λ (c : Path). c.blocks ≡ b) (copy_of B ys n b u)
unfolding copy_of May
copy_blocks B ys n zero u = tt
copy_blocks B ys n (suc b) u = copy_with-blocks B ys n (suc b) _

copy_with-number : (B : Book) (ys : List ℤ) (n b : ℕ) (o : Option Ranked) → May (λ (c : Path). c.number ≡ n) (copy_with B ys n b o)
unfolding copy_with path May
copy_with-number B ys n b none = tt
copy_with-number B ys n b (some x) = refl

pub copy-number : (B : Book) (ys : List ℤ) (n b : ℕ) (u : List ℕ) → May (λ (c : Path). c.number ≡ n) (copy_of B ys n b u)
unfolding copy_of May
copy-number B ys n zero u = tt
copy-number B ys n (suc b) u = copy_with-number B ys n (suc b) _

pub advance-number : (B : Book) (ys : List ℤ) (p : Path) → (advance B ys p).number ≡ p.number
unfolding advance
advance-number B ys p = go (nearest B ys p.bits p.blocks)
  where
    go : (o : Option Ranked) → (advance_with B ys p o).number ≡ p.number
    go none = unfold advance_with in refl
    go (some x) = unfold advance_with path in refl

pub advance-blocks : (B : Book) (ys : List ℤ) (p : Path) → (advance B ys p).blocks ≡ suc p.blocks
unfolding advance
advance-blocks B ys p = go (nearest B ys p.bits p.blocks) (nearest-found B ys p.bits p.blocks)
  where
    go : (o : Option Ranked) → Found o → (advance_with B ys p o).blocks ≡ suc p.blocks
    go none h = absurd (unfold Found in h)
    go (some x) h = unfold advance_with path in refl

-- ---- the queue

pub all-cut : (P : Path → Type 0) (D : ℕ) (qs : List Path) (n : ℕ) (o : Option Path) → All P qs → May P o → All P (cut D qs n o).queue
unfolding cut room_for May
all-cut P D qs n none h m = h
all-cut P D qs n (some c) h m = all_insert key_of P c (take (D - 2) qs) m (all_take P (D - 2) qs h)

-- what holds of all that is queued holds after the extraction
pub all-extract : (P : Path → Type 0) (B : Book) (L D : ℕ) (ys : List ℤ) (p : Path) (qs : List Path) (n : ℕ) (visits : List ℕ) → All P qs → May P (copy_of B ys n p.blocks p.bits) → P (advance B ys p) →
    All P (extract B L D ys p qs n visits).state.queue
unfolding extract
all-extract P B L D ys p qs n visits h c a =
    all-staying key_of L p.blocks _ _ P (all_insert key_of P (advance B ys p) _ a (all-cut P D qs n (copy_of B ys n p.blocks p.bits) h c))
