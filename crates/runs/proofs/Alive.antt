-- Before every extraction the queue is in order and holds at most D paths, the path to be taken among them; and after step 2 the queue and the
-- path taken are at most D. Kept by each extraction: a cut leaves room for the copy, an insertion keeps the order. Assumes nothing.
use mathlib.Core.List.{List, ◌∷◌}
use mathlib.Core.Option.{Option, none, some}
use Prim.Native.Nat.{ℕ, ◌-◌, ◌≤◌, ◌<◌}
use native.Mathlib.Omega.{arith}
use lib.ListN.{length, take, length-take}
use lib.IntN.{ℤ}
use Rattle.laws.specs.Lists.{All}
use Rattle.codebook.specs.Book.{Book}
use Rattle.queue.specs.Queue.{insert, room_for, visit}
use Rattle.machine.specs.Machine.{Path, Moment, key_of, copy_of, cut, advance, extract, first_state, moments_of}
use Rattle.runs.specs.Runs.{state_of, state_at, Ordered, Alive}
use Rattle.runs.proofs.Order.{insert-length, insert-ordered, take-ordered, staying-ordered, staying-length}
use Rattle.runs.proofs.Moments.{run-moments}

-- ---- one extraction, step by step

cut-ordered : (D : ℕ) (qs : List Path) (n : ℕ) (o : Option Path) → Ordered key_of qs → Ordered key_of (cut D qs n o).queue
unfolding cut room_for
cut-ordered D qs n none h = h
cut-ordered D qs n (some c) h = insert-ordered key_of c (take (D - 2) qs) (take-ordered key_of (D - 2) qs h)

-- the path taken is the D-th at most
pub cut-length : (D : ℕ) (qs : List Path) (n : ℕ) (o : Option Path) → 2 ≤ D → length qs < D → length (cut D qs n o).queue < D
unfolding cut room_for
cut-length D qs n none d h = h
cut-length D qs n (some c) d h = omega (arith, insert-length key_of c (take (D - 2) qs), length-take (D - 2) qs)

-- ---- the run

extract-alive : (B : Book) (L D : ℕ) (ys : List ℤ) (p : Path) (qs : List Path) (n : ℕ) (visits : List ℕ) → 2 ≤ D → Alive D (state_of (p ∷ qs) n visits) → Alive D (extract B L D ys p qs n visits).state
unfolding extract Ordered
extract-alive B L D ys p qs n visits d a =
    let o = copy_of B ys n p.blocks p.bits in
    let c = (cut D qs n o).queue in
    let w = visit visits p.blocks in
    let q = insert key_of (advance B ys p) c in
    let room = a.room in
    record {
      ordered = staying-ordered key_of L p.blocks w q (insert-ordered key_of (advance B ys p) c (cut-ordered D qs n o a.ordered.1));
      room = omega (arith, cut-length D qs n o d (omega arith), insert-length key_of (advance B ys p) c, staying-length key_of L p.blocks w q);
    }

first-alive : (B : Book) (D : ℕ) → 2 ≤ D → Alive D (first_state B)
unfolding first_state Ordered All
first-alive B D d = record { ordered = (tt, tt); room = omega arith }

pub run-alive : (B : Book) (L D : ℕ) (ys : List ℤ) → 2 ≤ D → All (λ (t : Moment). Alive D (state_at t)) (moments_of B L D ys)
run-alive B L D ys d = run-moments B L D ys (Alive D) (λ p qs n visits _ a. extract-alive B L D ys p qs n visits d a) (first-alive B D d)
