-- `polar::butterfly::add_run` meets its contract. Where it returns after i stores, h is i, and the list is that after i sums. Assumes nothing.
use mathlib.Core.Path.{◌≡◌}
use Prim.Native.Nat.{ℕ, ◌+◌}
use native.Mathlib.Omega.{arith}
use borrow.Author.Rules.{rules}
use lib.ListN.{length-set}
use Rattle.polar.specs.Bits.{add_bits}
use Rattle.polar.specs.Layers.{part, over_at}
use Rattle.polar.proofs.Writes.{summed, run-clear, summed-all}
use Rattle.polar.proofs.butterfly.add_run.Statement.{statement}
use Rattle.polar.proofs.butterfly.add_run.Tie as tie

-- the list after h sums
all : (s : tie.Start) (i : ℕ) → i ≡ s.args.h → summed s.args.at s.args.h s.args.c.now i
    ≡ over_at s.args.at (add_bits (part s.args.at s.args.h s.args.c.now) (part (s.args.at + s.args.h) s.args.h s.args.c.now)) s.args.c.now
all s i e = summed-all s.args.at s.args.h s.args.c.now s.requires.0 s.requires.1 i e

add-add-sums : tie.Need-overflow_add-at
add-add-sums c = search rules

add-sums-requires : tie.Need-add_sums-requires
add-sums-requires c κs =
    run-clear c.before.before.before.args.at c.before.before.before.args.h c.before.before.before.args.c.now c.before.before.before.requires.0 c.before.before.before.requires.1

same_length : tie.Need-shape_of-c-then-h-gt4
same_length c = search rules

returns : tie.Need-returns-then-h-gt4
returns c = search rules

returns-2 : tie.Need-returns-then-h-eq0
unfolding summed
returns-2 c = all c.before.before.before 0 (omega arith)

slice-read-c : tie.Need-bounds-c-at
slice-read-c c = search rules

add-c : tie.Need-overflow_add-c
add-c c = search rules

slice-read-c-2 : tie.Need-bounds-c-at-2
slice-read-c-2 c = search rules

slice-write-c : tie.Need-bounds-c-at-3
slice-write-c c = search rules

same-length-2 : tie.Need-shape_of-c-then-h-eq1
same-length-2 c = search rules

returns-3 : tie.Need-returns-then-h-eq1
unfolding summed
returns-3 c = all c.before.before.before.before.before.before 1 (omega arith)

add-c-2 : tie.Need-overflow_add-c-2
add-c-2 c = search rules

slice-read-c-3 : tie.Need-bounds-c-at-4
slice-read-c-3 c = simp length-set (omega arith)

add-c-3 : tie.Need-overflow_add-c-3
add-c-3 c = search rules

add-c-4 : tie.Need-overflow_add-c-4
add-c-4 c = search rules

slice-read-c-4 : tie.Need-bounds-c-at-5
slice-read-c-4 c = simp length-set (omega arith)

add-c-5 : tie.Need-overflow_add-c-5
add-c-5 c = search rules

slice-write-c-2 : tie.Need-bounds-c-at-6
slice-write-c-2 c = simp length-set (omega arith)

same-length-3 : tie.Need-shape_of-c-then-h-eq2
same-length-3 c = search rules

returns-4 : tie.Need-returns-then-h-eq2
unfolding summed
returns-4 c = all c.before.before.before.before.before.before.before.before.before 2 (omega arith)

add-c-6 : tie.Need-overflow_add-c-6
add-c-6 c = search rules

slice-read-c-5 : tie.Need-bounds-c-at-7
slice-read-c-5 c = simp length-set (omega arith)

add-c-7 : tie.Need-overflow_add-c-7
add-c-7 c = search rules

add-c-8 : tie.Need-overflow_add-c-8
add-c-8 c = search rules

slice-read-c-6 : tie.Need-bounds-c-at-8
slice-read-c-6 c = simp length-set (omega arith)

add-c-9 : tie.Need-overflow_add-c-9
add-c-9 c = search rules

slice-write-c-3 : tie.Need-bounds-c-at-9
slice-write-c-3 c = simp length-set (omega arith)

same-length-4 : tie.Need-shape_of-c-then-h-eq3
same-length-4 c = search rules

returns-5 : tie.Need-returns-then-h-eq3
unfolding summed
returns-5 c = all c.before.before.before.before.before.before.before.before.before.before.before.before 3 (omega arith)

add-c-10 : tie.Need-overflow_add-c-10
add-c-10 c = search rules

slice-read-c-7 : tie.Need-bounds-c-at-10
slice-read-c-7 c = simp length-set (omega arith)

add-c-11 : tie.Need-overflow_add-c-11
add-c-11 c = search rules

add-c-12 : tie.Need-overflow_add-c-12
add-c-12 c = search rules

slice-read-c-8 : tie.Need-bounds-c-at-11
slice-read-c-8 c = simp length-set (omega arith)

add-c-13 : tie.Need-overflow_add-c-13
add-c-13 c = search rules

slice-write-c-4 : tie.Need-bounds-c-at-12
slice-write-c-4 c = simp length-set (omega arith)

same-length-5 : tie.Need-shape_of-c
same-length-5 c = search rules

returns-6 : tie.Need-returns
unfolding summed
returns-6 c = all c.before.before.before.before.before.before.before.before.before.before.before.before.before.before 4 (omega arith)

pub add_run_spec : {M : Type 1} → statement M
add_run_spec =
    tie.close
    (tie.spec
    add-add-sums
    add-sums-requires
    same_length
    returns
    returns-2
    slice-read-c
    add-c
    slice-read-c-2
    slice-write-c
    same-length-2
    returns-3
    add-c-2
    slice-read-c-3
    add-c-3
    add-c-4
    slice-read-c-4
    add-c-5
    slice-write-c-2
    same-length-3
    returns-4
    add-c-6
    slice-read-c-5
    add-c-7
    add-c-8
    slice-read-c-6
    add-c-9
    slice-write-c-3
    same-length-4
    returns-5
    add-c-10
    slice-read-c-7
    add-c-11
    add-c-12
    slice-read-c-8
    add-c-13
    slice-write-c-4
    same-length-5
    returns-6)
