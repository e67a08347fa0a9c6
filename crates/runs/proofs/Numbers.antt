-- Before every extraction the numbers of the queued paths are distinct and below the next number: only copies take new numbers, and a copy
-- takes the next. What is removed takes its number with it. Assumes nothing.
use mathlib.Core.Path.{◌≡◌, sym, subst}
use mathlib.Core.Bool.{Bool}
use mathlib.Core.List.{List, [], ◌∷◌}
use mathlib.Core.Logic.{◌≢◌}
use mathlib.Core.Option.{Option, none, some}
use Prim.Native.Nat.{ℕ, zero, suc, ◌-◌, ◌≤◌, ◌<◌}
use native.Mathlib.Nat.{lt_irrefl}
use native.Mathlib.Omega.{arith}
use lib.ListN.{get_or, take}
use lib.IntN.{ℤ}
use lib.Dec.{eqb}
use Rattle.laws.specs.Lists.{All, May, Distinct, keep}
use Rattle.laws.proofs.Tests.{cond-case}
use Rattle.laws.proofs.Lists.{all_map, all-mapped, all_take, all_keep}
use Rattle.codebook.specs.Book.{Book}
use Rattle.queue.specs.Queue.{before, insert, ahead, staying, numbers, room_for}
use Rattle.machine.specs.Machine.{Path, State, Moment, key_of, empty_path, copy_of, cut, advance, extract, first_state, moments_of}
use Rattle.runs.specs.Runs.{state_of, state_at, Numbered}
use Rattle.runs.proofs.Order.{all_insert, all-staying}
use Rattle.runs.proofs.Moments.{run-moments}
use Rattle.runs.proofs.Steps.{copy-number, advance-number, all-cut}

-- ---- distinct numbers, path by path

-- the other paths have other numbers than x
abbrev Other : ℕ → Path → Type 0
Other x p = x ≢ p.number

-- no two paths have one number
unfoldable Apart : List Path → Type 0
Apart [] = Unit {0}
Apart (p ∷ qs) = All (Other p.number) qs × Apart qs

apart-insert : (p : Path) (qs : List Path) → All (Other p.number) qs → Apart qs → Apart (insert key_of p qs)
unfolding insert Apart All
apart-insert p [] h a = (tt, tt)
apart-insert p (q ∷ qs) h a =
    cond-case Apart (before (key_of p) (key_of q)) (λ _. (h, a))
    (λ _. (all_insert key_of (Other q.number) p qs (λ e. h.0 (sym e)) a.0, apart-insert p qs h.1 a.1))

apart-take : (n : ℕ) (qs : List Path) → Apart qs → Apart (take n qs)
unfolding Apart
apart-take zero qs a = tt
apart-take (suc n) [] a = tt
apart-take (suc n) (q ∷ qs) a = (all_take (Other q.number) n qs a.0, apart-take n qs a.1)

apart-keep : (f : Path → Bool) (qs : List Path) → Apart qs → Apart (keep f qs)
unfolding keep Apart
apart-keep f [] a = tt
apart-keep f (q ∷ qs) a =
    cond-case Apart (f q)
    (λ _. (all_map (λ x k. k.0) (keep f qs) (all_keep (Other q.number) f qs a.0), apart-keep f qs a.1))
    (λ _. apart-keep f qs a.1)

apart_distinct : (qs : List Path) → Apart qs → Distinct (numbers key_of qs)
unfolding Apart Distinct numbers key_of
apart_distinct [] a = tt
apart_distinct (q ∷ qs) a = (all-mapped (λ (p : Path). p.number) (λ (y : ℕ). q.number ≢ y) qs a.0, apart_distinct qs a.1)

-- ---- one extraction

-- numbers below n
abbrev Below : ℕ → Path → Type 0
Below n p = p.number < n

cut_below : (D : ℕ) (qs : List Path) (n : ℕ) (o : Option Path) → All (Below n) qs → May (λ (c : Path). c.number ≡ n) o → All (Below (cut D qs n o).next) (cut D qs n o).queue
unfolding cut room_for May
cut_below D qs n none h e = h
cut_below D qs n (some c) h e = all_insert key_of (Below (suc n)) c (take (D - 2) qs) (omega arith) (all_map (λ q k. omega arith) (take (D - 2) qs) (all_take (Below n) (D - 2) qs h))

next_le : (D : ℕ) (qs : List Path) (n : ℕ) (o : Option Path) → n ≤ (cut D qs n o).next
unfolding cut
next_le D qs n none = omega arith
next_le D qs n (some c) = omega arith

cut_apart : (D : ℕ) (qs : List Path) (n : ℕ) (o : Option Path) → All (Below n) qs → Apart qs → May (λ (c : Path). c.number ≡ n) o → Apart (cut D qs n o).queue
unfolding cut room_for May
cut_apart D qs n none h a e = a
cut_apart D qs n (some c) h a e =
    apart-insert c (take (D - 2) qs) (all_map (λ q k z. lt_irrefl n (omega arith)) (take (D - 2) qs) (all_take (Below n) (D - 2) qs h)) (apart-take (D - 2) qs a)

staying-apart : (L b : ℕ) (visits : List ℕ) (qs : List Path) → Apart qs → Apart (staying key_of L b visits qs)
unfolding staying ahead
staying-apart L b visits qs a = cond-case Apart (eqb (get_or visits b 0) L) (λ _. apart-keep _ qs a) (λ _. a)

-- the copy's number is not the taken path's
copy-other : (x n : ℕ) (o : Option Path) → x < n → May (λ (c : Path). c.number ≡ n) o → May (Other x) o
unfolding May
copy-other x n none h e = tt
copy-other x n (some c) h e = λ z. lt_irrefl n (omega arith)

-- ---- the run

-- the same, path by path
record Separate (s : State) : Type 0 where
  below : All (Below s.next) s.queue
  apart : Apart s.queue

extract-apart : (B : Book) (L D : ℕ) (ys : List ℤ) (p : Path) (qs : List Path) (n : ℕ) (visits : List ℕ) → Separate (state_of (p ∷ qs) n visits) → Separate (extract B L D ys p qs n visits).state
unfolding extract Apart All
extract-apart B L D ys p qs n visits h =
    let o = copy_of B ys n p.blocks p.bits in
    let c = cut D qs n o in
    let e = copy-number B ys n p.blocks p.bits in
    let same = advance-number B ys p in
    let others : All (Other p.number) c.queue = all-cut (Other p.number) D qs n o h.apart.0 (copy-other p.number n o h.below.0 e) in
    record {
      below = all-staying key_of L p.blocks _ _ (Below c.next) (all_insert key_of (Below c.next) (advance B ys p) c.queue (omega (arith, h.below.0, next_le D qs n o)) (cut_below D qs n o h.below.1 e));
      apart = staying-apart L p.blocks _ _ (apart-insert (advance B ys p) c.queue (subst (λ (x : ℕ). All (Other x) c.queue) (sym same) others) (cut_apart D qs n o h.below.1 h.apart.1 e));
    }

first-apart : (B : Book) → Separate (first_state B)
unfolding first_state Apart All empty_path
first-apart B = record { below = (omega arith, tt); apart = (tt, tt) }

pub run-numbers : (B : Book) (L D : ℕ) (ys : List ℤ) → All (λ (t : Moment). Numbered (state_at t)) (moments_of B L D ys)
run-numbers B L D ys =
    all_map (λ t h. record { below = h.below; distinct = apart_distinct (state_at t).queue h.apart }) (moments_of B L D ys)
    (run-moments B L D ys Separate (λ p qs n visits _ h. extract-apart B L D ys p qs n visits h) (first-apart B))
