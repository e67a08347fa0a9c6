-- A path in hand, and all the others queued: the last of them, whose entry is the order's first, lets go of its arrays and its slot, and the
-- others stay. Assumes nothing.
use mathlib.Core.Path.{◌≡◌, sym, ap, ◌∙◌}
use mathlib.Core.List.{List, [], ◌∷◌, ◌++◌, append-nil}
use Prim.Native.Nat.{ℕ, suc, ◌+◌, ◌-◌, ◌≤◌, ◌<◌}
use native.Mathlib.Omega.{arith}
use lib.ListN.{length, get_or, take}
use lib.Seq.{take_all, take_at}
use Rattle.codebook.specs.Book.{Book}
use Rattle.queue.specs.Queue.{room_for}
use Rattle.reader.specs.Arrays.{Arrays}
use Rattle.reader.specs.Paths.{Path}
use Rattle.order.specs.Entries.{slot_at, queue_of}
use Rattle.order.proofs.Queues.{queue-length}
use Rattle.sharing.specs.Sharing.{id_at, held_at, LessBy}
use Rattle.standing.specs.Seen.{Memory, memory}
use Rattle.standing.specs.Standing.{Stands}
use Rattle.standing.proofs.Sizes.{stands-length}
use Rattle.standing.proofs.Leaving.{stands-slot, stands-held, stands-remove}
use Rattle.steps.proofs.Tails.{Ending, ending, top_of, top-length, queue-last}

-- ---- room for two

pub room-all : {A : Type 0} (D : ℕ) (xs : List A) → length xs + 2 ≤ D → room_for D xs ≡ xs
unfolding room_for
room-all D xs h = take_all (D - 2) xs (omega arith)

pub room_cut : {A : Type 0} (D k : ℕ) (xs : List A) → D ≡ suc (suc k) → room_for D xs ≡ take k xs
unfolding room_for
room_cut D k xs e = let f : D - 2 ≡ k = omega arith in ap (λ n. take n xs) f

-- ---- the last path

module _ {B : Book} {D N : ℕ} {x : Memory} {e : ℕ} {vs : List ℕ} {A : Arrays} {p : Path} {ps : List Path} (order : List ℕ) (n k : ℕ)
    (q : n ≡ suc k) (st : Stands B D N x (e ∷ queue_of order n) vs A (p ∷ ps)) where
  tail : queue_of order n ≡ top_of order 1 k ++ get_or order 0 0 ∷ []
  tail = ap (queue_of order) q ∙ queue-last order k

  last : Ending k ps
  last = ending k ps (omega (arith, stands-length st, queue-length n order))

  level : length (e ∷ top_of order 1 k) ≡ length (p ∷ last.before)
  level = omega (arith, top-length order 1 k, last.place)

  apart : Stands B D N x ((e ∷ top_of order 1 k) ++ get_or order 0 0 ∷ []) vs A ((p ∷ last.before) ++ last.one ∷ [])
  apart = rw (tail, last.whole) at st

  -- its slot is one of the first D
  pub last-slot : slot_at (get_or order 0 0) < D
  last-slot = stands-slot (e ∷ top_of order 1 k) (get_or order 0 0) [] (p ∷ last.before) last.one [] level apart

  -- each id of its row is one of the N arrays, or none, and held
  pub last-held : (h : ℕ) → h ≤ B.m →
      (id_at x.rows (slot_at (get_or order 0 0)) h ≤ N) × (1 ≤ held_at x.holders h (id_at x.rows (slot_at (get_or order 0 0)) h))
  last-held = stands-held (e ∷ top_of order 1 k) (get_or order 0 0) [] (p ∷ last.before) last.one [] level apart

  -- without it
  pub last-remove : (holders' : List ℕ) → N ≤ 256 → LessBy (B.m + 1) x.rows (slot_at (get_or order 0 0)) x.holders holders' →
      Stands B D N (memory x.rows holders' x.numbers x.bytes) (e ∷ take k (queue_of order n)) (slot_at (get_or order 0 0) ∷ vs) A (p ∷ take k ps)
  last-remove holders' top less =
      let cut_order : top_of order 1 k ++ [] ≡ take k (queue_of order n) =
      append-nil (top_of order 1 k) ∙ sym (take_at (top_of order 1 k) (get_or order 0 0 ∷ []) k (top-length order 1 k)) ∙ ap (take k) (sym tail) in
      let cut_paths : last.before ++ [] ≡ take k ps =
      append-nil last.before ∙ sym (take_at last.before (last.one ∷ []) k last.place) ∙ ap (take k) (sym last.whole) in
      rw (cut_order, cut_paths)
      at (stands-remove (e ∷ top_of order 1 k) (get_or order 0 0) [] (p ∷ last.before) last.one [] level apart holders' top less)
