-- The queue's paths passed from its end on: each with b blocks or fewer lets go of its arrays and its slot. What memory stands for when some have
-- been passed, and one more. Assumes nothing.
use mathlib.Core.Path.{◌≡◌, sym, ap, ◌∙◌}
use mathlib.Core.List.{List, [], ◌∷◌, ◌++◌, append-nil, append_assoc}
use Prim.Native.Nat.{ℕ, suc, ◌+◌, ◌≤◌, ◌<◌}
use native.Mathlib.Numerals.{add-one}
use native.Mathlib.Omega.{arith}
use lib.ListN.{length, get_or}
use Rattle.laws.proofs.Lists.{length_none}
use Rattle.laws.specs.Pairs.{Paired}
use Rattle.codebook.specs.Book.{Book}
use Rattle.queue.specs.Queue.{Key, ahead, behind}
use Rattle.reader.specs.Arrays.{Arrays}
use Rattle.reader.specs.Paths.{Path, key_of}
use Rattle.order.specs.Entries.{key_at, slot_at, queue_of}
use Rattle.order.proofs.Queues.{queue-length}
use Rattle.sharing.specs.Sharing.{id_at, held_at, LessBy}
use Rattle.standing.specs.Seen.{Memory, memory}
use Rattle.standing.specs.Standing.{Stands}
use Rattle.standing.proofs.Sizes.{stands-length}
use Rattle.standing.proofs.Places.{stands-forward}
use Rattle.standing.proofs.Leaving.{stands-slot, stands-held, stands-remove}
use Rattle.advance.proofs.Sides.{ahead_in, ahead-out, behind-in, behind-out, sides-none}
use Rattle.steps.proofs.Tails.{Ending, ending, top_of, top-length, top-none, top-all, top-last}

-- the paths of the first i entries are passed, `gone` of them gone; n are still to come
pub record Passed (B : Book) (D N : ℕ) (x : Memory) (order vs : List ℕ) (A : Arrays) (ps : List Path) (b n i gone : ℕ) : Type 0 where
  pub front : List Path
  pub rest : List Path
  pub whole : ps ≡ front ++ rest
  pub place : length front ≡ n
  pub count : gone ≡ length (behind (key_of B) b rest)
  pub stands : Stands B D N x (top_of order i n ++ ahead key_at b (queue_of order i)) vs A (front ++ ahead (key_of B) b rest)

-- none yet
pub passed_none : {B : Book} {D N : ℕ} {x : Memory} {vs : List ℕ} {A : Arrays} {ps : List Path} (order : List ℕ) (b n : ℕ) → Stands B D N x (queue_of order n) vs A ps →
    Passed B D N x order vs A ps b n 0 0
unfolding queue_of
passed_none {B} {ps} order b n st =
    record {
      front = ps;
      rest = [];
      whole = sym (append-nil ps);
      place = omega (arith, stands-length st, queue-length n order);
      count = rw (sides-none (key_of B) b).1;
      stands = rw ((sides-none (key_of B) b).0, (sides-none key_at b).0, append-nil (top_of order 0 n), append-nil ps, top-all order n) st;
    }

-- all
pub passed-all : {B : Book} {D N : ℕ} {x : Memory} {order vs : List ℕ} {A : Arrays} {ps : List Path} {b n i gone : ℕ} (k : ℕ) → n ≡ 0 → i ≡ k →
    Passed B D N x order vs A ps b n i gone → (gone ≡ length (behind (key_of B) b ps)) × Stands B D N x (ahead key_at b (queue_of order k)) vs A (ahead (key_of B) b ps)
passed-all {B} {order} {ps} {b} {n} {i} k z q s =
    let none : s.front ≡ [] = length_none s.front (s.place ∙ z) in
    let all : s.rest ≡ ps = sym (s.whole ∙ ap (λ l. l ++ s.rest) none) in
    let top : top_of order i n ≡ [] = ap (top_of order i) z ∙ top-none order i in
    (s.count ∙ ap (λ l. length (behind (key_of B) b l)) all, rw (top, none, all, q) at s.stands)

-- ---- one more

module _ {B : Book} {D N : ℕ} {x : Memory} {order vs : List ℕ} {A : Arrays} {ps : List Path} {b m i gone : ℕ} (n : ℕ) (q : m ≡ suc n)
    (s : Passed B D N x order vs A ps b m i gone) where
  last : Ending n s.front
  last = ending n s.front (s.place ∙ q)

  -- the entry, those before it, and those behind it that stayed; and the paths that stayed
  abbrev e : ℕ
  e = get_or order i 0

  abbrev xs : List ℕ
  xs = top_of order (suc i) n

  abbrev es : List ℕ
  es = ahead key_at b (queue_of order i)

  abbrev stayed : List Path
  stayed = ahead (key_of B) b s.rest

  level : length xs ≡ length last.before
  level = top-length order (suc i) n ∙ sym last.place

  apart : Stands B D N x (xs ++ e ∷ es) vs A (last.before ++ last.one ∷ stayed)
  apart =
      let top : top_of order i m ≡ xs ++ e ∷ [] = ap (top_of order i) q ∙ top-last order i n in
      rw (top, last.whole, append_assoc xs (e ∷ []) es, append_assoc last.before (last.one ∷ []) stayed) at s.stands

  whole : ps ≡ last.before ++ last.one ∷ s.rest
  whole = s.whole ∙ ap (λ l. l ++ s.rest) last.whole ∙ append_assoc last.before (last.one ∷ []) s.rest

  -- the entry has the path's blocks
  blocks : (key_at e).blocks ≡ (key_of B last.one).blocks
  unfolding Paired
  blocks = ap (λ (k : Key). k.blocks) (stands-forward xs e es last.before last.one stayed level apart).queue.0.key

  -- its slot is one of the first D
  pub next-slot : slot_at (get_or order i 0) < D
  next-slot = stands-slot xs e es last.before last.one stayed level apart

  -- each id of its row is one of the N arrays, or none, and held
  pub next-held : (h : ℕ) → h ≤ B.m →
      (id_at x.rows (slot_at (get_or order i 0)) h ≤ N) × (1 ≤ held_at x.holders h (id_at x.rows (slot_at (get_or order i 0)) h))
  next-held = stands-held xs e es last.before last.one stayed level apart

  -- one with no more than b blocks goes
  pub passed-out : (holders' : List ℕ) → N ≤ 256 → (key_at (get_or order i 0)).blocks ≤ b →
      LessBy (B.m + 1) x.rows (slot_at (get_or order i 0)) x.holders holders' →
      Passed B D N (memory x.rows holders' x.numbers x.bytes) order (slot_at (get_or order i 0) ∷ vs) A ps b n (i + 1) (gone + 1)
  unfolding queue_of
  passed-out holders' top few less =
      let fewer : (key_of B last.one).blocks ≤ b = omega (arith, blocks) in
      record {
        front = last.before;
        rest = last.one ∷ s.rest;
        whole = whole;
        place = last.place;
        count = rw (behind-in (key_of B) b last.one s.rest fewer, add-one gone) (ap suc s.count);
        stands =
            rw (add-one i, ahead-out (key_of B) b last.one s.rest fewer, ahead-out key_at b e (queue_of order i) few)
            (stands-remove xs e es last.before last.one stayed level apart holders' top less);
      }

  -- one with more stays
  pub passed-in : b < (key_at (get_or order i 0)).blocks → Passed B D N x order vs A ps b n (i + 1) gone
  unfolding queue_of
  passed-in many =
      let more : b < (key_of B last.one).blocks = omega (arith, blocks) in
      record {
        front = last.before;
        rest = last.one ∷ s.rest;
        whole = whole;
        place = last.place;
        count = rw (behind-out (key_of B) b last.one s.rest more) s.count;
        stands = rw (add-one i, ahead_in (key_of B) b last.one s.rest more, ahead_in key_at b e (queue_of order i) many) apart;
      }
