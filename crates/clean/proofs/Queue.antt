-- The machine's queue where one path is ahead of all others: it is queued first, step 4 outruns the others at the L-th visit and none before, and step 2 makes room for
-- a copy. Assumes nothing.
use mathlib.Core.Path.{◌≡◌, refl, ap, ◌∙◌}
use mathlib.Core.Bool.{cond}
use mathlib.Core.List.{List, [], ◌∷◌}
use mathlib.Core.Logic.{◌≢◌}
use mathlib.Core.Option.{some}
use Prim.Native.Nat.{ℕ, suc, ◌-◌, ◌<◌}
use native.Mathlib.Omega.{arith}
use lib.ListN.{length, get_or, take, drop, length-map, length-drop}
use lib.Signed.{lt_z, ◌<ℤ◌}
use lib.Dec.{ltb, leb}
use borrow.Author.Tests.{lt-ltb, le-ltb, le-leb, lt-leb, eq-eqb, ne_eqb}
use Rattle.laws.specs.Lists.{All, keep}
use Rattle.laws.proofs.Tests.{T_true, or_left}
use Rattle.laws.proofs.Lists.{all_map, keep_all, keep-none}
use Rattle.queue.specs.Queue.{before, insert, ahead, behind, staying, outrun_by, numbers, room_for, crowded_out}
use Rattle.machine.specs.Machine.{Path, key_of, cut}
use Rattle.runs.proofs.Order.{insert-length}

-- a path that scores above all others is queued first
pub insert-first : (p : Path) (qs : List Path) → All (λ (q : Path). q.score <ℤ p.score) qs → insert key_of p qs ≡ p ∷ qs
unfolding insert All before key_of
insert-first p [] h = refl
insert-first p (q ∷ qs) h = ap (λ b. cond b (p ∷ q ∷ qs) (q ∷ insert key_of p qs)) (T_true (before (key_of p) (key_of q)) (or_left (lt_z q.score p.score) _ h.0.lt))

-- step 4, with a path ahead of block b before the others: where the visit is the L-th, others with b blocks are outrun
module _ (L b : ℕ) (visits : List ℕ) (p : Path) (qs : List Path) (h : b < p.blocks) where
  pub last-staying : get_or visits b 0 ≡ L → All (λ (q : Path). q.blocks ≡ b) qs → staying key_of L b visits (p ∷ qs) ≡ p ∷ []
  unfolding staying ahead keep key_of
  last-staying e a =
      rw (eq-eqb (get_or visits b 0) L e, lt-ltb b p.blocks h)
      (ap (λ l. p ∷ l) (keep-none (λ (q : Path). ltb b q.blocks) qs (all_map (λ q i. le-ltb b q.blocks (omega arith)) qs a)))

  pub last-outrun : get_or visits b 0 ≡ L → All (λ (q : Path). q.blocks ≡ b) qs → length (numbers key_of (outrun_by key_of L b visits (p ∷ qs))) ≡ length qs
  unfolding outrun_by behind keep key_of numbers
  last-outrun e a =
      rw (eq-eqb (get_or visits b 0) L e, lt-leb p.blocks b h)
      (length-map (keep (λ (q : Path). leb q.blocks b) qs) _ ∙ ap length (keep_all (λ (q : Path). leb q.blocks b) qs (all_map (λ q i. le-leb q.blocks b (omega arith)) qs a)))

  -- where it is not, none is
  pub early-staying : get_or visits b 0 ≢ L → staying key_of L b visits (p ∷ qs) ≡ p ∷ qs
  unfolding staying
  early-staying n = rw (ne_eqb (get_or visits b 0) L n) refl

  pub early-outrun : get_or visits b 0 ≢ L → length (numbers key_of (outrun_by key_of L b visits (p ∷ qs))) ≡ 0
  unfolding outrun_by numbers
  early-outrun n = rw (ne_eqb (get_or visits b 0) L n) refl

-- step 2 with a copy: how many are queued afterwards, and how many crowded out
module _ (D : ℕ) (qs : List Path) (n : ℕ) (copy : Path) where
  pub cut-queued : length (cut D qs n (some copy)).queue ≡ suc (length (take (D - 2) qs))
  unfolding cut room_for
  cut-queued = insert-length key_of copy (take (D - 2) qs)

  pub cut-crowded : length (cut D qs n (some copy)).crowded ≡ length qs - (D - 2)
  unfolding cut crowded_out numbers
  cut-crowded = length-map (drop (D - 2) qs) _ ∙ length-drop (D - 2) qs
