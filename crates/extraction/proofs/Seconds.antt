-- Step 2 for the path in hand: the entry has the path's blocks; with none there is no copy and nothing changes, with b + 1 the copy is that of its
-- last block b. Assumes nothing.
use mathlib.Core.Path.{◌≡◌, refl, sym, subst, subst₂}
use mathlib.Core.List.{List, ◌∷◌}
use Prim.Native.Nat.{ℕ, suc, ◌≤◌}
use native.Mathlib.Omega.{arith}
use lib.ListN.{length}
use Rattle.laws.specs.Pairs.{Paired}
use Rattle.laws.specs.Removes.{Removes}
use Rattle.codebook.specs.Book.{Book}
use Rattle.queue.specs.Queue.{numbers}
use Rattle.reader.specs.Arrays.{Arrays}
use Rattle.reader.specs.Paths.{Path, key_of}
use Rattle.reader.specs.Reader.{Cut, copy}
use Rattle.reader.specs.Moments.{step_at, copy_at}
use Rattle.reader.specs.Fit.{Fit, FitFor}
use Rattle.reader.proofs.Queue.{numbers-paired}
use Rattle.reader.proofs.During.{during-removed, during-fit, during-copy}
use Rattle.order.specs.Entries.{key_at}
use Rattle.standing.specs.Seen.{Memory}
use Rattle.standing.specs.Standing.{EntryOf, Stands}
use Rattle.standing.proofs.Sizes.{stands-length}
use Rattle.standing.proofs.Taken.{taken-blocks}
use Rattle.words.specs.Kept.{Table}
use Rattle.words.specs.declared.Block.{Block}
use Rattle.steps.specs.Steps.{Copying, CopiedTo}
use Rattle.extraction.specs.Extraction.{moment_in, Seconding}

-- the numbers that the entries besides the one in hand hold are those of the paths besides the one taken
rest-numbers : {B : Book} {D N : ℕ} {x : Memory} {e : ℕ} {es vs : List ℕ} {A : Arrays} {p : Path} {ps : List Path} → Stands B D N x (e ∷ es) vs A (p ∷ ps) →
    numbers key_at es ≡ numbers (key_of B) ps
unfolding Paired
rest-numbers {B} {x = x} {es = es} {ps = ps} s = numbers-paired key_at (key_of B) (EntryOf B x.rows) (λ d p h. h.key) es ps s.queue.1

module _ {m L D N k n : ℕ} {x : Memory} {e : ℕ} {es vs kinds terms : List ℕ} {last : Block} {kept : Table} (c : Seconding m L D N k n x e es vs kinds terms last kept) where
  -- the reader's copy, of a path with so many blocks
  abbrev copied : ℕ → Cut
  copied blocks = copy c.hand.book D c.hand.arrays c.hand.taken c.hand.rest n blocks

  -- the empty path
  pub second_none : (crowded : ℕ) → (key_at e).blocks ≡ 0 → CopiedTo c.hand.book D N e c.hand.taken (copied c.hand.taken.blocks) crowded (length es) n crowded x es vs kept
  unfolding copy Paired
  second_none crowded q =
      let none : 0 ≡ c.hand.taken.blocks = omega (arith, taken-blocks c.hand.stands) in
      let level : length es ≡ length c.hand.rest = omega (arith, stands-length c.hand.stands) in
      subst (λ (i : ℕ). CopiedTo c.hand.book D N e c.hand.taken (copied i) crowded (length es) n crowded x es vs kept) none (level, refl, omega arith, c.hand.stands, c.known.1)

  -- a path with a last block
  module _ (two : 2 ≤ D) {b : ℕ} (q : (key_at e).blocks ≡ suc b) where
    blocks-are : c.hand.taken.blocks ≡ suc b
    blocks-are = omega (arith, taken-blocks c.hand.stands)

    last_fit : Fit c.hand.book c.hand.arrays c.hand.taken b
    unfolding FitFor
    last_fit = subst (FitFor c.hand.book c.hand.arrays c.hand.taken) blocks-are (during-fit c.booked.valid c.moment two)

    pub second-copying : Copying m D N x e es vs kinds terms last kept b
    second-copying =
        record {
          hand = c.hand;
          booked = c.booked;
          own = record { blocks = blocks-are; block = c.last-is b blocks-are; fit = last_fit };
          known = c.known;
          total = during-copy c.booked.valid c.moment two b blocks-are (c.last-is b blocks-are).within;
        }

    pub second-done : (before : ℕ) (kept' : Table) {queued n' after : ℕ} {y : Memory} {qs ws : List ℕ} →
        (let o = second-copying in
        let k = copy o.hand.book D o.hand.arrays o.hand.taken o.hand.rest n (suc b) in
        CopiedTo o.hand.book D N e o.hand.taken k before queued n' after y qs ws kept') →
        CopiedTo c.hand.book D N e c.hand.taken (copied c.hand.taken.blocks) before queued n' after y qs ws kept'
    unfolding second-copying
    second-done before kept' {queued} {n'} {after} {y} {qs} {ws} h =
        subst (λ (i : ℕ). CopiedTo c.hand.book D N e c.hand.taken (copied i) before queued n' after y qs ws kept') (sym blocks-are) h

  -- what the queue loses, of which the entries left are es'
  pub second-crowds : {y : Memory} {es' vs' : List ℕ} →
      Stands c.hand.book D N y (e ∷ es') vs' (copied c.hand.taken.blocks).arrays (c.hand.taken ∷ (copied c.hand.taken.blocks).queue) →
      Removes (step_at c.hand.book L D (moment_in c.hand n c.visits)).crowded (numbers key_at es) (numbers key_at es')
  unfolding copy_at
  second-crowds st =
      subst₂ (λ (old new : List ℕ). Removes (step_at c.hand.book L D (moment_in c.hand n c.visits)).crowded old new) (sym (rest-numbers c.hand.stands)) (sym (rest-numbers st))
      (during-removed c.booked.valid c.moment c.more).crowded
