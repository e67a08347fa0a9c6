-- The numbers that an extraction gives as crowded out are exactly those that the reader's queue holds before step 2 and not after it, and the
-- numbers given as outrun exactly those that it holds before step 4 and not after. The numbers are distinct, since the machine's are, and a
-- path queued takes none away. Assumes nothing.
use mathlib.Core.Path.{◌≡◌, refl, sym, ap, ◌∙◌, subst}
use mathlib.Core.Bool.{Bool, true, false, cond}
use mathlib.Core.List.Memᴰ
use mathlib.Core.List.{List, [], ◌∷◌, ◌++◌, map, map-append}
use mathlib.Core.Logic.{◌⊎◌, inl, inr, ◌≢◌}
use mathlib.Core.Option.{Option, none, some}
use Prim.Native.Nat.{ℕ, zero, suc, ◌-◌, ◌^◌, ◌<◌}
use native.Mathlib.Nat.{lt_irrefl}
use lib.ListN.{length, get_or, take, drop, take-append-drop}
use lib.IntN.{ℤ}
use lib.Dec.{leb, ltb, eqb}
use Rattle.laws.specs.Lists.{All, Distinct}
use Rattle.laws.specs.Pairs.{Paired}
use Rattle.laws.specs.Removes.{In, Removes}
use Rattle.laws.proofs.Tests.{leb-ltb}
use Rattle.laws.proofs.Lists.{all_map, all_in, all-front, all-mapped, all-unmapped, distinct-front}
use Rattle.laws.proofs.Removes.{removes-none, removes-cut, removes-keep}
use Rattle.laws.proofs.Pairs.{paired-all}
use Rattle.codebook.specs.Book.{Book}
use Rattle.codebook.specs.Limits.{Valid}
use Rattle.queue.specs.Queue.{Key, before, insert, ahead, behind, staying, outrun_by, numbers, room_for, crowded_out, visit}
use Rattle.machine.specs.Machine as M
use Rattle.runs.specs.Runs.{state_at, Numbered}
use Rattle.runs.proofs.Order.{all_insert}
use Rattle.runs.proofs.Numbers.{run-numbers}
use Rattle.reader.specs.Arrays.{Arrays, View}
use Rattle.outer.specs.Words.{Word}
use Rattle.reader.specs.Paths.{Path, key_of}
use Rattle.reader.specs.Reader.{Cut, copy_with, copy, move_with, move, extract}
use Rattle.reader.specs.Reached.{StandsFor}
use Rattle.reader.proofs.Queue.{numbers-paired}
use Rattle.reader.proofs.Step.{stands-key}
use Rattle.reader.specs.Moments.{Moment, moments_of, extract_at, copy_at, moved_at, queued_at, Removed}
use Rattle.reader.proofs.Run.{MomentIs, traces-are}
use Rattle.reader.proofs.Moments.{step-more}

-- ---- a path queued

module _ {A : Type 0} (key : A → Key) where
  insert-in : (p : A) (qs : List A) (x : ℕ) → In x (numbers key (insert key p qs)) → (x ≡ (key p).number) ⊎ In x (numbers key qs)
  unfolding insert numbers
  insert-in p [] x m = Memᴰ.cases_cons m
  insert-in p (q ∷ qs) x m = go (before (key p) (key q)) m (insert-in p qs x)
    where
      go : (b : Bool) → In x (numbers key (cond b (p ∷ q ∷ qs) (q ∷ insert key p qs))) →
          (In x (numbers key (insert key p qs)) → (x ≡ (key p).number) ⊎ In x (numbers key qs)) →
          (x ≡ (key p).number) ⊎ In x ((key q).number ∷ numbers key qs)
      go true m ih = Memᴰ.cases_cons m
      go false m ih = two (Memᴰ.cases_cons m)
        where
          three : (x ≡ (key p).number) ⊎ In x (numbers key qs) → (x ≡ (key p).number) ⊎ In x ((key q).number ∷ numbers key qs)
          three (inl e) = inl e
          three (inr k) = inr (Memᴰ.tail k)

          two : (x ≡ (key q).number) ⊎ In x (numbers key (insert key p qs)) → (x ≡ (key p).number) ⊎ In x ((key q).number ∷ numbers key qs)
          two (inl e) = inr (Memᴰ.head e)
          two (inr k) = three (ih k)

  in_insert : (p : A) (qs : List A) (x : ℕ) → In x (numbers key qs) → In x (numbers key (insert key p qs))
  unfolding insert numbers
  in_insert p [] x m = Memᴰ.tail m
  in_insert p (q ∷ qs) x m = go (before (key p) (key q)) (in_insert p qs x)
    where
      go : (b : Bool) → (In x (numbers key qs) → In x (numbers key (insert key p qs))) →
          In x (numbers key (cond b (p ∷ q ∷ qs) (q ∷ insert key p qs)))
      go true ih = Memᴰ.tail m
      go false ih = two (Memᴰ.cases_cons m)
        where
          two : (x ≡ (key q).number) ⊎ In x (numbers key qs) → In x ((key q).number ∷ numbers key (insert key p qs))
          two (inl e) = Memᴰ.head e
          two (inr k) = Memᴰ.tail (ih k)

  all-numbers : (P : ℕ → Type 0) (p : A) (qs : List A) → P (key p).number → All P (numbers key qs) → All P (numbers key (insert key p qs))
  unfolding numbers
  all-numbers P p qs h k =
      all-mapped (λ (q : A). (key q).number) P (insert key p qs)
      (all_insert key (λ (q : A). P (key q).number) p qs h (all-unmapped (λ (q : A). (key q).number) P qs k))

  distinct-insert : (p : A) (qs : List A) → Distinct ((key p).number ∷ numbers key qs) → Distinct (numbers key (insert key p qs))
  unfolding insert numbers Distinct All
  distinct-insert p [] d = d
  distinct-insert p (q ∷ qs) d = go (before (key p) (key q)) (distinct-insert p qs (d.0.1, d.1.1))
    where
      go : (b : Bool) → Distinct (numbers key (insert key p qs)) → Distinct (numbers key (cond b (p ∷ q ∷ qs) (q ∷ insert key p qs)))
      go true ih = d
      go false ih = (all-numbers (λ y. (key q).number ≢ y) p qs (λ e. d.0.0 (sym e)) d.1.0, ih)

  -- with a number that is not in the queue, it is not removed
  insert-removes : (gone old : List ℕ) (p : A) (qs : List A) → (In (key p).number old → ⊥) → Removes gone old (numbers key qs) →
      Removes gone old (numbers key (insert key p qs))
  insert-removes gone old p qs n r x =
      (λ m. (((r x).0 m).0, λ k. out ((r x).0 m) (insert-in p qs x k)), λ h. (r x).1 (h.0, λ k. h.1 (in_insert p qs x k)))
    where
      out : In x old × (In x (numbers key qs) → ⊥) → (x ≡ (key p).number) ⊎ In x (numbers key qs) → ⊥
      out h (inl e) = n (subst (λ (y : ℕ). In y old) e h.0)
      out h (inr k) = h.1 k

  -- the queue's numbers, in order, are those that stay and those crowded out
  pub numbers-cut : (D : ℕ) (qs : List A) → numbers key qs ≡ numbers key (room_for D qs) ++ numbers key (crowded_out D qs)
  unfolding numbers room_for crowded_out
  numbers-cut D qs =
      ap (map (λ (p : A). (key p).number)) (sym (take-append-drop (D - 2) qs))
      ∙ map-append (λ (p : A). (key p).number) (take (D - 2) qs) (drop (D - 2) qs)

-- ---- step 2

-- the numbers of these paths are distinct, and below n
record Fresh (B : Book) (ps : List Path) (n : ℕ) : Type 0 where
  below : All (λ (x : ℕ). x < n) (numbers (key_of B) ps)
  distinct : Distinct (numbers (key_of B) ps)

module _ (B : Book) (D : ℕ) (A : Arrays) (p : Path) (ps : List Path) (n : ℕ) where
  -- after step 2 the numbers are still distinct, p's among them, and those crowded out are those removed
  record CopyRemoves (gone : List ℕ) (queue : List Path) : Type 0 where
    crowded : Removes gone (numbers (key_of B) ps) (numbers (key_of B) queue)
    distinct : Distinct (numbers (key_of B) (p ∷ queue))

  -- a copy c numbered n
  made-removes : (c : Path) → c.number ≡ n → Fresh B (p ∷ ps) n →
      CopyRemoves (numbers (key_of B) (crowded_out D ps)) (insert (key_of B) c (room_for D ps))
  unfolding numbers Distinct All key_of
  made-removes c en f =
      let left : List Path = room_for D ps in
      let room : List ℕ = numbers (key_of B) left in
      let gone : List ℕ = numbers (key_of B) (crowded_out D ps) in
      let e : numbers (key_of B) ps ≡ room ++ gone = numbers-cut (key_of B) D ps in
      let d : Distinct (room ++ gone) = subst Distinct e f.distinct.1 in
      let low : All (λ (x : ℕ). x < n) (room ++ gone) = subst (All (λ (x : ℕ). x < n)) e f.below.1 in
      record {
        crowded =
            subst (λ (old : List ℕ). Removes gone old (numbers (key_of B) (insert (key_of B) c left))) (sym e)
            (insert-removes (key_of B) gone (room ++ gone) c left (λ m. lt_irrefl n (subst (λ (x : ℕ). x < n) en (all_in (λ x. x < n) low m))) (removes-cut room gone d));
        distinct = (
          all-numbers (key_of B) (λ x. p.number ≢ x) c left (λ z. lt_irrefl n (subst (λ (x : ℕ). x < n) (z ∙ en) f.below.0))
              (all-front (λ x. p.number ≢ x) room gone (subst (All (λ (x : ℕ). p.number ≢ x)) e f.distinct.0)),
          distinct-insert (key_of B) c left
              (all_map (λ x l z. lt_irrefl n (subst (λ (y : ℕ). y < n) (sym z ∙ en) l)) room (all-front (λ x. x < n) room gone low), distinct-front room gone d),
        );
      }

  copy_with-removes : (b : ℕ) (o : Option Word) → Fresh B (p ∷ ps) n →
      CopyRemoves (copy_with B D A p b ps n o).crowded (copy_with B D A p b ps n o).queue
  unfolding copy_with
  copy_with-removes b none f = record { crowded = removes-none (numbers (key_of B) ps); distinct = f.distinct }
  copy_with-removes b (some y) f = made-removes _ refl f

  copy-removes : (b : ℕ) → Fresh B (p ∷ ps) n → CopyRemoves (copy B D A p ps n b).crowded (copy B D A p ps n b).queue
  unfolding copy
  copy-removes zero f = record { crowded = removes-none (numbers (key_of B) ps); distinct = f.distinct }
  copy-removes (suc b) f = copy_with-removes b _ f

-- ---- step 4

move_with-number : (A : Arrays) (p : Path) (v : View) (o : Option Word) → (move_with A p v o).path.number ≡ p.number
unfolding move_with
move_with-number A p v none = refl
move_with-number A p v (some y) = refl

move-number : (B : Book) (A : Arrays) (p : Path) (ps : List Path) → (move B A p ps).path.number ≡ p.number
unfolding move
move-number B A p ps = move_with-number A p _ _

outrun-removes : (B : Book) (L b : ℕ) (visits : List ℕ) (ps : List Path) → Distinct (numbers (key_of B) ps) →
    Removes (numbers (key_of B) (outrun_by (key_of B) L b visits ps)) (numbers (key_of B) ps) (numbers (key_of B) (staying (key_of B) L b visits ps))
unfolding outrun_by staying numbers ahead behind
outrun-removes B L b visits ps d = go (eqb (get_or visits b 0) L)
  where
    go : (t : Bool) →
        Removes (numbers (key_of B) (cond t (behind (key_of B) b ps) [])) (numbers (key_of B) ps) (numbers (key_of B) (cond t (ahead (key_of B) b ps) ps))
    go true =
        removes-keep (λ (p : Path). (key_of B p).number) (λ (p : Path). ltb b (key_of B p).blocks) (λ (p : Path). leb (key_of B p).blocks b)
        (λ p. leb-ltb (key_of B p).blocks b) ps d
    go false = removes-none (numbers (key_of B) ps)

-- ---- the extractions of the run

fresh-removed : (B : Book) (L D : ℕ) (t : Moment) → Fresh B (t.path ∷ t.state.queue) t.state.next →
    (t.path.blocks ≡ length B.blocks → ⊥) →
    Removed B L D t
unfolding extract_at copy_at moved_at queued_at extract
fresh-removed B L D t f n =
    let p : Path = t.path in
    let second : Cut = copy B D t.state.arrays p t.state.queue t.state.next p.blocks in
    let third : Path = (move B second.arrays p second.queue).path in
    let r : CopyRemoves B D t.state.arrays p t.state.queue t.state.next second.crowded second.queue =
    copy-removes B D t.state.arrays p t.state.queue t.state.next p.blocks f in
    let d : Distinct (numbers (key_of B) (third ∷ second.queue)) =
    subst Distinct (same third second.queue (move-number B second.arrays p second.queue)) r.distinct in
    record {
      crowded = rw (step-more B L D t n) r.crowded;
      outrun =
          rw (step-more B L D t n)
          (outrun-removes B L p.blocks (visit t.state.visits p.blocks) (insert (key_of B) third second.queue)
          (distinct-insert (key_of B) third second.queue (one third second.queue d)));
    }
  where
    same : (q : Path) (qs : List Path) → q.number ≡ t.path.number → numbers (key_of B) (t.path ∷ qs) ≡ numbers (key_of B) (q ∷ qs)
    same q qs e = unfold numbers key_of in ap (λ n. n ∷ map (λ (x : Path). x.number) qs) (sym e)

    one : (q : Path) (qs : List Path) → Distinct (numbers (key_of B) (q ∷ qs)) → Distinct ((key_of B q).number ∷ numbers (key_of B) qs)
    one q qs d = unfold numbers in d

-- the numbers at a moment are those of the machine's
moment-fresh : (B : Book) (ys : List ℤ) (s : M.Moment) (t : Moment) → Numbered (state_at s) → MomentIs B ys s t → Fresh B (t.path ∷ t.state.queue) t.state.next
unfolding numbers M.key_of Paired
moment-fresh B ys s t h k =
    let A : Arrays = t.state.arrays in
    let qs : List M.Path = s.path ∷ s.state.queue in
    let ps : List Path = t.path ∷ t.state.queue in
    let same : numbers M.key_of qs ≡ numbers (key_of B) ps =
    numbers-paired M.key_of (key_of B) (StandsFor B ys A) (stands-key B ys A) qs ps (k.path, k.queue) in
    let low : All (λ (x : ℕ). x < s.state.next) (numbers M.key_of qs) =
    all-mapped (λ (q : M.Path). q.number) (λ (x : ℕ). x < s.state.next) qs h.below in
    record {
      below =
          subst (λ (n : ℕ). All (λ (x : ℕ). x < n) (numbers (key_of B) ps)) k.next (subst (All (λ (x : ℕ). x < s.state.next)) same low);
      distinct = subst Distinct same h.distinct;
    }

-- every step of the run (Moments: run-steps-are) but the last, which removes nothing, says what its extraction removes
pub run-removed : (B : Book) (ys : List ℤ) → Valid B → length ys ≡ 2 ^ B.m → (L D : ℕ) (A : Arrays) → A.vals B.m 1 ≡ ys →
    All (λ (t : Moment). (t.path.blocks ≡ length B.blocks → ⊥) → Removed B L D t) (moments_of B L D A)
unfolding M.moments_of moments_of
run-removed B ys ok ly L D A e =
    paired-all (λ s t h k. fresh-removed B L D t (moment-fresh B ys s t h k)) _ _ (run-numbers B L D ys) (traces-are B ys ok ly L D A e).states
