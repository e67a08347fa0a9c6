-- How many arrays the reader needs: at each height the paths alive hold no more arrays than they are, and all ids held run to D, so that with D
-- arrays of each height one is free whenever a path takes one. The ids are kept within D by each extraction, since at most D paths are alive.
-- Assumes nothing.
use mathlib.Core.Path.{◌≡◌, refl, sym, subst}
use mathlib.Core.Bool.{Bool, true, false, cond, ◌||◌}
use mathlib.Core.List.{List, [], ◌∷◌, map}
use mathlib.Core.Option.{Option, none, some}
use Prim.Native.Nat.{ℕ, zero, suc, ◌+◌, ◌-◌, ◌≤◌, ◌<◌}
use native.Mathlib.Omega.{arith}
use lib.ListN.{length, take, length-take, length-map}
use lib.Dec.{eqb, leb}
use borrow.Author.Tests.{eqb-true, leb-true, leb-false}
use Rattle.laws.specs.Lists.{All}
use Rattle.laws.proofs.Tests.{cond-case}
use Rattle.laws.proofs.Lists.{all_take}
use Rattle.codebook.specs.Book.{Book, block_at}
use Rattle.queue.specs.Queue.{room_for}
use Rattle.queue.proofs.Run.{Leads}
use Rattle.runs.proofs.Order.{all_insert, all-staying}
use Rattle.reader.specs.Arrays.{Arrays, View, upd, among, writes, put_vals, put_sums, claim, descend}
use Rattle.outer.specs.Words.{Word}
use Rattle.reader.specs.Paths.{Path, key_of, first_path, place, ids_of, view_of}
use Rattle.reader.specs.Reader.{commit, copy_with, copy, move_with, move, extract, taking_from}
use Rattle.reader.proofs.Own.{own-most}
use Rattle.reader.proofs.Arrays.{writes-new, writes-some, claim-ids, descend-keeps}
use Rattle.reader.specs.Moments.{Moment, moments_of, extract_at, copy_at, moved_at}
use Rattle.reader.proofs.Moments.{Taken, run-all}
use Rattle.reader.proofs.Bounds.{Alive, alive, extract-length}

-- ---- arrays held

-- of the arrays 1 to N, how many are among these ids
unfoldable pub held_of : ℕ → List ℕ → ℕ
held_of zero is = 0
held_of (suc n) is = cond (among (suc n) is) 1 0 + held_of n is

held_none : (n : ℕ) → held_of n [] ≡ 0
unfolding held_of among
held_none zero = refl
held_none (suc n) = omega (arith, held_none n)

-- one id more is one array more at most, if it is one of them
held_more : (n i : ℕ) (is : List ℕ) → held_of n (i ∷ is) ≤ cond (leb i n) 1 0 + held_of n is
unfolding held_of among
held_more zero i is = omega arith
held_more (suc n) i is = go (eqb i (suc n)) refl (among (suc n) is) (leb i n) refl (leb i (suc n)) refl (held_more n i is)
  where
    go : (b : Bool) → eqb i (suc n) ≡ b → (h c : Bool) → leb i n ≡ c → (d : Bool) → leb i (suc n) ≡ d →
        held_of n (i ∷ is) ≤ cond c 1 0 + held_of n is → cond (b || h) 1 0 + held_of n (i ∷ is) ≤ cond d 1 0 + (cond h 1 0 + held_of n is)
    go true e h true f d g k = absurd (omega (arith, eqb-true i (suc n) e, leb-true i n f))
    go true e h false f false g k = absurd (omega (arith, eqb-true i (suc n) e, leb-false i (suc n) g))
    go true e true false f true g k = omega arith
    go true e false false f true g k = omega arith
    go false e h true f false g k = absurd (omega (arith, leb-true i n f, leb-false i (suc n) g))
    go false e true true f true g k = omega arith
    go false e false true f true g k = omega arith
    go false e true false f d g k = omega arith
    go false e false false f d g k = omega arith

held-most : (n : ℕ) (is : List ℕ) → held_of n is ≤ length is
held-most n [] = omega (arith, held_none n)
held-most n (i ∷ is) = go (leb i n) (held_more n i is) (held-most n is)
  where
    go : (b : Bool) → held_of n (i ∷ is) ≤ cond b 1 0 + held_of n is → held_of n is ≤ length is → held_of n (i ∷ is) ≤ suc (length is)
    go true h k = omega arith
    go false h k = omega arith

-- the arrays of height h that paths hold are never more than the paths
pub arrays-held : (n h : ℕ) (ps : List Path) → held_of n (map (λ (p : Path). p.ids h) ps) ≤ length ps
arrays-held n h ps = omega (arith, held-most n (map (λ (p : Path). p.ids h) ps), length-map ps (λ (p : Path). p.ids h))

-- ---- ids within N

-- each id is that of one of the N arrays, or 0
abbrev pub IdsWithin : ℕ → (ℕ → ℕ) → Type 0
IdsWithin N ids = (h : ℕ) → ids h ≤ N

-- of a path
abbrev Housed : ℕ → Path → Type 0
Housed N p = IdsWithin N p.ids

module _ (N : ℕ) (others : List (ℕ → ℕ)) (few : length others < N) where
  writes-within : (h : ℕ) (v : View) → IdsWithin N v.ids → writes others h v ≤ N
  unfolding writes
  writes-within h v w = own-most N (v.ids h) (map (λ (o : ℕ → ℕ). o h) others) (w h) (omega (arith, length-map others (λ (o : ℕ → ℕ). o h)))

  -- whenever a path writes, the array is one of the N, and no other path's
  pub writes-free : (h : ℕ) (v : View) → IdsWithin N v.ids →
      (0 < writes others h v) × (writes others h v ≤ N) × All (λ (o : ℕ → ℕ). o h ≡ writes others h v → ⊥) others
  writes-free h v w = (
    writes-some others h v,
    writes-within h v w,
    writes-new others h v,
  )

  upd-within : (h : ℕ) (v : View) → IdsWithin N v.ids → IdsWithin N (upd v.ids h (writes others h v))
  unfolding upd
  upd-within h v w k = cond-case (λ (i : ℕ). i ≤ N) (eqb k h) (λ _. writes-within h v w) (λ _. w k)

  claim-within : (j h : ℕ) (v : View) → IdsWithin N v.ids → IdsWithin N (claim others j h v).ids
  claim-within j h v w = subst (IdsWithin N) (sym (claim-ids others h v j)) (upd-within h v w)

  commit-within : (B : Book) (p : Path) (b : ℕ) (v : View) → IdsWithin N v.ids → IdsWithin N (commit B others p b v).ids
  unfolding commit put_sums
  commit-within B p zero v w = w
  commit-within B p (suc b) v w = upd-within (place B b) v w

  descend-within : (d m t : ℕ) (v : View) → IdsWithin N v.ids → IdsWithin N (descend others d m t v).ids
  unfolding put_vals
  descend-within d m t v w = descend-keeps others (λ z. IdsWithin N z.ids) d m t v (λ k x z _ h. upd-within k z h) w

-- path 0 holds array 1
pub first-within : (B : Book) (N : ℕ) → 1 ≤ N → IdsWithin N (first_path B).ids
unfolding first_path upd
first-within B N l h = cond-case (λ (i : ℕ). i ≤ N) (eqb h B.m) (λ _. l) (λ _. omega arith)

-- ---- one extraction

module _ (B : Book) (L D : ℕ) (two : 2 ≤ D) where
  copy_with-housed : (A : Arrays) (p : Path) (b : ℕ) (ps : List Path) (n : ℕ) (o : Option Word) → Housed D p → All (Housed D) ps →
      All (Housed D) (copy_with B D A p b ps n o).queue
  unfolding copy_with room_for
  copy_with-housed A p b ps n none w h = h
  copy_with-housed A p b ps n (some y) w h =
      let left : List Path = take (D - 2) ps in
      let few : length (p.ids ∷ ids_of left) < D = omega (arith, length-map left (λ (q : Path). q.ids), length-take (D - 2) ps) in
      all_insert (key_of B) (Housed D) _ left (claim-within D (p.ids ∷ ids_of left) few (block_at B b).j (place B b) (view_of A p) w)
      (all_take (Housed D) (D - 2) ps h)

  copy-housed : (A : Arrays) (p : Path) (ps : List Path) (n b : ℕ) → Housed D p → All (Housed D) ps → All (Housed D) (copy B D A p ps n b).queue
  unfolding copy
  copy-housed A p ps n zero w h = h
  copy-housed A p ps n (suc b) w h = copy_with-housed A p b ps n _ w h

  move_with-housed : (A : Arrays) (p : Path) (v : View) (o : Option Word) → Housed D p → IdsWithin D v.ids → Housed D (move_with A p v o).path
  unfolding move_with
  move_with-housed A p v none w x = w
  move_with-housed A p v (some y) w x = x

  move-housed : (A : Arrays) (p : Path) (ps : List Path) → length ps < D → Housed D p → Housed D (move B A p ps).path
  unfolding move
  move-housed A p ps l w =
      let few : length (ids_of ps) < D = omega (arith, length-map ps (λ (q : Path). q.ids)) in
      move_with-housed A p _ _ w
      (claim-within D (ids_of ps) few (block_at B p.blocks).j (place B p.blocks) _ (descend-within D (ids_of ps) few _ _ _ _ (commit-within D (ids_of ps) few B p p.blocks (view_of A p) w)))

  -- ---- the run

  -- the ids that paths hold at a moment: before the extraction, once the copy is made, and once the path has its next block
  pub record AllHoused (t : Moment) : Type 0 where
    pub alive : Alive B D t
    pub taken : IdsWithin D t.path.ids
    pub queue : All (λ (p : Path). IdsWithin D p.ids) t.state.queue
    pub copied : All (λ (p : Path). IdsWithin D p.ids) (copy_at B D t).queue
    pub moved : IdsWithin D (moved_at B D t).ids

  pub housed : (t : Moment) → length t.state.queue < D → Housed D t.path → All (Housed D) t.state.queue → AllHoused t
  unfolding copy_at moved_at
  housed t l w h =
      let a : Alive B D t = alive B L D two t l in
      let c : All (Housed D) (copy_at B D t).queue =
      copy-housed t.state.arrays t.path t.state.queue t.state.next t.path.blocks w h in
      record { alive = a; taken = w; queue = h; copied = c; moved = move-housed (copy_at B D t).arrays t.path (copy_at B D t).queue a.copied w }

  pub extract-housed : (t : Moment) → AllHoused t → All (Housed D) (extract_at B L D t).state.queue
  unfolding extract_at extract copy_at moved_at
  extract-housed t h =
      all-staying (key_of B) L t.path.blocks _ _ (Housed D)
      (all_insert (key_of B) (Housed D) (moved_at B D t) (copy_at B D t).queue h.moved h.copied)

  taken-housed : (A : Arrays) (ps : List Path) (n : ℕ) (visits : List ℕ) → length ps ≤ D → All (Housed D) ps → Taken AllHoused A ps n visits
  unfolding taking_from Leads All
  taken-housed A [] n visits l h = tt
  taken-housed A (p ∷ ps) n visits l h = housed _ l h.0 h.1

  first-housed : Housed D (first_path B)
  first-housed = first-within B D (omega arith)

  pub run-housed : (A : Arrays) → All AllHoused (moments_of B L D A)
  unfolding All
  run-housed A =
      run-all B L D AllHoused (λ t _ h. taken-housed _ _ _ _ (extract-length B L D two t h.alive) (extract-housed t h)) A
      (taken-housed _ _ _ _ (omega arith) (first-housed, tt))
