-- Where 002 takes no array: every queued path holds alone the array where its last word will go, so that the word goes into the sums with no
-- array taken; and the descent that follows takes arrays below the turn only. Kept by each extraction, since a path takes an array for its word
-- last, and no path writes to an array that another holds. Assumes nothing.
use mathlib.Core.Path.{◌≡◌, refl, sym, ap, ◌∙◌, subst}
use mathlib.Core.Bool.{Bool, true, false, cond}
use mathlib.Core.List.{List, [], ◌∷◌}
use mathlib.Core.Option.{Option, none, some}
use Prim.Native.Nat.{ℕ, zero, suc, ◌-◌, ◌^◌, ◌≤◌, ◌<◌}
use native.Mathlib.Nat.{suc_inj}
use native.Mathlib.Omega.{arith}
use lib.ListN.{get_or, take}
use lib.IntN.{ℤ}
use lib.Dec.{eqb}
use borrow.Author.Tests.{eqb-true, eqb-false}
use Rattle.laws.specs.Lists.{All, keep}
use Rattle.laws.proofs.Tests.{cond-case}
use Rattle.laws.proofs.Lists.{all_map, all_both, all_take, all_keep, all-mapped, all-unmapped}
use Rattle.polar.specs.Node.{rest, child}
use Rattle.polar.proofs.Node.{rest-less}
use Rattle.codebook.specs.Book.{Book, block_at}
use Rattle.queue.specs.Queue.{before, insert, ahead, staying, room_for, visit}
use Rattle.queue.proofs.Run.{Leads}
use Rattle.runs.proofs.Order.{all_insert}
use Rattle.reader.specs.Arrays.{Arrays, View, vals_of, sums_of, upd, writes, put_vals, put_sums, claim, turn, descend}
use Rattle.outer.specs.Words.{Word}
use Rattle.reader.specs.Paths.{Path, key_of, first_path, place, ids_of, view_of}
use Rattle.reader.specs.Reader.{Cut, commit, copy_with, copy, move_with, move, extract, taking_from}
use Rattle.reader.proofs.Upd.{upd_other, upd-self}
use Rattle.reader.proofs.Tree.{rest-late, turn-high, turn-past}
use Rattle.reader.proofs.Arrays.{Alone, writes-new, writes-keep, writes-alone, claim-ids, descend-keeps}
use Rattle.reader.specs.Moments.{Moment, moments_of, extract_at, copy_at}
use Rattle.reader.proofs.Moments.{Taken, run-all}

module _ (B : Book) where
  -- p has an array for its last word
  abbrev pub Has : Path → Type 0
  Has p = (b : ℕ) → p.blocks ≡ suc b → p.ids (place B b) ≡ 0 → ⊥

  -- a path with these ids does not hold it
  abbrev pub Off : Path → (ℕ → ℕ) → Type 0
  Off p ids = (b : ℕ) → p.blocks ≡ suc b → ids (place B b) ≡ p.ids (place B b) → ⊥

  -- neither of two paths holds the other's
  pub record Apart (p q : Path) : Type 0 where
    pub one : Off p q.ids
    pub two : Off q p.ids

  -- each path has one, and no other holds it
  unfoldable pub Solo : List Path → Type 0
  Solo [] = Unit {0}
  Solo (p ∷ ps) = (Has p × All (Apart p) ps) × Solo ps

  -- ---- queues

  solo-take : (n : ℕ) (ps : List Path) → Solo ps → Solo (take n ps)
  unfolding Solo
  solo-take zero ps h = tt
  solo-take (suc n) [] h = tt
  solo-take (suc n) (p ∷ ps) h = ((h.0.0, all_take (Apart p) n ps h.0.1), solo-take n ps h.1)

  solo-insert : (p : Path) (ps : List Path) → Solo (p ∷ ps) → Solo (insert (key_of B) p ps)
  unfolding Solo insert All
  solo-insert p [] h = h
  solo-insert p (q ∷ ps) h = go (before (key_of B p) (key_of B q)) (solo-insert p ps ((h.0.0, h.0.1.1), h.1.1))
    where
      go : (b : Bool) → Solo (insert (key_of B) p ps) → Solo (cond b (p ∷ q ∷ ps) (q ∷ insert (key_of B) p ps))
      go true e = h
      go false e =
          ((h.1.0.0, all_insert (key_of B) (Apart q) p ps (record { one = h.0.1.0.two; two = h.0.1.0.one }) h.1.0.1), e)

  solo-keep : (f : Path → Bool) (ps : List Path) → Solo ps → Solo (keep f ps)
  unfolding keep Solo
  solo-keep f [] h = tt
  solo-keep f (p ∷ ps) h =
      cond-case Solo (f p) (λ _. ((h.0.0, all_map (λ q k. k.0) (keep f ps) (all_keep (Apart p) f ps h.0.1)), solo-keep f ps h.1))
      (λ _. solo-keep f ps h.1)

  -- a path whose last block is b, which holds the array of that block's place alone and stays off the others'
  solo-of : (p : Path) (b : ℕ) (ps : List Path) → p.blocks ≡ suc b → Alone (ids_of ps) (place B b) p.ids → All (λ (q : Path). Off q p.ids) ps →
      Has p × All (Apart p) ps
  solo-of p b ps e a h = (
    λ c f z. a.0 (ap (λ y. p.ids (place B y)) (suc_inj (sym e ∙ f)) ∙ z),
    all_both
        (λ q n o. record { one = λ c f z. n (subst (λ (x : ℕ). q.ids (place B x) ≡ p.ids (place B x)) (sym (suc_inj (sym e ∙ f))) z); two = o })
        ps (all-unmapped (λ (q : Path). q.ids) (λ (o : ℕ → ℕ). o (place B b) ≡ p.ids (place B b) → ⊥) ps a.1) h,
  )

  -- ---- a writer stays off what others hold alone

  module _ (ps : List Path) where
    OffAll : (ℕ → ℕ) → Type 0
    OffAll ids = All (λ (q : Path). Off q ids) ps

    -- an id that none of them holds at height k
    off-new : (k i : ℕ) (ids : ℕ → ℕ) → All (λ (q : Path). q.ids k ≡ i → ⊥) ps → OffAll ids → OffAll (upd ids k i)
    unfolding OffAll upd
    off-new k i ids n h = all_both one ps n h
      where
        one : (q : Path) → (q.ids k ≡ i → ⊥) → Off q ids → Off q (upd ids k i)
        one q n o b e = go (eqb (place B b) k) refl
          where
            go : (t : Bool) → eqb (place B b) k ≡ t → cond t i (ids (place B b)) ≡ q.ids (place B b) → ⊥
            go true f z = n (ap q.ids (sym (eqb-true (place B b) k f)) ∙ sym z)
            go false f z = o b e z

    off-write : (k : ℕ) (v : View) → OffAll v.ids → OffAll (upd v.ids k (writes (ids_of ps) k v))
    off-write k v h =
        off-new k (writes (ids_of ps) k v) v.ids
        (all-unmapped (λ (q : Path). q.ids) (λ (o : ℕ → ℕ). o k ≡ writes (ids_of ps) k v → ⊥) ps (writes-new (ids_of ps) k v)) h

    off-claim : (j k : ℕ) (v : View) → OffAll v.ids → OffAll (claim (ids_of ps) j k v).ids
    off-claim j k v h = subst OffAll (sym (claim-ids (ids_of ps) k v j)) (off-write k v h)

    off-commit : (p : Path) (b : ℕ) (v : View) → OffAll v.ids → OffAll (commit B (ids_of ps) p b v).ids
    unfolding commit put_sums
    off-commit p zero v h = h
    off-commit p (suc b) v h = off-write (place B b) v h

    off-descend : (d m t : ℕ) (v : View) → OffAll v.ids → OffAll (descend (ids_of ps) d m t v).ids
    unfolding put_vals
    off-descend d m t v h = descend-keeps (ids_of ps) (λ w. OffAll w.ids) d m t v (λ k x w _ o. off-write k w o) h

  claim-alone : (others : List (ℕ → ℕ)) (j h : ℕ) (v : View) → Alone others h (claim others j h v).ids
  claim-alone others j h v = subst (Alone others h) (sym (claim-ids others h v j)) (writes-alone others h v)

  -- ---- one extraction

  copy_with-solo : (D : ℕ) (A : Arrays) (p : Path) (b : ℕ) (ps : List Path) (n : ℕ) (o : Option Word) → p.blocks ≡ suc b → Solo (p ∷ ps) →
      Solo (p ∷ (copy_with B D A p b ps n o).queue)
  unfolding copy_with room_for Solo All OffAll
  copy_with-solo D A p b ps n none e h = h
  copy_with-solo D A p b ps n (some y) e h =
      let left : List Path = take (D - 2) ps in
      let others : List (ℕ → ℕ) = p.ids ∷ ids_of left in
      let j : ℕ = (block_at B b).j in
      let v : View = claim others j (place B b) (view_of A p) in
      let c : Path =
      record { number = n; blocks = suc b; spent = p.spent; cost = y.cost; setting = y.setting; earlier = p.earlier; parities = y.parities; ids = v.ids } in
      let a : Alone others (place B b) v.ids = claim-alone others j (place B b) (view_of A p) in
      let rest : All (Apart p) left = all_take (Apart p) (D - 2) ps h.0.1 in
      let off : All (λ (q : Path). Off q v.ids) left =
      subst (OffAll left) (sym (claim-ids others (place B b) (view_of A p) j))
      (off-new left (place B b) (writes others (place B b) (view_of A p)) p.ids
      (all-unmapped (λ (q : Path). q.ids) (λ (o : ℕ → ℕ). o (place B b) ≡ writes others (place B b) (view_of A p) → ⊥) left (writes-new others (place B b) (view_of A p)).1)
      (all_map (λ q k. k.two) left rest)) in
      let pc : Apart p c =
      record {
        one = λ d f z. a.1.0 (subst (λ (x : ℕ). p.ids (place B x) ≡ v.ids (place B x)) (sym (suc_inj (sym e ∙ f))) (sym z));
        two = λ d f z. a.1.0 (subst (λ (x : ℕ). p.ids (place B x) ≡ v.ids (place B x)) (sym (suc_inj f)) z);
      } in
      ((h.0.0, all_insert (key_of B) (Apart p) c left pc rest), solo-insert c left (solo-of c b left refl (a.0, a.1.1) off, solo-take (D - 2) ps h.1))

  copy-solo : (D : ℕ) (A : Arrays) (p : Path) (ps : List Path) (n b : ℕ) → p.blocks ≡ b → Solo (p ∷ ps) → Solo (p ∷ (copy B D A p ps n b).queue)
  unfolding copy
  copy-solo D A p ps n zero e h = h
  copy-solo D A p ps n (suc b) e h = copy_with-solo D A p b ps n _ e h

  move_with-solo : (A : Arrays) (p : Path) (v : View) (ps : List Path) (o : Option Word) → Solo (p ∷ ps) →
      Alone (ids_of ps) (place B p.blocks) v.ids → OffAll ps v.ids → Solo ((move_with A p v o).path ∷ ps)
  unfolding move_with Solo OffAll
  move_with-solo A p v ps none h a f = h
  move_with-solo A p v ps (some y) h a f = (solo-of _ p.blocks ps refl a f, h.1)

  move-solo : (A : Arrays) (p : Path) (ps : List Path) → Solo (p ∷ ps) → Solo ((move B A p ps).path ∷ ps)
  unfolding move Solo OffAll
  move-solo A p ps h =
      move_with-solo A p _ ps _ h (claim-alone (ids_of ps) (block_at B p.blocks).j (place B p.blocks) _)
      (off-claim ps (block_at B p.blocks).j (place B p.blocks) _ (off-descend ps _ _ _ _ (off-commit ps p p.blocks (view_of A p) (all_map (λ q k. k.two) ps h.0.1))))

  module _ (L D : ℕ) where
    -- so it is at a moment, and once the copy is made
    pub record Lone (t : Moment) : Type 0 where
      pub before : Solo (t.path ∷ t.state.queue)
      pub copied : Solo (t.path ∷ (copy_at B D t).queue)

    lone : (t : Moment) → Solo (t.path ∷ t.state.queue) → Lone t
    unfolding copy_at
    lone t h = record { before = h; copied = copy-solo D t.state.arrays t.path t.state.queue t.state.next t.path.blocks refl h }

    extract-solo : (t : Moment) → Lone t → Solo (extract_at B L D t).state.queue
    unfolding extract_at extract copy_at staying ahead
    extract-solo t h =
        let second : Cut = copy_at B D t in
        let third : Path = (move B second.arrays t.path second.queue).path in
        let q : Solo (insert (key_of B) third second.queue) =
        solo-insert third second.queue (move-solo second.arrays t.path second.queue h.copied) in
        cond-case Solo (eqb (get_or (visit t.state.visits t.path.blocks) t.path.blocks 0) L) (λ _. solo-keep _ _ q) (λ _. q)

    taken-lone : (A : Arrays) (ps : List Path) (n : ℕ) (visits : List ℕ) → Solo ps → Taken Lone A ps n visits
    unfolding taking_from Leads
    taken-lone A [] n visits h = tt
    taken-lone A (p ∷ ps) n visits h = lone _ h

    first-solo : Solo (first_path B ∷ [])
    unfolding Solo first_path All
    first-solo = ((λ b e z. absurd (omega (arith, e)), tt), tt)

    pub run-lone : (A : Arrays) → All Lone (moments_of B L D A)
    run-lone A = run-all B L D Lone (λ t _ h. taken-lone _ _ _ _ (extract-solo t h)) A (taken-lone _ _ _ _ first-solo)

  -- ---- what follows

  -- the last word goes into the sums with no array taken
  abbrev pub TakesNone : Arrays → Path → List Path → ℕ → Type 0
  TakesNone A p ps b = (commit B (ids_of ps) p b (view_of A p)).ids ≡ p.ids

  takes_none : (A : Arrays) (p : Path) (ps : List Path) (b : ℕ) → p.blocks ≡ b → Solo (p ∷ ps) → TakesNone A p ps b
  unfolding commit put_sums Solo
  takes_none A p ps zero e h = refl
  takes_none A p ps (suc b) e h =
      let k : ℕ = place B b in
      let others : All (λ (o : ℕ → ℕ). o k ≡ p.ids k → ⊥) (ids_of ps) =
      all-mapped (λ (q : Path). q.ids) _ ps (all_map (λ q a. a.one b e) ps h.0.1) in
      ap (upd p.ids k) (writes-keep (ids_of ps) k (view_of A p) (h.0.0 b e, others)) ∙ upd-self p.ids k

  pub run-takes-none : (L D : ℕ) (A : Arrays) →
      All (λ (t : Moment). TakesNone (copy_at B D t).arrays t.path (copy_at B D t).queue t.path.blocks) (moments_of B L D A)
  run-takes-none L D A = all_map (λ t h. takes_none _ t.path _ _ refl h.copied) (moments_of B L D A) (run-lone L D A)

-- a descent takes no array at or above where it starts
pub descend-top : (others : List (ℕ → ℕ)) (d m t : ℕ) (v : View) (h : ℕ) → m ≤ h → (descend others d m t v).ids h ≡ v.ids h
unfolding put_vals
descend-top others d m t v h l =
    descend-keeps others (λ w. w.ids h ≡ v.ids h) d m t v (λ k x w b e. upd_other w.ids k (writes others k w) h (λ z. omega arith) ∙ e) refl

-- nor at the turn, where it writes, by P, to an array that the path holds alone
pub descend-takes-below : (others : List (ℕ → ℕ)) (d m t : ℕ) (v : View) (h : ℕ) → 0 < t → t < 2 ^ m → turn m t ≤ h →
    Alone others (turn m t) v.ids → (descend others d m t v).ids h ≡ v.ids h
unfolding descend put_vals
descend-takes-below others zero m t v h p lt l a = refl
descend-takes-below others (suc d) zero t v h p lt l a = refl
descend-takes-below others (suc d) (suc m) t v h p lt l a =
    go (eqb (rest m t) 0) refl (child m t (sums_of v m) (vals_of v (suc m)))
    (λ q k b. descend-takes-below others d m (rest m t) v h q (rest-less m t lt) k b)
  where
    go : (b : Bool) → eqb (rest m t) 0 ≡ b → (x : List ℤ) →
        (0 < rest m t → turn m (rest m t) ≤ h → Alone others (turn m (rest m t)) v.ids → (descend others d m (rest m t) v).ids h ≡ v.ids h) →
        (descend others d m (rest m t) (cond b (put_vals others m x v) v)).ids h ≡ v.ids h
    go true e x ih =
        let z : rest m t ≡ 0 = eqb-true (rest m t) 0 e in
        let at : turn (suc m) t ≡ m = turn-high m t (rest-late m t p z) z in
        let mine : Alone others m v.ids = subst (λ (y : ℕ). Alone others y v.ids) at a in
        descend-top others d m (rest m t) (put_vals others m x v) h (omega arith)
        ∙ ap (λ (i : ℕ). upd v.ids m i h) (writes-keep others m v mine)
        ∙ ap (λ f. f h) (upd-self v.ids m)
    go false e x ih =
        let n : rest m t ≡ 0 → ⊥ = eqb-false (rest m t) 0 e in
        let at : turn (suc m) t ≡ turn m (rest m t) = turn-past m t n in
        ih (omega arith) (omega arith) (subst (λ (y : ℕ). Alone others y v.ids) at a)
