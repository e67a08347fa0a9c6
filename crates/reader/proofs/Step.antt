-- One extraction of the reader is one of the machine: from queues whose paths stand for the machine's, both give the same step, and queues whose
-- paths do so again. The copy, then the path's own next block, then the visit. Assumes nothing.
use mathlib.Core.Path.{◌≡◌, refl, sym, ap, ap₂, ◌∙◌, subst}
use mathlib.Core.Bool.{Bool, true, false, cond}
use mathlib.Core.List.{List, [], ◌∷◌}
use mathlib.Core.Option.{Option, none, some}
use Prim.Native.Nat.{ℕ, zero, suc, ◌+◌, ◌-◌, ◌^◌, ◌<◌}
use native.Mathlib.Omega.{arith}
use lib.ListN.{length, get_or, take}
use lib.Seq.{take-take, length-take-le}
use lib.IntN.{ℤ}
use lib.Dec.{eqb}
use Rattle.laws.specs.Lists.{All}
use Rattle.laws.proofs.Lists.{all_take, all-unmapped}
use Rattle.laws.specs.Pairs.{Paired, MayPair}
use Rattle.laws.proofs.Pairs.{paired-take, paired-drop, paired-with}
use Rattle.polar.specs.Bits.{Bit}
use Rattle.polar.specs.Node.{node}
use Rattle.polar.specs.Value.{costs}
use Rattle.polar.proofs.Value.{costs-same, Same}
use Rattle.polar.proofs.Node.{node-same}
use Rattle.codebook.specs.Book.{Book, start_of, block_at}
use Rattle.codebook.specs.Limits.{Valid}
use Rattle.queue.specs.Queue.{Key, insert, ahead, behind, staying, outrun_by, numbers, room_for, crowded_out, visit, Step}
use Rattle.machine.specs.Words as MW
use Rattle.machine.specs.Words.{Ranked, rank}
use Rattle.machine.specs.Machine as M
use Rattle.reader.specs.Arrays.{Arrays, View, vals_of, sums_of, writes, claim}
use Rattle.codec.specs.Ties.{Parities, parities_of}
use Rattle.outer.specs.Words as RW
use Rattle.outer.specs.Words.{Word}
use Rattle.reader.specs.Paths.{Path, key_of, score_of, own_word, place, ids_of, view_of}
use Rattle.reader.specs.Reader as R
use Rattle.reader.specs.Reader.{Moved, commit, down_to, next_view}
use Rattle.reader.specs.Reached.{Vals, Sums, Good, Inv, HoldsBits, plain, StandsFor}
use Rattle.reader.proofs.Tree.{vals-node, vals-same, sums_same, sums-root, sums-unroot, root-turn}
use Rattle.outer.proofs.Blocks.{Placed, placed, start-less}
use Rattle.outer.proofs.Words.{Matches, nearer-matches, nearest-matches}
use Rattle.reader.proofs.Arrays.{Sees, sees-same, Kept, kept_on, claim-kept, claim-vals, claim-own, claim-sums, descend-kept, descend-above, descend-good}
use Rattle.reader.proofs.Good.{holds_frame, stands-frame, PathSized, sized, plain-path, own-matches, commit-kept, Ready, ready, enter}
use Rattle.reader.proofs.Queue.{insert-paired, ahead-paired, behind-paired, numbers-paired}

module _ (B : Book) (ys : List ℤ) (A : Arrays) (q : M.Path) (p : Path) (h : StandsFor B ys A q p) where
  pub stands-blocks : q.blocks ≡ p.blocks
  unfolding plain
  stands-blocks = ap (λ (x : M.Path). x.blocks) h.same

  -- the queues go by the same keys
  pub stands-key : M.key_of q ≡ key_of B p
  unfolding M.key_of key_of plain
  stands-key = ap {B = Key} (λ (x : M.Path). record { score = x.score; blocks = x.blocks; number = x.number }) h.same

-- the way of p to its block b, and the array for its word, leave what the others see
pub next-kept : (B : Book) (others : List (ℕ → ℕ)) (A : Arrays) (p : Path) (b : ℕ) → Kept others A (next_view B others A p b).arrays
next-kept B others A p b =
    let j : ℕ = (block_at B b).j in
    let v₁ : View = commit B others p b (view_of A p) in
    let v₂ : View = down_to B others A p b in
    kept_on others A v₂.arrays _
    (kept_on others A v₁.arrays v₂.arrays (commit-kept B others p b (view_of A p)) (descend-kept others (B.m - j) B.m (start_of B.blocks b) v₁))
    (claim-kept others (place B b) v₂ j)

-- the reader's extraction x' is the machine's x
pub record StepIs (B : Book) (ys : List ℤ) (x : M.Extracted) (x' : R.Extracted) : Type 0 where
  pub queue : Paired (StandsFor B ys x'.state.arrays) x.state.queue x'.state.queue
  pub next : x.state.next ≡ x'.state.next
  pub visits : x.state.visits ≡ x'.state.visits
  pub step : x.step ≡ x'.step

module _ (B : Book) (ys : List ℤ) (ok : Valid B) (ly : length ys ≡ 2 ^ B.m) where
  -- a path that is good for its last block stands for the machine's
  stands : (A : Arrays) (u : List ℕ) (p : Path) (b : ℕ) → p.blocks ≡ suc b → p.parities ≡ parities_of B u → Good B ys (view_of A p) u p b →
      StandsFor B ys A (M.path B ys p.number p.blocks u) p
  unfolding M.path Inv
  stands A u p b e f g =
      let i : Inv B ys (view_of A p) u p p.blocks = subst (Inv B ys (view_of A p) u p) (sym e) g in
      record {
        same = plain-path B ys u p (sized B ys (view_of A p) u p ok p.blocks i);
        holds = record { parities = f; inv = i };
      }

  -- ---- step 2: the copy

  -- the next word of the last block is the machine's
  pub next-matches : (A : Arrays) (u : List ℕ) (p : Path) (b : ℕ) → p.parities ≡ parities_of B u → Good B ys (view_of A p) u p b →
      MayPair (Matches B ys (take (start_of B.blocks b) u) b) (MW.next_after B ys u b)
      (RW.next_after (own_word B p b) B (vals_of (view_of A p) (block_at B b).j) p.earlier b)
  unfolding MW.next_after RW.next_after
  next-matches A u p b e g =
      let j : ℕ = (block_at B b).j in
      let m : ℕ = B.m in
      let s : ℕ = start_of B.blocks b in
      let u' : List ℕ = take s u in
      let o : Placed B b = placed B ok b g.within in
      let v : View = view_of A p in
      let at : vals_of v j ≡ node (m - j) m ys u' s =
      g.own ∙ vals-node (m - j) j m ys u s g.way o.small g.root g.vals
      ∙ node-same (m - j) m ys u u' s (sym (take-take s s u (omega arith))) in
      let own : Matches B ys u' b (rank B ys b u) (own_word B p b) = own-matches B ys v u p b g e in
      let next : Option Ranked = MW.next_after B ys u b in
      let next' : Parities → Option Word = λ x. RW.next_after (own_word B p b) B (vals_of v j) x b in
      let found : MayPair (Matches B ys u' b) next (next' (parities_of B u')) =
      nearest-matches B ys u' b o ly (length-take-le s u (omega (arith, g.size))) (all_take Bit s u g.bits) (vals_of v j) at
      (MW.nearer (rank B ys b u)) (RW.nearer (own_word B p b))
      (λ x y k. nearer-matches B ys u' b (rank B ys b u) x (own_word B p b) y own k) in
      subst (λ x. MayPair (Matches B ys u' b) next (next' x)) (sym g.earlier) found

  -- c' is what the machine's c is, and p sees what it saw
  record CopyIs (A : Arrays) (p : Path) (c : M.Cut) (c' : R.Cut) : Type 0 where
    queue : Paired (StandsFor B ys c'.arrays) c.queue c'.queue
    next : c.next ≡ c'.next
    crowded : c.crowded ≡ c'.crowded
    sees : Sees A c'.arrays p.ids

  module _ (D : ℕ) (A : Arrays) (u : List ℕ) (p : Path) (qs : List M.Path) (ps : List Path) (n : ℕ) (hs : Paired (StandsFor B ys A) qs ps) where
    copy_with-is : (b : ℕ) (o : Option Ranked) (o' : Option Word) → Good B ys (view_of A p) u p b →
        MayPair (Matches B ys (take (start_of B.blocks b) u) b) o o' →
        CopyIs A p (M.cut D qs n (M.copy_with B ys n (suc b) o)) (R.copy_with B D A p b ps n o')
    unfolding M.cut M.copy_with R.copy_with MayPair All room_for crowded_out place
    copy_with-is b none none g k = record { queue = hs; next = refl; crowded = refl; sees = sees-same A p.ids }
    copy_with-is b none (some y) g k = absurd k
    copy_with-is b (some x) none g k = absurd k
    copy_with-is b (some x) (some y) g k =
        let j : ℕ = (block_at B b).j in
        let m : ℕ = B.m in
        let s : ℕ = start_of B.blocks b in
        let u' : List ℕ = take s u in
        let left : List Path = take (D - 2) ps in
        let others : List (ℕ → ℕ) = p.ids ∷ ids_of left in
        let v₀ : View = view_of A p in
        let v : View = claim others j (place B b) v₀ in
        let kept : Kept others A v.arrays = claim-kept others (place B b) v₀ j in
        let lost : List ℕ = A.sums (place B b) (writes others (place B b) v₀) in
        let o : Placed B b = placed B ok b g.within in
        let c : Path =
        record { number = n; blocks = suc b; spent = p.spent; cost = y.cost; setting = y.setting; earlier = p.earlier; parities = y.parities; ids = v.ids } in
        let same : Same s u u' = sym (take-take s s u (omega arith)) in
        let good : Good B ys v x.bits c b =
        enter B ys ok v g.way b u' x y c g.within ly (length-take-le s u (omega (arith, g.size))) (all_take Bit s u g.bits)
        g.root
        (vals-same (m - j) m ys u u' s g.way same g.vals)
        (λ i n. claim-vals others (place B b) v₀ j i n ∙ g.same i n)
        (claim-own others (place B b) v₀ j ∙ g.own)
        (subst (Sums (suc m) u' s) (sym (claim-sums others (place B b) v₀ j))
        (root-turn (m - j) j m s o.small o.starts u' (sums_of v₀) lost (sums_same (suc m) u u' s (sums_of v₀) same g.sums)))
        k
        (g.spent ∙ costs-same m ys u u' 0 s s (omega arith) same)
        g.earlier refl refl in
        let rest : Paired (StandsFor B ys v.arrays) (take (D - 2) qs) left =
        paired-with (λ q r. stands-frame B ys A v.arrays q r) (take (D - 2) qs) left
        (all-unmapped (λ (r : Path). r.ids) (Sees A v.arrays) left kept.1)
        (paired-take (StandsFor B ys A) (D - 2) qs ps hs) in
        record {
          queue =
              insert-paired M.key_of (key_of B) (StandsFor B ys v.arrays) (stands-key B ys v.arrays) (M.path B ys n (suc b) x.bits) c
              (take (D - 2) qs) left
              (stands v.arrays x.bits c b refl k.parities good) rest;
          next = refl;
          crowded = numbers-paired M.key_of (key_of B) (StandsFor B ys A) (stands-key B ys A) _ _ (paired-drop (StandsFor B ys A) (D - 2) qs ps hs);
          sees = kept.0;
        }

    copy_is : (b : ℕ) → p.parities ≡ parities_of B u → Inv B ys (view_of A p) u p b →
        CopyIs A p (M.cut D qs n (M.copy_of B ys n b u)) (R.copy B D A p ps n b)
    unfolding M.cut M.copy_of R.copy Inv
    copy_is zero e g = record { queue = hs; next = refl; crowded = refl; sees = sees-same A p.ids }
    copy_is (suc b) e g = copy_with-is b _ _ g (next-matches A u p b e g)

  -- ---- step 3: the path's own next block

  -- what it sees once it has gone down to that block, and the block's nearest word there, which is the machine's
  module _ (A : Arrays) (u : List ℕ) (p : Path) (others : List (ℕ → ℕ)) (h : HoldsBits B ys A u p) (l : p.blocks < length B.blocks) where
    down-good : Vals (B.m - (block_at B p.blocks).j) B.m ys u (start_of B.blocks p.blocks) (vals_of (down_to B others A p p.blocks))
        × Sums B.m u (start_of B.blocks p.blocks) (sums_of (down_to B others A p p.blocks))
    down-good =
        let b : ℕ = p.blocks in
        let m : ℕ = B.m in
        let d : ℕ = m - (block_at B b).j in
        let t : ℕ = start_of B.blocks b in
        let v₁ : View = commit B others p b (view_of A p) in
        let r : Ready B ys others u b v₁ = ready B ys ok others u p b (view_of A p) h.inv in
        let lt : t < 2 ^ m = start-less B ok b l in
        descend-good others d m ys u t v₁ lt (r.root l) (r.prior l d) (sums-root m u t (sums_of v₁) lt r.sums) (r.alone l)

    down-root : vals_of (down_to B others A p p.blocks) B.m ≡ ys
    down-root =
        let b : ℕ = p.blocks in
        let v₁ : View = commit B others p b (view_of A p) in
        (descend-above others (B.m - (block_at B b).j) B.m (start_of B.blocks b) v₁ B.m (omega arith)).0
        ∙ (ready B ys ok others u p b (view_of A p) h.inv).root l

    pub near-matches : let b = p.blocks in
        MayPair (Matches B ys u b) (MW.nearest B ys u b) (RW.nearest B (vals_of (next_view B others A p b) (block_at B b).j) p.parities b)
    unfolding MW.nearest RW.nearest
    near-matches =
        let b : ℕ = p.blocks in
        let j : ℕ = (block_at B b).j in
        let m : ℕ = B.m in
        let o : Placed B b = placed B ok b l in
        let z : PathSized B ys u p b = sized B ys (view_of A p) u p ok b h.inv in
        let v : View = down_to B others A p b in
        let vs : List ℤ = vals_of (next_view B others A p b) j in
        let near : Option Ranked = MW.nearest B ys u b in
        let near' : Parities → Option Word = λ x. RW.nearest B vs x b in
        let found : MayPair (Matches B ys u b) near (near' (parities_of B u)) =
        nearest-matches B ys u b o ly z.size z.bits vs
        (claim-own others (place B b) v j ∙ vals-node (m - j) j m ys u (start_of B.blocks b) (vals_of v) o.small down-root down-good.0)
        (λ _. true) (λ _. true) (λ _ _ _. refl) in
        subst (λ x. MayPair (Matches B ys u b) near (near' x)) (sym h.parities) found

  -- the path moved stands for q, and the others for what they stood for
  record MoveIs (qs : List M.Path) (ps : List Path) (q : M.Path) (x : Moved) : Type 0 where
    queue : Paired (StandsFor B ys x.arrays) qs ps
    path : StandsFor B ys x.arrays q x.path

  module _ (A : Arrays) (u : List ℕ) (p : Path) (qs : List M.Path) (ps : List Path) where
    module _ (hs : Paired (StandsFor B ys A) qs ps) (h : HoldsBits B ys A u p) (l : p.blocks < length B.blocks) where
      now : PathSized B ys u p p.blocks
      now = sized B ys (view_of A p) u p ok p.blocks h.inv

      move_with-is : (v : View) (way : ℕ → List ℤ) (o : Option Ranked) (o' : Option Word) → Kept (ids_of ps) A v.arrays → way B.m ≡ ys →
          Vals (B.m - (block_at B p.blocks).j) B.m ys u (start_of B.blocks p.blocks) way →
          ((k : ℕ) → (k ≡ place B p.blocks → ⊥) → vals_of v k ≡ way k) → vals_of v (block_at B p.blocks).j ≡ way (block_at B p.blocks).j →
          Sums (suc B.m) u (start_of B.blocks p.blocks) (sums_of v) →
          MayPair (Matches B ys u p.blocks) o o' → MoveIs qs ps (M.advance_with B ys (plain B p u) o) (R.move_with A p v o')
      unfolding M.advance_with R.move_with MayPair plain now
      move_with-is v way none none kept root vals same own sums k = record { queue = hs; path = record { same = refl; holds = h } }
      move_with-is v way none (some y) kept root vals same own sums k = absurd k
      move_with-is v way (some x) none kept root vals same own sums k = absurd k
      move_with-is v way (some x) (some y) kept root vals same own sums k =
          let b : ℕ = p.blocks in
          let c : Path =
          record { number = p.number; blocks = suc b; spent = p.spent + p.cost; cost = y.cost; setting = y.setting; earlier = p.parities; parities = y.parities; ids = v.ids } in
          let good : Good B ys v x.bits c b =
          enter B ys ok v way b u x y c l ly now.size now.bits root vals same own sums k (now.total ∙ ap (costs B.m ys u 0) now.size)
          h.parities refl refl in
          record {
            queue =
                paired-with (λ q r. stands-frame B ys A v.arrays q r) qs ps (all-unmapped (λ (r : Path). r.ids) (Sees A v.arrays) ps kept) hs;
            path = stands v.arrays x.bits c b refl k.parities good;
          }

      move-is : MoveIs qs ps (M.advance B ys (plain B p u)) (R.move B A p ps)
      unfolding M.advance R.move plain place
      move-is =
          let b : ℕ = p.blocks in
          let j : ℕ = (block_at B b).j in
          let m : ℕ = B.m in
          let d : ℕ = m - j in
          let t : ℕ = start_of B.blocks b in
          let o : Placed B b = placed B ok b l in
          let others : List (ℕ → ℕ) = ids_of ps in
          let v₂ : View = down_to B others A p b in
          let v : View = next_view B others A p b in
          let lt : t < 2 ^ m = start-less B ok b l in
          let good = down-good A u p others h l in
          let lost : List ℕ = v₂.arrays.sums (place B b) (writes others (place B b) v₂) in
          let sums : Sums (suc m) u t (sums_of v) =
          subst (Sums (suc m) u t) (sym (claim-sums others (place B b) v₂ j))
          (root-turn d j m t o.small o.starts u (sums_of v₂) lost (sums-unroot m u t (sums_of v₂) lt good.1)) in
          move_with-is v (vals_of v₂) _ _ (next-kept B others A p b) (down-root A u p others h l) good.0 (claim-vals others (place B b) v₂ j)
          (claim-own others (place B b) v₂ j) sums (near-matches A u p others h l)

  -- ---- step 4, and the whole extraction

  module _ (A : Arrays) (L b : ℕ) (visits : List ℕ) (qs : List M.Path) (ps : List Path) (hs : Paired (StandsFor B ys A) qs ps) where
    staying-is : Paired (StandsFor B ys A) (staying M.key_of L b visits qs) (staying (key_of B) L b visits ps)
    unfolding staying
    staying-is = go (eqb (get_or visits b 0) L)
      where
        go : (t : Bool) → Paired (StandsFor B ys A) (cond t (ahead M.key_of b qs) qs) (cond t (ahead (key_of B) b ps) ps)
        go true = ahead-paired M.key_of (key_of B) (StandsFor B ys A) (stands-key B ys A) b qs ps hs
        go false = hs

    outrun-is : numbers M.key_of (outrun_by M.key_of L b visits qs) ≡ numbers (key_of B) (outrun_by (key_of B) L b visits ps)
    unfolding outrun_by
    outrun-is = numbers-paired M.key_of (key_of B) (StandsFor B ys A) (stands-key B ys A) _ _ (go (eqb (get_or visits b 0) L))
      where
        go : (t : Bool) → Paired (StandsFor B ys A) (cond t (behind M.key_of b qs) []) (cond t (behind (key_of B) b ps) [])
        go true = behind-paired M.key_of (key_of B) (StandsFor B ys A) (stands-key B ys A) b qs ps hs
        go false = unfold Paired in tt

  extract-plain : (L D : ℕ) (A : Arrays) (u : List ℕ) (p : Path) (qs : List M.Path) (ps : List Path) (n : ℕ) (visits : List ℕ) → HoldsBits B ys A u p →
      Paired (StandsFor B ys A) qs ps → p.blocks < length B.blocks →
      StepIs B ys (M.extract B L D ys (plain B p u) qs n visits) (R.extract B L D A p ps n visits)
  unfolding M.extract R.extract plain
  extract-plain L D A u p qs ps n visits h hs l =
      let b : ℕ = p.blocks in
      let c : M.Cut = M.cut D qs n (M.copy_of B ys n b u) in
      let c' : R.Cut = R.copy B D A p ps n b in
      let i : CopyIs A p c c' = copy_is D A u p qs ps n hs b h.parities h.inv in
      let q : M.Path = M.advance B ys (plain B p u) in
      let x : Moved = R.move B c'.arrays p c'.queue in
      let k : MoveIs c.queue c'.queue q x =
      move-is c'.arrays u p c.queue c'.queue i.queue (holds_frame B ys A c'.arrays u p i.sees h) l in
      let queued : Paired (StandsFor B ys x.arrays) (insert M.key_of q c.queue) (insert (key_of B) x.path c'.queue) =
      insert-paired M.key_of (key_of B) (StandsFor B ys x.arrays) (stands-key B ys x.arrays) q x.path c.queue c'.queue k.path
      k.queue in
      record {
        queue = staying-is x.arrays L b (visit visits b) _ _ queued;
        next = i.next;
        visits = refl;
        step =
            ap₂ {C = Step} (λ (y z : List ℕ). record { path = p.number; blocks = b; score = score_of B p b; crowded = y; outrun = z }) i.crowded
            (outrun-is x.arrays L b (visit visits b) _ _ queued);
      }

  -- of a path that has not all blocks
  pub extract-is : (L D : ℕ) (A : Arrays) (q : M.Path) (p : Path) (qs : List M.Path) (ps : List Path) (n : ℕ) (visits : List ℕ) →
      StandsFor B ys A q p → Paired (StandsFor B ys A) qs ps → (q.blocks ≡ length B.blocks → ⊥) →
      StepIs B ys (M.extract B L D ys q qs n visits) (R.extract B L D A p ps n visits)
  extract-is L D A q p qs ps n visits h hs ne =
      let z : PathSized B ys q.bits p p.blocks = sized B ys (view_of A p) q.bits p ok p.blocks h.holds.inv in
      subst (λ (q' : M.Path). StepIs B ys (M.extract B L D ys q' qs n visits) (R.extract B L D A p ps n visits)) (sym h.same)
      (extract-plain L D A q.bits p qs ps n visits h.holds hs (omega (arith, z.within, stands-blocks B ys A q p h)))
