-- Where a path has arrays: at the root, and at each height from its last block's up. It is so of path 0, and kept by each extraction: a write
-- never gives id 0, a path keeps its ids above the turn, and the descent writes every height from the new block's to the turn. Assumes nothing.
use mathlib.Core.Path.{◌≡◌, refl, sym, ◌∙◌, subst}
use mathlib.Core.List.{List, ◌∷◌}
use mathlib.Core.Logic.{◌⊎◌, inl, inr}
use mathlib.Core.Option.{Option, none, some}
use Prim.Native.Nat.{ℕ, zero, suc, ◌-◌, ◌^◌, ◌≤◌, ◌<◌}
use native.Mathlib.Nat.{suc_inj}
use native.Mathlib.Omega.{arith}
use lib.ListN.{length, take}
use lib.Dec.{eqb}
use Rattle.laws.specs.Lists.{All}
use Rattle.laws.proofs.Tests.{cond-case, lt-or}
use Rattle.laws.proofs.Lists.{all_take}
use Rattle.codebook.specs.Book.{Book, start_of, block_at}
use Rattle.codebook.specs.Limits.{Valid}
use Rattle.queue.specs.Queue.{insert, room_for, visit}
use Rattle.runs.proofs.Order.{all_insert, all-staying}
use Rattle.outer.specs.Words.{Word}
use Rattle.outer.proofs.Blocks.{Placed, placed}
use Rattle.reader.specs.Arrays.{Arrays, View, upd, writes, put_sums, claim, turn, descend, by_p}
use Rattle.reader.specs.Paths.{Path, key_of, first_path, place, ids_of, view_of}
use Rattle.reader.specs.Reader.{Cut, copy_with, copy, commit, down_to, next_view, move_with, move, extract}
use Rattle.reader.specs.Reached.{Rooted}
use Rattle.reader.proofs.Upd.{upd_same}
use Rattle.reader.proofs.Arrays.{writes-some, claim-ids}
use Rattle.reader.proofs.Solo.{descend-top}
use Rattle.reader.proofs.Descent.{put_has, put_other, descend-has, descend-turn, TurnAt, turn-place}

pub first-rooted : (B : Book) → Rooted B (first_path B)
unfolding first_path
first-rooted B =
    record {
      root = subst (λ (i : ℕ). 1 ≤ i) (sym (upd_same (λ _. 0) B.m 1)) (omega arith);
      has = λ b e. absurd (omega (arith, e));
    }

-- ---- writes

module _ (others : List (ℕ → ℕ)) (k : ℕ) (v : View) (h : ℕ) (g : 1 ≤ v.ids h) where
  written_has : 1 ≤ upd v.ids k (writes others k v) h
  unfolding upd
  written_has = cond-case (λ (i : ℕ). 1 ≤ i) (eqb h k) (λ _. writes-some others k v) (λ _. g)

  pub claim-has : (j : ℕ) → 1 ≤ (claim others j k v).ids h
  claim-has j = subst (λ (f : ℕ → ℕ). 1 ≤ f h) (sym (claim-ids others k v j)) written_has

-- the last word goes into the sums
pub commit-has : (B : Book) (others : List (ℕ → ℕ)) (p : Path) (b : ℕ) (v : View) (h : ℕ) → 1 ≤ v.ids h → 1 ≤ (commit B others p b v).ids h
unfolding commit put_sums
commit-has B others p zero v h g = g
commit-has B others p (suc b) v h g = written_has others (place B b) v h g

-- ---- the descent to a later block: what is above the turn stays, the rest is written

turn-has : (others : List (ℕ → ℕ)) (m t j : ℕ) (v : View) → 0 < t → t < 2 ^ m → j ≤ turn m t → ((h : ℕ) → turn m t < h → h ≤ m → 1 ≤ v.ids h) →
    (h : ℕ) → j ≤ h → h ≤ m → 1 ≤ (descend others (m - j) m t v).ids h
turn-has others m t j v p l a up h x y =
    subst (λ (w : View). 1 ≤ w.ids h) (sym (descend-turn others m t j v p l a)) (go (lt-or h (turn m t)) (lt-or (turn m t) h))
  where
    go : (h < turn m t) ⊎ (turn m t ≤ h) → (turn m t < h) ⊎ (h ≤ turn m t) →
        1 ≤ (descend others (turn m t - j) (turn m t) 0 (by_p others (turn m t) v)).ids h
    go (inl c) d = descend-has others (turn m t - j) (turn m t) (by_p others (turn m t) v) h (omega arith) (omega arith) c
    go (inr c) (inl d) =
        subst (λ (i : ℕ). 1 ≤ i)
        (sym (descend-top others (turn m t - j) (turn m t) 0 (by_p others (turn m t) v) h c
        ∙ put_other others (turn m t) _ v h (λ e. omega arith)))
        (up h d y)
    go (inr c) (inr d) =
        let e : turn m t ≡ h = omega arith in
        subst (λ (i : ℕ). 1 ≤ i) (sym (descend-top others (turn m t - j) (turn m t) 0 (by_p others (turn m t) v) h c))
        (subst (λ (i : ℕ). 1 ≤ (by_p others (turn m t) v).ids i) e (put_has others (turn m t) _ v))

-- ---- one extraction

module _ (B : Book) where
  copy_with-rooted : (D : ℕ) (A : Arrays) (p : Path) (b : ℕ) (ps : List Path) (n : ℕ) (o : Option Word) → p.blocks ≡ suc b → Rooted B p →
      All (Rooted B) ps → All (Rooted B) (copy_with B D A p b ps n o).queue
  unfolding copy_with room_for
  copy_with-rooted D A p b ps n none e r h = h
  copy_with-rooted D A p b ps n (some y) e r h =
      let left : List Path = take (D - 2) ps in
      let others : List (ℕ → ℕ) = p.ids ∷ ids_of left in
      let j : ℕ = (block_at B b).j in
      let v : View = claim others j (place B b) (view_of A p) in
      let c : Path =
      record { number = n; blocks = suc b; spent = p.spent; cost = y.cost; setting = y.setting; earlier = p.earlier; parities = y.parities; ids = v.ids } in
      let made : Rooted B c =
      record {
        root = claim-has others (place B b) (view_of A p) B.m r.root j;
        has = λ d f k x y.
            claim-has others (place B b) (view_of A p) k (r.has d (e ∙ f) k x y) j;
      } in
      all_insert (key_of B) (Rooted B) c left made (all_take (Rooted B) (D - 2) ps h)

  pub copy-rooted : (D : ℕ) (A : Arrays) (p : Path) (ps : List Path) (n b : ℕ) → p.blocks ≡ b → Rooted B p → All (Rooted B) ps →
      All (Rooted B) (copy B D A p ps n b).queue
  unfolding copy
  copy-rooted D A p ps n zero e r h = h
  copy-rooted D A p ps n (suc b) e r h = copy_with-rooted D A p b ps n _ e r h

  -- the view of the next block, before an array is taken for its word
  pub down-has : Valid B → (others : List (ℕ → ℕ)) (A : Arrays) (p : Path) (b : ℕ) → p.blocks ≡ b → b < length B.blocks → Rooted B p →
      (h : ℕ) → (block_at B b).j ≤ h → h ≤ B.m →
      1 ≤ (down_to B others A p b).ids h
  unfolding start_of
  down-has ok others A p zero e l r h x y = go (lt-or h B.m)
    where
      d : ℕ
      d = B.m - (block_at B 0).j

      v : View
      v = commit B others p 0 (view_of A p)

      go : (h < B.m) ⊎ (B.m ≤ h) → 1 ≤ (descend others d B.m 0 v).ids h
      go (inl z) = descend-has others d B.m v h (omega arith) (omega arith) z
      go (inr z) =
          let i : B.m ≡ h = omega arith in
          subst (λ (n : ℕ). 1 ≤ n) (sym (descend-top others d B.m 0 v h z))
          (commit-has B others p 0 (view_of A p) h (subst (λ (n : ℕ). 1 ≤ p.ids n) i r.root))
  down-has ok others A p (suc b) e l r h x y =
      let t : TurnAt B b = turn-place B ok b l in
      turn-has others B.m (start_of B.blocks (suc b)) (block_at B (suc b)).j (commit B others p (suc b) (view_of A p)) t.after t.inside
      (omega arith)
      (λ k c d. commit-has B others p (suc b) (view_of A p) k (r.has b e k (omega arith) d)) h x y

  move_with-rooted : (A : Arrays) (p : Path) (v : View) (o : Option Word) → Rooted B p → 1 ≤ v.ids B.m →
      ((h : ℕ) → (block_at B p.blocks).j ≤ h → h ≤ B.m → 1 ≤ v.ids h) → Rooted B (move_with A p v o).path
  unfolding move_with
  move_with-rooted A p v none r g h = r
  move_with-rooted A p v (some y) r g h =
      record { root = g; has = λ b e k x. h k (subst (λ (i : ℕ). (block_at B i).j ≤ k) (sym (suc_inj e)) x) }

  module _ (ok : Valid B) where
    pub move-rooted : (A : Arrays) (p : Path) (ps : List Path) → p.blocks < length B.blocks → Rooted B p → Rooted B (move B A p ps).path
    unfolding move
    move-rooted A p ps l r =
        let b : ℕ = p.blocks in
        let j : ℕ = (block_at B b).j in
        let others : List (ℕ → ℕ) = ids_of ps in
        let v : View = next_view B others A p b in
        let o : Placed B b = placed B ok b l in
        let has : (h : ℕ) → j ≤ h → h ≤ B.m → 1 ≤ v.ids h =
        λ h x y. claim-has others (place B b) (down_to B others A p b) h (down-has ok others A p b refl l r h x y) j in
        move_with-rooted A p v _ r (has B.m (omega (arith, o.small)) (omega arith)) has

    pub extract-rooted : (L D : ℕ) (A : Arrays) (p : Path) (ps : List Path) (n : ℕ) (visits : List ℕ) → All (Rooted B) (p ∷ ps) →
        p.blocks < length B.blocks → All (Rooted B) (extract B L D A p ps n visits).state.queue
    unfolding extract All
    extract-rooted L D A p ps n visits h l =
        let b : ℕ = p.blocks in
        let second : Cut = copy B D A p ps n b in
        let third : Path = (move B second.arrays p second.queue).path in
        let q : All (Rooted B) (insert (key_of B) third second.queue) =
        all_insert (key_of B) (Rooted B) third second.queue (move-rooted second.arrays p second.queue l h.0)
        (copy-rooted D A p ps n b refl h.0 h.1) in
        all-staying (key_of B) L b (visit visits b) _ (Rooted B) q
