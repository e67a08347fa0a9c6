-- What the path in hand sees on its way to its next block, call by call: for the first block the values go down from the root by Q; for a later one
-- the last word goes into the sums, the values turn by P, and go down by Q. Then an array is taken for the block's word. Each call's needs come from
-- the path's being fit, and each view as the code makes it is the definition's, by the laws of the next block (reader). Assumes nothing.
use mathlib.Core.Path.{◌≡◌, refl, sym, ap, ap₂, ◌∙◌, subst, subst₂}
use mathlib.Core.List.{List, ◌∷◌}
use Prim.Native.Nat.{ℕ, zero, suc, ◌-◌, ◌≤◌, ◌<◌}
use native.Mathlib.Omega.{arith}
use lib.ListN.{length}
use Rattle.codebook.specs.Book.{Book, start_of, block_at}
use Rattle.outer.proofs.Blocks.{Placed, placed}
use Rattle.reader.specs.Arrays.{View, claim, descend, by_p}
use Rattle.reader.specs.Paths.{place, ids_of, view_of}
use Rattle.reader.specs.Reader.{commit, down_to, next_view}
use Rattle.reader.specs.Fit.{Fit, FitFirst, FitFor}
use Rattle.reader.proofs.Descent.{turn-place, place-most}
use Rattle.reader.proofs.Next.{turn-ready, down-ready, down-first, down-later, claim-ready}
use Rattle.order.specs.Entries.{slot_at}
use Rattle.standing.specs.Seen.{Memory, Enough, HasArrays, Seen, Viewed, StepSeen, IdsOnly}
use Rattle.standing.specs.Standing.{Stands, InHand, with_ids}
use Rattle.standing.proofs.Views.{stands-view}
use Rattle.views.specs.Steps.{Upper, Turning, Claimable}
use Rattle.words.specs.declared.Block.{Block}
use Rattle.steps.specs.Steps.{BlockIs, Last, committed, Moving}
use Rattle.steps.proofs.Commits.{own-seen}

-- ---- what the path in hand sees

module _ {m D N : ℕ} {x : Memory} {e : ℕ} {es vs : List ℕ} (h : InHand m D N x e es vs) where
  -- the ids of the other paths
  abbrev pub away : List (ℕ → ℕ)
  away = ids_of h.rest

  -- at first
  abbrev pub own_view : View
  own_view = view_of h.arrays h.taken

  -- once the values of its next block are there
  abbrev pub reached : View
  reached = down_to h.book (ids_of h.rest) h.arrays h.taken h.taken.blocks

module _ {m D N : ℕ} {x : Memory} {e : ℕ} {es vs : List ℕ} {last at : Block} (c : Moving m D N x e es vs last at) {s : ℕ} (is : s ≡ slot_at e) where
  -- its next block lies within
  pub next-heights : (at.height ≤ m) × (at.place ≤ m)
  next-heights =
      let B : Book = c.hand.book in
      let b : ℕ = c.hand.taken.blocks in
      let o : Placed B b = placed B c.valid b c.next.within in
      (omega (arith, o.small, c.next.height, c.hand.deep), omega (arith, place-most B c.valid b c.next.within, c.next.word, c.hand.deep))

  -- ---- to the first block

  module _ (z : at.start ≡ 0) where
    -- it has no block yet
    first-is : c.hand.taken.blocks ≡ 0
    first-is = go c.hand.taken.blocks refl
      where
        go : (b : ℕ) → c.hand.taken.blocks ≡ b → c.hand.taken.blocks ≡ 0
        go zero q = q
        go (suc b) q =
            let B : Book = c.hand.book in
            let l : suc b < length B.blocks = omega (arith, c.next.within) in
            absurd (omega (arith, (turn-place B c.valid b l).after, c.next.start, ap (start_of B.blocks) q))

    -- the root's values are there, and what Q makes of them is the definition's
    first-upper : Upper m (own_view c.hand)
    unfolding FitFor
    first-upper =
        let h : InHand m D N x e es vs = c.hand in
        let f : FitFirst h.book h.arrays h.taken = subst (FitFor h.book h.arrays h.taken) first-is c.fit in
        subst (λ n. Upper n (own_view h)) h.deep (record { has = f.has; range = f.root })

    pub first-viewed : Enough D N → Viewed m N s x (Upper m)
    first-viewed enough = record { others = away c.hand; view = own_view c.hand; seen = own-seen c.hand enough is; met = first-upper }

    pub first-seen : Enough D N → (y : Memory) → StepSeen m N s x y (Upper m) (λ others v. descend others (m - at.height) m 0 v) →
        Seen m N s y (away c.hand) (reached c.hand)
    unfolding StepSeen
    first-seen enough y t =
        let h : InHand m D N x e es vs = c.hand in
        let B : Book = h.book in
        let o : List (ℕ → ℕ) = away h in
        let v : View = own_view h in
        subst (λ w. Seen m N s y o w)
        (ap (λ n. descend o (n - at.height) n 0 v) (sym h.deep)
        ∙ ap (λ j. descend o (B.m - j) B.m 0 v) (c.next.height ∙ ap (λ b. (block_at B b).j) first-is)
        ∙ sym (down-first B o h.arrays h.taken)
        ∙ ap (down_to B o h.arrays h.taken) (sym first-is))
        (t o v (own-seen h enough is) first-upper)

  -- ---- to a later block

  module _ (n : at.start ≡ 0 → ⊥) where
    -- it has a last block, b, which is `last`
    pub later : (b : ℕ) × (c.hand.taken.blocks ≡ suc b)
    unfolding start_of
    later = go c.hand.taken.blocks refl
      where
        go : (k : ℕ) → c.hand.taken.blocks ≡ k → (b : ℕ) × (c.hand.taken.blocks ≡ suc b)
        go zero q = absurd (n (c.next.start ∙ ap (start_of c.hand.book.blocks) q))
        go (suc b) q = (b, q)

    last-is : BlockIs c.hand.book later.0 last
    last-is = c.last-is later.0 later.1

    last_fit : Fit c.hand.book c.hand.arrays c.hand.taken later.0
    unfolding FitFor
    last_fit = subst (FitFor c.hand.book c.hand.arrays c.hand.taken) later.1 c.fit

    pub later-own : Last c.hand last later.0
    later-own = record { blocks = later.1; block = last-is; fit = last_fit }

    more : suc later.0 < length c.hand.book.blocks
    more = omega (arith, later.1, c.next.within)

    pub later-heights : (last.height ≤ last.place) × (last.place < m) × (at.height ≤ last.place)
    later-heights =
        let B : Book = c.hand.book in
        let t = turn-place B c.valid later.0 more in (
          omega (arith, t.own, last-is.height, last-is.word),
          omega (arith, t.less, last-is.word, c.hand.deep),
          omega (arith, t.next, last-is.word, c.next.height, ap (λ b. (block_at B b).j) later.1),
        )

    -- the turn: what P needs, and what it leaves
    pub committed-turning : Turning last.place (committed c.hand)
    committed-turning =
        let h : InHand m D N x e es vs = c.hand in
        let b : ℕ = later.0 in
        let r = turn-ready h.book c.valid h.arrays h.taken b last_fit (away h) more in
        subst₂ (λ a k. Turning a (commit h.book (away h) h.taken k (own_view h))) (sym last-is.word) (sym later.1)
        (record { has = r.0; upper = r.1; range = r.2 })

    pub turned-upper : Upper last.place (by_p (away c.hand) last.place (committed c.hand))
    turned-upper =
        let h : InHand m D N x e es vs = c.hand in
        let b : ℕ = later.0 in
        let r = down-ready h.book c.valid h.arrays h.taken b last_fit (away h) more in
        subst₂ (λ a k. Upper a (by_p (away h) a (commit h.book (away h) h.taken k (own_view h)))) (sym last-is.word) (sym later.1)
        (record { has = r.0; range = r.1 })

    -- and down by Q
    pub down-seen : (y z : Memory) → Seen m N s y (away c.hand) (by_p (away c.hand) last.place (committed c.hand)) →
        StepSeen m N s y z (Upper last.place) (λ others v. descend others (last.place - at.height) last.place 0 v) →
        Seen m N s z (away c.hand) (reached c.hand)
    unfolding StepSeen
    down-seen y z seen t =
        let h : InHand m D N x e es vs = c.hand in
        let B : Book = h.book in
        let o : List (ℕ → ℕ) = away h in
        let v : View = own_view h in
        let b : ℕ = later.0 in
        subst (λ u. Seen m N s z o u)
        (ap₂ (λ a j. descend o (a - j) a 0 (by_p o a (committed h))) last-is.word c.next.height
        ∙ ap (λ k. descend o (place B b - (block_at B k).j) (place B b) 0 (by_p o (place B b) (commit B o h.taken k v))) later.1
        ∙ sym (down-later B o h.arrays h.taken c.valid b more)
        ∙ ap (down_to B o h.arrays h.taken) (sym later.1))
        (t o (by_p o last.place (committed h)) seen turned-upper)

  -- ---- the array for the word

  pub reached-claimable : Claimable at.height at.place (reached c.hand)
  unfolding Claimable
  reached-claimable = λ q.
      let h : InHand m D N x e es vs = c.hand in
      subst (λ k. 1 ≤ (reached h).ids k) (sym (q ∙ c.next.height))
      (claim-ready h.book c.valid h.arrays h.taken (away h) c.next.within c.fit).0

  -- the memory stands for the state with that view
  pub claimed-stands : (y z : Memory) → m ≤ 9 → Seen m N s y (away c.hand) (reached c.hand) →
      StepSeen m N s y z (Claimable at.height at.place) (λ others v. claim others at.height at.place v) → IdsOnly m s x.rows z.rows →
      let v = next_view c.hand.book (away c.hand) c.hand.arrays c.hand.taken c.hand.taken.blocks in
      Stands c.hand.book D N z (e ∷ es) vs v.arrays (with_ids c.hand.taken v.ids ∷ c.hand.rest)
  unfolding StepSeen
  claimed-stands y z d seen t only =
      let h : InHand m D N x e es vs = c.hand in
      let o : List (ℕ → ℕ) = away h in
      let w : View = next_view h.book o h.arrays h.taken h.taken.blocks in
      let e' : claim o at.height at.place (reached h) ≡ w = ap₂ (λ j k. claim o j k (reached h)) c.next.height c.next.word in
      let sees : Seen m N s z o w = subst (λ u. Seen m N s z o u) e' (t o (reached h) seen reached-claimable) in
      stands-view h.stands (omega (arith, h.deep))
      (subst₂ (λ n k. Seen n N k z o w) (sym h.deep) is sees)
      (subst₂ (λ n k. IdsOnly n k x.rows z.rows) (sym h.deep) is only)

-- from memory x to y, the path in slot s has gone to its next block
pub record Gone (m D N e s : ℕ) (last at : Block) (x y : Memory) : Type 0 where
  pub has : HasArrays m N y
  pub only : IdsOnly m s x.rows y.rows
  pub seen : {es vs : List ℕ} (c : Moving m D N x e es vs last at) → Seen m N s y (away c.hand) (reached c.hand)
