-- What the next block of a path needs, as the code goes to it: the last word goes into the sums, the values are computed down from the turn, or
-- from the root for the first block, and an array is taken for the new word. Every array that is read is there, with values within range and
-- sums of bits. From the path's being fit, by the laws of the descent. Assumes nothing.
use mathlib.Core.Path.{◌≡◌, refl, sym, ap, ◌∙◌, subst}
use mathlib.Core.List.{List, [], ◌∷◌}
use Prim.Native.Nat.{ℕ, zero, suc, ◌-◌, ◌^◌, ◌≤◌, ◌<◌}
use native.Mathlib.Omega.{arith}
use lib.ListN.{length}
use lib.IntN.{ℤ}
use Rattle.laws.specs.Lists.{All}
use Rattle.polar.specs.Bits.{Bit, to_bits}
use Rattle.polar.specs.Layers.{Within}
use Rattle.polar.proofs.Bits.{to_bits-bits}
use Rattle.polar.proofs.Transform.{transform-length, transform-bits}
use Rattle.codebook.specs.Book.{Book, Kind, free, frozen, tied, free_count, start_of, block_at, kinds_of}
use Rattle.codebook.specs.Limits.{Valid}
use Rattle.codec.specs.Ties.{Parities, absorb, push, fill_from, fill_block}
use Rattle.outer.specs.Blocks.{Bits}
use Rattle.outer.proofs.Blocks.{Placed, placed}
use Rattle.outer.proofs.Parities.{absorb-bits}
use Rattle.reader.specs.Arrays.{Arrays, View, vals_of, sums_of, writes, put_sums, descend, joined, by_p}
use Rattle.reader.specs.Paths.{Path, last_word, place, view_of}
use Rattle.reader.specs.Reader.{commit, down_to, next_view}
use Rattle.reader.specs.Fit.{Fit, FitFor}
use Rattle.reader.specs.Reached.{Rooted}
use Rattle.reader.proofs.Upd.{upd_other}
use Rattle.reader.proofs.Arrays.{vals-lost, claim-own}
use Rattle.reader.proofs.Descent.{put-vals, put_has, turn-within, descend-within, descend-turn, TurnAt, turn-place, place-most}
use Rattle.reader.proofs.Rooted.{claim-has, commit-has, down-has}

-- ---- the bits of a block

fill-size : (B : Book) (x : Parities) (k : ℕ) (ks : List Kind) (ds : List ℕ) → length (fill_from B x k ks ds).bits ≡ length ks
unfolding fill_from push
fill-size B x k [] ds = refl
fill-size B x k (free ∷ ks) [] = ap suc (fill-size B (absorb B k 0 x) (suc k) ks [])
fill-size B x k (free ∷ ks) (d ∷ ds) = ap suc (fill-size B (absorb B k d x) (suc k) ks ds)
fill-size B x k (frozen ∷ ks) ds = ap suc (fill-size B (absorb B k 0 x) (suc k) ks ds)
fill-size B x k (tied ts ∷ ks) ds = ap suc (fill-size B (absorb B k (x k) x) (suc k) ks ds)

fill-bits : (B : Book) (x : Parities) (k : ℕ) (ks : List Kind) (ds : List ℕ) → Bits x → All Bit ds → All Bit (fill_from B x k ks ds).bits
unfolding fill_from push All
fill-bits B x k [] ds h g = tt
fill-bits B x k (free ∷ ks) [] h g = (omega arith, fill-bits B (absorb B k 0 x) (suc k) ks [] (absorb-bits B k 0 x) tt)
fill-bits B x k (free ∷ ks) (d ∷ ds) h g = (g.0, fill-bits B (absorb B k d x) (suc k) ks ds (absorb-bits B k d x) g.1)
fill-bits B x k (frozen ∷ ks) ds h g = (omega arith, fill-bits B (absorb B k 0 x) (suc k) ks ds (absorb-bits B k 0 x) g)
fill-bits B x k (tied ts ∷ ks) ds h g = (h k, fill-bits B (absorb B k (x k) x) (suc k) ks ds (absorb-bits B k (x k) x) g)

module _ (B : Book) (ok : Valid B) (b : ℕ) (l : b < length B.blocks) (x : Parities) (w : ℕ) where
  pub filled-length : length (fill_block B x b w).bits ≡ 2 ^ (block_at B b).j
  unfolding fill_block
  filled-length = fill-size B x (start_of B.blocks b) (kinds_of B b) (to_bits (free_count (kinds_of B b)) w) ∙ (placed B ok b l).size

  pub filled-bits : Bits x → All Bit (fill_block B x b w).bits
  unfolding fill_block
  filled-bits h =
      fill-bits B x (start_of B.blocks b) (kinds_of B b) (to_bits (free_count (kinds_of B b)) w) h (to_bits-bits (free_count (kinds_of B b)) w)

-- ---- where the path has arrays, by its being fit

fit_has : (B : Book) (A : Arrays) (p : Path) (b : ℕ) → Valid B → p.blocks ≡ b → FitFor B A p b → Rooted B p
unfolding FitFor
fit_has B A p zero ok e f = record { root = f.has; has = λ d q. absurd (omega arith) }
fit_has B A p (suc b) ok e f =
    let o : Placed B b = placed B ok b f.within in
    record {
      root = f.has B.m (omega (arith, o.small)) (omega arith);
      has = λ d q h x y.
          let i : b ≡ d = omega arith in
          f.has h (subst (λ (n : ℕ). (block_at B n).j ≤ h) (sym i) x) y;
    }

module _ (B : Book) (ok : Valid B) (A : Arrays) (p : Path) where
  -- ---- the last block b

  module _ (b : ℕ) (f : Fit B A p b) where
    -- its word
    pub last-bits : (length (last_word B p b) ≡ 2 ^ (block_at B b).j) × All Bit (last_word B p b)
    unfolding last_word
    last-bits =
        let j : ℕ = (block_at B b).j in
        let l : List ℕ = (fill_block B p.earlier b p.setting).bits in (
          transform-length j l (filled-length B ok b f.within p.earlier p.setting),
          transform-bits j l (filled-bits B ok b f.within p.earlier p.setting f.earlier),
        )

    -- the sums that it is joined with
    pub join-ready : (k : ℕ) → (block_at B b).j ≤ k → k < place B b → (1 ≤ p.ids k) × All Bit (sums_of (view_of A p) k)
    join-ready k x y = (f.has k x (omega (arith, place-most B ok b f.within)), f.sums k x y)

    module _ (others : List (ℕ → ℕ)) (l : suc b < length B.blocks) where
      -- once it is in the sums: the turn, and the values above
      pub turn-ready : let v = commit B others p (suc b) (view_of A p) in
          (1 ≤ v.ids (place B b)) × (1 ≤ v.ids (suc (place B b))) × All (Within 524032) (vals_of v (suc (place B b)))
      unfolding commit
      turn-ready =
          let a : ℕ = place B b in
          let j : ℕ = (block_at B b).j in
          let t : TurnAt B b = turn-place B ok b l in
          let v : View = view_of A p in
          let w : List ℕ = joined (sums_of v) j (a - j) (last_word B p b) in
          let lost : List ℤ = v.arrays.vals a (writes others a v) in
          let e : vals_of (put_sums others a w v) (suc a) ≡ vals_of v (suc a) =
          ap (λ S. S (suc a)) (vals-lost others a v w) ∙ upd_other (vals_of v) a lost (suc a) (λ z. omega arith) in (
            commit-has B others p (suc b) v a (f.has a t.own (omega (arith, t.less))),
            commit-has B others p (suc b) v (suc a) (f.has (suc a) (omega (arith, t.own)) (omega (arith, t.less))),
            subst (All (Within 524032)) (sym e) (f.above t.less),
          )

      -- and once P is done there
      pub down-ready : let v = by_p others (place B b) (commit B others p (suc b) (view_of A p)) in
          (1 ≤ v.ids (place B b)) × All (Within 1048064) (vals_of v (place B b))
      down-ready =
          let a : ℕ = place B b in
          let v : View = commit B others p (suc b) (view_of A p) in (
            put_has others a _ v,
            subst (All (Within 1048064)) (sym (put-vals others a _ v)) (turn-within 524032 (2 ^ a) (sums_of v a) (vals_of v (suc a)) turn-ready.2),
          )

-- ---- the views, as the code makes them

module _ (B : Book) (others : List (ℕ → ℕ)) (p : Path) (v : View) where
  -- the last word, by any list that is its bits
  pub commit-word : (b : ℕ) (w : List ℕ) → w ≡ last_word B p b →
      put_sums others (place B b) (joined (sums_of v) (block_at B b).j (place B b - (block_at B b).j) w) v ≡ commit B others p (suc b) v
  unfolding commit
  commit-word b w e = ap (λ x. put_sums others (place B b) (joined (sums_of v) (block_at B b).j (place B b - (block_at B b).j) x) v) e

-- the way to the first block, and to a later one
module _ (B : Book) (others : List (ℕ → ℕ)) (A : Arrays) (p : Path) where
  pub down-first : down_to B others A p 0 ≡ descend others (B.m - (block_at B 0).j) B.m 0 (view_of A p)
  unfolding commit start_of
  down-first = refl

  pub down-later : Valid B → (b : ℕ) → suc b < length B.blocks →
      down_to B others A p (suc b)
      ≡ descend others (place B b - (block_at B (suc b)).j) (place B b) 0 (by_p others (place B b) (commit B others p (suc b) (view_of A p)))
  down-later ok b l =
      let t : TurnAt B b = turn-place B ok b l in
      let m : ℕ = B.m in
      let j : ℕ = (block_at B (suc b)).j in
      let s : ℕ = start_of B.blocks (suc b) in
      let v₁ : View = commit B others p (suc b) (view_of A p) in
      subst (λ (a : ℕ). descend others (m - j) m s v₁ ≡ descend others (a - j) a 0 (by_p others a v₁)) t.at
      (descend-turn others m s j v₁ t.after t.inside (omega (arith, t.next, t.at)))

-- ---- the next block

module _ (B : Book) (ok : Valid B) (A : Arrays) (p : Path) (others : List (ℕ → ℕ)) where
  down-within : (b : ℕ) → b < length B.blocks → FitFor B A p b → All (Within 1048064) (vals_of (down_to B others A p b) (block_at B b).j)
  unfolding FitFor
  down-within zero l f =
      let o : Placed B 0 = placed B ok 0 l in
      let m : ℕ = B.m in
      let j : ℕ = (block_at B 0).j in
      let v : View = view_of A p in
      let e : m - (m - j) ≡ j = omega (arith, o.small) in
      subst (λ (x : View). All (Within 1048064) (vals_of x j)) (sym (down-first B others A p))
      (subst (λ (h : ℕ). All (Within 1048064) (vals_of (descend others (m - j) m 0 v) h)) e
      (descend-within others (m - j) m 1048064 v (omega arith) f.root))
  down-within (suc b) l f =
      let t : TurnAt B b = turn-place B ok b l in
      let a : ℕ = place B b in
      let j : ℕ = (block_at B (suc b)).j in
      let v : View = by_p others a (commit B others p (suc b) (view_of A p)) in
      let e : a - (a - j) ≡ j = omega (arith, t.next) in
      subst (λ (x : View). All (Within 1048064) (vals_of x j)) (sym (down-later B others A p ok b l))
      (subst (λ (h : ℕ). All (Within 1048064) (vals_of (descend others (a - j) a 0 v) h)) e
      (descend-within others (a - j) a 1048064 v (omega arith) (down-ready B ok A p b f others l).1))

  module _ (l : p.blocks < length B.blocks) (f : FitFor B A p p.blocks) where
    -- before the claim, and after it
    pub claim-ready : let b = p.blocks in
        let v = down_to B others A p b in
        (1 ≤ v.ids (block_at B b).j) × All (Within 1048064) (vals_of v (block_at B b).j)
    claim-ready =
        let b : ℕ = p.blocks in
        let o : Placed B b = placed B ok b l in (
          down-has B ok others A p b refl l (fit_has B A p b ok refl f) (block_at B b).j (omega arith) (omega (arith, o.small)),
          down-within b l f,
        )

    pub next-ready : let b = p.blocks in
        let v = next_view B others A p b in
        (1 ≤ v.ids (block_at B b).j) × All (Within 1048064) (vals_of v (block_at B b).j)
    next-ready =
        let b : ℕ = p.blocks in
        let j : ℕ = (block_at B b).j in
        let v : View = down_to B others A p b in (
          claim-has others (place B b) v j claim-ready.0 j,
          subst (All (Within 1048064)) (sym (claim-own others (place B b) v j)) claim-ready.1,
        )
