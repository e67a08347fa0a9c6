-- A queued path is fit for its next extraction: values within range since they are a node's, sums of bits since they are words of the path's
-- bits, a total within range since it is the path's costs. And it stays so while others write. Assumes nothing.
use mathlib.Core.Path.{◌≡◌, refl, sym, ap, ◌∙◌, subst}
use mathlib.Core.List.{List, ◌∷◌}
use mathlib.Core.Logic.{◌⊎◌, inl, inr}
use mathlib.Core.Option.{Option, none, some}
use Prim.Native.Nat.{ℕ, zero, suc, ◌+◌, ◌-◌, ◌*◌, ◌^◌, ◌≤◌, ◌<◌}
use native.Mathlib.Nat.{two-pow-succ}
use native.Mathlib.Omega.{arith}
use lib.ListN.{length, take}
use lib.Pow.{pow_pos, pow_mono}
use lib.IntN.{ℤ}
use Rattle.laws.specs.Lists.{All}
use Rattle.laws.proofs.Tests.{lt-or}
use Rattle.laws.proofs.Lists.{all_take}
use Rattle.polar.specs.Bits.{Bit}
use Rattle.polar.specs.Node.{rest, rest_bits, node}
use Rattle.polar.specs.Layers.{Within}
use Rattle.polar.proofs.Transform.{transform-bits}
use Rattle.polar.proofs.Node.{rest-low, rest-high, rest-less, rest-bits, Starts, starts-fits}
use Rattle.polar.proofs.Ranges.{costs-le, within_more, node-within, node-range}
use Rattle.codebook.specs.Book.{Book, start_of, block_at}
use Rattle.codebook.specs.Limits.{Valid}
use Rattle.codec.specs.Ties.{Parities, parities_of}
use Rattle.codec.proofs.Ties.{parities-bits}
use Rattle.outer.specs.Blocks.{Bits}
use Rattle.outer.specs.Words.{Word}
use Rattle.outer.proofs.Blocks.{Placed, placed}
use Rattle.queue.specs.Queue.{room_for}
use Rattle.machine.specs.Machine as M
use Rattle.reader.specs.Arrays.{Arrays, View, vals_of, sums_of, turn}
use Rattle.reader.specs.Paths.{Path, place, ids_of, view_of}
use Rattle.reader.specs.Reader.{copy_with, copy}
use Rattle.reader.specs.Fit.{FitFor}
use Rattle.reader.specs.Reached.{Vals, Sums, Inv, StandsFor, Rooted}
use Rattle.reader.proofs.Tree.{vals-node, turn_low, turn-high, turn-past, root-starts}
use Rattle.reader.proofs.Arrays.{Sees, sees-same, claim-kept}
use Rattle.reader.proofs.Good.{PathSized, sized}
use Rattle.reader.proofs.Descent.{place-own}

-- ---- the values of the nodes on the way

vals-less : (d e m : ℕ) (ys : List ℤ) (u : List ℕ) (t : ℕ) (S : ℕ → List ℤ) → e ≤ d → Vals d m ys u t S → Vals e m ys u t S
unfolding Vals
vals-less d zero m ys u t S l h = tt
vals-less zero (suc e) m ys u t S l h = absurd (omega arith)
vals-less (suc d) (suc e) zero ys u t S l h = tt
vals-less (suc d) (suc e) (suc m) ys u t S l h = (h.0, vals-less d e m _ _ _ S (omega arith) h.1)

-- ---- the sums that a block's word is joined with

-- a block of height j ends at t, inside the node: the sums from j to the turn of t are bits; or with the node: all from j on are
abbrev JoinBits : ℕ → ℕ → ℕ → (ℕ → List ℕ) → Type 0
JoinBits j m t C =
    (t < 2 ^ m → (k : ℕ) → j ≤ k → k < turn m t → All Bit (C k)) × (t ≡ 2 ^ m → (k : ℕ) → j ≤ k → k < m → All Bit (C k))

sums-bits : (d j m : ℕ) (u : List ℕ) (s t : ℕ) (C : ℕ → List ℕ) → m ≡ d + j → Starts d m s → t ≡ s + 2 ^ j → All Bit u → Sums m u s C →
    JoinBits j m t C
unfolding Sums Starts
sums-bits zero j m u s t C e a f b q =
    let r : 2 ^ j ≡ 2 ^ m = ap (λ n. 2 ^ n) (omega arith) in
    (λ l k x y. absurd (omega arith), λ l k x y. absurd (omega arith))
sums-bits (suc d) j zero u s t C e a f b q = absurd a
sums-bits (suc d) j (suc m) u s t C e a f b q =
    go (lt-or s (2 ^ m)) (λ t' g. sums-bits d j m (rest_bits m s u) (rest m s) t' C (omega arith) a g (rest-bits m s u b) q.1)
  where
    fit : rest m s + 2 ^ j ≤ 2 ^ m
    fit = starts-fits d j m (rest m s) (omega arith) a

    -- in the first half: the block ends inside it, or with it
    low : s < 2 ^ m → (t < 2 ^ m) ⊎ (2 ^ m ≤ t) → JoinBits j m t C → (k : ℕ) → j ≤ k → k < turn (suc m) t → All Bit (C k)
    low x (inl y) h k g l = h.0 y k g (omega (arith, turn_low m t y))
    low x (inr y) h k g l =
        let z : rest m t ≡ 0 = rest-high m t y ∙ omega (arith, fit, rest-low m s x) in
        h.1 (omega (arith, fit, rest-low m s x)) k g (omega (arith, turn-high m t y z))

    -- with the last half
    last : 2 ^ m ≤ s → t ≡ 2 ^ suc m → JoinBits j m (rest m t) C → (k : ℕ) → j ≤ k → k < suc m → (k < m) ⊎ (m ≤ k) → All Bit (C k)
    last x y h k g l (inl z) = h.1 (omega (arith, rest-high m t (omega (arith, pow_pos j)), two-pow-succ m)) k g z
    last x y h k g l (inr z) =
        let i : m ≡ k = omega arith in
        subst (λ (n : ℕ). All Bit (C n)) i (subst (All Bit) (sym (q.0 x)) (transform-bits m (take (2 ^ m) u) (all_take Bit (2 ^ m) u b)))

    go : (s < 2 ^ m) ⊎ (2 ^ m ≤ s) → ((t' : ℕ) → t' ≡ rest m s + 2 ^ j → JoinBits j m t' C) →
        JoinBits j (suc m) t C
    go (inl x) ih = (
      λ l. low x (lt-or t (2 ^ m)) (ih t (omega (arith, rest-low m s x))),
      λ l. absurd (omega (arith, fit, rest-low m s x, two-pow-succ m, pow_pos m)),
    )
    go (inr x) ih =
        let le : 2 ^ m ≤ t = omega arith in
        let r : rest m t ≡ rest m s + 2 ^ j = omega (arith, rest-high m t le, rest-high m s x) in
        let h : JoinBits j m (rest m t) C = ih (rest m t) r in
        let n : rest m t ≡ 0 → ⊥ = λ z. omega (arith, pow_pos j) in (
          λ l k g y. h.0 (rest-less m t l) k g (omega (arith, turn-past m t n)),
          λ l k g y. last x l h k g y (lt-or k m),
        )

-- ---- fit for the next extraction

module _ (B : Book) (ys : List ℤ) (ok : Valid B) (ly : length ys ≡ 2 ^ B.m) (w : All (Within 2047) ys) where
  total-range : (u : List ℕ) (p : Path) (b : ℕ) → PathSized B ys u p b → length u ≤ 2 ^ B.m → p.spent + p.cost ≤ 1048064
  total-range u p b z l =
      let k : 2 ^ B.m ≤ 2 ^ 9 = pow_mono ok.high in
      omega (arith, z.total, costs-le B.m 2047 ys u ly l z.bits w)

  -- the values of a node at most eight steps below the root are within half the range
  lower-range : (d : ℕ) (u : List ℕ) (t : ℕ) → d ≤ 8 → All (Within 524032) (node d B.m ys u t)
  lower-range d u t l =
      let p : 2 ^ d ≤ 2 ^ 8 = pow_mono l in
      within_more (2 ^ d * 2047) 524032 (node d B.m ys u t) (omega arith) (node-within d B.m 2047 ys u t w)

  module _ (A : Arrays) (u : List ℕ) (p : Path) (r : Rooted B p) (f : p.parities ≡ parities_of B u) where
    bits_of : (x : Parities) (v : List ℕ) → x ≡ parities_of B v → Bits x
    bits_of x v e = subst Bits (sym e) (parities-bits B v)

    fit-inv : (b : ℕ) → p.blocks ≡ b → Inv B ys (view_of A p) u p b → FitFor B A p b
    unfolding Inv FitFor place
    fit-inv zero e h =
        record {
          has = r.root;
          root = subst (All (Within 1048064)) (sym h.root) (within_more 2047 1048064 ys (omega arith) w);
          spent = h.spent;
          cost = h.cost;
          parities = bits_of p.parities u f;
        }
    fit-inv (suc b) e h =
        let o : Placed B b = placed B ok b h.within in
        let m : ℕ = B.m in
        let j : ℕ = (block_at B b).j in
        let s : ℕ = start_of B.blocks b in
        let c : ℕ = place B b in
        let v : View = view_of A p in
        record {
          within = h.within;
          has = r.has b e;
          own =
              subst (All (Within 1048064)) (sym (h.own ∙ vals-node (m - j) j m ys u s h.way o.small h.root h.vals))
              (node-range (m - j) m ys u s (omega arith) ok.high w);
          above = λ l.
              let i : ℕ = suc c in
              let up : j ≤ c = place-own B ok b h.within in
              let at : vals_of v i ≡ node (m - i) m ys u s =
              h.same i (λ z. omega arith)
              ∙ vals-node (m - i) i m ys u s h.way (omega arith) h.root (vals-less (m - j) (m - i) m ys u s h.way (omega arith) h.vals) in
              subst (All (Within 524032)) (sym at) (lower-range (m - i) u s (omega (arith, ok.high)));
          sums =
              (sums-bits (suc (m - j)) j (suc m) u s (s + 2 ^ j) (sums_of v) (omega (arith, o.small))
              (root-starts (m - j) j m s o.small o.starts) refl h.bits h.sums).0
              (omega (arith, (ok.blocks b h.within).within, two-pow-succ m, pow_pos m));
          total = total-range u p (suc b) (sized B ys v u p ok (suc b) h) (omega (arith, h.size, (ok.blocks b h.within).within));
          earlier = bits_of p.earlier (take s u) h.earlier;
          parities = bits_of p.parities u f;
        }

  pub fit_of : (A : Arrays) (q : M.Path) (p : Path) → StandsFor B ys A q p → Rooted B p → FitFor B A p p.blocks
  fit_of A q p h r = fit-inv A q.bits p r h.holds.parities p.blocks refl h.holds.inv

-- ---- the frame: a path that sees what it saw is as fit as it was

pub fit-frame : (B : Book) (A A' : Arrays) (p : Path) (b : ℕ) → Sees A A' p.ids → FitFor B A p b → FitFor B A' p b
unfolding FitFor
fit-frame B A A' p zero e h =
    record {
      has = h.has;
      root = subst (λ S. All (Within 1048064) (S B.m)) (sym e.vals) h.root;
      spent = h.spent;
      cost = h.cost;
      parities = h.parities;
    }
fit-frame B A A' p (suc b) e h =
    record {
      within = h.within;
      has = h.has;
      own = subst (λ S. All (Within 1048064) (S (block_at B b).j)) (sym e.vals) h.own;
      above = λ l. subst (λ S. All (Within 524032) (S (suc (place B b)))) (sym e.vals) (h.above l);
      sums = λ k x y. subst (λ S. All Bit (S k)) (sym e.sums) (h.sums k x y);
      total = h.total;
      earlier = h.earlier;
      parities = h.parities;
    }

-- so the path taken is after its copy is made
module _ (B : Book) (D : ℕ) (A : Arrays) (p : Path) (ps : List Path) (n : ℕ) where
  copy_with-sees : (b : ℕ) (o : Option Word) → Sees A (copy_with B D A p b ps n o).arrays p.ids
  unfolding copy_with All
  copy_with-sees b none = sees-same A p.ids
  copy_with-sees b (some x) = (claim-kept (p.ids ∷ ids_of (room_for D ps)) (place B b) (view_of A p) (block_at B b).j).0

  pub copy-sees : (b : ℕ) → Sees A (copy B D A p ps n b).arrays p.ids
  unfolding copy
  copy-sees zero = sees-same A p.ids
  copy-sees (suc b) = copy_with-sees b _

  pub fit-copied : (b : ℕ) → FitFor B A p b → FitFor B (copy B D A p ps n b).arrays p b
  fit-copied b h = fit-frame B A (copy B D A p ps n b).arrays p b (copy-sees b) h
