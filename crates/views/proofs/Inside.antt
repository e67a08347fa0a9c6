-- Bytes that changed within one array's cells alone (`Joined`): then they are the old ones with that array written over, so that the other arrays
-- hold what they held. By the elements before, in and behind the cells. Assumes nothing.
use mathlib.Core.Path.{◌≡◌, refl, sym, ap, ap₂, ◌∙◌}
use mathlib.Core.List.{List, ◌++◌}
use mathlib.Core.Logic.{◌⊎◌, inl, inr, ⊎_elim}
use Prim.Native.Nat.{ℕ, ◌+◌, ◌^◌, ◌≤◌, ◌<◌}
use native.Mathlib.Omega.{arith}
use lib.ListN.{length, get_or, take, drop, length-append, length-drop, take-append-drop}
use lib.Seq.{length-take-le, get_or-take, get_or-drop, take-add, ext_get_or}
use Rattle.polar.specs.Layers.{part, over_at}
use Rattle.polar.proofs.Writes.{part_length, part_at}
use Rattle.reader.specs.Arrays.{store}
use Rattle.heights.specs.Workspace.{spot, Room, Id, Parts}
use Rattle.heights.proofs.Over.{part-over-apart}
use Rattle.heights.proofs.Spots.{spot-room, spots-apart}
use Rattle.heights.proofs.Contents.{parts-written}
use Rattle.views.specs.Steps.{Joined}

-- ---- a list written over

module _ (to : ℕ) (new l : List ℕ) (h : to + length new ≤ length l) where
  over-length : length (over_at to new l) ≡ length l
  unfolding over_at
  over-length = simp (length-append, length-drop) (omega (arith, length-take-le to l (omega arith)))

  -- an element elsewhere
  over-at : (k : ℕ) → (k < to) ⊎ (to + length new ≤ k) → get_or (over_at to new l) k 0 ≡ get_or l k 0
  over-at k o =
      let e : k + 0 ≡ k = omega arith in
      ap (λ n. get_or (over_at to new l) n 0) (sym e)
      ∙ sym (part_at k 1 (over_at to new l) 0 0 (omega arith))
      ∙ ap (λ x. get_or x 0 0) (part-over-apart to new l h k 1 (⊎_elim (λ a. inl (omega arith)) inr o))
      ∙ part_at k 1 l 0 0 (omega arith)
      ∙ ap (λ n. get_or l n 0) e

-- ---- changes within the cells

module _ {m h i : ℕ} where
  pub joined-none : (l : List ℕ) → Joined m h i l l
  joined-none l = record { size = refl; before = λ k b. refl; after = λ k b. refl }

  pub joined-on : (a b : List ℕ) {d : List ℕ} → Joined m h i a b → Joined m h i b d → Joined m h i a d
  joined-on a b p q =
      record { size = q.size ∙ p.size; before = λ k l. q.before k l ∙ p.before k l; after = λ k l. q.after k l ∙ p.after k l }

  -- a write inside them
  pub over-joined : (at : ℕ) (x l : List ℕ) {l' : List ℕ} → l' ≡ over_at at x l → spot m i h ≤ at → at + length x ≤ spot m i h + 2 ^ h →
      spot m i h + 2 ^ h ≤ length l → Joined m h i l l'
  over-joined at x l e a b r =
      record {
        size = ap length e ∙ over-length at x l (omega arith);
        before = λ k c. ap (λ y. get_or y k 0) e ∙ over-at at x l (omega arith) k (inl (omega arith));
        after = λ k c. ap (λ y. get_or y k 0) e ∙ over-at at x l (omega arith) k (inr (omega arith));
      }

  -- the new bytes are the old ones with the cells written over
  module _ (old new : List ℕ) (p : Joined m h i old new) (r : spot m i h + 2 ^ h ≤ length old) where
    front_same : take (spot m i h) new ≡ take (spot m i h) old
    front_same =
        let s = p.size in
        let a = length-take-le (spot m i h) new (omega arith) in
        let b = length-take-le (spot m i h) old (omega arith) in
        ext_get_or 0 (take (spot m i h) new) (take (spot m i h) old) (omega arith)
        (λ k c. get_or-take (spot m i h) new k 0 (omega arith) ∙ p.before k (omega arith) ∙ sym (get_or-take (spot m i h) old k 0 (omega arith)))

    back-same : drop (spot m i h + 2 ^ h) new ≡ drop (spot m i h + 2 ^ h) old
    back-same =
        let s = p.size in
        let n : ℕ = spot m i h + 2 ^ h in
        ext_get_or 0 (drop n new) (drop n old) (omega (arith, length-drop n new, length-drop n old))
        (λ k c. get_or-drop n new k 0 ∙ p.after (n + k) (omega arith) ∙ sym (get_or-drop n old k 0))

    joined-over : new ≡ over_at (spot m i h) (part (spot m i h) (2 ^ h) new) old
    unfolding over_at part
    joined-over =
        let s = p.size in
        let at : ℕ = spot m i h in
        let e : length (part at (2 ^ h) new) ≡ 2 ^ h = part_length at (2 ^ h) new (omega arith) in
        sym (take-append-drop (at + 2 ^ h) new)
        ∙ ap₂ (λ (x y : List ℕ). x ++ y) (take-add at (2 ^ h) new) back-same
        ∙ ap₂ (λ (x : List ℕ) n. x ++ part at (2 ^ h) new ++ drop (at + n) old) front_same (sym e)

module _ {m N h i : ℕ} (g : h ≤ m) (d : Id N i) (old new : List ℕ) (r : Room m N old) (p : Joined m h i old new) where
  pub joined-room : Room m N new
  unfolding Room
  joined-room = let s = p.size in omega (arith, r)

  -- another array holds what it held
  pub joined-apart : {h' i' : ℕ} → h' ≤ m → Id N i' → ((h' ≡ h) × (i' ≡ i) → ⊥) → part (spot m i' h') (2 ^ h') new ≡ part (spot m i' h') (2 ^ h') old
  joined-apart {h'} {i'} g' d' n =
      let q = spot-room g d old r in
      let s = p.size in
      let x : List ℕ = part (spot m i h) (2 ^ h) new in
      let e : length x ≡ 2 ^ h = part_length (spot m i h) (2 ^ h) new (omega arith) in
      ap (part (spot m i' h') (2 ^ h')) (joined-over old new p q)
      ∙ part-over-apart (spot m i h) x old (omega arith) (spot m i' h') (2 ^ h')
      (⊎_elim (λ o. inl o) (λ o. inr (omega arith)) (spots-apart g' d' g d n))

  -- and so the contents are those with that array stored
  pub joined-parts : (f : ℕ → ℕ → List ℕ) → Parts m N old f → {x : List ℕ} → part (spot m i h) (2 ^ h) new ≡ x → Parts m N new (store f h i x)
  joined-parts f c e =
      let q = spot-room g d old r in
      let s = p.size in
      parts-written old f c r g d (joined-over old new p q) refl e (ap length (sym e) ∙ part_length (spot m i h) (2 ^ h) new (omega arith))
