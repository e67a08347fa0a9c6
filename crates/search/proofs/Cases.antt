-- The search's cases, one answer: where all 8 indices are free, or all but the first, the directions of the walk are those of bytes; and what is found
-- among the words of so many settings is what is found in the block, the nearest word or the next after one. By the number of settings. Assumes nothing.
use mathlib.Core.Path.{◌≡◌, sym, ap, ap₂, ◌∙◌, subst}
use mathlib.Core.Bool.{true}
use mathlib.Core.Option.{Option, some}
use native.Mathlib.Omega.{arith}
use lib.ListN.{length, get_or}
use mathlib.Core.List.{List}
use Prim.Native.Nat.{ℕ, ◌+◌, ◌*◌, ◌^◌, ◌<◌}
use native.Mathlib.Nat.{add-zero}
use lib.IntN.{ℤ}
use Rattle.codebook.specs.Book.{Book}
use Rattle.codec.specs.Ties.{Parities}
use Rattle.outer.specs.declared.Candidate.{Candidate}
use Rattle.outer.specs.declared.Pair.{Pair}
use Rattle.outer.specs.declared.Next.{Next}
use Rattle.outer.specs.Words.{Word, nearest, next_after}
use Rattle.outer.specs.Blocks.{parity_set, Bits, BlockTabled, candidate_of, Nexts}
use Rattle.outer.proofs.Nearest.{found-nearest, found-second, found-next, found_after}
use Rattle.outer.specs.Search.{settings, entry, Spans, key_of, setting_key, least_from, answer, found, found_pair}
use Rattle.passes.specs.Pass.{after_first}
use Rattle.passes.proofs.Found.{after-some, after-answer}
use Rattle.short.specs.Short.{Octets}
use Rattle.short.proofs.Classes.{octets-free, octets-checked}

module _ (kinds terms : List ℕ) (start p n free : ℕ) (steps ties : List ℕ) (q : n ≡ 8) (h : 2 ^ free ≡ settings kinds start n) (s : Spans steps ties free (entry kinds terms start p n)) where
  -- so many free indices, of 8
  pub count-of : (k : ℕ) → free ≡ k → settings kinds start 8 ≡ 2 ^ k
  count-of k r = ap (settings kinds start) (sym q) ∙ sym h ∙ ap (λ (i : ℕ). 2 ^ i) r

  spans-of : (k : ℕ) → free ≡ k → Spans steps ties k (entry kinds terms start p 8)
  spans-of k r = subst (λ (i : ℕ). Spans steps ties i (entry kinds terms start p 8)) r (subst (λ (i : ℕ). Spans steps ties free (entry kinds terms start p i)) q s)

  pub all-bytes : free ≡ 8 → Octets 0 256 8 ties (entry kinds terms start p 8)
  all-bytes r = octets-free kinds terms start p steps ties (count-of 8 r) (spans-of 8 r)

  pub some_bytes : free ≡ 7 → (get_or kinds start 0 ≡ 0 → ⊥) → (get_or steps 0 0 < 2) × Octets (128 * get_or steps 0 0) 128 7 ties (entry kinds terms start p 8)
  some_bytes r z = octets-checked kinds terms start (λ e. z (ap (λ (i : ℕ). get_or kinds i 0) (sym (add-zero start)) ∙ e)) p steps ties (count-of 7 r) (spans-of 7 r)

module _ (kinds terms : List ℕ) (start p j n count : ℕ) (vs : List ℤ) (e : n ≡ 2 ^ j) (m : count ≡ settings kinds start n) where
  -- what is found among so many settings
  abbrev among : ℕ → Candidate
  among bound =
      let x = entry kinds terms start p n in
      answer x vs (least_from (setting_key x vs) bound count)

  pub found_among : (bound : ℕ) → among bound ≡ found kinds terms start p (2 ^ j) vs bound
  unfolding found
  found_among bound =
      let x = entry kinds terms start p n in
      ap (λ (i : ℕ). answer x vs (least_from (setting_key x vs) bound i)) m ∙ ap (λ (i : ℕ). found kinds terms start p i vs bound) e

  abbrev both : Candidate → Candidate → Pair
  both a b = record { first = a; second = b }

  pub pair-among : (r : Pair) → r.first ≡ among 0 → r.second ≡ among (key_of r.first.cost r.first.number + 1) → r ≡ found_pair kinds terms start p (2 ^ j) vs
  unfolding found_pair
  pair-among r f g =
      let first = f ∙ found_among 0 in
      ap₂ both first (g ∙ found_among (key_of r.first.cost r.first.number + 1) ∙ ap (λ (c : Candidate). found kinds terms start p (2 ^ j) vs (key_of c.cost c.number + 1)) first)

  pub pair-passed : (r : Pair) → r.first ≡ among 0 → (let x = entry kinds terms start p n in r.second ≡ answer x vs (after_first (setting_key x vs) 0 count)) → r ≡ found_pair kinds terms start p (2 ^ j) vs
  pair-passed r f g =
      let x = entry kinds terms start p n in
      pair-among r f (g ∙ after-answer x vs count ∙ ap (λ (c : Candidate). among (key_of c.cost c.number + 1)) (sym f))

  -- the next after what is found from a bound on, where something is
  pub after-passed : (bound : ℕ) (r s : Candidate) → r ≡ among bound → (let x = entry kinds terms start p n in s ≡ answer x vs (after_first (setting_key x vs) bound count))
      → r.some ≡ true → s ≡ found kinds terms start p (2 ^ j) vs (key_of r.cost r.number + 1)
  unfolding after_first
  after-passed bound r s f g t =
      let x = entry kinds terms start p n in
      g ∙ after-some x vs count (least_from (setting_key x vs) bound count) (ap (λ (c : Candidate). c.some) (sym f) ∙ t)
      ∙ ap (λ (c : Candidate). among (key_of c.cost c.number + 1)) (sym f) ∙ found_among (key_of r.cost r.number + 1)

-- ---- what is found in the block

-- a candidate that is some word
some-found : (B : Book) (w : Word) {r : Candidate} {o : Option Word} → r ≡ candidate_of B o → o ≡ some w → r.some ≡ true
unfolding candidate_of
some-found B w p q = ap (λ (y : Candidate). y.some) (p ∙ ap (candidate_of B) q)

module _ (kinds terms : List ℕ) (start p j : ℕ) (vs : List ℤ) (size : length vs ≡ 2 ^ j) (B : Book) (b : ℕ) (x : Parities) (t : BlockTabled B b kinds terms start j) (h : Bits x) (e : p ≡ parity_set B x) where
  -- the nearest word, and the next after it
  pub pair-nearest : (r : Pair) → r ≡ found_pair kinds terms start p (2 ^ j) vs
      → (r.first ≡ candidate_of B (nearest B vs x b)) × ((w : Word) → nearest B vs x b ≡ some w → r.second ≡ candidate_of B (next_after w B vs x b))
  unfolding found_pair
  pair-nearest r q =
      let s = q ∙ ap (λ i. found_pair kinds terms start i (2 ^ j) vs) e in (
        ap (λ (y : Pair). y.first) s ∙ found-nearest B b kinds terms start j t x h vs size,
        λ w z. ap (λ (y : Pair). y.second) s ∙ found-second B b kinds terms start j t x h vs size w z,
      )

  -- the next word after one with this key and, where it is known, the next after that
  pub next-found : (own : Word) (cost number bound : ℕ) (r : Next) → own.cost ≡ cost → own.number ≡ number → bound ≡ key_of cost number + 1 → number < 4294967296
      → r.first ≡ found kinds terms start p (2 ^ j) vs bound → (r.known ≡ true → r.first.some ≡ true → r.second ≡ found kinds terms start p (2 ^ j) vs (key_of r.first.cost r.first.number + 1))
      → Nexts B vs x b (next_after own B vs x b) r
  next-found own cost number bound r c n l few f g =
      let own-bound : bound ≡ key_of own.cost own.number + 1 = l ∙ ap₂ (λ i k. key_of i k + 1) (sym c) (sym n) in
      let small : own.number < 4294967296 = omega arith in
      let from : ℕ → ℕ → Candidate = λ i k. found kinds terms start i (2 ^ j) vs k in
      let first : r.first ≡ from (parity_set B x) (key_of own.cost own.number + 1) = f ∙ ap₂ from e own-bound in
      let is = first ∙ found-next B b kinds terms start j t x h vs size own small in
      record {
        first = is;
        second = λ k w z.
            g k (some-found B w is z) ∙ ap₂ (λ (i : ℕ) (y : Candidate). from i (key_of y.cost y.number + 1)) e first ∙ found_after B b kinds terms start j t x h vs size own small w z;
      }
