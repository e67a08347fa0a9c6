-- What the pass over a block's words finds are the words of least keys: its keys are those of the entries, and a key holds the cost and the
-- number of its word. Assumes nothing.
use mathlib.Core.Path.{◌≡◌, refl, ap, ◌∙◌}
use mathlib.Core.Bool.{true, false≢true}
use mathlib.Core.List.{List}
use mathlib.Core.Option.{Option, none, some}
use Prim.Native.Nat.{ℕ, zero, suc, ◌+◌, ◌/◌, ◌%◌, ◌≤◌, ◌<◌}
use native.Mathlib.Omega.{arith}
use lib.IntN.{ℤ}
use lib.ListN.{length, get_or}
use borrow.Author.Tests.{ne_eqb}
use Rattle.laws.specs.Lists.{All, May}
use Rattle.polar.specs.Layers.{Within}
use Rattle.machine.specs.Choice.{first_of}
use Rattle.passes.specs.declared.Two.{Two}
use Rattle.outer.specs.Search.{Entry, spread, Spans, cost_of, picked, Costs, key_of, least_from, answer, setting_key}
use Rattle.passes.specs.Pass.{above, after_first, found_key, found_setting, two_of, two_least, summed_key, chosen}
use Rattle.outer.proofs.Sums.{cost-bound, picked-costs}
use Rattle.outer.proofs.Least.{least-below, least-same, Chosen, least-chosen}
use Rattle.passes.proofs.LeastTwo.{after-below, after_same}

module _ (words ds sets sums : List ℕ) (free count runs : ℕ) (e : ℕ → Entry) (vs : List ℤ) (s : Spans ds sets free e)
    (d : (w : ℕ) → w < count → get_or words w 0 ≡ spread ds 0 free w) (c : Costs sums runs vs) (l : (w : ℕ) → (e w).word < 4294967296) (a : All (Within 1048064) vs) (i : length vs ≤ 32) where
  -- the key by the tables
  f : ℕ → ℕ
  f = summed_key sums runs words

  f-is : (w : ℕ) → w < count → f w ≡ setting_key e vs w
  unfolding f summed_key setting_key Spans
  f-is w m = ap (λ x. key_of (picked sums 0 runs x) x) (d w m ∙ (s w).0) ∙ ap (λ x. key_of x (e w).word) (picked-costs c (e w).word)

  chosen-answer : (o : Option ℕ) → May (λ (w : ℕ). w < count) o → chosen sets free (found_key f o) (found_setting o) ≡ answer e vs o
  unfolding chosen found_key found_setting answer May key_of setting_key Spans
  chosen-answer none m = refl
  chosen-answer (some w) m =
      let near : cost_of (e w).word vs < 4294967295 = omega (arith, cost-bound (e w).word vs a) in
      let cost : f w / 4294967296 ≡ cost_of (e w).word vs = omega (arith, f-is w m, l w) in
      let number : f w % 4294967296 ≡ (e w).word = omega (arith, f-is w m, l w) in
      rw (ne_eqb (f w) 18446744073709551615 (λ q. omega (arith, f-is w m, l w)), cost, number, (s w).1)

  module _ (bound : ℕ) (two : Two) (q : two ≡ two_least (summed_key sums runs words) bound count) where
    first : chosen sets free two.first two.at ≡ answer e vs (least_from (setting_key e vs) bound count)
    unfolding two_least two_of f
    first =
        ap (λ (x : Two). chosen sets free x.first x.at) q
        ∙ chosen-answer (least_from f bound count) (least-below f bound count)
        ∙ ap (answer e vs) (least-same f (setting_key e vs) bound count f-is)

    second : chosen sets free two.second two.next ≡ answer e vs (after_first (setting_key e vs) bound count)
    unfolding two_least two_of f
    second =
        ap (λ (x : Two). chosen sets free x.second x.next) q
        ∙ chosen-answer (after_first f bound count) (after-below f bound count)
        ∙ ap (answer e vs) (after_same f (setting_key e vs) bound count f-is)

    pub answers : (chosen sets free two.first two.at ≡ answer e vs (least_from (setting_key e vs) bound count))
        × (chosen sets free two.second two.next ≡ answer e vs (after_first (setting_key e vs) bound count))
    answers = (first, second)

-- the second word found is the first after the first word's key, where there is a first
pub after-some : (e : ℕ → Entry) (vs : List ℤ) (n : ℕ) (o : Option ℕ) → (answer e vs o).some ≡ true
    → answer e vs (above (setting_key e vs) n o) ≡ answer e vs (least_from (setting_key e vs) (key_of (answer e vs o).cost (answer e vs o).number + 1) n)
unfolding above answer setting_key
after-some e vs n none q = absurd (false≢true q)
after-some e vs n (some w) q = refl

-- from the bound 0 on there is one, unless there are no words
pub after-answer : (e : ℕ → Entry) (vs : List ℤ) (n : ℕ)
    → let a = answer e vs (least_from (setting_key e vs) 0 n) in
    answer e vs (after_first (setting_key e vs) 0 n) ≡ answer e vs (least_from (setting_key e vs) (key_of a.cost a.number + 1) n)
unfolding after_first above answer setting_key least_from first_of
after-answer e vs n = go n (least_from k 0 n) (least-chosen k 0 n)
  where
    k : ℕ → ℕ
    k = setting_key e vs

    go : (m : ℕ) (o : Option ℕ) → Chosen k 0 m o → answer e vs (above k m o) ≡ answer e vs (least_from k (key_of (answer e vs o).cost (answer e vs o).number + 1) m)
    go zero none h = refl
    go (suc m) none h = absurd (omega (arith, h 0 (omega arith)))
    go m (some w) h = after-some e vs m (some w) refl
