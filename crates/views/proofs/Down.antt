-- Steps one after another: what a view turns into, by two steps, and the way down by Q, height by height. By the laws of the descent (reader).
-- Assumes nothing.
use mathlib.Core.Path.{◌≡◌, sym, ap, ◌∙◌, subst}
use mathlib.Core.List.{List}
use mathlib.Core.Logic.{◌⊎◌, inl, inr}
use Prim.Native.Nat.{ℕ, suc, ◌-◌, ◌≤◌, ◌<◌}
use native.Mathlib.Omega.{arith}
use Rattle.laws.specs.Lists.{All}
use Rattle.laws.proofs.Tests.{lt-or}
use Rattle.polar.specs.Layers.{Within}
use Rattle.reader.specs.Arrays.{View, vals_of, descend, by_q}
use Rattle.reader.proofs.Descent.{descend-none, descend-more, descend-within, descend-has}
use Rattle.standing.specs.Seen.{Memory, Seen, Viewed, StepSeen}
use Rattle.views.specs.Steps.{Upper}

-- the way down from the height `top` to height h
abbrev pub down : ℕ → ℕ → List (ℕ → ℕ) → View → View
down top h others v = descend others (top - h) top 0 v

down-none : (top : ℕ) (others : List (ℕ → ℕ)) (v : View) → v ≡ down top top others v
down-none top others v =
    let e : 0 ≡ top - top = omega arith in
    sym (descend-none others top 0 v) ∙ ap (λ d. descend others d top 0 v) e

-- one height further, by Q
down-more : (top k : ℕ) (others : List (ℕ → ℕ)) (v : View) → suc k ≤ top → by_q others k (down top (suc k) others v) ≡ down top k others v
down-more top k others v l =
    let d : suc (top - suc k) ≡ top - k = omega arith in
    let e : top - suc (top - suc k) ≡ k = omega arith in
    ap (λ n. by_q others n (down top (suc k) others v)) (sym e)
    ∙ sym (descend-more others (top - suc k) top v (omega arith))
    ∙ ap (λ n. descend others n top 0 v) d

-- it leaves an array there, with values within range
pub down-upper : {top h : ℕ} → h ≤ top → (others : List (ℕ → ℕ)) (v : View) → Upper top v → Upper h (down top h others v)
down-upper {top} {h} l others v u =
    record {
      has = go (lt-or h top);
      range = subst (λ (n : ℕ). All (Within 1048064) (vals_of (down top h others v) n)) (omega arith)
          (descend-within others (top - h) top 1048064 v (omega arith) u.range);
    }
  where
    go : (h < top) ⊎ (top ≤ h) → 1 ≤ (down top h others v).ids h
    go (inl a) = descend-has others (top - h) top v h (omega arith) (omega arith) a
    go (inr a) =
        let e : top ≡ h = omega arith in
        subst (λ (n : ℕ). 1 ≤ (down top n others v).ids n) e (subst (λ (w : View). 1 ≤ w.ids top) (down-none top others v) u.has)

module _ (m N s : ℕ) (x : Memory) where
  -- what a step can work on after another step
  pub viewed-on : {y : Memory} {needs needs' : View → Type 0} (step : List (ℕ → ℕ) → View → View) → Viewed m N s x needs →
      StepSeen m N s x y needs step → ((others : List (ℕ → ℕ)) (v : View) → needs v → needs' (step others v)) → Viewed m N s y needs'
  unfolding StepSeen
  viewed-on step w t f =
      let o : List (ℕ → ℕ) = w.others in
      record { others = o; view = step o w.view; seen = t o w.view w.seen w.met; met = f o w.view w.met }

  pub turned_none : (top : ℕ) → StepSeen m N s x x (Upper top) (down top top)
  unfolding StepSeen
  turned_none top = λ others v seen u. subst (λ (w : View). Seen m N s x others w) (down-none top others v) seen

  pub turned_more : (y z : Memory) {top k : ℕ} → suc k ≤ top → StepSeen m N s x y (Upper top) (down top (suc k)) →
      StepSeen m N s y z (Upper (suc k)) (λ others v. by_q others k v) → StepSeen m N s x z (Upper top) (down top k)
  unfolding StepSeen
  turned_more y z {top} {k} l t q = λ others v seen u.
      subst (λ (w : View). Seen m N s z others w) (down-more top k others v l)
      (q others (down top (suc k) others v) (t others v seen u) (down-upper l others v u))
