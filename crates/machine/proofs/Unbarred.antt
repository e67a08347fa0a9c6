-- Lists of tests, and what is known where nothing bars a call: its settings are in their ranges, its lengths are right, its values in range. Assumes nothing.
use mathlib.Core.Path.{◌≡◌}
use mathlib.Core.Bool.{Bool, true, false}
use mathlib.Core.List.{List, [], ◌∷◌}
use mathlib.Core.Option.{Option, none}
use Prim.Native.Nat.{ℕ, ◌≤◌}
use native.Mathlib.Omega.{arith}
use lib.IntN.{ℤ}
use lib.Dec.{T}
use Rattle.laws.specs.Lists.{All, May}
use Rattle.laws.proofs.Tells.{Tells, tells-le, tells-eq, both, restated}
use Rattle.codebook.specs.declared.Refusal.{Refusal}
use Rattle.codebook.specs.declared.Shape.{Shape}
use Rattle.codebook.specs.Refusals.{unless}
use Rattle.codebook.proofs.Refused.{unless-may}
use Rattle.settings.specs.declared.Settings.{Settings}
use Rattle.settings.specs.Settings.{Ranged}
use Rattle.settings.proofs.Ranges.{settings-tell}
use Rattle.machine.specs.declared.Manner.{Manner}
use Rattle.machine.specs.declared.Lengths.{Lengths}
use Rattle.machine.specs.Calls.{Test, first_failed, numbers_needed, bytes_needed, walk_needed, lengths_ok, beside_ok, holds, values_ok, tests_before}

-- ---- lists of tests

-- where none is not passed, each is
first-passed : {A : Type 0} (b : Bool) (r : Refusal) (o : Option Refusal) → (o ≡ none → A) → unless b r o ≡ none → T b × A
unfolding unless
first-passed true r o f e = (tt, f e)
first-passed false r o f e = let z : ◌≡◌ {A = ℕ} 0 1 = cc in absurd (omega arith)

pub all-passed : (ts : List Test) → first_failed ts ≡ none → All (λ (t : Test). T t.passed) ts
unfolding first_failed All
all-passed [] e = tt
all-passed (t ∷ ts) e = first-passed t.passed t.refusal (first_failed ts) (all-passed ts) e

-- what holds of each test's refusal holds of the one that there is
pub failed-may : (P : Refusal → Type 0) (ts : List Test) → All (λ (t : Test). P t.refusal) ts → May P (first_failed ts)
unfolding first_failed All May
failed-may P [] h = tt
failed-may P (t ∷ ts) h = unless-may P t.passed t.refusal (first_failed ts) h.0 (failed-may P ts h.1)

-- ---- the lengths

-- each is right
pub record LengthsRight (x : Shape) (s : Settings) (l : Lengths) : Type 0 where
  pub values : l.values ≡ x.n
  pub word : l.word ≡ x.n
  pub bits : l.bits ≡ x.k
  pub numbers : numbers_needed x s ≤ l.numbers
  pub bytes : bytes_needed x s ≤ l.bytes
  pub paths : walk_needed x s ≤ l.paths
  pub blocks : walk_needed x s ≤ l.blocks
  pub scores : walk_needed x s ≤ l.scores

pub lengths-tell : (x : Shape) (s : Settings) (l : Lengths) → Tells (lengths_ok x s l) (LengthsRight x s l)
unfolding lengths_ok
lengths-tell x s l =
    let exact = both (both (tells-eq l.values x.n) (tells-eq l.word x.n)) (tells-eq l.bits x.k) in
    let roomy = both (both exact (tells-le (numbers_needed x s) l.numbers)) (tells-le (bytes_needed x s) l.bytes) in
    let w = walk_needed x s in
    restated (both (both (both roomy (tells-le w l.paths)) (tells-le w l.blocks)) (tells-le w l.scores))
    (λ p.
    let q = p.0.0.0 in
    record {
      values = q.0.0.0.0;
      word = q.0.0.0.1;
      bits = q.0.0.1;
      numbers = q.0.1;
      bytes = q.1;
      paths = p.0.0.1;
      blocks = p.0.1;
      scores = p.1;
    })
    (λ r. (((((((r.values, r.word), r.bits), r.numbers), r.bytes), r.paths), r.blocks), r.scores))

-- ---- nothing bars a call

pub record Free (k : Manner) (x : Shape) (s : Settings) (l : Lengths) (ys : List ℤ) : Type 0 where
  pub ranged : Ranged s
  pub held : T (holds k.reads x)
  pub sized : LengthsRight x s l
  pub beside : T (beside_ok k x s)
  pub valued : T (values_ok ys)

pub nothing-bars : (k : Manner) (x : Shape) (s : Settings) (l : Lengths) (ys : List ℤ) → first_failed (tests_before k x s l ys) ≡ none → Free k x s l ys
unfolding tests_before All
nothing-bars k x s l ys e =
    let a = all-passed (tests_before k x s l ys) e in
    record {
      ranged = (settings-tell s).out a.0;
      held = a.1.0;
      sized = (lengths-tell x s l).out a.1.1.0;
      beside = a.1.1.1.0;
      valued = a.1.1.1.1.0;
    }
