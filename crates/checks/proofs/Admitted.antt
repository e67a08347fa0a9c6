-- What is admitted, by the outcomes of the three tests: of the settings, of what fits, of the values. By cases of the tests. Assumes nothing.
use mathlib.Core.Path.{◌≡◌, refl, sym, ap, ◌∙◌}
use mathlib.Core.Bool.{Bool, true, false, cond, ◌&&◌}
use mathlib.Core.List.{List, [], ◌∷◌}
use lib.IntN.{ℤ}
use Rattle.std.specs.Prelude.{Result, Ok, Err}
use Rattle.codebook.specs.declared.Refusal.{Refusal}
use Rattle.codebook.specs.declared.Refusal.TheVariants.{Mismatch, BadSetting, BadValue}
use Rattle.codebook.specs.declared.Shape.{Shape}
use Rattle.codebook.specs.Refusals.{unless}
use Rattle.settings.specs.declared.Settings.{Settings}
use Rattle.settings.specs.Settings.{settings_ok}
use Rattle.machine.specs.declared.Manner.{Manner}
use Rattle.machine.specs.declared.Lengths.{Lengths}
use Rattle.machine.specs.Calls.{test, first_failed, lengths_ok, beside_ok, holds, values_ok, tests_before}
use Rattle.checks.specs.Checks.{fitting, admitted_as}

-- the answer of three tests, one after the other
unfoldable pub admitted_by : Bool → Bool → Bool → Settings → Result Settings Refusal
admitted_by a b v s = cond a (cond b (cond v (Ok s) (Err BadValue)) (Err Mismatch)) (Err BadSetting)

-- the second is three
three : (s : Settings) (a h l b v : Bool) → admitted_by a (h && l && b) v s
    ≡ admitted_as (first_failed (test a BadSetting ∷ test h Mismatch ∷ test l Mismatch ∷ test b Mismatch ∷ test v BadValue ∷ [])) s
unfolding admitted_by admitted_as first_failed unless
three s true true true true true = refl
three s true true true true false = refl
three s true true true false v = refl
three s true true false b v = refl
three s true false l b v = refl
three s false h l b v = refl

pub admitted : (k : Manner) (x : Shape) (s : Settings) (l : Lengths) (ys : List ℤ) {a b v : Bool} → settings_ok s ≡ a → fitting k x s l ≡ b → values_ok ys ≡ v
    → admitted_by a b v s ≡ admitted_as (first_failed (tests_before k x s l ys)) s
unfolding tests_before fitting
admitted k x s l ys {a} {b} {v} p q r =
    sym
    (ap (λ (y : Bool). admitted_by y (fitting k x s l) (values_ok ys) s) p
    ∙ ap (λ (y : Bool). admitted_by a y (values_ok ys) s) q
    ∙ ap (λ (y : Bool). admitted_by a b y s) r)
    ∙ three s (settings_ok s) (holds k.reads x) (lengths_ok x s l) (beside_ok k x s) (values_ok ys)
