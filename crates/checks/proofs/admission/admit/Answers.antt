-- `checks::admission::admit` meets its contract: by the outcome of each test, in their order. Assumes nothing.
use mathlib.Core.Path.{◌≡◌, refl, sym, ap, ◌∙◌}
use mathlib.Core.Bool.{Bool, true}
use native.Mathlib.Omega.{arith}
use Rattle.std.specs.Prelude.{Ok, Err}
use Rattle.std.proofs.lemmas.Result.{err_from_is_err_and}
use Rattle.codebook.specs.declared.Refusal.TheVariants.{BadSetting}
use Rattle.codebook.specs.declared.Shape.{Shape}
use Rattle.settings.specs.declared.Settings.{Settings}
use Rattle.settings.specs.Settings.{settings_ok, checked_as}
use Rattle.settings.proofs.Ranges.{settings-tell, none_made, these-made}
use Rattle.machine.specs.declared.Manner.{Manner}
use Rattle.machine.specs.declared.Lengths.{Lengths}
use Rattle.checks.specs.Checks.{fitting}
use Rattle.checks.proofs.Admitted.{admitted_by, admitted}
use Rattle.checks.proofs.admission.admit.Goals as goal
use Rattle.checks.proofs.admission.admit.Goals.{In_ok-s}

-- the settings were made, and are those asked
settled : (c : In_ok-s) → (settings_ok c.args.asked ≡ true) × (c.in_ok-s.s ≡ c.args.asked)
settled c = these-made c.args.asked c.in_ok-s.s (grind arith)

-- what fits is tested of them
fitted : (k : Manner) (x : Shape) (l : Lengths) (s asked : Settings) (b : Bool) → s ≡ asked → b ≡ fitting k x s l → fitting k x asked l ≡ b
fitted k x l s asked b e f = sym (f ∙ ap (λ (s : Settings). fitting k x s l) e)

pub returns-in_err-s : goal.returns-in_err-s
unfolding admitted_by checked_as
returns-in_err-s c =
    let a = c.args in
    let p = err_from_is_err_and c.from_residual.result c.from_residual.ensures.1 in
    let none = none_made a.asked BadSetting (grind arith) in
    let bad : c.in_err-s.field-0.0 ≡ BadSetting = grind arith in
    rw (p.1, p.2) (ap Err bad ∙ admitted a.k a.x a.asked a.l a.values.now none.0 refl refl)

pub all_fit-requires : goal.all_fit-requires
all_fit-requires c =
    let s = settled (goal.at.all_fit-requires c).In_ok-s in
    (c.requires.0, c.requires.1, rw s.1 ((settings-tell c.args.asked).out (rw s.0 tt)))

pub returns-then-not-all_fit : goal.returns-then-not-all_fit
unfolding admitted_by
returns-then-not-all_fit c =
    let a = c.args in
    let s = settled (goal.at.returns-then-not-all_fit c).In_ok-s in
    admitted a.k a.x a.asked a.l a.values.now s.0 (fitted _ _ _ _ _ _ s.1 c.all_fit.ensures ∙ c.if-not-all_fit.true) refl

pub returns-then-not-values_ok : goal.returns-then-not-values_ok
unfolding admitted_by
returns-then-not-values_ok c =
    let a = c.args in
    let s = settled (goal.at.returns-then-not-values_ok c).In_ok-s in
    admitted a.k a.x a.asked a.l a.values.now s.0 (fitted _ _ _ _ _ _ s.1 c.all_fit.ensures ∙ c.if-not-all_fit.false) (sym c.values_ok.ensures ∙ c.if-not-values_ok.true)

pub returns : goal.returns
unfolding admitted_by
returns c =
    let a = c.args in
    let s = settled (goal.at.returns c).In_ok-s in
    ap Ok s.1
    ∙ admitted a.k a.x a.asked a.l a.values.now s.0 (fitted _ _ _ _ _ _ s.1 c.all_fit.ensures ∙ c.if-not-all_fit.false) (sym c.values_ok.ensures ∙ c.if-not-values_ok.false)
