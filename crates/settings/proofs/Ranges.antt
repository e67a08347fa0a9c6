-- What the check of the settings tells: each is in its range exactly where the test is passed. Assumes nothing.
use mathlib.Core.Path.{◌≡◌, refl}
use mathlib.Core.Bool.{Bool, true, false, cond}
use Prim.Native.Nat.{ℕ}
use native.Mathlib.Omega.{arith}
use lib.Dec.{T}
use Rattle.laws.proofs.Tells.{Tells, tells-le, both, restated}
use Rattle.codebook.specs.declared.Refusal.{Refusal}
use Rattle.codebook.specs.declared.Refusal.TheVariants.{BadSetting}
use Rattle.settings.specs.declared.Settings.{Settings}
use Rattle.std.specs.Prelude.{Ok, Err}
use Rattle.settings.specs.Settings.{settings_ok, checked_as, Ranged}

module _ (s : Settings) where
  pub settings-tell : Tells (settings_ok s) (Ranged s)
  unfolding settings_ok
  settings-tell =
      restated (both (both (both (both (tells-le 1 s.visits) (tells-le s.visits 32)) (tells-le 2 s.paths)) (tells-le s.paths 256)) (tells-le s.limit 1048576))
      (λ p. record { visited = p.0.0.0.0; visits = p.0.0.0.1; alive = p.0.0.1; paths = p.0.1; limited = p.1 })
      (λ r. ((((r.visited, r.visits), r.alive), r.paths), r.limited))

  -- settings out of their ranges are refused, others are made
  pub refused : (Ranged s → ⊥) → Err BadSetting ≡ checked_as s
  unfolding checked_as
  refused f = go (settings_ok s) (λ t. f (settings-tell.out t))
    where
      go : (b : Bool) → (T b → ⊥) → Err BadSetting ≡ cond b (Ok s) (Err BadSetting)
      go true g = absurd (g tt)
      go false g = refl

  pub made : Ranged s → Ok s ≡ checked_as s
  unfolding checked_as
  made r = go (settings_ok s) (settings-tell.back r)
    where
      go : (b : Bool) → T b → Ok s ≡ cond b (Ok s) (Err BadSetting)
      go true g = refl
      go false g = absurd g

  -- and what the check answers tells which
  pub none_made : (r : Refusal) → checked_as s ≡ Err r → (settings_ok s ≡ false) × (r ≡ BadSetting)
  unfolding checked_as
  none_made r = go (settings_ok s)
    where
      go : (b : Bool) → cond b (Ok s) (Err BadSetting) ≡ Err r → (b ≡ false) × (r ≡ BadSetting)
      go true e = let z : ◌≡◌ {A = ℕ} 0 1 = cc in absurd (omega arith)
      go false e = (refl, (cc))

  pub these-made : (x : Settings) → checked_as s ≡ Ok x → (settings_ok s ≡ true) × (x ≡ s)
  unfolding checked_as
  these-made x = go (settings_ok s)
    where
      go : (b : Bool) → cond b (Ok s) (Err BadSetting) ≡ Ok x → (b ≡ true) × (x ≡ s)
      go true e = (refl, (cc))
      go false e = let z : ◌≡◌ {A = ℕ} 0 1 = cc in absurd (omega arith)
