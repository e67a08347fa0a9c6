-- `short::flips::more` meets its contract, by the sign of the value. Assumes nothing.
use mathlib.Core.Path.{◌≡◌, ap, ◌∙◌}
use Prim.Native.Nat.{◌+◌, ◌-◌, ◌*◌}
use native.Mathlib.Omega.{arith}
use lib.IntN.{nat_abs}
use mir.Facts.{to_z-of_z}
use Rattle.laws.proofs.Signed.{is_below, not-below}
use Rattle.short.specs.declared.Lead.{Lead}
use Rattle.short.specs.Flips.{weighed}
use Rattle.short.proofs.Leads.{weighed-same, more-below, more-above}
use Rattle.short.proofs.flips.more.Goals as goal

pub returns-then-s-lt0 : goal.returns-then-s-lt0
returns-then-s-lt0 c =
    let a = c.args in
    let x = a.x in
    let size : c.magnitude-w.result ≡ nat_abs a.s = c.magnitude-w.ensures ∙ ap nat_abs (to_z-of_z c.ranges.s) in
    let y : Lead = record { base = x.base + a.bit; odd = 1 - x.odd; least = x.least; next = x.next } in
    let w = c.magnitude-w.result * 256 - a.bit in
    let e : c.weigh.result ≡ weighed w y = c.weigh.ensures in (
      e ∙ ap (λ n. weighed (n * 256 - a.bit) y) size ∙ more-below a.s a.bit x (is_below c.ranges.s c.if-s-lt0.true),
      omega (arith, ap (λ (z : Lead). z.base) e, (weighed-same w y).0),
      omega (arith, ap (λ (z : Lead). z.odd) e, (weighed-same w y).1),
    )

pub returns : goal.returns
returns c =
    let a = c.args in
    let x = a.x in
    let size : c.magnitude-w.result ≡ nat_abs a.s = c.magnitude-w.ensures ∙ ap nat_abs (to_z-of_z c.ranges.s) in
    let w = c.magnitude-w.result * 256 + a.bit in
    let e : c.weigh-2.result ≡ weighed w x = c.weigh-2.ensures in (
      e ∙ ap (λ n. weighed (n * 256 + a.bit) x) size ∙ more-above a.s a.bit x (not-below c.ranges.s c.if-s-lt0.false),
      omega (arith, ap (λ (z : Lead). z.base) e, (weighed-same w x).0),
      omega (arith, ap (λ (z : Lead). z.odd) e, (weighed-same w x).1, c.requires.3),
    )
