-- `views::view::go_down` meets its contract. Assumes nothing.
use mathlib.Core.Path.{◌≡◌, refl, sym, subst}
use Prim.Native.Nat.{ℕ, suc, ◌-◌}
use native.Mathlib.Omega.{arith}
use Rattle.standing.specs.Seen.{contents, Viewed, StepSeen}
use Rattle.views.specs.Steps.{Upper}
use Rattle.views.proofs.Seeing.{ids-on}
use Rattle.views.proofs.Down.{down, down-upper, viewed-on, turned_none, turned_more}
use Rattle.views.proofs.view.go_down.Goals as goal

pub loop-h-init : goal.loop-h-init
loop-h-init c =
    record {
      above = c.requires.has_arrays.2;
      below = omega arith;
      has = c.requires.has_arrays.0;
      only = record { size = refl; before = λ k b. refl; after = λ k b. refl };
      seen = turned_none _ _ _ _ _;
      same = (refl, refl, refl, refl, refl, refl);
      bytes = refl;
    }

pub lower-requires-clause-viewed : goal.lower-requires-clause-viewed
lower-requires-clause-viewed c =
    let a = c.args in
    let i = c.loop-h.invariant in
    let e : suc (c.loop-h.h - 1) ≡ c.loop-h.h = omega arith in
    subst (λ (n : ℕ). Viewed a.layout.m a.layout.arrays a.slot (contents c.loop-h.memory) (Upper n)) (sym e)
    (viewed-on _ _ _ _ (down a.top c.loop-h.h) c.requires.viewed i.seen (λ others v u. down-upper i.below others v u))

pub loop-h-preserved : goal.loop-h-preserved
loop-h-preserved c =
    let a = c.args in
    let i = c.loop-h.invariant in
    let e : suc (c.loop-h.h - 1) ≡ c.loop-h.h = omega arith in
    let x = contents a.memory.now in
    let y = contents c.loop-h.memory in
    record {
      above = omega arith;
      below = omega arith;
      has = c.lower.ensures.has_arrays_2.0;
      only = ids-on a.memory.now.rows.now c.loop-h.memory.rows.now i.only c.lower.ensures.has_arrays_2.1;
      seen = turned_more a.layout.m a.layout.arrays a.slot x y _ (omega arith)
          (subst (λ (n : ℕ). StepSeen a.layout.m a.layout.arrays a.slot x y (Upper a.top) (down a.top n)) (sym e) i.seen) c.lower.ensures.step_seen;
      same = (cc, cc, cc, cc, cc, cc);
      bytes = cc;
    }

pub returns-clause-has_arrays_2 : goal.returns-clause-has_arrays_2
returns-clause-has_arrays_2 c = (c.loop-h.invariant.has, c.loop-h.invariant.only)

pub returns-clause-step_seen : goal.returns-clause-step_seen
returns-clause-step_seen c =
    let a = c.args in
    let e : c.loop-h.h ≡ a.low = omega arith in
    subst (λ (n : ℕ). StepSeen a.layout.m a.layout.arrays a.slot (contents a.memory.now) (contents c.loop-h.memory) (Upper a.top) (down a.top n)) e c.loop-h.invariant.seen
