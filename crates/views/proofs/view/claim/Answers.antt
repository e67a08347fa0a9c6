-- `views::view::claim` meets its contract: the array taken holds the block's own values, copied or as they were, where they go along. Assumes nothing.
use mathlib.Core.Path.{◌≡◌, refl, sym, ◌∙◌, subst}
use Prim.Native.Nat.{ℕ}
use native.Mathlib.Omega.{arith}
use borrow.Author.Tests.{eq-eqb, ne_eqb}
use Rattle.reader.specs.Arrays.{store, claim}
use Rattle.heights.specs.Workspace.{Id, Parts}
use Rattle.standing.specs.Seen.{memory, StepSeen}
use Rattle.views.specs.Steps.{Claimable}
use Rattle.views.proofs.Seeing.{took, has_on, ids-only, store-self, seen-id, seen-some, seen-shared, seen-take, seen-put}
use Rattle.views.proofs.view.claim.Goals as goal
use Rattle.views.proofs.view.claim.Goals.{else-h-j-via-then-h-j+else-from-to, else-h-j-via-else-h-j}

pub take-to-requires-clause-held : goal.take-to-requires-clause-held
unfolding memory
take-to-requires-clause-held c = let p = c.requires.has_arrays in (p.0.held, p.1, omega (arith, p.0.deep), p.0.many)

pub take-to-requires-clause-shared : goal.take-to-requires-clause-shared
unfolding memory
take-to-requires-clause-shared c = seen-shared c.requires.viewed.seen c.requires.has_arrays.2

pub copy_half-requires : goal.copy_half-requires
unfolding memory Claimable
copy_half-requires c =
    let p = c.requires.has_arrays in
    let w = c.requires.viewed in
    let e = c.take-to.ensures in
    let old : Id c.args.layout.arrays c.id_of-from.result = rw c.id_of-from.ensures (seen-some w.seen p.2 (w.met (omega arith))) in
    let new = (took e.held_2 e.rows_after e.exchanged e.value).id in
    (p.0.deep, p.2, p.0.many, p.0.numbers, search, search)

pub returns-then-from-to-clause-has_arrays_2 : goal.returns-then-from-to-clause-has_arrays_2
unfolding memory
returns-then-from-to-clause-has_arrays_2 c =
    let p = c.requires.has_arrays in
    let e = c.take-to.ensures in
    let t = took e.held_2 e.rows_after e.exchanged e.value in
    (has_on _ _ p.0 t c.copy_half.ensures.numbers_len_unchanged refl, ids-only _ _ p.2 t.stored)

pub returns-then-from-to-clause-step_seen : goal.returns-then-from-to-clause-step_seen
unfolding memory StepSeen claim
returns-then-from-to-clause-step_seen c =
    let a = c.args in
    let p = c.requires.has_arrays in
    let f = c.copy_half in
    let e = c.take-to.ensures in
    let t = took e.held_2 e.rows_after e.exchanged e.value in
    λ others v seen met.
    let g = v.arrays.vals in
    rw (eq-eqb a.h a.j (omega arith))
    (seen-put seen p.0 p.1 p.2 t f.new.numbers (g a.h (v.ids a.h))
    (subst (λ (i : ℕ). Parts a.layout.m a.layout.arrays f.new.numbers (store g a.h c.take-to.result (g a.h i)))
    (c.id_of-from.ensures ∙ seen-id seen p.2) (f.ensures.by_index g seen.vals)))

pub returns-else-h-j-clause-has_arrays_2 : goal.returns-else-h-j-clause-has_arrays_2
unfolding memory
returns-else-h-j-clause-has_arrays_2 c =
    let p = c.requires.has_arrays in
    let e = c.take-to.ensures in
    let t = took e.held_2 e.rows_after e.exchanged e.value in
    (has_on _ _ p.0 t refl refl, ids-only _ _ p.2 t.stored)

pub returns-else-h-j-clause-step_seen : goal.returns-else-h-j-clause-step_seen
unfolding memory StepSeen claim
returns-else-h-j-clause-step_seen c =
    let a = c.args in
    let p = c.requires.has_arrays in
    let e = c.take-to.ensures in
    let t = took e.held_2 e.rows_after e.exchanged e.value in
    λ others v seen met.
    elim c.else-h-j.branch [
      | else-h-j-via-then-h-j+else-from-to w ↦
          let g = v.arrays.vals in
          let i : c.take-to.result ≡ v.ids a.h = omega (arith, seen-id seen p.2) in
          rw (eq-eqb a.h a.j (omega arith))
          (seen-put seen p.0 p.1 p.2 t a.memory.now.numbers.now (g a.h (v.ids a.h))
          (subst (λ (k : ℕ). Parts a.layout.m a.layout.arrays a.memory.now.numbers.now (store g a.h c.take-to.result (g a.h k))) i
          (subst (Parts a.layout.m a.layout.arrays a.memory.now.numbers.now) (sym (store-self g a.h c.take-to.result)) seen.vals)))
      | else-h-j-via-else-h-j w ↦ rw (ne_eqb a.h a.j w.if-h-j.false) (seen-take seen p.0 p.1 p.2 t)
    ]
