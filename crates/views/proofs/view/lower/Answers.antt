-- `views::view::lower` meets its contract: the values of the height above are read by the id that the path had before the take, and the array
-- taken is written. Assumes nothing.
use mathlib.Core.Path.{refl, ◌∙◌, subst}
use Prim.Native.Nat.{ℕ, suc, ◌^◌}
use native.Mathlib.Numerals.{add-one}
use native.Mathlib.Omega.{arith}
use lib.ListN.{take, drop}
use Rattle.polar.specs.Soft.{Qs}
use Rattle.reader.specs.Arrays.{store}
use Rattle.heights.specs.Workspace.{Parts}
use Rattle.standing.specs.Seen.{memory, StepSeen}
use Rattle.views.proofs.Seeing.{took, has_on, ids-only, seen-id, seen-some, seen-vals, seen-shared, seen-put}
use Rattle.views.proofs.view.lower.Goals as goal

pub take-to-requires-clause-held : goal.take-to-requires-clause-held
unfolding memory
take-to-requires-clause-held c = let p = c.requires.has_arrays in (p.0.held, p.1, omega (arith, p.0.deep), p.0.many)

pub take-to-requires-clause-shared : goal.take-to-requires-clause-shared
unfolding memory
take-to-requires-clause-shared c = seen-shared c.requires.viewed.seen (omega arith)

pub first_half-requires : goal.first_half-requires
unfolding memory
first_half-requires c =
    let p = c.requires.has_arrays in
    let w = c.requires.viewed in
    let above = rw add-one at c.id_of-from.ensures in
    let e = c.take-to.ensures in
    let t = took e.held_2 e.rows_after e.exchanged e.value in record {
      m_bound = (p.0.deep, p.2, p.0.many, p.0.numbers, rw above (seen-some w.seen p.2 w.met.has), t.id);
      all = rw (above, seen-vals w.seen p.2 w.met.has) w.met.range;
    }

pub returns-clause-has_arrays_2 : goal.returns-clause-has_arrays_2
unfolding memory
returns-clause-has_arrays_2 c =
    let e = c.take-to.ensures in
    let t = took e.held_2 e.rows_after e.exchanged e.value in
    (has_on _ _ c.requires.has_arrays.0 t c.first_half.ensures.numbers_len_unchanged refl, ids-only _ _ (omega arith) t.stored)

pub returns-clause-step_seen : goal.returns-clause-step_seen
unfolding memory StepSeen
returns-clause-step_seen c =
    let p = c.requires.has_arrays in
    let a = c.args in
    let f = c.first_half in
    let above = rw add-one at c.id_of-from.ensures in
    let e = c.take-to.ensures in
    let t = took e.held_2 e.rows_after e.exchanged e.value in
    let h = a.h in
    λ others v seen met.
    let g = v.arrays.vals in
    seen-put seen p.0 p.1 (omega arith) t f.new.numbers _
    (subst (λ (i : ℕ). Parts a.layout.m a.layout.arrays f.new.numbers (store g h c.take-to.result (Qs (take (2 ^ h) (g (suc h) i)) (drop (2 ^ h) (g (suc h) i)))))
    (above ∙ seen-id seen p.2) (f.ensures.by_index g seen.vals))
