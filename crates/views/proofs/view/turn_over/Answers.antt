-- `views::view::turn_over` meets its contract: the values of the height above and the word are read by the ids that the path had before the take,
-- and the array taken is written. Assumes nothing.
use mathlib.Core.Path.{refl, ◌∙◌, subst₂}
use Prim.Native.Nat.{ℕ, suc, ◌^◌, ◌≤◌}
use native.Mathlib.Numerals.{add-one}
use native.Mathlib.Omega.{arith}
use lib.ListN.{take, drop}
use Rattle.polar.specs.Soft.{Ps}
use Rattle.reader.specs.Arrays.{store}
use Rattle.heights.specs.Workspace.{Id, Parts}
use Rattle.standing.specs.Seen.{memory, StepSeen}
use Rattle.views.proofs.Seeing.{took, has_on, ids-only, seen-id, seen-some, seen-vals, seen-shared, seen-put}
use Rattle.views.proofs.view.turn_over.Goals as goal

pub take-to-requires-clause-held : goal.take-to-requires-clause-held
unfolding memory
take-to-requires-clause-held c = let p = c.requires.has_arrays in (p.0.held, p.1, omega (arith, p.0.deep), p.0.many)

pub take-to-requires-clause-shared : goal.take-to-requires-clause-shared
unfolding memory
take-to-requires-clause-shared c = seen-shared c.requires.viewed.seen (omega arith)

pub second_half-requires : goal.second_half-requires
unfolding memory
second_half-requires c =
    let p = c.requires.has_arrays in
    let w = c.requires.viewed in
    let above = rw add-one at c.id_of-from.ensures in
    let e = c.take-to.ensures in
    let up : Id c.args.layout.arrays c.id_of-from.result = rw above (seen-some w.seen p.2 w.met.upper) in
    let here : Id c.args.layout.arrays c.id_of-word.result = rw c.id_of-word.ensures (seen-some w.seen (omega arith) w.met.has) in
    let new = (took e.held_2 e.rows_after e.exchanged e.value).id in record {
      m_bound = (p.0.deep, p.2, p.0.many, p.0.numbers, p.0.bytes);
      id = (search, search, search);
      all = rw (above, seen-vals w.seen p.2 w.met.upper) w.met.range;
    }

pub returns-clause-has_arrays_2 : goal.returns-clause-has_arrays_2
unfolding memory
returns-clause-has_arrays_2 c =
    let e = c.take-to.ensures in
    let t = took e.held_2 e.rows_after e.exchanged e.value in
    (has_on _ _ c.requires.has_arrays.0 t c.second_half.ensures.numbers_len_unchanged refl, ids-only _ _ (omega arith) t.stored)

pub returns-clause-step_seen : goal.returns-clause-step_seen
unfolding memory StepSeen
returns-clause-step_seen c =
    let p = c.requires.has_arrays in
    let a = c.args in
    let f = c.second_half in
    let above = rw add-one at c.id_of-from.ensures in
    let e = c.take-to.ensures in
    let t = took e.held_2 e.rows_after e.exchanged e.value in
    let h = a.h in
    let l : h ≤ a.layout.m = omega arith in
    λ others v seen met.
    let g = v.arrays.vals in
    let b = v.arrays.sums in
    seen-put seen p.0 p.1 l t f.new.numbers _
    (subst₂
    (λ (i k : ℕ). Parts a.layout.m a.layout.arrays f.new.numbers (store g h c.take-to.result (Ps (b h k) (take (2 ^ h) (g (suc h) i)) (drop (2 ^ h) (g (suc h) i)))))
    (above ∙ seen-id seen p.2) (c.id_of-word.ensures ∙ seen-id seen l) (f.ensures.by_index g b seen.vals seen.sums))
