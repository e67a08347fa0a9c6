-- `views::view::commit` meets its contract: the word goes to the end of the array taken, and the sums that it is joined with are those that the
-- path saw before, since lower heights' ids and cells are untouched. Assumes nothing.
use mathlib.Core.Path.{refl, ◌∙◌}
use Prim.Native.Nat.{◌^◌}
use native.Mathlib.Omega.{arith}
use lib.Pow.{pow_mono}
use Rattle.heights.specs.Workspace.{bits_of}
use Rattle.heights.proofs.Spots.{spot-room}
use Rattle.heights.proofs.Words.{bits-bits}
use Rattle.standing.specs.Seen.{memory, StepSeen}
use Rattle.views.proofs.Seeing.{took, has_on, ids-only, seen-shared}
use Rattle.views.proofs.Inside.{joined-room}
use Rattle.views.proofs.Committing.{put-joined, put_word, lower-id, lower-bits, seen-commit}
use Rattle.views.proofs.view.commit.Goals as goal

pub take-to-requires-clause-held : goal.take-to-requires-clause-held
unfolding memory
take-to-requires-clause-held c = let p = c.requires.has_arrays in (p.0.held, p.1, omega (arith, p.0.deep), p.0.many)

pub take-to-requires-clause-shared : goal.take-to-requires-clause-shared
unfolding memory
take-to-requires-clause-shared c = seen-shared c.requires.viewed.seen c.requires.has_arrays.3

pub overflow_add-end : goal.overflow_add-end
unfolding memory
overflow_add-end c =
    let p = c.requires.has_arrays in
    let e = c.take-to.ensures in
    let t = took e.held_2 e.rows_after e.exchanged e.value in
    omega (arith, spot-room p.3 t.id c.args.memory.now.bytes.now p.0.bytes)

pub overflow_sub-end : goal.overflow_sub-end
overflow_sub-end c = omega (arith, pow_mono c.requires.has_arrays.2)

pub slice_bounds-put_word-end : goal.slice_bounds-put_word-end
unfolding memory
slice_bounds-put_word-end c =
    let p = c.requires.has_arrays in
    let e = c.take-to.ensures in
    let t = took e.held_2 e.rows_after e.exchanged e.value in
    omega (arith, spot-room p.3 t.id c.args.memory.now.bytes.now p.0.bytes)

pub join-requires : goal.join-requires
unfolding memory
join-requires c =
    let a = c.args in
    let p = c.requires.has_arrays in
    let w = c.requires.viewed in
    let e = c.take-to.ensures in
    let t = took e.held_2 e.rows_after e.exchanged e.value in
    let b = pow_mono p.2 in
    let l = a.memory.now.bytes.now in
    let inside = put-joined p.3 t.id p.2 l p.0.bytes a.word (omega arith) (omega arith) c.put_word.ensures in
    let word = put_word p.3 t.id p.2 l p.0.bytes a.word (omega arith) (omega arith) c.put_word.ensures in
    record {
      has_row = ((omega arith, omega arith), p.0.deep, p.0.many, p.2, p.3, joined-room p.3 t.id l _ p.0.bytes inside, t.id);
      by_index = λ k b d. (lower-id p.0 p.3 t _ inside w.seen w.met k b d, lower-bits p.0 p.3 t _ inside w.seen w.met k b d);
      all = rw word (bits-bits (2 ^ a.j) a.word);
    }

pub returns-clause-has_arrays_2 : goal.returns-clause-has_arrays_2
unfolding memory
returns-clause-has_arrays_2 c =
    let a = c.args in
    let p = c.requires.has_arrays in
    let e = c.take-to.ensures in
    let t = took e.held_2 e.rows_after e.exchanged e.value in
    let b = pow_mono p.2 in
    let l = a.memory.now.bytes.now in
    let inside = put-joined p.3 t.id p.2 l p.0.bytes a.word (omega arith) (omega arith) c.put_word.ensures in
    (has_on _ _ p.0 t refl (c.join.ensures.joined.size ∙ inside.size), ids-only _ _ p.3 t.stored)

pub returns-clause-step_seen : goal.returns-clause-step_seen
unfolding memory StepSeen
returns-clause-step_seen c =
    let a = c.args in
    let p = c.requires.has_arrays in
    let e = c.take-to.ensures in
    let t = took e.held_2 e.rows_after e.exchanged e.value in
    let b = pow_mono p.2 in
    let l = a.memory.now.bytes.now in
    let inside = put-joined p.3 t.id p.2 l p.0.bytes a.word (omega arith) (omega arith) c.put_word.ensures in
    let word = put_word p.3 t.id p.2 l p.0.bytes a.word (omega arith) (omega arith) c.put_word.ensures in
    λ others v seen met.
    seen-commit p.0 p.3 t _ inside seen met p.1 p.2 (bits_of (2 ^ a.j) a.word) c.join.new.bytes c.join.ensures.joined c.join.ensures.bytes_after word
