-- `hooks::hook::put_record` meets its contract: the fields follow each other and fill the 32 bits. Assumes nothing.
use mathlib.Core.Path.{refl, ◌∙◌}
use mathlib.Core.List.{[], ◌++◌, append_assoc}
use native.Mathlib.Omega.{arith}
use lib.ListN.{drop, length-append, length-drop}
use Rattle.polar.specs.Bits.{to_bits}
use Rattle.polar.proofs.Bits.{to_bits-length}
use Rattle.codec.specs.Record.{status_number, record_bits}
use Rattle.hooks.proofs.Parts.{put_next, put_all}
use Rattle.hooks.proofs.hook.put_record.Goals as goal

pub returns : goal.returns
unfolding record_bits
returns c =
    let h = c.args.h in
    let bits = c.args.bits.now in
    let A = to_bits 6 h.plant in
    let B = to_bits 20 h.carcass in
    let C = to_bits 1 h.side in
    let D = to_bits 3 (status_number h.status) in
    let E = to_bits 2 0 in
    let q1 = put_next [] bits 0 6 h.plant refl (omega arith) refl c.put_field.ensures in
    let q2 = put_next A (drop 6 bits) 6 20 h.carcass (to_bits-length 6 h.plant) (simp length-drop (omega arith)) q1 c.put_field-2.ensures in
    let q3 = put_next (A ++ B) (drop 20 (drop 6 bits)) 26 1 h.side (simp (length-append, to_bits-length)) (simp length-drop (omega arith)) q2 c.put_field-3.ensures in
    let q4 = put_next (A ++ B ++ C) (drop 1 (drop 20 (drop 6 bits))) 27 3 (status_number h.status) (simp (length-append, to_bits-length)) (simp length-drop (omega arith)) q3
    (rw c.from.ensures at c.put_field-4.ensures) in
    let q5 = put_next (A ++ B ++ C ++ D) (drop 3 (drop 1 (drop 20 (drop 6 bits)))) 30 2 0 (simp (length-append, to_bits-length)) (simp length-drop (omega arith)) q4 c.put_field-5.ensures in
    put_all (A ++ B ++ C ++ D ++ E) (drop 2 (drop 3 (drop 1 (drop 20 (drop 6 bits))))) q5 (simp length-drop (omega arith)) ∙ unfold to_bits in simp append_assoc
