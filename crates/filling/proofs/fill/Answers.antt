-- `filling::fill` meets its contract: by what one turn does. Assumes nothing.
use mathlib.Core.Path.{◌≡◌, sym, ◌∙◌}
use mathlib.Core.List.{[], ◌∷◌, ◌++◌}
use Prim.Native.Nat.{◌+◌, ◌<◌}
use native.Mathlib.Numerals.{add-one}
use native.Mathlib.Omega.{arith}
use lib.ListN.{length, get_or, take, length-set}
use lib.Seq.{take_all, take-suc-set}
use Rattle.codec.specs.Tabled.{absorbed}
use Rattle.codec.proofs.Turns.{PartFilled, fill_start, fill_end, fill-free-room, fill-free, fill-forced, code_lt}
use Rattle.filling.proofs.fill.Goals as goal
use Rattle.filling.proofs.fill.Goals.{then-code-eq0, else-code-eq0}

pub loop-i-init : goal.loop-i-init
loop-i-init c = λ ks T w f. fill_start ks c.args.bits.now f

-- the caller knows of kinds: where a free index is next, so is a data bit
pub bounds-bits-next : goal.bounds-bits-next
bounds-bits-next c =
    let (ks, (T, w, f)) = c.requires.some in
    let l = c.loop-i in
    fill-free-room T (l.invariant ks T (omega arith) f) (omega arith) c.if-code-eq0.true

pub forced-b-requires : goal.forced-b-requires
forced-b-requires c = code_lt c.requires.some.1.0 c.loop-i.i (omega (arith, c.requires.some.1.1))

pub loop-i-preserved : goal.loop-i-preserved
loop-i-preserved c = λ ks T w f.
    let l = c.loop-i in
    let n : length ks ≡ length l.word = simp length-set at w in
    let F = l.invariant ks T n f in
    let h : l.i < length ks = omega arith in
    let j = c.if-code-eq0 in
    let filled : PartFilled ks c.args.bits.now (take l.i l.word ++ j.b ∷ []) (l.i + 1) j.next (absorbed l.parities j.b (get_or c.args.tables.now.terms l.i 0)) =
    elim j.branch [
      | then-code-eq0 v ↦ rw (v.next-is, v.b-is) (fill-free T F h v.if-code-eq0.true c.requires.all)
      | else-code-eq0 v ↦ rw (v.next-is, v.b-is, v.forced-b.ensures) (fill-forced T F h v.if-code-eq0.false)
    ] in
    rw (add-one l.i, take-suc-set l.word l.i j.b (omega arith), c.absorbed-parities.ensures) (rw (add-one l.i) at filled)

pub returns : goal.returns
returns c = λ ks T w f.
    let l = c.loop-i in
    sym (take_all l.i l.word (omega arith)) ∙ fill_end (l.invariant ks T (omega arith) f) (omega arith)
