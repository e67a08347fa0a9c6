-- `filling::obeys_all` meets its contract: by what one turn does. Assumes nothing.
use mathlib.Core.Path.{sym, ◌∙◌}
use Prim.Native.Nat.{◌<◌}
use native.Mathlib.Omega.{arith}
use lib.ListN.{length}
use Rattle.codec.proofs.Turns.{obey-start, obey-end, obey-free, obey-right, obey-wrong, code_lt}
use Rattle.filling.proofs.obeys_all.Goals as goal
use Rattle.filling.proofs.obeys_all.Goals.{else-code-ne0-via-then-code-ne0+else-bit-forced, else-code-ne0-via-else-code-ne0}

pub loop-i-init : goal.loop-i-init
loop-i-init c = λ ks T w. obey-start ks c.args.u.now

-- the caller knows of kinds, so that the tables reach
pub forced-requires : goal.forced-requires
forced-requires c = code_lt c.requires.some.1.0 c.loop-i.i (omega (arith, c.requires.some.1.1))

pub returns-then-bit-forced : goal.returns-then-bit-forced
returns-then-bit-forced c = λ ks T w.
    obey-wrong T (c.loop-i.invariant ks T w) (omega arith) w c.if-code-ne0.true (λ e. c.if-bit-forced.true (e ∙ sym c.forced.ensures))

pub loop-i-preserved : goal.loop-i-preserved
loop-i-preserved c = λ ks T w.
    let O = c.loop-i.invariant ks T w in
    let h : c.loop-i.i < length ks = omega arith in
    rw c.absorbed-parities.ensures
    (elim c.else-code-ne0.branch [
      | else-code-ne0-via-then-code-ne0+else-bit-forced v ↦ obey-right T O h w v.if-code-ne0.true (v.if-bit-forced.false ∙ v.forced.ensures) c.requires.all
      | else-code-ne0-via-else-code-ne0 v ↦ obey-free T O h w v.if-code-ne0.false c.requires.all
    ])

pub returns : goal.returns
returns c = λ ks T w. obey-end (c.loop-i.invariant ks T w) (omega arith)
