-- `tables::messages::walk` meets its contract, by what `advance` ensures. Assumes nothing.
use mathlib.Core.Path.{◌≡◌, refl, sym, ap, ◌∙◌}
use Prim.Native.Nat.{suc, ◌+◌, ◌^◌}
use native.Mathlib.Numerals.{add-one}
use native.Mathlib.Omega.{arith}
use borrow.Author.Rules.{rules}
use lib.ListN.{get_or}
use Rattle.outer.specs.Search.{grown, settings, entry}
use Rattle.tables.proofs.Advance.{settings-le, few-free, spans-first, entry_more}
use Rattle.tables.proofs.messages.walk.Goals as goal

pub loop-i-init : goal.loop-i-init
unfolding settings
loop-i-init c =
    let a = c.args in
    (refl, spans-first a.directions.now.words a.directions.now.sets a.tables.now.kinds a.tables.now.terms a.start a.parities (search rules) (search rules))

pub advance-free-requires : goal.advance-free-requires
unfolding settings
advance-free-requires c =
    let kinds = c.args.tables.now.kinds in
    let start = c.args.start in
    let x = c.loop-i in
    let more : grown (get_or kinds (start + x.i) 0) (2 ^ x.free) ≡ settings kinds start (suc x.i) = ap (grown (get_or kinds (start + x.i) 0)) x.invariant.0 in
    (omega (arith, settings-le kinds start (suc x.i) c.args.n (omega arith), c.requires.few), c.requires.codes x.i (omega arith))

pub loop-i-preserved : goal.loop-i-preserved
unfolding settings
loop-i-preserved c =
    let m = c.rows-matrix in
    let a = c.args in
    let t = a.tables.now in
    let x = c.loop-i in
    let n = c.advance-free.new.directions in
    let r = c.advance-free.ensures in (
      r.0 ∙ ap (grown (get_or t.kinds (a.start + x.i) 0)) x.invariant.0 ∙ ap (settings t.kinds a.start) (sym (add-one x.i)),
      entry_more n.words n.sets c.advance-free.result t.kinds t.terms a.start a.parities x.i (get_or m.result x.i 0) (m.ensures x.i (omega arith))
          (r.1 (entry t.kinds t.terms a.start a.parities x.i) x.invariant.1),
    )

pub invariant_of-directions-2 : goal.invariant_of-directions-2
invariant_of-directions-2 c =
    let kinds = c.args.tables.now.kinds in
    record { few = few-free c.loop-i.free (omega (arith, c.loop-i.invariant.0, settings-le kinds c.args.start c.loop-i.i c.args.n (omega arith), c.requires.few)) }
