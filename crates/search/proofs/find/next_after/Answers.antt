-- `search::find::next_after` meets its contract: the keys after a word's are from the next number on. Assumes nothing.
use mathlib.Core.Path.{◌≡◌, sym, ap, ◌∙◌, subst}
use mathlib.Core.Bool.{true, false, false≢true}
use mathlib.Core.List.{List}
use Prim.Native.Nat.{◌^◌, ◌≤◌}
use native.Mathlib.Omega.{arith}
use lib.IntN.{ℤ}
use Rattle.laws.specs.Lists.{All}
use Rattle.polar.specs.Layers.{Within}
use Rattle.outer.specs.Search.{settings, entry, found}
use Rattle.outer.specs.declared.Next.{Next}
use Rattle.tables.proofs.Bounds.{entry-word}
use Rattle.search.proofs.Cases.{all-bytes, count-of, found_among, after-passed, next-found}
use Rattle.search.proofs.find.next_after.Goals as goal

pub search_bytes-first-requires : goal.search_bytes-first-requires
search_bytes-first-requires c =
    let s = c.requires.searchable in
    let d = c.walk.new.directions in
    (omega (arith, d.few, c.if-directions-ge8.true), subst (All (Within 1048064)) (sym c.in-Some.ensures.cases.same) s.small)

pub find_two-two-requires : goal.find_two-two-requires
find_two-two-requires c =
    let s = c.requires.searchable in
    (omega (arith, s.count, s.walk.short), s.small)

pub returns-in-Some : goal.returns-in-Some
returns-in-Some c =
    let a = c.args in
    let t = a.tables.now in
    let s = c.requires.searchable in
    let w = c.walk in
    let d = w.new.directions in
    let chunk = c.in-Some.ensures.cases in
    let q : c.power.result ≡ 8 = c.power.ensures ∙ sym s.count ∙ chunk.long in
    let f : d.free ≡ 8 = omega (arith, d.few, c.if-directions-ge8.true) in
    let r = c.search_bytes-first in
    let is =
    r.ensures (entry t.kinds t.terms a.start a.parities 8) (all-bytes t.kinds t.terms a.start a.parities c.power.result d.free d.words d.sets q w.ensures.0 w.ensures.1 f) in
    let settings-are : 256 ≡ settings t.kinds a.start 8 = sym (count-of t.kinds t.terms a.start a.parities c.power.result d.free d.words d.sets q w.ensures.0 w.ensures.1 8 f) in
    let first =
    is ∙ found_among t.kinds t.terms a.start a.parities a.j 8 256 c.in-Some.octet.now (sym q ∙ c.power.ensures) settings-are c.after-bound.result
    ∙ ap (λ (l : List ℤ). found t.kinds t.terms a.start a.parities (2 ^ a.j) l c.after-bound.result) chunk.same in
    let next : Next = record { first = r.result; second = r.result; known = false } in
    record {
      fact = λ B b x own o h e p n.
          next-found t.kinds t.terms a.start a.parities a.j a.values.now s.count B b x o h e own a.cost a.number c.after-bound.result next p n c.after-bound.ensures c.ranges.number.fits
          first
          (λ k. absurd (false≢true k));
    }

pub returns-in_default : goal.returns-in_default
returns-in_default c =
    let a = c.args in
    let t = a.tables.now in
    let s = c.requires.searchable in
    let w = c.walk in
    let n = c.power.result in
    let bound = c.after-bound.result in
    let short : n ≤ 32 = omega (arith, c.power.ensures, s.walk.short) in
    let two = c.find_two-two in
    let r = two.ensures.found (entry t.kinds t.terms a.start a.parities n) w.ensures.1 (entry-word t.kinds t.terms a.start a.parities n short) in
    let first = r.0 ∙ found_among t.kinds t.terms a.start a.parities a.j n (2 ^ w.new.directions.free) a.values.now c.power.ensures w.ensures.0 bound in
    let next : Next = record { first = two.result.first; second = two.result.second; known = true } in
    record {
      fact = λ B b x own o h e p m.
          next-found t.kinds t.terms a.start a.parities a.j a.values.now s.count B b x o h e own a.cost a.number bound next p m c.after-bound.ensures c.ranges.number.fits first
          (λ k. after-passed t.kinds t.terms a.start a.parities a.j n (2 ^ w.new.directions.free) a.values.now c.power.ensures w.ensures.0 bound two.result.first two.result.second r.0 r.1);
    }
