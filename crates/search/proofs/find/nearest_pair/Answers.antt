-- `search::find::nearest_pair` meets its contract: the directions span the entries, and where all 8 indices are free, or all but the first, the words are
-- bytes. Assumes nothing.
use mathlib.Core.Path.{◌≡◌, sym, ap, ◌∙◌, subst}
use Prim.Native.Nat.{◌^◌, ◌≤◌}
use native.Mathlib.Omega.{arith}
use Rattle.laws.specs.Lists.{All}
use Rattle.polar.specs.Layers.{Within}
use Rattle.outer.specs.Search.{settings, entry, found_pair}
use Rattle.tables.proofs.Bounds.{entry-word}
use Rattle.search.proofs.Cases.{all-bytes, some_bytes, count-of, pair-among, pair-passed, pair-nearest}
use Rattle.search.proofs.find.nearest_pair.Goals as goal

pub pair_checked-requires : goal.pair_checked-requires
pair_checked-requires c =
    let a = c.args in
    let t = a.tables.now in
    let s = c.requires.searchable in
    let w = c.walk in
    let d = w.new.directions in
    let chunk = c.in-Some.ensures.cases in
    (subst (All (Within 1048064)) (sym chunk.same) s.small, (some_bytes t.kinds t.terms a.start a.parities c.power.result d.free d.words d.sets (c.power.ensures ∙ sym s.count ∙ chunk.long) w.ensures.0 w.ensures.1 c.if-directions-eq7.true c.if-tables-start-ne0.true).0)

pub find_two-requires : goal.find_two-requires
find_two-requires c =
    let s = c.requires.searchable in
    (omega (arith, s.count, s.walk.short), s.small)

pub returns-in-Some-clause-first_value : goal.returns-in-Some-clause-first_value
returns-in-Some-clause-first_value c =
    let a = c.args in
    let t = a.tables.now in
    let s = c.requires.searchable in
    let w = c.walk in
    let d = w.new.directions in
    let chunk = c.in-Some.ensures.cases in
    let q : c.power.result ≡ 8 = c.power.ensures ∙ sym s.count ∙ chunk.long in
    let f : d.free ≡ 8 = omega (arith, d.few, c.if-directions-ge8.true) in
    let r = c.pair_free.ensures (entry t.kinds t.terms a.start a.parities 8) (all-bytes t.kinds t.terms a.start a.parities c.power.result d.free d.words d.sets q w.ensures.0 w.ensures.1 f) in
    let settings-are : 256 ≡ settings t.kinds a.start 8 = sym (count-of t.kinds t.terms a.start a.parities c.power.result d.free d.words d.sets q w.ensures.0 w.ensures.1 8 f) in
    let is = pair-among t.kinds t.terms a.start a.parities a.j 8 256 c.in-Some.octet.now (sym q ∙ c.power.ensures) settings-are c.pair_free.result r.0 r.1 in
    λ B b x o h e.
    pair-nearest t.kinds t.terms a.start a.parities a.j a.values.now s.count B b x o h e c.pair_free.result (is ∙ ap (found_pair t.kinds t.terms a.start a.parities (2 ^ a.j)) chunk.same)

pub returns-in-Some-2-clause-first_value : goal.returns-in-Some-2-clause-first_value
returns-in-Some-2-clause-first_value c =
    let a = c.args in
    let t = a.tables.now in
    let s = c.requires.searchable in
    let w = c.walk in
    let d = w.new.directions in
    let chunk = c.in-Some.ensures.cases in
    let q : c.power.result ≡ 8 = c.power.ensures ∙ sym s.count ∙ chunk.long in
    let f = c.if-directions-eq7.true in
    let z = some_bytes t.kinds t.terms a.start a.parities c.power.result d.free d.words d.sets q w.ensures.0 w.ensures.1 f c.if-tables-start-ne0.true in
    let r = c.pair_checked.ensures (entry t.kinds t.terms a.start a.parities 8) z.1 in
    let settings-are : 128 ≡ settings t.kinds a.start 8 = sym (count-of t.kinds t.terms a.start a.parities c.power.result d.free d.words d.sets q w.ensures.0 w.ensures.1 7 f) in
    let is = pair-among t.kinds t.terms a.start a.parities a.j 8 128 c.in-Some.octet.now (sym q ∙ c.power.ensures) settings-are c.pair_checked.result r.0 r.1 in
    λ B b x o h e.
    pair-nearest t.kinds t.terms a.start a.parities a.j a.values.now s.count B b x o h e c.pair_checked.result (is ∙ ap (found_pair t.kinds t.terms a.start a.parities (2 ^ a.j)) chunk.same)

pub returns-in_default-clause-first_value : goal.returns-in_default-clause-first_value
returns-in_default-clause-first_value c =
    let a = c.args in
    let t = a.tables.now in
    let s = c.requires.searchable in
    let w = c.walk in
    let n = c.power.result in
    let short : n ≤ 32 = omega (arith, c.power.ensures, s.walk.short) in
    let r = c.find_two.ensures.found (entry t.kinds t.terms a.start a.parities n) w.ensures.1 (entry-word t.kinds t.terms a.start a.parities n short) in
    let is = pair-passed t.kinds t.terms a.start a.parities a.j n (2 ^ w.new.directions.free) a.values.now c.power.ensures w.ensures.0 c.find_two.result r.0 r.1 in
    λ B b x o h e. pair-nearest t.kinds t.terms a.start a.parities a.j a.values.now s.count B b x o h e c.find_two.result is
