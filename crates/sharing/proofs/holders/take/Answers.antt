-- `sharing::holders::take` meets its contract: by the test, the path keeps its id or takes the first free one, which is the definition's choice
-- either way. Assumes nothing.
use mathlib.Core.Path.{sym, ◌∙◌}
use native.Mathlib.Omega.{arith}
use Rattle.sharing.specs.Sharing.{id_at, held_at}
use Rattle.sharing.proofs.Tables.{exchange-none}
use Rattle.sharing.proofs.Choice.{is-alone, held_one, keeps, takes_another}
use Rattle.sharing.proofs.holders.take.Goals as goal

pub bounds-holders-height : goal.bounds-holders-height
unfolding id_at
bounds-holders-height c = omega (arith, c.requires.shared.low, c.requires.held)

pub returns-then-alone-clause-held_2 : goal.returns-then-alone-clause-held_2
unfolding id_at
returns-then-alone-clause-held_2 c =
    let k = is-alone _ _ (sym c.alone.ensures ∙ c.if-alone.true) in
    (c.requires.held.0, k.0, c.requires.shared.low)

pub returns-then-alone-clause-exchanged : goal.returns-then-alone-clause-exchanged
unfolding id_at
returns-then-alone-clause-exchanged c = exchange-none _ _ _

pub returns-then-alone-clause-value : goal.returns-then-alone-clause-value
unfolding id_at held_at
returns-then-alone-clause-value c = λ x. let k = is-alone _ _ (sym c.alone.ensures ∙ c.if-alone.true) in keeps x k.0 k.1

-- the row's id is held
pub overflow_sub-holders : goal.overflow_sub-holders
unfolding id_at held_at
overflow_sub-holders c = omega (arith, held_one c.requires.shared)

pub returns-clause-held_2 : goal.returns-clause-held_2
unfolding id_at held_at
returns-clause-held_2 c =
    let p = c.requires in
    let f = c.first_free-free.ensures in
    let t = takes_another p.shared p.held.0 p.held.2 p.held.3 (sym c.alone.ensures ∙ c.if-alone.false) f.0 f.2 f.3 in
    (t.held, f.0, t.within)

pub returns-clause-exchanged : goal.returns-clause-exchanged
unfolding id_at held_at
returns-clause-exchanged c =
    let p = c.requires in
    let f = c.first_free-free.ensures in
    let t = takes_another p.shared p.held.0 p.held.2 p.held.3 (sym c.alone.ensures ∙ c.if-alone.false) f.0 f.2 f.3 in
    t.exchanged

pub returns-clause-value : goal.returns-clause-value
unfolding id_at held_at
returns-clause-value c = λ x.
    let p = c.requires in
    let f = c.first_free-free.ensures in
    (takes_another x p.held.0 p.held.2 p.held.3 (sym c.alone.ensures ∙ c.if-alone.false) f.0 f.2 f.3).chosen
