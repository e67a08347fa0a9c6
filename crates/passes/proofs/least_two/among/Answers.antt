-- `passes::least_two::among` meets its contract: what it chooses are the two least with one key more. Assumes nothing.
use mathlib.Core.Path.{◌≡◌, ap, ◌∙◌}
use mathlib.Core.Bool.{cond}
use Prim.Native.Nat.{ℕ}
use lib.Dec.{ltb}
use Rattle.passes.specs.Pass.{opened}
use Rattle.passes.proofs.LeastTwo.{key-lt, merged, two-same, merged-least}
use Rattle.passes.proofs.least_two.among.Goals as goal

pub returns : goal.returns
returns c = λ k t e.
    let a = c.args in
    let two = a.two in
    let x = c.open-x.result in
    let own : x ≡ opened (k a.setting) a.bound two.first = c.open-x.ensures ∙ ap (λ (z : ℕ). opened z a.bound two.first) (c.key.ensures ∙ e) in
    two-same c.either.ensures.0
    (c.either-2.ensures.0 ∙ ap (λ (y : ℕ). cond (ltb x two.first) two.first y) c.either-second.ensures.0)
    c.either-3.ensures.0
    (c.either-4.ensures.0 ∙ ap (λ (y : ℕ). cond (ltb x two.first) two.at y) c.either-next.ensures.0)
    ∙ ap (λ (y : ℕ). merged y a.setting two) own
    ∙ merged-least k a.bound a.setting two t (key-lt c.requires c.ranges.number.fits e) c.either.ensures.1 c.either-second.ensures.1
