-- `passes::pass::find_two` meets its contract: the directions span the entries, and the keys of the pass are those of the words. Assumes nothing.
use Prim.Native.Nat.{ℕ, ◌^◌, ◌≤◌, ◌<◌}
use mathlib.Core.Path.{◌≡◌, refl, ap, ◌∙◌}
use mathlib.Core.List.{List}
use Rattle.std.proofs.lemmas.Option.{IfSome_then}
use native.Mathlib.Omega.{arith}
use lib.ListN.{length, get_or, take, length-take}
use lib.Seq.{get_or-take}
use lib.Pow.{pow_mono}
use Rattle.outer.specs.Search.{spread, least_from, answer, setting_key}
use Rattle.passes.specs.Pass.{after_first}
use Rattle.passes.proofs.Found.{answers}
use Rattle.passes.proofs.LeastTwo.{two-within}
use Rattle.passes.proofs.Turned.{turned-pairs}
use Rattle.passes.proofs.pass.find_two.Goals as goal

-- at most 8 directions make at most 256 words
few : (n : ℕ) → n ≤ 8 → 2 ^ n ≤ 256
few n h =
    let p : 2 ^ n ≤ 2 ^ 8 = pow_mono h in
    omega arith

-- the words that are taken from the table
taken : (count n : ℕ) (table : List ℕ) → count ≡ n → n ≤ length table → length (take count table) ≡ n
taken count n table e h = length-take count table ∙ omega arith

filled : (count n : ℕ) (table : List ℕ) (f : ℕ → ℕ) → count ≡ n → ((k : ℕ) → k < n → get_or table k 0 ≡ f k) → (k : ℕ) → k < n → get_or (take count table) k 0 ≡ f k
filled count n table f e h k l = get_or-take count table k 0 (omega arith) ∙ h k l

pub turned-requires : goal.turned-requires
turned-requires c =
    let n = c.args.directions.now.free in
    let w = c.double_all-count in
    (c.requires.0, taken w.result (2 ^ n) w.new.table w.ensures.1 (omega (arith, w.ensures.0, few n c.args.directions.now.few)))

pub pass-two-requires : goal.pass-two-requires
pass-two-requires c =
    let d = c.args.directions.now in
    let n = 2 ^ d.free in
    let p = c.prepare-runs in
    let w = c.double_all-count in
    let e = taken w.result n w.new.table w.ensures.1 (omega (arith, w.ensures.0, few d.free d.few)) in
    IfSome_then c.turned.result c.turned.ensures
    (λ t q. (q.2, turned-pairs _ d.words _ d.free _ p.result t _ c.args.values.now q.0 e (filled w.result n w.new.table (spread d.words 0 d.free) w.ensures.1 w.ensures.2) p.ensures.0 q.1 refl q.3))

pub candidate-requires : goal.candidate-requires
candidate-requires c =
    let n = c.args.directions.now.free in
    let w = c.double_all-count in
    let e = taken w.result (2 ^ n) w.new.table w.ensures.1 (omega (arith, w.ensures.0, few n c.args.directions.now.few)) in
    (two-within _ c.args.bound _ c.pass-two.result c.pass-two.ensures (omega (arith, e, few n c.args.directions.now.few))).0

pub candidate-requires-2 : goal.candidate-requires-2
candidate-requires-2 c =
    let n = c.args.directions.now.free in
    let w = c.double_all-count in
    let e = taken w.result (2 ^ n) w.new.table w.ensures.1 (omega (arith, w.ensures.0, few n c.args.directions.now.few)) in
    (two-within _ c.args.bound _ c.pass-two.result c.pass-two.ensures (omega (arith, e, few n c.args.directions.now.few))).1

pub returns-clause-found : goal.returns-clause-found
returns-clause-found c = λ e h l.
    let a = c.args in
    let d = a.directions.now in
    let n = 2 ^ d.free in
    let vs = a.values.now in
    let p = c.prepare-runs in
    let w = c.double_all-count in
    let size = taken w.result n w.new.table w.ensures.1 (omega (arith, w.ensures.0, few d.free d.few)) in
    let q =
    answers _ _ _ _ d.free _ p.result e vs h (λ k i. filled w.result n w.new.table (spread d.words 0 d.free) w.ensures.1 w.ensures.2 k (omega (arith, size))) p.ensures.0 l c.requires.1 c.requires.0
    a.bound c.pass-two.result c.pass-two.ensures in (
      c.candidate.ensures ∙ q.0 ∙ ap (λ i. answer e vs (least_from (setting_key e vs) a.bound i)) size,
      c.candidate-2.ensures ∙ q.1 ∙ ap (λ i. answer e vs (after_first (setting_key e vs) a.bound i)) size,
    )
