-- `passes::pass::turned` meets its contract: at least 4 directions make at least 2 words. Assumes nothing.
use Prim.Native.Nat.{◌^◌, ◌≤◌, ◌<◌}
use lib.ListN.{length}
use native.Mathlib.Omega.{arith}
use borrow.Author.Rules.{rules}
use lib.Pow.{pow_mono}
use Rattle.passes.proofs.pass.turned.Goals as goal

pub bounds-words-1 : goal.bounds-words-1
bounds-words-1 c =
    let n : 4 ≤ c.args.directions.now.free = omega (arith, c.if-directions-lt4.false) in
    let p : 2 ^ 4 ≤ 2 ^ c.args.directions.now.free = pow_mono n in
    let l : 1 < length c.args.words.now = omega (arith, c.requires.1) in
    search (rules, l)
