-- `start::twos` meets its contract: t is an odd number of times 2 to the number of its zeros, so that is at most 9, and t's turn. Assumes nothing.
use mathlib.Core.Path.{sym}
use mathlib.Core.Logic.{◌⊎◌, inl, inr}
use Prim.Native.Nat.{ℕ, suc, ◌≤◌, ◌<◌}
use native.Mathlib.Nat.{two-pow-succ}
use native.Mathlib.Omega.{arith}
use lib.Count.{count_trailing_zeros}
use lib.Pow.{pow_mono, pow_pos}
use Rattle.laws.proofs.Tests.{lt-or}
use Rattle.start.proofs.Turning.{OddTimes, times-least, turn_odd, odd-times}
use Rattle.start.proofs.twos.Goals as goal

-- the exponent of a number up to 512
most : (t h : ℕ) → t ≤ 512 → OddTimes t h → h ≤ 9
most t h b x = go (lt-or 9 h)
  where
    go : (9 < h) ⊎ (h ≤ 9) → h ≤ 9
    go (inl l) = absurd (omega (arith, pow_mono l, times-least h x.left (omega (arith, x.odd)), x.times))
    go (inr l) = l

pub returns : goal.returns
returns c =
    let t = c.args.t in
    let x : OddTimes t (count_trailing_zeros 64 t) = odd-times 64 t c.requires.0 (omega (arith, c.requires.1)) in (
      most t (count_trailing_zeros 64 t) c.requires.1 x,
      λ m a b. sym (turn_odd (suc m) (count_trailing_zeros 64 t) x.left t x.times x.odd (omega (arith, two-pow-succ m, pow_pos m))),
    )
