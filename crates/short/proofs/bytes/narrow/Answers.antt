-- `short::bytes::narrow` meets its contract: a bound on cost and number, rounded up to bytes. Assumes nothing.
use mathlib.Core.Path.{◌≡◌, sym, ◌∙◌}
use mathlib.Core.Logic.{◌⊎◌, inl, inr}
use Prim.Native.Nat.{ℕ, ◌+◌, ◌*◌, ◌≤◌, ◌<◌}
use native.Mathlib.Omega.{arith}
use lib.Dec.{leb}
use borrow.Author.Tests.{le-leb, lt-leb}
use Rattle.laws.proofs.Tests.{lt-or}
use Rattle.outer.specs.Search.{key_of}
use Rattle.short.proofs.bytes.narrow.Goals as goal

-- two tests with one answer
alike : (a b c d : ℕ) → (b < a → d < c) → (a ≤ b → c ≤ d) → leb a b ≡ leb c d
alike a b c d f g = go (lt-or b a)
  where
    go : (b < a) ⊎ (a ≤ b) → leb a b ≡ leb c d
    go (inl l) = lt-leb a b l ∙ sym (lt-leb c d (f l))
    go (inr l) = le-leb a b l ∙ sym (le-leb c d (g l))

pub returns-then-cost-ge8388608 : goal.returns-then-cost-ge8388608
unfolding key_of
returns-then-cost-ge8388608 c = λ k x h g. alike c.args.bound (key_of k x) 4294967295 (k * 256 + x) (λ l. omega arith) (λ l. omega arith)

pub returns-then-number-ge256 : goal.returns-then-number-ge256
unfolding key_of
returns-then-number-ge256 c = λ k x h g. alike c.args.bound (key_of k x) _ (k * 256 + x) (λ l. omega arith) (λ l. omega arith)

pub returns : goal.returns
unfolding key_of
returns c = λ k x h g. alike c.args.bound (key_of k x) _ (k * 256 + x) (λ l. omega arith) (λ l. omega arith)
