-- `settings::Settings::checked` meets its contract: each refusal by the test that a range fails, the settings by all six. Assumes nothing.
use mathlib.Core.Logic.{⊎_elim}
use native.Mathlib.Omega.{arith}
use Rattle.settings.proofs.Ranges.{refused, made}
use Rattle.settings.proofs.Settings.checked.Goals as goal

pub returns-then-self-lt-LEAST_VISITS : goal.returns-then-self-lt-LEAST_VISITS
returns-then-self-lt-LEAST_VISITS c =
    let s = c.args.self in
    refused s (λ r. ⊎_elim (λ w. omega arith) (λ w. omega arith) c.then-self-lt-LEAST_VISITS.either)

pub returns-then-self-lt-LEAST_PATHS : goal.returns-then-self-lt-LEAST_PATHS
returns-then-self-lt-LEAST_PATHS c =
    let s = c.args.self in
    refused s (λ r. ⊎_elim (λ w. omega arith) (λ w. omega arith) c.then-self-lt-LEAST_PATHS.either)

pub returns-then-self-lt-LEAST_LIMIT : goal.returns-then-self-lt-LEAST_LIMIT
returns-then-self-lt-LEAST_LIMIT c =
    let s = c.args.self in
    refused s (λ r. ⊎_elim (λ w. omega arith) (λ w. omega arith) c.then-self-lt-LEAST_LIMIT.either)

pub returns : goal.returns
returns c =
    let s = c.args.self in
    made s
    (record {
      visited = c.if-self-lt-LEAST_VISITS.false;
      visits = c.if-self-gt-MOST_VISITS.false;
      alive = c.if-self-lt-LEAST_PATHS.false;
      paths = c.if-self-gt-MOST_PATHS.false;
      limited = c.if-self-gt-MOST_LIMIT.false;
    })
