-- What the run on the lent workspace answers, by the end of the reader's run: its counts and its final word. Assumes nothing.
use mathlib.Core.Path.{◌≡◌, sym, ap, ◌∙◌}
use mathlib.Core.List.{List}
use Prim.Native.Nat.{ℕ, ◌^◌, ◌≤◌}
use native.Mathlib.Omega.{arith}
use lib.IntN.{ℤ}
use Rattle.polar.specs.Layers.{part}
use Rattle.codebook.specs.declared.Shape.{Shape}
use Rattle.codebook.specs.declared.Tables.{Tables}
use Rattle.queue.specs.Queue.{Final, Run}
use Rattle.machine.specs.Calls.{final_in, counts_of}
use Rattle.heights.specs.Workspace.{spot}
use Rattle.reading.specs.declared.Ran.{Ran}
use Rattle.reading.specs.Running.{Running, RanIs}

pub deep-enough : {x : Shape} {values : List ℤ} {tables : Tables} → Running x values tables → x.m ≤ 9
deep-enough c = omega (arith, c.in_tables.booked.valid.high, c.deep)

module _ {m N : ℕ} {run : Run Final} {x : Ran} {bytes : List ℕ} (r : RanIs m N run x bytes) where
  -- the final word is the end's
  found-is : r.final ≡ final_in run.end
  unfolding final_in
  found-is = sym (ap final_in r.ends)

  pub ran-counts : x.counts ≡ counts_of run.steps (final_in run.end)
  ran-counts = r.counts ∙ ap (counts_of run.steps) found-is

  pub ran-word : part (spot m x.id m) (2 ^ m) bytes ≡ (final_in run.end).word
  ran-word = r.word ∙ ap (λ (y : Final). y.word) found-is
