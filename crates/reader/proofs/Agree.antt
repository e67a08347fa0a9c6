-- The whole-run theorem: for every book that loading accepts, and any arrays whose root values are the received ones, the reader's extractions
-- are the machine's, and so are the final word, its data and its discrepancy. From the traces in step, and from the run's having an end. Assumes nothing.
use mathlib.Core.Path.{◌≡◌, refl, sym, ap, ◌∙◌, subst}
use mathlib.Core.List.{List}
use mathlib.Core.Option.{Option, none, some}
use Prim.Native.Nat.{ℕ, ◌^◌, ◌<◌}
use lib.ListN.{length}
use lib.IntN.{ℤ}
use Rattle.laws.specs.Pairs.{MayPair}
use Rattle.laws.proofs.Pairs.{paired-map}
use Rattle.codebook.specs.Book.{Book}
use Rattle.codebook.specs.Limits.{Valid}
use Rattle.codebook.specs.Loading.{loaded, load}
use Rattle.codebook.proofs.Loaded.{loaded-valid}
use Rattle.queue.specs.Queue.{Final, End, found, end_as, end_in, run_in}
use Rattle.machine.specs.Machine as M
use Rattle.machine.specs.Calls.{end_of, final_in}
use Rattle.runs.specs.Runs.{Ended, Exact}
use Rattle.runs.proofs.Final.{run-exact}
use Rattle.runs.proofs.Ends.{run_ends}
use Rattle.reader.specs.Arrays.{Arrays}
use Rattle.reader.specs.Reader as R
use Rattle.reader.specs.Agree.{Agree}
use Rattle.reader.proofs.Run.{MomentIs, EndIs, step_is, traces-are}

-- ends in step are the same end
ends-are : (B : Book) (ys : List ℤ) (o : Option (End M.Path)) (o' : Option (End Final)) → MayPair (EndIs B ys) o o' → end_in o' ≡ end_of B ys (end_in o)
unfolding MayPair end_in end_of end_as
ends-are B ys none none h = refl
ends-are B ys none (some e) h = absurd h
ends-are B ys (some e) none h = absurd h
ends-are B ys (some e) (some e') h = h

-- for a book that keeps the limits
pub valid-agree : (B : Book) → Valid B → (L D : ℕ) (ys : List ℤ) (A : Arrays) → 0 < L → length ys ≡ 2 ^ B.m → A.vals B.m 1 ≡ ys → Agree B L D ys A
unfolding M.run_of R.run_of run_in Ended end_of end_as final_in
valid-agree B ok L D ys A l ly e =
    let t = traces-are B ys ok ly L D A e in
    let end : (R.run_of B L D A).end ≡ end_of B ys (M.run_of B L D ys).end = ends-are B ys (M.trace_of B L D ys).end (R.trace_of B L D A).end t.end in
    let (q, f, _) = run_ends B L D ys l in
    let same : end_of B ys (M.run_of B L D ys).end ≡ found (final_in (end_of B ys (M.run_of B L D ys).end)) =
    subst (λ (o : End M.Path). end_of B ys o ≡ found (final_in (end_of B ys o))) (sym f) refl in
    record {
      steps = sym (paired-map (MomentIs B ys) (M.step_at B L D ys) (R.step_at B L D) (step_is B ys ok ly L D) _ _ t.states);
      end = end;
      finds = end ∙ same;
    }

pub agree : (bytes : List ℕ) (B : Book) → load bytes ≡ loaded B → (L D : ℕ) (ys : List ℤ) (A : Arrays) → 0 < L → length ys ≡ 2 ^ B.m → A.vals B.m 1 ≡ ys → Agree B L D ys A
agree bytes B h = valid-agree B (loaded-valid bytes B h)

-- so the reader's final word is in the code, with its own data and its exact discrepancy
pub reader-exact : (B : Book) → Valid B → (L D : ℕ) (ys : List ℤ) (A : Arrays) → 0 < L → length ys ≡ 2 ^ B.m → A.vals B.m 1 ≡ ys → Exact B ys (final_in (R.run_of B L D A).end)
unfolding final_in
reader-exact B ok L D ys A l ly e = subst (Exact B ys) (ap final_in (sym (valid-agree B ok L D ys A l ly e).finds)) (run-exact B ok L D ys l ly)
