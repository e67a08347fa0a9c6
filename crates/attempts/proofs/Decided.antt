-- What an admitted call comes to once its run is made: by the verdict on the word found it is handed out with its data and its record, or kept back. By the exactness of the
-- run and the definition of a call. Assumes nothing.
use mathlib.Core.Path.{◌≡◌, ap, ◌∙◌, subst}
use mathlib.Core.List.{List, ◌++◌}
use Prim.Native.Nat.{ℕ, ◌≤◌}
use Rattle.std.specs.Prelude.{Bool, true, cond, Result, Ok, Err, is_ok}
use Rattle.polar.specs.Layers.{part}
use lib.IntN.{ℤ, pos}
use lib.ListN.{length, drop, replicate}
use lib.Seq.{take-length}
use Rattle.polar.specs.Transform.{transform}
use Rattle.codebook.specs.declared.Refusal.{Refusal}
use Rattle.codebook.specs.declared.Shape.{Shape}
use Rattle.codebook.specs.declared.Tables.{Tables}
use Rattle.settings.specs.declared.Settings.{Settings}
use Rattle.settings.specs.Settings.{Ranged}
use Rattle.codec.specs.declared.HookRecord.{HookRecord}
use Rattle.codec.specs.Code.{free_bits}
use Rattle.codec.specs.Record.{no_record}
use Rattle.queue.specs.Queue.{Step, Final, Run}
use Rattle.machine.specs.declared.Reads.{Reads}
use Rattle.machine.specs.declared.Counts.{Counts}
use Rattle.machine.specs.declared.HookDecoded.{HookDecoded}
use Rattle.machine.specs.Calls.{Lent, numbers_needed, bytes_needed, final_in, verdict, hook_of, counts_of, walked, ran_call}
use Rattle.attempts.specs.Reading.{reader_run}
use Rattle.attempts.specs.Attempt.{Ready, answered, judged_as, judged_final}
use Rattle.attempts.proofs.Judged.{run_lent, finds, data_are, answered-ok, answered-err, judged-same, reader-same, given-out, given-none, ran-done, ran-refused, ran-lent}

-- what is given where a reading is refused, and where it is not
pub all-given : {b : Bool} {new : List ℕ} (old xs : List ℕ) → new ≡ cond b (part 0 (length old) xs) old → length old ≡ length xs → b ≡ true → new ≡ xs
unfolding part
all-given old xs e l q = e ∙ ap (λ y. cond y (part 0 (length old) xs) old) q ∙ ap (λ n. part 0 n xs) l ∙ take-length xs

pub none-given : {z : Result HookRecord Refusal} {r : Refusal} {new : List ℕ} (old xs : List ℕ) → z ≡ Err r → new ≡ cond (is_ok z) xs old → new ≡ old
none-given old xs q e = e ∙ ap (λ (y : Result HookRecord Refusal). cond (is_ok y) xs old) q

module _ {x : Shape} {values : List ℤ} {tables : Tables} (r : Ready x values tables) (reads : Reads) (s : Settings) (l : Lent) (ranged : Ranged s) (room : numbers_needed x s ≤ length l.numbers) where
  abbrev run : Run Final
  run = run_lent r s l ranged room

  abbrev call : HookDecoded → Lent → Run Final → Type 0
  call answer after z = (answer ≡ (ran_call reads x s l z).answer) × (after ≡ (ran_call reads x s l z).lent)

  -- the run's counts, its word and the data read of that
  module _ {counts : Counts} {word ds : List ℕ} (counted : counts ≡ counts_of run.steps (final_in run.end)) (is : word ≡ (final_in run.end).word) (read : ds ≡ free_bits r.book.kinds (transform x.m word)) where
    -- the verdict on it
    judged : judged_as reads s (judged_final counts.discrepancy ds) ≡ (let v = verdict reads s run.end in answered v (hook_of reads v (final_in run.end)))
    unfolding counts_of
    judged = judged-same reads s run.end (final_in run.end) (finds r s l ranged room) counts.discrepancy ds (ap (λ (z : Counts). z.discrepancy) counted) (data_are r s l ranged room is read)

    -- the workspace, cleared, and the walk afterwards
    module _ (after : Lent)
        (numbers : after.numbers ≡ replicate (numbers_needed x s) (pos 0) ++ drop (numbers_needed x s) l.numbers)
        (bytes : after.bytes ≡ replicate (bytes_needed x s) 0 ++ drop (bytes_needed x s) l.bytes)
        (path : after.walk_path ≡ walked (λ (z : Step). pos z.path) run.steps l.walk_path)
        (blocks : after.walk_blocks ≡ walked (λ (z : Step). pos z.blocks) run.steps l.walk_blocks)
        (score : after.walk_score ≡ walked (λ (z : Step). z.score) run.steps l.walk_score) where
      pub handed-out : (h : HookRecord) → Ok h ≡ judged_as reads s (judged_final counts.discrepancy ds) → after.word ≡ word → after.bits ≡ ds
          → call (record { outcome = Ok tt; counts = counts; hook = h }) after (reader_run r.book s values l)
      handed-out h j w b =
          let q = answered-ok _ _ h (j ∙ judged) in
          subst (call (record { outcome = Ok tt; counts = counts; hook = h }) after) (reader-same r s l) (
            ran-done reads x s l run counted q.0 q.1,
            ran-lent reads x s l run after (w ∙ is ∙ given-out (final_in run.end).word l.word q.0) (b ∙ data_are r s l ranged room is read ∙ given-out (final_in run.end).bits l.bits q.0)
                numbers bytes path blocks score,
          )

      pub kept-back : (refusal : Refusal) → Err refusal ≡ judged_as reads s (judged_final counts.discrepancy ds) → after.word ≡ l.word → after.bits ≡ l.bits
          → call (record { outcome = Err refusal; counts = counts; hook = no_record }) after (reader_run r.book s values l)
      kept-back refusal j w b =
          let q = answered-err _ _ refusal (j ∙ judged) in
          subst (call (record { outcome = Err refusal; counts = counts; hook = no_record }) after) (reader-same r s l) (
            ran-refused reads x s l run counted q,
            ran-lent reads x s l run after (w ∙ given-none (final_in run.end).word l.word q) (b ∙ given-none (final_in run.end).bits l.bits q)
                numbers bytes path blocks score,
          )
