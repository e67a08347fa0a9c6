-- The decoding calls' answers have the numbers of document 01's table, in its order: by cases on loading and on the tests. Assumes nothing.
use mathlib.Core.Path.{◌≡◌, refl, ◌∙◌}
use mathlib.Core.Bool.{Bool, true, false, ◌&&◌}
use mathlib.Core.List.{[], ◌∷◌}
use mathlib.Core.Option.{Option, none, some}
use Prim.Native.Nat.{ℕ}
use Rattle.codebook.specs.declared.Refusal.{Refusal}
use Rattle.codebook.specs.declared.Refusal.TheVariants.{Mismatch, BadSetting, BadValue, AboveLimit, Unreadable}
use Rattle.codebook.specs.Refusals.{refusal_number, outcome_number, unless, unless_number}
use Rattle.codebook.specs.Loading.{load, book_shape}
use Rattle.settings.specs.Settings.{settings_ok}
use Rattle.codec.specs.declared.HookRecord.{HookRecord}
use Rattle.codec.specs.Record.{read_record}
use Rattle.codec.specs.Calls.{record_read}
use Rattle.codec.proofs.Numbers.{by-book, read_number_lem}
use Rattle.queue.specs.Queue.{Final}
use Rattle.machine.specs.declared.Reads.{Reads}
use Rattle.machine.specs.declared.Reads.TheVariants.{Data, Record}
use Rattle.machine.specs.declared.Manner.{Manner}
use Rattle.machine.specs.Calls.{Input, Lent, lengths_of, test, first_failed, lengths_ok, beside_ok, holds, values_ok, tests_before, barred, machine_run, within}
use Rattle.machine.specs.Calls.{is_read, record_tests, verdicts, verdict, outcome_of, refused_as, refused_call, ran_call, unbarred, call_with, call_by, call_of}
use Rattle.machine.specs.Numbers.{final_end, final_word, record_number, number_tests, call_number}

-- where f is a call's number by what bars it, it is 8, 7 or 9 by the first test that fails, else that of the run
barred-number : (f : Option Refusal → ℕ) → ((r : Refusal) → f (some r) ≡ refusal_number r) → (s h l b v : Bool) {n : ℕ} → f none ≡ n
    → f (first_failed (test s BadSetting ∷ test h Mismatch ∷ test l Mismatch ∷ test b Mismatch ∷ test v BadValue ∷ [])) ≡ unless_number s 8 (unless_number (h && l && b) 7 (unless_number v 9 n))
unfolding first_failed unless unless_number
barred-number f e true true true true true g = g
barred-number f e true true true true false g = e BadValue
barred-number f e true true true false v g = e Mismatch
barred-number f e true true false b v g = e Mismatch
barred-number f e true false l b v g = e Mismatch
barred-number f e false h l b v g = e BadSetting

-- 11 where there is no record
read-outcome : (o : Option HookRecord) → outcome_number (outcome_of (unless (is_read o) Unreadable none)) ≡ outcome_number (record_read o)
unfolding outcome_of unless is_read record_read
read-outcome none = refl
read-outcome (some h) = refl

-- 10 above the limit, else by the record, if one is read
judged : (r : Reads) (b : Bool) (f : Final) → outcome_number (outcome_of (unless b AboveLimit (first_failed (record_tests r f)))) ≡ unless_number b 10 (record_number r f.bits)
unfolding outcome_of unless unless_number first_failed record_tests record_number
judged Data true f = refl
judged Data false f = refl
judged Record true f = read-outcome (read_record f.bits) ∙ read_number_lem f.bits
judged Record false f = refl

pub call-number : (k : Manner) (c : Input) (l : Lent) → outcome_number (call_of k c l).answer.outcome ≡ call_number k c l
unfolding call_by call_with unbarred refused_as refused_call ran_call machine_run barred tests_before first_failed verdict verdicts call_number number_tests final_word final_end
call-number k c l =
    by-book (λ x. outcome_number (call_with machine_run k x c l).answer.outcome) (λ r. refl)
    (λ B. barred-number (λ o. outcome_number (unbarred machine_run k B c l o).answer.outcome) (λ r. refl)
    (settings_ok c.settings) (holds k.reads (book_shape B)) (lengths_ok (book_shape B) c.settings (lengths_of c l)) (beside_ok k (book_shape B) c.settings) (values_ok c.values)
    (judged k.reads (within c.settings.limit (final_end k B c)) (final_word k B c)))
    (load c.book)
