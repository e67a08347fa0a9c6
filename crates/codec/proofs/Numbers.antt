-- The calls' answers have the numbers of document 01's table, in its order: by cases on the tests. Assumes nothing.
use mathlib.Core.Path.{◌≡◌, refl}
use mathlib.Core.Bool.{Bool, true, false, cond, ◌&&◌}
use mathlib.Core.List.{List}
use mathlib.Core.Option.{none, some}
use Prim.Native.Nat.{ℕ, zero, suc}
use native.Mathlib.Omega.{arith}
use lib.Dec.{leb, eqb}
use Rattle.std.specs.Prelude.{Ok, Err}
use borrow.Author.Tests.{lt-leb}
use Rattle.codebook.specs.declared.Refusal.{Refusal}
use Rattle.codebook.specs.declared.Refusal.TheVariants.{Mismatch, BadValue}
use Rattle.codebook.specs.Refusals.{refusal_number, outcome_number, unless_number}
use Rattle.codebook.specs.Book.{Book}
use Rattle.codebook.specs.Loading.{Load, refused, loaded, load, number_by}
use Rattle.codec.specs.declared.HookRecord.{HookRecord}
use Rattle.codec.specs.Code.{encode, in_code, read_data}
use Rattle.codec.specs.Record.{status_of, record_fits, record_bits, field_at, record_with, read_record}
use Rattle.codec.specs.Calls.{are_bits, word_fits, data_fits, holds_record, Wrote, kept, wrote, record_read}
use Rattle.codec.specs.Calls.{encode_with, test_with, read_data_with, make_record_with, read_record_with}
use Rattle.codec.specs.Calls.{encode_call, test_call, read_data_call, make_record_call, read_record_call}
use Rattle.codec.specs.Numbers.{tested_number, encode_number, test_number, read_data_number, make_record_number, readable, read_record_number}

-- the book's fault comes first
pub by-book : (number : Load → ℕ) {own : Book → ℕ} → ((r : Refusal) → number (refused r) ≡ refusal_number r) → ((B : Book) → number (loaded B) ≡ own B)
    → (l : Load) → number l ≡ number_by l own
unfolding number_by
by-book number f g (refused r) = f r
by-book number f g (loaded B) = g B

-- two tests, refused with 7 and with 9, before an answer with the number n
by_tests : {A : Type 0} (number : A → ℕ) (s t : Bool) (x y z : A) {n : ℕ} → number x ≡ n → number y ≡ 9 → number z ≡ 7
    → number (cond s (cond t x y) z) ≡ unless_number s 7 (unless_number t 9 n)
unfolding unless_number
by_tests number true true x y z p q r = p
by_tests number true false x y z p q r = q
by_tests number false t x y z p q r = r

-- the number of a call that writes a buffer
abbrev wrote_number : Wrote → ℕ
wrote_number w = outcome_number w.outcome

pub encode-number : (book ds c : List ℕ) → outcome_number (encode_call book ds c).outcome ≡ encode_number book ds c
unfolding encode_call encode_number encode_with kept wrote
encode-number book ds c =
    by-book (λ l. outcome_number (encode_with l ds c).outcome) (λ r. refl)
    (λ B. by_tests wrote_number (data_fits B ds && word_fits B c) (are_bits ds) (wrote (encode B ds)) (kept BadValue c) (kept Mismatch c) refl refl refl)
    (load book)

-- a word outside the code is no refusal, and has 255
answered : (b : Bool) → tested_number (Ok b) ≡ unless_number b 255 0
unfolding unless_number
answered true = refl
answered false = refl

pub test-number : (book c : List ℕ) → tested_number (test_call book c) ≡ test_number book c
unfolding test_call test_number test_with
test-number book c =
    by-book (λ l. tested_number (test_with l c)) (λ r. refl)
    (λ B. by_tests tested_number (word_fits B c) (are_bits c) (Ok (in_code B c)) (Err BadValue) (Err Mismatch) (answered (in_code B c)) refl refl)
    (load book)

pub read-data-number : (book c ds : List ℕ) → outcome_number (read_data_call book c ds).outcome ≡ read_data_number book c ds
unfolding read_data_call read_data_number read_data_with kept wrote
read-data-number book c ds =
    by-book (λ l. outcome_number (read_data_with l c ds).outcome) (λ r. refl)
    (λ B. by_tests wrote_number (word_fits B c && data_fits B ds) (are_bits c) (wrote (read_data B c)) (kept BadValue ds) (kept Mismatch ds) refl refl refl)
    (load book)

pub make-record-number : (book : List ℕ) (h : HookRecord) (ds : List ℕ) → outcome_number (make_record_call book h ds).outcome ≡ make_record_number book h ds
unfolding make_record_call make_record_number make_record_with kept wrote
make-record-number book h ds =
    by-book (λ l. outcome_number (make_record_with l h ds).outcome) (λ r. refl)
    (λ B. by_tests wrote_number (holds_record B ds) (record_fits h) (wrote (record_bits h)) (kept BadValue ds) (kept Mismatch ds) refl refl refl)
    (load book)

-- ---- read record

-- 11 where a spare bit is 1
spared : (h : HookRecord) (b : Bool) → outcome_number (record_read (cond b (some h) none)) ≡ unless_number b 11 0
unfolding record_read unless_number
spared h true = refl
spared h false = refl

-- or where the status is above 4
pub read_number_lem : (ds : List ℕ) → outcome_number (record_read (read_record ds)) ≡ unless_number (readable ds) 11 0
unfolding read_record readable status_of record_with record_read unless_number
read_number_lem ds = go (field_at ds 27 3)
  where
    go : (s : ℕ) → outcome_number (record_read (record_with ds (status_of s))) ≡ unless_number (leb s 4 && eqb (field_at ds 30 2) 0) 11 0
    go zero = spared _ (eqb (field_at ds 30 2) 0)
    go (suc zero) = spared _ (eqb (field_at ds 30 2) 0)
    go (suc (suc zero)) = spared _ (eqb (field_at ds 30 2) 0)
    go (suc (suc (suc zero))) = spared _ (eqb (field_at ds 30 2) 0)
    go (suc (suc (suc (suc zero)))) = spared _ (eqb (field_at ds 30 2) 0)
    go (suc (suc (suc (suc (suc n))))) = rw (lt-leb (suc (suc (suc (suc (suc n))))) 4 (omega arith)) refl

pub read-record-number : (book ds : List ℕ) → outcome_number (read_record_call book ds) ≡ read_record_number book ds
unfolding read_record_call read_record_number read_record_with
read-record-number book ds =
    by-book (λ l. outcome_number (read_record_with l ds)) (λ r. refl)
    (λ B. by_tests outcome_number (holds_record B ds) (are_bits ds) (record_read (read_record ds)) (Err BadValue) (Err Mismatch) (read_number_lem ds) refl refl)
    (load book)
