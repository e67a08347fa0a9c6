-- A shape or a record is written where it is lent at its length, and kept where it is not: by the test of the length. Assumes nothing.
use mathlib.Core.Path.{◌≡◌, refl}
use mathlib.Core.List.{List}
use Prim.Native.Nat.{ℕ}
use lib.ListN.{length}
use borrow.Author.Tests.{eq-eqb, ne_eqb}
use Rattle.codebook.specs.Refusals.{outcome_number}
use Rattle.codebook.specs.Loading.{load, shape_of}
use Rattle.codec.specs.Calls.{read_record_call, hook_read}
use Rattle.answers.specs.Slices.{record_slice}
use Rattle.answers.specs.Numbers.{length_mismatch}
use Rattle.numbered.specs.Answers.{shape_slice, load_answer, read_record_answer}

-- load's two answers
module _ (book shape : List ℕ) where
  pub load-written : length shape ≡ 3 → load_answer book shape ≡ (let s = shape_of (load book) in record { number = outcome_number s; slice = shape_slice s })
  unfolding load_answer
  load-written e = rw (eq-eqb (length shape) 3 e) refl

  pub load-left : (length shape ≡ 3 → ⊥) → load_answer book shape ≡ record { number = length_mismatch (shape_of (load book)); slice = shape }
  unfolding load_answer
  load-left f = rw (ne_eqb (length shape) 3 f) refl

-- read record's two answers
module _ (book ds hook : List ℕ) where
  pub record-written : length hook ≡ 4 →
      read_record_answer book ds hook ≡ (let x = read_record_call book ds in record { number = outcome_number x; slice = record_slice (hook_read x) })
  unfolding read_record_answer
  record-written e = rw (eq-eqb (length hook) 4 e) refl

  pub record-left : (length hook ≡ 4 → ⊥) → read_record_answer book ds hook ≡ record { number = length_mismatch (shape_of (load book)); slice = hook }
  unfolding read_record_answer
  record-left f = rw (ne_eqb (length hook) 4 f) refl
