-- What the calls but for decoding answer C, and what their lent slices then hold: the numbers of document 01's refusal table, 0 for success. A
-- shape and a record are written with every answer, zeros on a refusal; but one that is lent at another length is refused as 7, where 7 stands
-- in the table's order, and keeps what it held. Assumes nothing.
use Rattle.std.specs.Prelude.{cond, List, [], ◌∷◌, ℕ, length, eqb, Result, Ok, Err}
use Rattle.std.proofs.Math.Option.{Option, none, some}
use Rattle.codebook.specs.declared.Refusal.{Refusal}
use Rattle.codebook.specs.declared.Refusal.TheVariants.{Mismatch, BadValue}
use Rattle.codebook.specs.declared.Shape.{Shape}
use Rattle.codebook.specs.Refusals.{outcome_number}
use Rattle.codebook.specs.Loading.{Load, refused, loaded, load, shape_of}
use Rattle.codec.specs.declared.Status.{Status}
use Rattle.codec.specs.declared.Status.TheVariants.{Passed}
use Rattle.codec.specs.declared.HookRecord.{HookRecord}
use Rattle.codec.specs.Calls.{Wrote, kept, holds_record, make_record_call, read_record_call, hook_read}
use Rattle.answers.specs.Slices.{record_slice}
use Rattle.answers.specs.Numbers.{length_mismatch}

-- a call's number, and what its slice then holds
pub record Answer : Type 0 where
  pub number : ℕ
  pub slice : List ℕ

-- n, k and V of a loaded book; zeros where it is refused
unfoldable pub shape_slice : Result Shape Refusal → List ℕ
shape_slice (Ok s) = s.n ∷ s.k ∷ s.blocks ∷ []
shape_slice (Err r) = 0 ∷ 0 ∷ 0 ∷ []

-- load
unfoldable pub load_answer : List ℕ → List ℕ → Answer
load_answer book shape =
    let s = shape_of (load book) in
    let written : Answer = record { number = outcome_number s; slice = shape_slice s } in
    let left : Answer = record { number = length_mismatch s; slice = shape } in
    cond (eqb (length shape) 3) written left

-- make record, where the status is above 4: a field too large for its bits
unfoldable pub no_status : Load → List ℕ → Wrote
no_status (refused r) ds = kept r ds
no_status (loaded B) ds = cond (holds_record B ds) (kept BadValue ds) (kept Mismatch ds)

-- make record: the record's own call where the number is that of a status
unfoldable pub make_record_wrote : List ℕ → ℕ → ℕ → ℕ → Option Status → List ℕ → Wrote
make_record_wrote book plant carcass side none ds = no_status (load book) ds
make_record_wrote book plant carcass side (some s) ds =
    make_record_call book (record { plant = plant; carcass = carcass; side = side; status = s }) ds

-- the record that these fields make for the record's own call: with no status, one that fits no bits
unfoldable pub record_from : ℕ → ℕ → ℕ → Option Status → HookRecord
record_from plant carcass side none = record { plant = 64; carcass = carcass; side = side; status = Passed }
record_from plant carcass side (some s) = record { plant = plant; carcass = carcass; side = side; status = s }

-- read record
unfoldable pub read_record_answer : List ℕ → List ℕ → List ℕ → Answer
read_record_answer book ds hook =
    let x = read_record_call book ds in
    let written : Answer = record { number = outcome_number x; slice = record_slice (hook_read x) } in
    let left : Answer = record { number = length_mismatch (shape_of (load book)); slice = hook } in
    cond (eqb (length hook) 4) written left
