-- The record of the fields, given to the record's own call, answers as the fields do: a status above 4 as a field that does not fit.
-- Assumes nothing.
use mathlib.Core.Path.{◌≡◌, refl}
use mathlib.Core.List.{List}
use mathlib.Core.Option.{Option, none, some}
use Prim.Native.Nat.{ℕ}
use Rattle.codebook.specs.Loading.{Load, refused, loaded, load}
use Rattle.codec.specs.declared.Status.{Status}
use Rattle.codec.specs.Record.{record_fits}
use Rattle.codec.specs.Calls.{make_record_with, make_record_call}
use Rattle.numbered.specs.Answers.{no_status, make_record_wrote, record_from}

none-fits : (l : Load) (carcass side : ℕ) (plant : ℕ) (ds : List ℕ) →
    make_record_with l (record_from plant carcass side none) ds ≡ no_status l ds
unfolding make_record_with record_from no_status record_fits
none-fits (refused r) carcass side plant ds = refl
none-fits (loaded B) carcass side plant ds = refl

pub from_fields : (book : List ℕ) (plant carcass side : ℕ) (s : Option Status) (ds : List ℕ) →
    make_record_call book (record_from plant carcass side s) ds ≡ make_record_wrote book plant carcass side s ds
unfolding make_record_call make_record_wrote record_from
from_fields book plant carcass side none ds = none-fits (load book) carcass side plant ds
from_fields book plant carcass side (some s) ds = refl
