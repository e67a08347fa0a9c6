-- The number of a slice that is lent at a wrong length, where 7 stands in the table's order. Assumes nothing.
use Rattle.std.specs.Prelude.{ℕ, Result, Ok, Err}
use Rattle.codebook.specs.declared.Refusal.{Refusal}
use Rattle.codebook.specs.declared.Refusal.TheVariants.{Mismatch}
use Rattle.codebook.specs.Refusals.{refusal_number}

-- the number where shape or record are lent at a wrong length: the book's fault, else 7
abbrev pub length_mismatch : {A : Type 0} → Result A Refusal → ℕ
length_mismatch (Ok answer) = refusal_number Mismatch
length_mismatch (Err r) = refusal_number r
