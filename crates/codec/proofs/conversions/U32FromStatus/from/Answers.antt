-- A status's number is the one that stands by it in its declaration. Assumes nothing.
use mathlib.Core.Path.{◌≡◌, refl}
use denote.Enum.Declared.{tag_of}
use Rattle.codec.specs.contracts.Status.{the_type}
use Rattle.codec.specs.declared.Status.{Status}
use Rattle.codec.specs.declared.Status.TheVariants.{Passed, HeldForLaboratory, HeldForVeterinarian, HeldForOwner, Condemned}
use Rattle.codec.specs.Record.{status_number}
use Rattle.codec.proofs.conversions.U32FromStatus.from.Goals as goal

numbered : (s : Status) → tag_of the_type s ≡ status_number s
unfolding status_number
numbered Passed = refl
numbered HeldForLaboratory = refl
numbered HeldForVeterinarian = refl
numbered HeldForOwner = refl
numbered Condemned = refl

pub returns : goal.returns
returns c = numbered c.args.s
