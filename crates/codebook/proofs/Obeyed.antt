-- Loading the bytes of a command that may stand where it stands and is not refused: it is obeyed, and loading goes on after it. Relies on operands read back (Operands) and
-- on enough fuel (Fuel). Assumes nothing.
use mathlib.Core.Path.{◌≡◌, refl, ap, ◌∙◌}
use mathlib.Core.Bool.{true, false}
use mathlib.Core.List.{List, ◌∷◌, ◌++◌, flat_map}
use mathlib.Core.Option.{none}
use Prim.Native.Nat.{ℕ, ◌≤◌, ◌<◌}
use native.Mathlib.Nat.{le_refl}
use native.Mathlib.Omega.{arith}
use lib.ListN.{length, length-append}
use lib.Seq.{take-append_seam, drop-append_seam}
use lib.IntN.{ℤ, nat_abs}
use lib.Dec.{eqb}
use borrow.Author.Tests.{le-leb}
use Rattle.laws.proofs.Tests.{apart}
use Rattle.codebook.specs.declared.Command.{Command}
use Rattle.codebook.specs.declared.Command.TheVariants.{Length, Free, Zero, Tie, Term, Block as NextBlock, End}
use Rattle.codebook.specs.Refusals.{unless}
use Rattle.codebook.specs.Loading.{Loading, Load, listed, width, big_endian, signed, command, placed, fault, next, refusal, decided, load_from}
use Rattle.codebook.specs.Progress.{byte_of, is_end}
use Rattle.codebook.specs.Written.{bytes, complement, written}
use Rattle.codebook.proofs.Fuel.{load-enough}
use Rattle.codebook.proofs.Operands.{one-back, two_back, four-back, complement-lt, signed_back}

-- what loading these bytes comes to from here on
unfoldable pub from : Loading → List ℕ → Load
from s bytes = load_from (length bytes) s bytes

-- a listed byte and the bytes of its operands
read-on : (byte : ℕ) (operands : List ℕ) (c : Command) (s : Loading) (rest : List ℕ) → listed byte ≡ true → width byte ≡ length operands → command byte operands ≡ c → eqb byte 0x7f ≡ false → placed s byte ≡ true → fault s c ≡ none → from s (byte ∷ operands ++ rest) ≡ from (next s c) rest
unfolding from load_from refusal unless decided
read-on byte operands c s rest known size e more here passed =
    let l = length-append operands rest in
    rw (size, take-append_seam operands rest, drop-append_seam operands rest, e, known, here, le-leb (length operands) (length (operands ++ rest)) (omega arith), passed, more)
    (load-enough (length (operands ++ rest)) (length rest) (next s c) rest (omega arith) (le_refl (length rest)))

-- the operands of a command fit the bytes that they are written in
unfoldable pub Fitting : Command → Type 0
Fitting (Length m) = m < 256
Fitting (Free count) = count < 65536
Fitting (Zero count) = count < 65536
Fitting (Tie i) = i < 65536
Fitting (Term i) = i < 65536
Fitting (NextBlock j bias) = (j < 256) × (nat_abs bias ≤ 1048576)
Fitting End = Unit {0}

-- loading goes on after a command that is not the end
obeyed-bytes : (c : Command) (s : Loading) (rest : List ℕ) → Fitting c → is_end c ≡ false → placed s (byte_of c) ≡ true → fault s c ≡ none → from s (written c ++ rest) ≡ from (next s c) rest
unfolding Fitting is_end byte_of written bytes listed width command
obeyed-bytes (Length m) s rest fit more here passed = read-on 0x10 (bytes 1 m) (Length m) s rest refl refl (ap Length (one-back m fit)) refl here passed
obeyed-bytes (Free count) s rest fit more here passed = read-on 0x01 (bytes 2 count) (Free count) s rest refl refl (ap Free (two_back count fit)) refl here passed
obeyed-bytes (Zero count) s rest fit more here passed = read-on 0x02 (bytes 2 count) (Zero count) s rest refl refl (ap Zero (two_back count fit)) refl here passed
obeyed-bytes (Tie i) s rest fit more here passed = read-on 0x03 (bytes 2 i) (Tie i) s rest refl refl (ap Tie (two_back i fit)) refl here passed
obeyed-bytes (Term i) s rest fit more here passed = read-on 0x04 (bytes 2 i) (Term i) s rest refl refl (ap Term (two_back i fit)) refl here passed
obeyed-bytes (NextBlock j bias) s rest fit more here passed =
    let z = complement bias in
    let e = ap signed (four-back z (complement-lt bias fit.1)) ∙ signed_back bias fit.1 in
    read-on 0x05 (bytes 1 j ++ bytes 4 z) (NextBlock j bias) s rest refl refl
    (ap (λ (x : ℕ). NextBlock x (signed (big_endian 0 (bytes 4 z)))) (one-back j fit.0) ∙ ap (λ (x : ℤ). NextBlock j x) e)
    refl here passed
obeyed-bytes End s rest fit more here passed = apart more

-- what loading these commands comes to from here on
unfoldable pub goes : Loading → List Command → Load
goes s cs = from s (flat_map written cs)

pub obeyed : (c : Command) (s : Loading) (cs : List Command) → Fitting c → is_end c ≡ false → placed s (byte_of c) ≡ true → fault s c ≡ none → goes s (c ∷ cs) ≡ goes (next s c) cs
unfolding goes flat_map
obeyed c s cs fit more here passed = obeyed-bytes c s (flat_map written cs) fit more here passed
