-- Loading refuses with 1 to 6 alone: each test of a command, and each end of the bytes, names one of these. By induction on the fuel. Assumes
-- nothing.
use mathlib.Core.Path.{◌≡◌, subst}
use mathlib.Core.Bool.{Bool, true, false}
use mathlib.Core.List.{List, [], ◌∷◌}
use mathlib.Core.Option.{Option, none, some}
use Prim.Native.Nat.{ℕ, zero, suc, ◌≤◌}
use native.Mathlib.Omega.{arith}
use lib.ListN.{length, take, drop}
use lib.Dec.{eqb}
use Rattle.laws.specs.Lists.{May}
use Rattle.laws.proofs.Tests.{cond-case}
use Rattle.codebook.specs.declared.Refusal.{Refusal}
use Rattle.codebook.specs.declared.Command.{Command}
use Rattle.codebook.specs.declared.Command.TheVariants.{Length, Free, Zero, Tie, Term, Block as NextBlock, End}
use Rattle.codebook.specs.Refusals.{refusal_number, unless}
use Rattle.codebook.specs.Loading.{Loading, Load, refused, loaded, start, width, command, fault, next, refusal, decided, load_from, load}

-- what holds of each refusal in a chain of tests holds of the chain's
pub unless-may : (P : Refusal → Type 0) (b : Bool) (r : Refusal) (o : Option Refusal) → P r → May P o → May P (unless b r o)
unfolding unless May
unless-may P true r o h k = k
unless-may P false r o h k = h

abbrev Low : Refusal → Type 0
Low r = refusal_number r ≤ 6

fault-low : (s : Loading) (c : Command) → May Low (fault s c)
unfolding fault May
fault-low s (Length m) = unless-may Low _ _ _ (omega arith) tt
fault-low s (Free count) = unless-may Low _ _ _ (omega arith) tt
fault-low s (Zero count) = unless-may Low _ _ _ (omega arith) tt
fault-low s (Tie i) = unless-may Low _ _ _ (omega arith) (unless-may Low _ _ _ (omega arith) tt)
fault-low s (Term i) = unless-may Low _ _ _ (omega arith) tt
fault-low s (NextBlock j bias) = unless-may Low _ _ _ (omega arith) (unless-may Low _ _ _ (omega arith) tt)
fault-low s End = tt

refusal-low : (s : Loading) (byte : ℕ) (after : List ℕ) → May Low (refusal s byte after)
unfolding refusal
refusal-low s byte after =
    unless-may Low _ _ _ (omega arith) (unless-may Low _ _ _ (omega arith) (unless-may Low _ _ _ (omega arith) (fault-low s (command byte (take (width byte) after)))))

-- what loading comes to
unfoldable LoadLow : Load → Type 0
LoadLow (refused r) = Low r
LoadLow (loaded B) = Unit {0}

decided-low : (o : Option Refusal) (other : Load) → May Low o → LoadLow other → LoadLow (decided o other)
unfolding decided LoadLow May
decided-low none other h k = k
decided-low (some r) other h k = h

from_low : (fuel : ℕ) (s : Loading) (bytes : List ℕ) → LoadLow (load_from fuel s bytes)
unfolding load_from LoadLow
from_low zero s bytes = omega arith
from_low (suc fuel) s [] = omega arith
from_low (suc fuel) s (byte ∷ after) =
    decided-low (refusal s byte after) _ (refusal-low s byte after)
    (cond-case LoadLow (eqb byte 0x7f)
    (λ _. cond-case LoadLow (eqb (length after) 0) (λ _. tt) (λ _. omega arith))
    (λ _. from_low fuel (next s (command byte (take (width byte) after))) (drop (width byte) after)))

pub load-refuses : (bytes : List ℕ) (r : Refusal) → load bytes ≡ refused r → refusal_number r ≤ 6
unfolding load LoadLow
load-refuses bytes r e = subst LoadLow e (from_low (length bytes) start bytes)
