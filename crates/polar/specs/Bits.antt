-- Bits, words of bits, and their numbers: document 01, "The code" and "The hook record". Assumes nothing.
use mathlib.Core.List.{List, [], ◌∷◌, zip_with}
use Rattle.std.specs.Prelude.{ℕ, zero, suc, ◌+◌, ◌*◌, ◌/◌, ◌%◌, ◌^◌, ◌<◌}

-- a number is a bit
abbrev pub Bit : ℕ → Type 0
Bit b = b < 2

-- the sum modulo 2
infixl 60 ◌⊕◌
abbrev pub ◌⊕◌ : ℕ → ℕ → ℕ
a ⊕ b = (a + b) % 2

-- the sums modulo 2 of two words, position by position
unfoldable pub add_bits : List ℕ → List ℕ → List ℕ
add_bits = zip_with ◌⊕◌

-- a word's number: position i counts 2^i
unfoldable pub number : List ℕ → ℕ
number [] = 0
number (b ∷ bs) = b + 2 * number bs

-- x as w bits, the highest first
unfoldable pub to_bits : ℕ → ℕ → List ℕ
to_bits zero x = []
to_bits (suc w) x = x / 2 ^ w % 2 ∷ to_bits w x

-- bits as a number, the highest first, after the digits so far
unfoldable pub from_bits : ℕ → List ℕ → ℕ
from_bits digits [] = digits
from_bits digits (b ∷ bs) = from_bits (2 * digits + b) bs
