-- The bytes that write a code book: document 01, "The code book", read the other way. Consecutive free indices, or zero ones, may be split among several commands, none of them empty.
-- proofs/Written.antt shows that every valid book loads from them. Assumes nothing.
use Rattle.std.specs.Prelude.{◌≡◌, ℕ, zero, suc, ◌-◌, ◌/◌, ◌%◌, ◌^◌, ◌<◌, replicate, ℤ, pos, negsuc}
use mathlib.Core.List.{List, [], ◌∷◌, ◌++◌, map, flat_map}
use Rattle.laws.specs.Lists.{All, NonEmpty}
use Rattle.codebook.specs.declared.Command.{Command}
use Rattle.codebook.specs.declared.Command.TheVariants.{Length, Free, Zero, Tie, Term, Block as NextBlock, End}
use Rattle.codebook.specs.Book.{Kind, free, frozen, tied, Block, Book}

-- ---- commands as bytes

-- a number is a byte
abbrev pub Byte : ℕ → Type 0
Byte b = b < 256

-- a number in so many bytes, the highest first
unfoldable pub bytes : ℕ → ℕ → List ℕ
bytes zero x = []
bytes (suc n) x = bytes n (x / 256) ++ x % 256 ∷ []

-- a signed number in 32 bits, two's complement
unfoldable pub complement : ℤ → ℕ
complement (pos x) = x
complement (negsuc x) = 2 ^ 32 - suc x

-- a command: its byte and its operands
unfoldable pub written : Command → List ℕ
written (Length m) = 0x10 ∷ bytes 1 m
written (Free count) = 0x01 ∷ bytes 2 count
written (Zero count) = 0x02 ∷ bytes 2 count
written (Tie i) = 0x03 ∷ bytes 2 i
written (Term i) = 0x04 ∷ bytes 2 i
written (NextBlock j bias) = 0x05 ∷ bytes 1 j ++ bytes 4 (complement bias)
written End = 0x7f ∷ []

-- ---- indices as runs

-- indices that are written together: so many free ones, so many zero ones, or one that is tied to a first term and to more
pub data Run : Type 0 where
  frees : ℕ → Run
  zeros : ℕ → Run
  tie : ℕ → List ℕ → Run

-- their kinds
unfoldable pub kinds_in : Run → List Kind
kinds_in (frees count) = replicate count free
kinds_in (zeros count) = replicate count frozen
kinds_in (tie t ts) = tied (t ∷ ts) ∷ []

-- their commands
unfoldable pub commands_in : Run → List Command
commands_in (frees count) = Free count ∷ []
commands_in (zeros count) = Zero count ∷ []
commands_in (tie t ts) = Tie t ∷ map Term ts

-- the runs, none of them empty, make up the kinds: each way to split the kinds is one
pub record Splits (ks : List Kind) (rs : List Run) : Type 0 where
  pub whole : flat_map kinds_in rs ≡ ks
  pub some : All (λ (r : Run). NonEmpty (kinds_in r)) rs

-- ---- the whole book

-- the command of a block
unfoldable pub block_command : Block → Command
block_command x = NextBlock x.j x.bias

-- a book's commands, its indices written in these runs
unfoldable pub commands_of : Book → List Run → List Command
commands_of B rs = Length B.m ∷ flat_map commands_in rs ++ (map block_command B.blocks ++ End ∷ [])

-- its bytes
unfoldable pub bytes_of : Book → List Run → List ℕ
bytes_of B rs = flat_map written (commands_of B rs)
