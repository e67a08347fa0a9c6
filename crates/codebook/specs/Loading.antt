-- Loading a code book: document 01, "The code book" and "Refusal table". Assumes nothing.
use Rattle.std.specs.Prelude.{Bool, true, false, cond, not, ◌&&◌, ◌||◌, List, [], ◌∷◌, ◌++◌, ℕ, zero, suc, ◌+◌, ◌-◌, ◌*◌, ◌^◌, ◌%◌, length, get_or, take, drop, set, replicate, ℤ, pos, neg_ℤ, nat_abs, leb, ltb, eqb, Result, Ok, Err}
use Rattle.std.proofs.Math.Option.{Option, none, some}
use Rattle.codebook.specs.declared.Refusal.{Refusal}
use Rattle.codebook.specs.declared.Refusal.TheVariants.{Truncated, Unknown, Misplaced, OutOfRange, TooManyTied, TooManyFree}
use Rattle.codebook.specs.declared.Command.{Command}
use Rattle.codebook.specs.declared.Command.TheVariants.{Length, Free, Zero, Tie, Term, Block as NextBlock, End}
use Rattle.codebook.specs.declared.Shape.{Shape}
use Rattle.codebook.specs.Refusals.{refusal_number, unless}
use Rattle.codebook.specs.Book.{Kind, free, frozen, tied, Block, Book, free_count}

-- ---- the commands

-- the listed command bytes
unfoldable pub listed : ℕ → Bool
listed byte = eqb byte 0x10 || leb 1 byte && leb byte 5 || eqb byte 0x7f

-- how many bytes of operands follow a listed command byte
unfoldable pub width : ℕ → ℕ
width byte = cond (eqb byte 0x10) 1 (cond (leb byte 4) 2 (cond (eqb byte 5) 5 0))

-- bytes as a number, the highest first, after the digits so far
unfoldable pub big_endian : ℕ → List ℕ → ℕ
big_endian digits [] = digits
big_endian digits (b ∷ bs) = big_endian (256 * digits + b) bs

-- a number of 32 bits, read as two's complement
unfoldable pub signed : ℕ → ℤ
signed n = cond (ltb n (2 ^ 31)) (pos n) (neg_ℤ (pos (2 ^ 32 - n)))

-- the command that a listed byte and its operands make
unfoldable pub command : ℕ → List ℕ → Command
command byte operands =
    cond (eqb byte 0x10) (Length (big_endian 0 operands))
    (cond (eqb byte 0x01) (Free (big_endian 0 operands))
    (cond (eqb byte 0x02) (Zero (big_endian 0 operands))
    (cond (eqb byte 0x03) (Tie (big_endian 0 operands))
    (cond (eqb byte 0x04) (Term (big_endian 0 operands))
    (cond (eqb byte 0x05) (NextBlock (big_endian 0 (take 1 operands)) (signed (big_endian 0 (drop 1 operands))))
    End)))))

-- ---- what is loaded so far

-- m, 0 before the length; the kinds of the indices so far; how many are tied; whether the last command was a tie or a term; the blocks so
-- far; the number of indices in them
pub record Loading : Type 0 where
  pub m : ℕ
  pub kinds : List Kind
  pub ties : ℕ
  pub tying : Bool
  pub blocks : List Block
  pub covered : ℕ

-- nothing yet
unfoldable pub start : Loading
start = record { m = 0; kinds = []; ties = 0; tying = false; blocks = []; covered = 0 }

-- n, or 0 before the length
unfoldable pub total : Loading → ℕ
total s = cond (eqb s.m 0) 0 (2 ^ s.m)

-- the terms of a kind, and those of the last of the kinds
unfoldable pub terms_of : Kind → List ℕ
terms_of free = []
terms_of frozen = []
terms_of (tied ts) = ts

unfoldable pub last_terms : List Kind → List ℕ
last_terms ks = terms_of (get_or ks (length ks - 1) free)

-- whether a number is one of a list's
unfoldable pub member : ℕ → List ℕ → Bool
member x [] = false
member x (y ∷ ys) = eqb x y || member x ys

-- ---- refusals

-- Whether a listed command byte may stand here. The length comes first, once: before it n counts as 0, so that nothing else may stand. Index commands
-- come until all n indices are filled, a term only directly after a tie or a term; then block commands until the blocks reach n; then the end.
unfoldable pub placed : Loading → ℕ → Bool
placed s byte =
    let begun = not (eqb s.m 0) in
    let filled = eqb (length s.kinds) (total s) in
    let reached = eqb s.covered (total s) in
    cond (eqb byte 0x10) (not begun)
    (cond (leb byte 0x03) (not filled)
    (cond (eqb byte 0x04) s.tying
    (cond (eqb byte 0x05) (filled && not reached)
    (begun && reached))))

-- Why a command that may stand here, with all its operands, is refused: 4, then 5, then 6. A count is above 0 and goes no further
-- than n; a tie names an earlier index; a term one before the tied index, which is the last so far, that the tie does not name yet; at most 32 indices are tied; a block has j at most 5,
-- starts at a multiple of its length, goes no further than n, has a bias in range and at most 8 free indices.
unfoldable pub fault : Loading → Command → Option Refusal
fault s (Length m) = unless (leb 2 m && leb m 9) OutOfRange none
fault s (Free count) = unless (ltb 0 count && leb (length s.kinds + count) (total s)) OutOfRange none
fault s (Zero count) = unless (ltb 0 count && leb (length s.kinds + count) (total s)) OutOfRange none
fault s (Tie i) = unless (ltb i (length s.kinds)) OutOfRange (unless (ltb s.ties 32) TooManyTied none)
fault s (Term i) = unless (ltb (suc i) (length s.kinds) && not (member i (last_terms s.kinds))) OutOfRange none
fault s (NextBlock j bias) =
    let n = 2 ^ j in
    let fits = leb j 5 && eqb (s.covered % n) 0 && leb (s.covered + n) (total s) && leb (nat_abs bias) 1048576 in
    let light = leb (free_count (take n (drop s.covered s.kinds))) 8 in
    unless fits OutOfRange (unless light TooManyFree none)
fault s End = none

-- ---- one command more

-- more kinds at the end, after an index command that is no tie
unfoldable pub grown : Loading → List Kind → Loading
grown s ks = record { m = s.m; kinds = s.kinds ++ ks; ties = s.ties; tying = false; blocks = s.blocks; covered = s.covered }

-- what is loaded after a command that is not refused
unfoldable pub next : Loading → Command → Loading
next s (Length m) = record { m = m; kinds = []; ties = 0; tying = false; blocks = []; covered = 0 }
next s (Free count) = grown s (replicate count free)
next s (Zero count) = grown s (replicate count frozen)
next s (Tie i) =
    record {
      m = s.m;
      kinds = s.kinds ++ tied (i ∷ []) ∷ [];
      ties = suc s.ties;
      tying = true;
      blocks = s.blocks;
      covered = s.covered;
    }
next s (Term i) =
    record {
      m = s.m;
      kinds = set s.kinds (length s.kinds - 1) (tied (last_terms s.kinds ++ i ∷ []));
      ties = s.ties;
      tying = true;
      blocks = s.blocks;
      covered = s.covered;
    }
next s (NextBlock j bias) =
    record {
      m = s.m;
      kinds = s.kinds;
      ties = s.ties;
      tying = false;
      blocks = s.blocks ++ record { j = j; bias = bias } ∷ [];
      covered = s.covered + 2 ^ j;
    }
next s End = s

-- ---- the whole book

-- what loading comes to: a refusal, or a book
pub data Load : Type 0 where
  refused : Refusal → Load
  loaded : Book → Load

-- the book that is loaded at its end
unfoldable pub book_of : Loading → Book
book_of s = record { m = s.m; kinds = s.kinds; blocks = s.blocks }

-- why the command of this byte and the bytes after it is refused: tried 2, 3, 1, 4, 5, 6
unfoldable pub refusal : Loading → ℕ → List ℕ → Option Refusal
refusal s byte after =
    unless (listed byte) Unknown
    (unless (placed s byte) Misplaced
    (unless (leb (width byte) (length after)) Truncated
    (fault s (command byte (take (width byte) after)))))

-- a refusal, or what comes after it
unfoldable pub decided : Option Refusal → Load → Load
decided (some r) other = refused r
decided none other = other

-- Loading goes on with the bytes left, command by command, and the first faulty one decides. Bytes that end where a command is due are 1,
-- any byte after the end is 3. There are never more commands than bytes, which fuel counts.
unfoldable pub load_from : ℕ → Loading → List ℕ → Load
load_from zero s bytes = refused Truncated
load_from (suc fuel) s [] = refused Truncated
load_from (suc fuel) s (byte ∷ after) =
    let more = load_from fuel (next s (command byte (take (width byte) after))) (drop (width byte) after) in
    let ended = cond (eqb (length after) 0) (loaded (book_of s)) (refused Misplaced) in
    let go = cond (eqb byte 0x7f) ended more in
    decided (refusal s byte after) go

-- the book of these bytes, or the refusal
unfoldable pub load : List ℕ → Load
load bytes = load_from (length bytes) start bytes

-- the shape of a book: m, n, k and V
abbrev pub book_shape : Book → Shape
book_shape B = record { m = B.m; n = 2 ^ B.m; k = free_count B.kinds; blocks = length B.blocks }

-- what loading answers: the book's shape, or the refusal
unfoldable pub shape_of : Load → Result Shape Refusal
shape_of (refused r) = Err r
shape_of (loaded B) = Ok (book_shape B)

-- the number of a call on a book: that of the refusal where it does not load, else what the call's own tests come to
unfoldable pub number_by : Load → (Book → ℕ) → ℕ
number_by (refused r) own = refusal_number r
number_by (loaded B) own = own B
