-- What the loader's own functions promise to each other: what is read at a place of a book, when the loader's numbers and tables stand for
-- what is loaded so far, and what a command comes to. Assumes nothing.
use Rattle.std.specs.Prelude.{◌≡◌, Bool, cond, true, false, ◌&&◌, ◌||◌, List, [], map, ℕ, zero, suc, ◌+◌, ◌-◌, ◌^◌, ◌%◌, ◌<◌, length, get_or, take, drop, ℤ, nat_abs, T, leb, ltb, eqb, not, Option as Maybe, Some, None, Result, Ok, Err}
use Rattle.std.proofs.Math.Option.{Option, none, some}
use Rattle.laws.specs.Lists.{tab, over}
use Rattle.codebook.specs.declared.Refusal.{Refusal}
use Rattle.codebook.specs.declared.Refusal.TheVariants.{Truncated, Misplaced}
use Rattle.codebook.specs.declared.Shape.{Shape}
use Rattle.codebook.specs.declared.Command.{Command}
use Rattle.codebook.specs.declared.Command.TheVariants.{Length, Free, Zero, Tie, Term, Block as NextBlock, End}
use Rattle.codebook.specs.declared.Found.{Found}
use Rattle.codebook.specs.declared.Progress.{Progress}
use Rattle.codebook.specs.declared.Step.{Step}
use Rattle.codebook.specs.declared.Tables.{Tables}
use Rattle.codebook.specs.declared.Step.TheVariants.{Next, End as Ended}
use Rattle.codebook.specs.Refusals.{unless}
use Rattle.codebook.specs.Book.{Kind, free, frozen, tied, Block, free_count, tied_count, start_of}
use Rattle.codebook.specs.Loading.{Loading, total, last_terms, listed, width, command, placed, fault, next}
use Rattle.codebook.specs.Tables.{kind_codes, tie_set}

-- ---- a command is read

-- the listed command at a place within the book
unfoldable pub read_at : List ℕ → ℕ → Maybe Found
read_at bytes at =
    let byte = get_or bytes at 0 in
    let after = drop (at + 1) bytes in
    let whole : Found = record { command = command byte (take (width byte) after); next = at + 1 + width byte; whole = true } in
    let cut : Found = record { command = command byte []; next = at + 1; whole = false } in
    cond (listed byte) (Some (cond (leb (width byte) (length after)) whole cut)) None

-- a command's byte
unfoldable pub byte_of : Command → ℕ
byte_of (Length m) = 0x10
byte_of (Free count) = 0x01
byte_of (Zero count) = 0x02
byte_of (Tie i) = 0x03
byte_of (Term i) = 0x04
byte_of (NextBlock j bias) = 0x05
byte_of End = 0x7f

-- whether a command is the end
unfoldable pub is_end : Command → Bool
is_end c = eqb (byte_of c) 0x7f

-- why a command, its operands whole or cut, is refused: tried 3, 1, 4, 5, 6; the end has no operands
unfoldable pub verdict : Loading → Command → Bool → Option Refusal
verdict s c whole = unless (placed s (byte_of c)) Misplaced (unless (is_end c || whole) Truncated (fault s c))

-- ---- what the numbers and tables stand for

-- a is m and b is n, and no index is loaded
pub record Begun (a b : ℕ) (p : Progress) : Type 0 where
  pub m : p.m ≡ a
  pub n : p.n ≡ b
  pub filled : p.filled ≡ 0
  pub ties : p.ties ≡ 0
  pub tying : p.tying ≡ false
  pub free : p.free ≡ 0
  pub blocks : p.blocks ≡ 0
  pub covered : p.covered ≡ 0

-- The numbers are those of what is loaded: k is counted as far as the blocks go. After a tie or a term the last kind is tied and there is no
-- block; where there is a block, all indices are filled.
pub record CountsLoaded (p : Progress) (s : Loading) : Type 0 where
  pub m : p.m ≡ s.m
  pub n : p.n ≡ total s
  pub filled : p.filled ≡ length s.kinds
  pub ties : p.ties ≡ s.ties
  pub counted : tied_count s.kinds ≡ s.ties
  pub tying : p.tying ≡ s.tying
  pub last : T s.tying → get_or s.kinds (length s.kinds - 1) free ≡ tied (last_terms s.kinds)
  pub fresh : T s.tying → length s.blocks ≡ 0
  pub blocks : p.blocks ≡ length s.blocks
  pub covered : p.covered ≡ s.covered
  pub start : start_of s.blocks (length s.blocks) ≡ s.covered
  pub free : p.free ≡ free_count (take s.covered s.kinds)
  pub order : 0 < length s.blocks → length s.kinds ≡ total s

-- the tables t, which were old at first, are those of what is loaded, as far as it goes
pub record HoldsLoaded (p : Progress) (t old : Tables) (s : Loading) : Type 0 where
  pub counts : CountsLoaded p s
  pub kinds : t.kinds ≡ over (kind_codes 0 s.kinds) old.kinds
  pub terms : t.terms ≡ over (tab (total s) (tie_set 0 s.kinds)) old.terms
  pub heights : t.heights ≡ over (map (λ (x : Block). x.j) s.blocks) old.heights
  pub starts : t.starts ≡ over (tab (length s.blocks) (start_of s.blocks)) old.starts
  pub biases : t.biases ≡ over (map (λ (x : Block). x.bias) s.blocks) old.biases

-- the shape of a book that is loaded
unfoldable pub shape_at : Progress → Shape
shape_at p = record { m = p.m; n = p.n; k = p.free; blocks = p.blocks }

-- ---- what a command comes to

-- whether a command may stand after what these numbers count
unfoldable pub stands : Progress → Command → Bool
stands p (Length m) = eqb p.m 0
stands p (Free count) = ltb p.filled p.n
stands p (Zero count) = ltb p.filled p.n
stands p (Tie i) = ltb p.filled p.n
stands p (Term i) = p.tying
stands p (NextBlock j bias) = eqb p.filled p.n && ltb p.covered p.n
stands p End = not (eqb p.m 0) && eqb p.covered p.n

-- the refusal, where there is one, and then K; else an answer that has the property P
unfoldable pub Settled : {A : Type 0} → Option Refusal → Type 0 → (A → Type 0) → Result A Refusal → Type 0
Settled {A} none K P x = (y : A) × (x ≡ Ok y) × P y
Settled {A} (some r) K P x = (x ≡ Err r) × K

-- A function's promise: at the numbers p, a command that may stand is settled by its faults, and the tables t become u, the same where it is
-- refused; whatever is loaded so far, and whatever the tables first held.
abbrev pub Grows : Progress → Command → Tables → Tables → Result Progress Refusal → Type 0
Grows p c t u x =
    (old : Tables) (s : Loading) → HoldsLoaded p t old s → Settled (fault s c) (u ≡ t) (λ (q : Progress). HoldsLoaded q u old (next s c)) x

-- a step: the end or not, with numbers that have the property P
unfoldable pub Goes : Bool → (Progress → Type 0) → Step → Type 0
Goes true P y = (q : Progress) × (y ≡ Ended q) × P q
Goes false P y = (q : Progress) × (y ≡ Next q) × P q

-- A function's promise: the same of any command and its operands, whole or cut.
abbrev pub Obeys : Progress → Command → Bool → Tables → Tables → Result Step Refusal → Type 0
Obeys p c whole t u x =
    (old : Tables) (s : Loading) → HoldsLoaded p t old s → Settled (verdict s c whole) (u ≡ t) (Goes (is_end c) (λ (q : Progress). HoldsLoaded q u old (next s c))) x

-- the command of a run of indices with this code, 0 free or 1 zero
unfoldable pub run_command : ℕ → ℕ → Command
run_command zero count = Free count
run_command (suc code) count = Zero count

-- whether a block may start at this index of n, with its bias in range
unfoldable pub block_fits : ℕ → ℕ → ℕ → ℤ → Bool
block_fits start n j bias = leb j 5 && eqb (start % 2 ^ j) 0 && leb (start + 2 ^ j) n && leb (nat_abs bias) 1048576

-- the kind of a code below 2
unfoldable pub kind_of : ℕ → Kind
kind_of zero = free
kind_of (suc c) = frozen
