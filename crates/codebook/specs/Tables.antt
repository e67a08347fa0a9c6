-- The tables that the loader fills for the decoder, as functions of the loaded book. Assumes nothing.
use Rattle.std.specs.Prelude.{◌≡◌, cond, List, [], ◌∷◌, map, ℕ, zero, suc, ◌+◌, ◌^◌, length, take, drop, replicate, eqb, pos}
use Rattle.std.proofs.Math.Option.{Option, none, some}
use Rattle.laws.specs.Lists.{tab, over}
use Rattle.codebook.specs.declared.Refusal.{Refusal}
use Rattle.codebook.specs.declared.Tables.{Tables}
use Rattle.codebook.specs.Book.{Kind, free, frozen, tied, Block, Book, start_of}
use Rattle.codebook.specs.Loading.{Loading, Load, refused, loaded, start, total, member, width, command, refusal, next}

-- the codes of kinds, after so many ties: 0 is free, 1 zero, 2 + t the t-th tie
unfoldable pub kind_codes : ℕ → List Kind → List ℕ
kind_codes t [] = []
kind_codes t (free ∷ ks) = 0 ∷ kind_codes t ks
kind_codes t (frozen ∷ ks) = 1 ∷ kind_codes t ks
kind_codes t (tied terms ∷ ks) = (2 + t) ∷ kind_codes (suc t) ks

-- the set of the ties that index i is a term of, the t-th tie counting 2^t: among these kinds, after so many ties
unfoldable pub tie_set : ℕ → List Kind → ℕ → ℕ
tie_set t [] i = 0
tie_set t (free ∷ ks) i = tie_set t ks i
tie_set t (frozen ∷ ks) i = tie_set t ks i
tie_set t (tied terms ∷ ks) i = cond (member i terms) (2 ^ t) 0 + tie_set (suc t) ks i

-- the tables before anything is loaded
abbrev pub empty : Tables
empty = record { kinds = replicate 512 0; terms = replicate 512 0; heights = replicate 512 0; starts = replicate 512 0; biases = replicate 512 (pos 0) }

-- the tables of these kinds and blocks, with a set of ties for each of n indices
abbrev pub tables_with : ℕ → List Kind → List Block → Tables
tables_with n kinds blocks =
    record {
      kinds = kind_codes 0 kinds;
      terms = tab n (tie_set 0 kinds);
      heights = map (λ (x : Block). x.j) blocks;
      starts = tab (length blocks) (start_of blocks);
      biases = map (λ (x : Block). x.bias) blocks;
    }

-- the tables of a book
unfoldable pub tables_of : Book → Tables
tables_of B = tables_with (2 ^ B.m) B.kinds B.blocks

-- tables written over the start of others
unfoldable pub overlaid : Tables → Tables → Tables
overlaid new old =
    record {
      kinds = over new.kinds old.kinds;
      terms = over new.terms old.terms;
      heights = over new.heights old.heights;
      starts = over new.starts old.starts;
      biases = over new.biases old.biases;
    }

-- the tables of what is loaded so far
unfoldable pub tables_so_far : Loading → Tables
tables_so_far s = tables_with (total s) s.kinds s.blocks

-- what is loaded, or what comes after it where nothing is refused
unfoldable pub stays : Option Refusal → Loading → Loading → Loading
stays (some r) s other = s
stays none s other = other

-- What is loaded where loading stops, as `load_from` goes: at the first faulty command or at the end, by the commands before it.
unfoldable pub stop_from : ℕ → Loading → List ℕ → Loading
stop_from zero s bytes = s
stop_from (suc fuel) s [] = s
stop_from (suc fuel) s (byte ∷ after) =
    let more = stop_from fuel (next s (command byte (take (width byte) after))) (drop (width byte) after) in
    stays (refusal s byte after) s (cond (eqb byte 0x7f) s more)

unfoldable pub loaded_up_to : List ℕ → Loading
loaded_up_to bytes = stop_from (length bytes) start bytes

-- What loading leaves in the tables, by what it comes to and what is loaded where it stops: a book's tables are written over what they held; where loading
-- is refused, those of what the commands before the faulty one loaded.
unfoldable pub Filled : Load → Loading → Tables → Tables → Type 0
Filled (refused r) s old new = new ≡ overlaid (tables_so_far s) old
Filled (loaded B) s old new = new ≡ overlaid (tables_of B) old
