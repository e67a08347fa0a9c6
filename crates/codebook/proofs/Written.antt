-- Every valid book loads from the bytes that write it, however its indices are split into runs; with Loaded, the books that some bytes load as are exactly the valid ones. The length, then
-- the indices (Runs), then the blocks (Covering). Assumes nothing.
use mathlib.Core.Path.{◌≡◌, refl, ap, ◌∙◌}
use mathlib.Core.Bool.{false}
use mathlib.Core.List.{List, [], ◌∷◌, ◌++◌, map, flat_map}
use mathlib.Core.Logic.{◌↔◌}
use Prim.Native.Nat.{ℕ, zero, suc, ◌/◌, ◌%◌}
use native.Mathlib.Omega.{arith}
use borrow.Author.Tests.{le-leb}
use Rattle.laws.specs.Lists.{All, NonEmpty}
use Rattle.laws.proofs.Lists.{all_append}
use Rattle.codebook.specs.declared.Command.{Command}
use Rattle.codebook.specs.declared.Command.TheVariants.{Length, Free, Zero, Tie, Term, Block as NextBlock, End}
use Rattle.codebook.specs.Refusals.{unless}
use Rattle.codebook.specs.Book.{Kind, free, frozen, tied, Book, tied_count, start_of}
use Rattle.codebook.specs.Loading.{loaded, start, placed, fault, next, load}
use Rattle.codebook.specs.Limits.{KindOk, KindsOk, Valid}
use Rattle.codebook.specs.Progress.{byte_of, is_end}
use Rattle.codebook.specs.Written.{Byte, bytes, complement, written, Run, frees, zeros, tie, kinds_in, commands_in, Splits, block_command, commands_of, bytes_of}
use Rattle.codebook.proofs.Loaded.{loaded-valid}
use Rattle.codebook.proofs.Obeyed.{Fitting, from, goes, obeyed}
use Rattle.codebook.proofs.Runs.{Fit, runs-go}
use Rattle.codebook.proofs.Covering.{blocks-go}

-- a valid book loads from its bytes, for every split of its indices into runs
pub written-loads : (B : Book) (rs : List Run) → Valid B → Splits B.kinds rs → load (bytes_of B rs) ≡ loaded B
unfolding load bytes_of commands_of goes from start placed fault unless byte_of is_end Fitting next tied_count start_of
written-loads B rs v s =
    let low = v.low in
    let high = v.high in
    let e = s.whole in
    let cs = map block_command B.blocks ++ End ∷ [] in
    let fit : Fit B.m (flat_map kinds_in rs) = record { kinds = rw e v.kinds; room = rw (e, v.indices) (omega arith); few = rw e v.ties } in
    let runs = runs-go B.m low high rs [] false cs s.some fit in
    obeyed (Length B.m) start (flat_map commands_in rs ++ cs) (omega arith) refl refl (rw (le-leb 2 B.m, le-leb B.m))
    ∙ runs.1
    ∙ rw e (blocks-go B v [] B.blocks runs.0 refl)

-- ---- the bytes are bytes

number-bytes : (n x : ℕ) → All Byte (bytes n x)
unfolding bytes All
number-bytes zero x = tt
number-bytes (suc n) x = all_append Byte (bytes n (x / 256)) (x % 256 ∷ []) (number-bytes n (x / 256)) (omega arith, tt)

command-bytes : (c : Command) → All Byte (written c)
unfolding written All
command-bytes (Length m) = (omega arith, number-bytes 1 m)
command-bytes (Free count) = (omega arith, number-bytes 2 count)
command-bytes (Zero count) = (omega arith, number-bytes 2 count)
command-bytes (Tie i) = (omega arith, number-bytes 2 i)
command-bytes (Term i) = (omega arith, number-bytes 2 i)
command-bytes (NextBlock j bias) = (omega arith, all_append Byte (bytes 1 j) (bytes 4 (complement bias)) (number-bytes 1 j) (number-bytes 4 (complement bias)))
command-bytes End = (omega arith, tt)

all-bytes : (cs : List Command) → All Byte (flat_map written cs)
unfolding flat_map All
all-bytes [] = tt
all-bytes (c ∷ cs) = all_append Byte (written c) (flat_map written cs) (command-bytes c) (all-bytes cs)

-- ---- the books that load

-- kinds that keep the limits can be split: each index alone
each-alone : (i : ℕ) (ks : List Kind) → KindsOk i ks → (rs : List Run) × Splits ks rs
unfolding KindsOk KindOk flat_map kinds_in All NonEmpty
each-alone i [] ok = ([], record { whole = refl; some = tt })
each-alone i (free ∷ ks) ok =
    let r = each-alone (suc i) ks ok.1 in
    (frees 1 ∷ r.0, record { whole = ap (λ l. free ∷ l) r.1.whole; some = (tt, r.1.some) })
each-alone i (frozen ∷ ks) ok =
    let r = each-alone (suc i) ks ok.1 in
    (zeros 1 ∷ r.0, record { whole = ap (λ l. frozen ∷ l) r.1.whole; some = (tt, r.1.some) })
each-alone i (tied [] ∷ ks) ok = absurd (omega (arith, ok.0.some))
each-alone i (tied (t ∷ ts) ∷ ks) ok =
    let r = each-alone (suc i) ks ok.1 in
    (tie t ts ∷ r.0, record { whole = ap (λ l. tied (t ∷ ts) ∷ l) r.1.whole; some = (tt, r.1.some) })

-- a book is valid exactly when some bytes load as it
pub valid-iff-loads : (B : Book) → Valid B ↔ ((bs : List ℕ) × All Byte bs × (load bs ≡ loaded B))
unfolding bytes_of
valid-iff-loads B =
    (λ v. let r = each-alone 0 B.kinds v.kinds in (bytes_of B r.0, all-bytes (commands_of B r.0), written-loads B r.0 v r.1), λ h. loaded-valid h.0 B h.2)
