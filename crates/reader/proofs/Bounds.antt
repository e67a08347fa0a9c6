-- The reader's run: at most L entries a block, at most `most_extractions`, at most D paths alive, the one taken among them. The first two
-- from agreement with the machine; the last is kept by each extraction, since a cut leaves room for the copy. Assumes nothing.
use mathlib.Core.Path.{◌≡◌, sym, subst}
use mathlib.Core.List.{List, [], ◌∷◌}
use mathlib.Core.Option.{Option, none, some}
use Prim.Native.Nat.{ℕ, zero, suc, ◌-◌, ◌^◌, ◌≤◌, ◌<◌}
use native.Mathlib.Omega.{arith}
use lib.ListN.{length, take, length-take}
use lib.IntN.{ℤ}
use Rattle.laws.specs.Lists.{All}
use Rattle.codebook.specs.Book.{Book}
use Rattle.codebook.specs.Limits.{Valid}
use Rattle.queue.specs.Run.{most_extractions}
use Rattle.queue.specs.Queue.{insert, room_for, visit, Step}
use Rattle.queue.proofs.Run.{Leads}
use Rattle.runs.specs.Runs.{entries}
use Rattle.runs.proofs.Order.{insert-length, staying-length}
use Rattle.runs.proofs.Ends.{run-steps, run-entries}
use Rattle.reader.specs.Arrays.{Arrays}
use Rattle.outer.specs.Words.{Word}
use Rattle.reader.specs.Paths.{Path, key_of}
use Rattle.reader.specs.Reader.{copy_with, copy, move, extract, taking_from, run_of}
use Rattle.reader.proofs.Agree.{valid-agree}
use Rattle.reader.specs.Moments.{Moment, moments_of, extract_at, copy_at}
use Rattle.reader.proofs.Moments.{Taken, run-all}

-- ---- from the machine

module _ (B : Book) (ys : List ℤ) (ok : Valid B) (ly : length ys ≡ 2 ^ B.m) (L D : ℕ) (A : Arrays) (e : A.vals B.m 1 ≡ ys) (l : 0 < L) where
  pub steps-most : length (run_of B L D A).steps ≤ most_extractions L (length B.blocks)
  steps-most =
      subst (λ (steps : List Step). length steps ≤ most_extractions L (length B.blocks)) (sym (valid-agree B ok L D ys A l ly e).steps) (run-steps B L D ys)

  pub entries-most : (b : ℕ) → b < length B.blocks → entries b (run_of B L D A).steps ≤ L
  entries-most b h = subst (λ (steps : List Step). entries b steps ≤ L) (sym (valid-agree B ok L D ys A l ly e).steps) (run-entries b B L D ys l h)

-- ---- paths alive

-- before the extraction, and once the copy is made: the path taken is the D-th at most
pub record Alive (B : Book) (D : ℕ) (t : Moment) : Type 0 where
  pub before : length t.state.queue < D
  pub copied : length (copy_at B D t).queue < D

module _ (B : Book) (L D : ℕ) (two : 2 ≤ D) where
  copy_with-length : (A : Arrays) (p : Path) (b : ℕ) (ps : List Path) (n : ℕ) (o : Option Word) → length ps < D →
      length (copy_with B D A p b ps n o).queue < D
  unfolding copy_with room_for
  copy_with-length A p b ps n none h = h
  copy_with-length A p b ps n (some y) h =
      subst (λ (k : ℕ). k < D) (sym (insert-length (key_of B) _ (take (D - 2) ps))) (omega (arith, length-take (D - 2) ps))

  copy-length : (A : Arrays) (p : Path) (ps : List Path) (n b : ℕ) → length ps < D → length (copy B D A p ps n b).queue < D
  unfolding copy
  copy-length A p ps n zero h = h
  copy-length A p ps n (suc b) h = copy_with-length A p b ps n _ h

  pub alive : (t : Moment) → length t.state.queue < D → Alive B D t
  unfolding copy_at
  alive t h = record { before = h; copied = copy-length t.state.arrays t.path t.state.queue t.state.next t.path.blocks h }

  pub extract-length : (t : Moment) → Alive B D t → length (extract_at B L D t).state.queue ≤ D
  unfolding extract_at extract copy_at
  extract-length t a =
      let c : List Path = (copy B D t.state.arrays t.path t.state.queue t.state.next t.path.blocks).queue in
      let p : Path = (move B (copy B D t.state.arrays t.path t.state.queue t.state.next t.path.blocks).arrays t.path c).path in
      omega (arith, a.copied, insert-length (key_of B) p c, staying-length (key_of B) L t.path.blocks (visit t.state.visits t.path.blocks) (insert (key_of B) p c))

  taken-alive : (A : Arrays) (ps : List Path) (n : ℕ) (visits : List ℕ) → length ps ≤ D → Taken (Alive B D) A ps n visits
  unfolding taking_from Leads
  taken-alive A [] n visits h = tt
  taken-alive A (p ∷ ps) n visits h = alive _ h

  pub run-alive : (A : Arrays) → All (Alive B D) (moments_of B L D A)
  run-alive A = run-all B L D (Alive B D) (λ t _ a. taken-alive _ _ _ _ (extract-length t a)) A (taken-alive _ _ _ _ (omega arith))
