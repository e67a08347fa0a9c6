-- The final word is in the code, its data are the bits at the free indices, and its discrepancy is exact. The invariant: the bits of each
-- queued path fill its blocks and obey their kinds; filling the next block, or the last one anew, keeps it so. Assumes nothing.
use mathlib.Core.Path.{◌≡◌, refl, sym, ap, ap₂, ◌∙◌, subst}
use mathlib.Core.Bool.{Bool, not, ◌&&◌}
use mathlib.Core.List.{List, ◌∷◌, ◌++◌}
use mathlib.Core.Option.{Option, none, some}
use Prim.Native.Nat.{ℕ, zero, suc, ◌+◌, ◌^◌, ◌≤◌, ◌<◌}
use native.Mathlib.Nat.{zero-add}
use native.Mathlib.Omega.{arith}
use lib.ListN.{length, take, drop, length-drop, take-append-drop}
use lib.Seq.{take_all, take-take, take-add, length-take-le}
use lib.IntN.{ℤ}
use lib.Dec.{T, eqb}
use Rattle.laws.specs.Lists.{All, May}
use Rattle.laws.proofs.Tests.{and_in, and_left, neqb→ne}
use Rattle.laws.proofs.Lists.{all_take}
use Rattle.polar.specs.Bits.{Bit, to_bits}
use Rattle.polar.specs.Transform.{transform}
use Rattle.polar.proofs.Bits.{to_bits-bits}
use Rattle.polar.proofs.Transform.{transform-length, transform-bits, transform-twice}
use Rattle.polar.proofs.Value.{R-discrepancy}
use Rattle.codebook.specs.Book.{Book, Kind, free_count, start_of, block_at, kinds_of}
use Rattle.codebook.specs.Limits.{KindsOk, Valid}
use Rattle.codebook.proofs.Indices.{kinds-take, kinds-part}
use Rattle.codebook.proofs.Blocks.{start-next}
use Rattle.codec.specs.Code.{fill, free_bits, obeys_all, in_code, read_data}
use Rattle.codec.proofs.Fill.{After, fill-after, fill-obeys, obeys-append, obeys-front}
use Rattle.machine.specs.Words.{Ranked, nearer, rank, setting, nearest_with, nearest, next_after}
use Rattle.machine.specs.Machine.{Path, State, path, empty_path, copy_with, copy_of, advance_with, advance, extract, first_state, run_of}
use Rattle.queue.specs.Queue.{End, end_as}
use Rattle.machine.specs.Calls.{final_of, end_of, final_in}
use Rattle.runs.specs.Runs.{state_of, Finds, Ended, Exact}
use Rattle.runs.proofs.Choice.{first-may}
use Rattle.runs.proofs.Steps.{all-extract}
use Rattle.runs.proofs.Moments.{run-final}
use Rattle.runs.proofs.Ends.{run_ends}

-- ---- bits that fill the first s indices and obey their kinds

pub record Fills (B : Book) (s : ℕ) (u : List ℕ) : Type 0 where
  pub size : length u ≡ s
  pub bits : All Bit u
  pub obey : T (obeys_all u 0 (take s B.kinds))

module _ (B : Book) (ok : Valid B) where
  -- the first of them
  filling-cut : (s t : ℕ) (u : List ℕ) → s ≤ t → t ≤ 2 ^ B.m → Fills B t u → Fills B s (take s u)
  filling-cut s t u h l f =
      let ks : List Kind = take t B.kinds in
      let front : take s ks ≡ take s B.kinds = take-take s t B.kinds h in
      let n : length (take s B.kinds) ≡ s = length-take-le s B.kinds (omega (arith, ok.indices)) in
      let split : take t B.kinds ≡ take s B.kinds ++ drop s ks = sym (take-append-drop s ks) ∙ ap (λ x. x ++ drop s ks) front in
      let first : Bool = obeys_all u 0 (take s B.kinds) in
      let others : Bool = obeys_all u (0 + length (take s B.kinds)) (drop s ks) in
      let both : T (first && others) = subst T (ap (obeys_all u 0) split ∙ obeys-append u 0 (take s B.kinds) (drop s ks)) f.obey in
      record {
        size = length-take-le s u (omega (arith, f.size));
        bits = all_take Bit s u f.bits;
        obey = subst T (obeys-front s 0 u (take s u) (take s B.kinds) (omega arith) (kinds-take 0 s B.kinds ok.kinds) (sym (take-take s s u (omega arith)))) (and_left first others both);
      }

  -- n more, filled by their kinds
  filling-more : (s n : ℕ) (u ds : List ℕ) → s + n ≤ 2 ^ B.m → All Bit ds → Fills B s u → Fills B (s + n) (fill u (take n (drop s B.kinds)) ds)
  filling-more s n u ds l h f =
      let ks : List Kind = take s B.kinds in
      let ls : List Kind = take n (drop s B.kinds) in
      let x : List ℕ = fill u ls ds in
      let lk : length ks ≡ s = length-take-le s B.kinds (omega (arith, ok.indices)) in
      let ll : length ls ≡ n = length-take-le n (drop s B.kinds) (omega (arith, ok.indices, length-drop s B.kinds)) in
      let a : After u (length ls) x = fill-after u ls ds f.bits h in
      let same : take s u ≡ take s x = take_all s u (omega (arith, f.size)) ∙ sym a.front ∙ ap (λ i. take i x) f.size in
      let kinds : KindsOk (length u) ls = subst (λ (i : ℕ). KindsOk i ls) (sym f.size) (kinds-part s n B.kinds ok.kinds) in
      let old : T (obeys_all x 0 ks) = subst T (obeys-front s 0 u x ks (omega arith) (kinds-take 0 s B.kinds ok.kinds) same) f.obey in
      let new : T (obeys_all x (length u) ls) = fill-obeys u ls ds f.bits h kinds in
      let at : length u ≡ 0 + length ks = f.size ∙ sym lk ∙ sym (zero-add (length ks)) in
      record {
        size = a.size ∙ ap₂ ◌+◌ f.size ll;
        bits = a.bits;
        obey = subst T (sym (ap (obeys_all x 0) (take-add s n B.kinds) ∙ obeys-append x 0 ks ls)) (and_in (obeys_all x 0 ks) (obeys_all x (0 + length ks) ls) old (subst (λ (i : ℕ). T (obeys_all x i ls)) at new));
      }

  -- ---- a path's blocks

  abbrev Fits : Path → Type 0
  Fits p = (p.blocks ≤ length B.blocks) × Fills B (start_of B.blocks p.blocks) p.bits

  -- each setting of block b after bits that fill the blocks before it
  setting-fits : (ys : List ℤ) (u : List ℕ) (b w : ℕ) → b < length B.blocks → Fills B (start_of B.blocks b) u → Fills B (start_of B.blocks (suc b)) (setting B ys u b w).bits
  unfolding setting rank kinds_of
  setting-fits ys u b w l f =
      let n : ℕ = 2 ^ (block_at B b).j in
      subst (λ (i : ℕ). Fills B i (setting B ys u b w).bits) (sym (start-next B b l))
      (filling-more (start_of B.blocks b) n u (to_bits (free_count (kinds_of B b)) w) (ok.blocks b l).within (to_bits-bits _ w) f)

  -- so the words found
  abbrev Word : ℕ → Ranked → Type 0
  Word b x = Fills B (start_of B.blocks (suc b)) x.bits

  nearest-fits : (test : Ranked → Bool) (ys : List ℤ) (u : List ℕ) (b : ℕ) → b < length B.blocks → Fills B (start_of B.blocks b) u → May (Word b) (nearest_with test B ys u b)
  unfolding nearest_with
  nearest-fits test ys u b l f = first-may nearer test (setting B ys u b) (Word b) _ (λ w _ _. setting-fits ys u b w l f)

  next_fits : (ys : List ℤ) (u : List ℕ) (b : ℕ) → b < length B.blocks → Fills B (start_of B.blocks (suc b)) u → May (Word b) (next_after B ys u b)
  unfolding next_after
  next_fits ys u b l f =
      let s : ℕ = start_of B.blocks b in
      let e : start_of B.blocks (suc b) ≡ s + 2 ^ (block_at B b).j = start-next B b l in
      nearest-fits _ ys (take s u) b l (filling-cut s (start_of B.blocks (suc b)) u (omega arith) (omega (arith, (ok.blocks b l).within)) f)

  copy_with-fits : (ys : List ℤ) (n b : ℕ) (o : Option Ranked) → b < length B.blocks → May (Word b) o → May Fits (copy_with B ys n (suc b) o)
  unfolding copy_with path May
  copy_with-fits ys n b none l h = tt
  copy_with-fits ys n b (some x) l h = (l, h)

  copy-fits : (ys : List ℤ) (n b : ℕ) (u : List ℕ) → b ≤ length B.blocks → Fills B (start_of B.blocks b) u → May Fits (copy_of B ys n b u)
  unfolding copy_of May
  copy-fits ys n zero u l f = tt
  copy-fits ys n (suc b) u l f = copy_with-fits ys n b (next_after B ys u b) l (next_fits ys u b l f)

  advance_with-fits : (ys : List ℤ) (p : Path) (o : Option Ranked) → p.blocks < length B.blocks → May (Word p.blocks) o → Fits p → Fits (advance_with B ys p o)
  unfolding advance_with path May
  advance_with-fits ys p none l h f = f
  advance_with-fits ys p (some x) l h f = (l, h)

  advance-fits : (ys : List ℤ) (p : Path) → p.blocks < length B.blocks → Fits p → Fits (advance B ys p)
  unfolding advance nearest
  advance-fits ys p l f = advance_with-fits ys p _ l (nearest-fits _ ys p.bits p.blocks l f.1) f

  -- ---- the run

  abbrev AllFit : State → Type 0
  AllFit s = All Fits s.queue

  extract-fits : (L D : ℕ) (ys : List ℤ) (p : Path) (qs : List Path) (n : ℕ) (visits : List ℕ) → T (not (eqb p.blocks (length B.blocks))) → AllFit (state_of (p ∷ qs) n visits) → AllFit (extract B L D ys p qs n visits).state
  unfolding All
  extract-fits L D ys p qs n visits t h =
      let ne = neqb→ne p.blocks (length B.blocks) t in
      let l : p.blocks < length B.blocks = omega (arith, h.0.0) in
      all-extract Fits B L D ys p qs n visits h.1 (copy-fits ys n p.blocks p.bits h.0.0 h.0.1) (advance-fits ys p l h.0)

  first_fits : AllFit (first_state B)
  unfolding first_state empty_path start_of All obeys_all
  first_fits = ((omega arith, record { size = refl; bits = tt; obey = tt }), tt)

  -- the path taken last fills all indices
  final-filling : (L D : ℕ) (ys : List ℤ) → Finds (λ (p : Path). Fills B (2 ^ B.m) p.bits) (run_of B L D ys).end
  unfolding All
  final-filling L D ys =
      run-final B L D ys AllFit _ (extract-fits L D ys) (λ p qs n visits e h. subst (λ (s : ℕ). Fills B s p.bits) (ap (start_of B.blocks) e ∙ ok.covered) h.0.1) first_fits

  -- ---- the word

  filling-exact : (ys : List ℤ) (p : Path) → length ys ≡ 2 ^ B.m → Fills B (2 ^ B.m) p.bits → Exact B ys (final_of B ys p)
  unfolding final_of in_code read_data
  filling-exact ys p e f =
      let u : List ℕ = p.bits in
      let back : transform B.m (transform B.m u) ≡ u = transform-twice B.m u f.size f.bits in
      let all : take (2 ^ B.m) B.kinds ≡ B.kinds = take_all (2 ^ B.m) B.kinds (omega (arith, ok.indices)) in
      record {
        size = transform-length B.m u f.size;
        bits = transform-bits B.m u f.bits;
        member = subst T (ap₂ (λ (x : List ℕ) (ks : List Kind). obeys_all x 0 ks) (sym back) all) f.obey;
        databits = ap (free_bits B.kinds) (sym back);
        discrepancy = R-discrepancy B.m ys u e f.size f.bits;
      }

  pub run-exact : (L D : ℕ) (ys : List ℤ) → 0 < L → length ys ≡ 2 ^ B.m → Exact B ys (final_in (end_of B ys (run_of B L D ys).end))
  unfolding Ended Finds final_in end_of end_as
  run-exact L D ys h e =
      let (p, q, _) = run_ends B L D ys h in
      let f = subst (Finds (λ (p : Path). Fills B (2 ^ B.m) p.bits)) q (final-filling L D ys) in
      subst (λ (o : End Path). Exact B ys (final_in (end_of B ys o))) (sym q) (filling-exact ys p e f)
