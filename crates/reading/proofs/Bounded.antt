-- What one extraction adds to a run's counts: at most one number given out, one path crowded out, as many outrun as there are paths, one visit. And
-- a book has a block. By the definitions of its steps. Assumes nothing.
use mathlib.Core.Path.{◌≡◌, ap}
use mathlib.Core.Logic.{◌⊎◌, inl, inr}
use mathlib.Core.List.{List}
use mathlib.Core.Option.{Option, none, some}
use Prim.Native.Nat.{ℕ, zero, suc, ◌-◌, ◌≤◌, ◌<◌}
use native.Mathlib.Decide.{ℕ_discrete}
use native.Mathlib.Omega.{arith}
use lib.ListN.{length, get_or, drop, length-map, length-drop, get_or-eq_default, length-set}
use lib.Seq.{get_or-set_same, get_or-set_other}
use lib.Pow.{pow_pos}
use Rattle.laws.proofs.Tests.{lt-or}
use Rattle.codebook.specs.Book.{Book}
use Rattle.codebook.specs.Limits.{Valid}
use Rattle.codebook.proofs.Blocks.{start-some}
use Rattle.queue.specs.Queue.{insert, outrun_by, numbers, crowded_out, visit}
use Rattle.runs.proofs.Order.{insert-length, outrun-length}
use Rattle.outer.specs.Words.{Word}
use Rattle.reader.specs.Arrays.{Arrays}
use Rattle.reader.specs.Paths.{Path, key_of}
use Rattle.reader.specs.Reader as R
use Rattle.reader.specs.Moments.{Moment, copy_at}
use Rattle.reader.proofs.Bounds.{alive}

-- ---- the blocks of a book

pub blocks-some : (B : Book) → Valid B → 0 < length B.blocks
blocks-some B ok = start-some B.blocks (omega (arith, ok.covered, pow_pos B.m))

-- ---- a visit

visit-most : (visits : List ℕ) (b n : ℕ) → ((i : ℕ) → get_or visits i 0 ≤ n) → (i : ℕ) → get_or (visit visits b) i 0 ≤ suc n
unfolding visit
visit-most visits b n h i = go (ℕ_discrete i b) (lt-or b (length visits))
  where
    go : Dec (i ≡ b) → (b < length visits) ⊎ (length visits ≤ b) → get_or (visit visits b) i 0 ≤ suc n
    go (yes e) (inl l) =
        omega (arith, ap (λ k. get_or (visit visits b) k 0) e, get_or-set_same visits b (suc (get_or visits b 0)) 0 l, h b)
    go (yes e) (inr l) =
        omega (arith, get_or-eq_default (visit visits b) 0 {n = i} (omega (arith, length-set visits b (suc (get_or visits b 0)))))
    go (no d) y = omega (arith, get_or-set_other visits b i (suc (get_or visits b 0)) 0 d, h i)

-- ---- one extraction

module _ (B : Book) (L D : ℕ) (two : 2 ≤ D) (A : Arrays) (p : Path) (ps : List Path) (n : ℕ) (visits : List ℕ) (few : length ps < D) where
  copy_with-next : (b : ℕ) (o : Option Word) → (R.copy_with B D A p b ps n o).next ≤ suc n
  unfolding R.copy_with
  copy_with-next b none = omega arith
  copy_with-next b (some y) = omega arith

  copy-next : (b : ℕ) → (R.copy B D A p ps n b).next ≤ suc n
  unfolding R.copy
  copy-next zero = omega arith
  copy-next (suc b) = copy_with-next b _

  pub next-most : (R.extract B L D A p ps n visits).state.next ≤ suc n
  unfolding R.extract
  next-most = copy-next p.blocks

  copy_with-crowded : (b : ℕ) (o : Option Word) → length (R.copy_with B D A p b ps n o).crowded ≤ 1
  unfolding R.copy_with numbers crowded_out
  copy_with-crowded b none = omega arith
  copy_with-crowded b (some y) = omega (arith, length-map (drop (D - 2) ps) (λ (q : Path). (key_of B q).number), length-drop (D - 2) ps)

  copy-crowded : (b : ℕ) → length (R.copy B D A p ps n b).crowded ≤ 1
  unfolding R.copy
  copy-crowded zero = omega arith
  copy-crowded (suc b) = copy_with-crowded b _

  pub crowded-most : length (R.extract B L D A p ps n visits).step.crowded ≤ 1
  unfolding R.extract
  crowded-most = copy-crowded p.blocks

  pub outrun-most : length (R.extract B L D A p ps n visits).step.outrun ≤ D
  unfolding R.extract numbers copy_at
  outrun-most =
      let b : ℕ = p.blocks in
      let t : Moment = record { path = p; state = record { arrays = A; queue = ps; next = n; visits = visits } } in
      let c = R.copy B D A p ps n b in
      let q : Path = (R.move B c.arrays p c.queue).path in
      let qs : List Path = insert (key_of B) q c.queue in
      let l : length c.queue < D = (alive B L D two t few).copied in
      omega (
        arith,
        length-map (outrun_by (key_of B) L b (visit visits b) qs) (λ (x : Path). (key_of B x).number),
        outrun-length (key_of B) L b (visit visits b) qs,
        insert-length (key_of B) q c.queue,
        l,
      )

  pub visits-most : (k : ℕ) → ((i : ℕ) → get_or visits i 0 ≤ k) → (i : ℕ) → get_or (R.extract B L D A p ps n visits).state.visits i 0 ≤ suc k
  unfolding R.extract
  visits-most k h i = visit-most visits p.blocks k h i
