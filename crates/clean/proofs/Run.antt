-- The run of a clean hook: extraction by extraction (Turn.antt) path 0 is taken with 0, 1, .., V blocks. By induction on the blocks left. Assumes nothing.
use mathlib.Core.Path.{◌≡◌, refl, sym, ap, ap₂, ◌∙◌, subst}
use mathlib.Core.Bool.{Bool, true, false, cond}
use mathlib.Core.List.{List, [], ◌∷◌, map}
use Prim.Native.Nat.{ℕ, zero, suc, ◌+◌, ◌-◌, ◌≤◌, ◌<◌}
use native.Mathlib.Nat.{mul-le-mul_right, one-mul, add-zero, zero-add, zero-sub}
use native.Mathlib.Omega.{arith}
use lib.ListN.{length, replicate, length-map, length-replicate}
use lib.IntN.{ℤ, pos}
use lib.Dec.{eqb}
use borrow.Author.Tests.{eq-eqb, ne_eqb}
use Rattle.laws.specs.Lists.{All, tab, sum}
use Rattle.laws.proofs.Lists.{get_d-zeros, length-tab, tab-same, tab-first}
use Rattle.codebook.specs.Book.{Book, start_of}
use Rattle.codebook.specs.Limits.{Valid}
use Rattle.queue.specs.Run.{ended, after, trace, most_extractions}
use Rattle.queue.specs.Queue.{Step, found, end_as, Run, end_in, run_in}
use Rattle.queue.proofs.Run.{trace-over}
use Rattle.machine.specs.Machine.{Path, path, score_of, empty_path, extract, taking_from, taking, extract_at, step_at, next_at, first_state, trace_of, run_of}
use Rattle.machine.specs.Calls.{end_of, final_in, counts_of}
use Rattle.steprecords.specs.declared.StepRecord.{StepRecord}
use Rattle.steprecords.specs.Records.{record_of}
use Rattle.clean.specs.Clean.{Clean, clean_record, clean_walk, copies, clean_counts, clean_final, RunsClean}
use Rattle.clean.proofs.Path.{right_path, earlier, earlier-all, right-score, right-final}
use Rattle.clean.proofs.Turn.{crowded_of, outrun_of, Going, Turn, turn}

-- of no copies none is crowded out, and none outrun
crowded-none : (L D : ℕ) → crowded_of L D 0 ≡ 0
crowded-none L D = go (eqb L 1)
  where
    go : (o : Bool) → cond o 0 (0 - (D - 1)) ≡ 0
    go true = refl
    go false = zero-sub (D - 1)

outrun-none : (L : ℕ) → outrun_of L 0 ≡ 0
outrun-none L = go (eqb L 1)
  where
    go : (o : Bool) → ◌≡◌ {A = ℕ} (cond o 0 0) 0
    go true = refl
    go false = refl

module _ (B : Book) (ok : Valid B) (ys : List ℤ) (w : List ℕ) (clean : Clean B ys w) (L D : ℕ) (hd : 2 ≤ D) where
  abbrev V' : ℕ
  V' = length B.blocks

  -- what a run comes to, from path 0 with b blocks on, where k are left
  record Reads (b k : ℕ) (x : Run Path) : Type 0 where
    walk : map record_of x.steps ≡ tab (suc k) (λ i. clean_record B (b + i))
    end : x.end ≡ found (right_path B ys w V')
    crowded : sum (map (λ (s : Step). length s.crowded) x.steps) + crowded_of L D (earlier B b) ≡ crowded_of L D (earlier B V')
    outrun : sum (map (λ (s : Step). length s.outrun) x.steps) + outrun_of L (earlier B b) ≡ outrun_of L (earlier B V')

  -- the record of path 0's extraction
  own-record : (b : ℕ) → b ≤ V' → record { path = pos 0; blocks = pos b; score = (right_path B ys w b).score } ≡ clean_record B (b + 0)
  unfolding clean_record
  own-record b l = ap (λ z. record { path = pos 0; blocks = pos b; score = z }) (right-score B ok ys w clean b l) ∙ ap (clean_record B) (sym (add-zero b))

  -- the last extraction
  reads-last : (b : ℕ) → b ≡ V' →
      Reads b 0 (record { steps = record { path = 0; blocks = b; score = (right_path B ys w b).score; crowded = []; outrun = [] } ∷ []; end = found (right_path B ys w b) })
  unfolding path record_of sum tab
  reads-last b e =
      record {
        walk = ap (λ x. x ∷ []) (own-record b (omega arith));
        end = ap (λ i. found (right_path B ys w i)) e;
        crowded = zero-add (crowded_of L D (earlier B b)) ∙ ap (λ i. crowded_of L D (earlier B i)) e;
        outrun = zero-add (outrun_of L (earlier B b)) ∙ ap (λ i. outrun_of L (earlier B i)) e;
      }

  -- an extraction before others
  reads-after : (b k : ℕ) (qs : List Path) (n : ℕ) (visits : List ℕ) (x : Run Path) → b < V' → Turn B ys w L D b qs n visits → Reads (suc b) k x →
      Reads b (suc k) (record { steps = (extract B L D ys (right_path B ys w b) qs n visits).step ∷ x.steps; end = x.end })
  unfolding extract path record_of sum
  reads-after b k qs n visits x l t m =
      let later : tab (suc k) (λ i. clean_record B (suc b + i)) ≡ tab (suc k) (λ i. clean_record B (b + suc i)) =
      tab-same (suc k) _ _ (λ i _. let e : suc b + i ≡ b + suc i = omega arith in ap (clean_record B) e) in
      record {
        walk = ap₂ (λ (y : StepRecord) (ss : List StepRecord). y ∷ ss) (own-record b (omega arith)) (m.walk ∙ later) ∙ sym (tab-first (suc k) (λ i. clean_record B (b + i)));
        end = m.end;
        crowded = omega (arith, t.crowded, m.crowded);
        outrun = omega (arith, t.outrun, m.outrun);
      }

  -- so many extractions, from step 1 on
  abbrev from : ℕ → List Path → ℕ → List ℕ → Run Path
  from fuel qs n visits = run_in (step_at B L D ys) (trace (next_at B L D ys) fuel (taking_from qs n visits))

  reads : (fuel b k : ℕ) (qs : List Path) (n : ℕ) (visits : List ℕ) → b + k ≡ V' → k < fuel → Going B L D b qs visits → Reads b k (from fuel (right_path B ys w b ∷ qs) n visits)
  unfolding ended after trace end_in run_in taking_from taking extract_at step_at next_at path
  reads zero b k qs n visits e f g = absurd (omega arith)
  reads (suc fuel) b zero qs n visits e f g = rw (eq-eqb b V' (omega arith), trace-over (next_at B L D ys) fuel) (reads-last b (omega arith))
  reads (suc fuel) b (suc k) qs n visits e f g =
      let l : b < V' = omega arith in
      let t : Turn B ys w L D b qs n visits = turn B ok ys w clean L D hd b qs n visits l g in
      let x = (extract B L D ys (right_path B ys w b) qs n visits).state in
      let m : Reads (suc b) k (from fuel x.queue x.next x.visits) =
      subst (λ (q : List Path). Reads (suc b) k (from fuel q x.next x.visits)) (sym t.queue) (reads fuel (suc b) k t.rest x.next x.visits (omega arith) (omega arith) t.going) in
      rw (ne_eqb b V' (λ q. omega arith)) (reads-after b k qs n visits _ l t m)

  -- ---- the theorem

  module _ (h : 0 < L) where
    abbrev steps : List Step
    steps = (run_of B L D ys).steps

    whole : Reads 0 V' (run_of B L D ys)
    unfolding most_extractions first_state taking trace_of run_of empty_path path score_of All start_of earlier
    whole =
        reads (most_extractions L V') 0 V' [] 1 (replicate V' 0) (zero-add V') (omega (arith, mul-le-mul_right V' h, one-mul V'))
        (record { under = tt; sized = length-replicate V' 0; fresh = λ i _. get_d-zeros V' i; counted = omega (arith, crowded-none L D, outrun-none L) })

    clean-walk : map record_of steps ≡ clean_walk B
    unfolding clean_walk
    clean-walk =
        let e : suc V' ≡ V' + 1 = omega arith in
        whole.walk ∙ tab-same (suc V') _ _ (λ i _. ap (clean_record B) (zero-add i)) ∙ ap (λ n. tab n (clean_record B)) e

    clean-counts : counts_of steps (clean_final B w) ≡ clean_counts B L D
    unfolding counts_of clean_final clean_counts clean_walk earlier
    clean-counts =
        let extracted : length steps ≡ V' + 1 = sym (length-map steps record_of) ∙ ap length clean-walk ∙ length-tab (V' + 1) (clean_record B) in
        let crowded : sum (map (λ (s : Step). length s.crowded) steps) ≡ crowded_of L D (copies B) =
        omega (arith, whole.crowded, crowded-none L D) ∙ ap (crowded_of L D) (earlier-all B) in
        let outrun : sum (map (λ (s : Step). length s.outrun) steps) ≡ outrun_of L (copies B) = omega (arith, whole.outrun, outrun-none L) ∙ ap (outrun_of L) (earlier-all B) in
        λ i. record { extractions = extracted i; crowded = crowded i; outrun = outrun i; discrepancy = 0 }

    -- the machine's run on a clean hook
    pub machine-clean : RunsClean B L D w steps (end_of B ys (run_of B L D ys).end)
    unfolding end_of end_as final_in
    machine-clean =
        let e : end_of B ys (run_of B L D ys).end ≡ found (clean_final B w) = ap (end_of B ys) whole.end ∙ ap found (right-final B ok ys w clean) in
        record { walk = clean-walk; counts = ap (λ f. counts_of steps (final_in f)) e ∙ clean-counts; final = e }
