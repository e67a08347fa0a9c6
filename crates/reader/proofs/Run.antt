-- The reader's run is the machine's, moment by moment: one extraction keeps the two in step, and where step 1 stops the final word, its data and its discrepancy
-- are the machine's. By the law of two machines in step (queue/proofs/Run). Assumes nothing.
use mathlib.Core.Path.{◌≡◌, refl, sym, ap, ap₂, ◌∙◌, subst, subst₂}
use mathlib.Core.Bool.{Bool, true, false, cond}
use mathlib.Core.List.{List, [], ◌∷◌}
use Prim.Native.Nat.{ℕ, suc, ◌+◌, ◌^◌}
use lib.ListN.{length}
use lib.IntN.{ℤ, pos, nat_abs}
use lib.Dec.{eqb}
use borrow.Author.Tests.{eqb-true, eqb-false}
use Rattle.laws.proofs.Integers.{neg-abs}
use Rattle.laws.specs.Pairs.{Paired}
use Rattle.polar.specs.Transform.{transform}
use Rattle.polar.specs.Value as Value
use Rattle.polar.proofs.Transform.{transform-twice}
use Rattle.polar.specs.Value.{costs}
use Rattle.polar.proofs.Value.{R-costs}
use Rattle.codebook.specs.Book.{Book, start_of}
use Rattle.codebook.specs.Limits.{Valid}
use Rattle.codec.specs.Code.{free_bits, read_data}
use Rattle.queue.specs.Run.{over}
use Rattle.queue.specs.Queue.{Step, Final, End, found, end_as}
use Rattle.queue.proofs.Run.{InStep, TracesInStep, traces-in-step}
use Rattle.machine.specs.Machine as M
use Rattle.machine.specs.Calls.{final_of, end_of}
use Rattle.reader.specs.Arrays.{Arrays, View, sums_of}
use Rattle.reader.specs.Paths.{Path, first_path, score_of, ids_of, view_of}
use Rattle.reader.specs.Reader as R
use Rattle.reader.specs.Reader.{Moment, commit, final_at}
use Rattle.reader.specs.Reached.{Sums, Inv, HoldsBits, plain, StandsFor}
use Rattle.reader.proofs.Upd.{upd_same}
use Rattle.reader.proofs.Tree.{root-word}
use Rattle.codec.proofs.Ties.{parities-none}
use Rattle.reader.proofs.Good.{PathSized, sized, Ready, ready}
use Rattle.reader.proofs.Step.{StepIs, stands-blocks, extract-is}

-- the moment t stands for the machine's moment s
pub record MomentIs (B : Book) (ys : List ℤ) (s : M.Moment) (t : Moment) : Type 0 where
  pub path : StandsFor B ys t.state.arrays s.path t.path
  pub queue : Paired (StandsFor B ys t.state.arrays) s.state.queue t.state.queue
  pub next : s.state.next ≡ t.state.next
  pub visits : s.state.visits ≡ t.state.visits

-- an end is the machine's
abbrev pub EndIs : Book → List ℤ → End M.Path → End Final → Type 0
EndIs B ys e e' = e' ≡ end_of B ys e

-- path 0, whatever the arrays hold but the received values at the root
pub first-stands : (B : Book) (ys : List ℤ) (A : Arrays) → A.vals B.m 1 ≡ ys → StandsFor B ys A M.empty_path (first_path B)
unfolding M.empty_path first_path plain score_of Inv
first-stands B ys A e =
    record {
      same = refl;
      holds =
          record {
            parities = parities-none B;
            inv = record { bits = refl; spent = refl; cost = refl; root = ap (A.vals B.m) (upd_same (λ _. 0) B.m 1) ∙ e };
          };
    }

module _ (B : Book) (ys : List ℤ) (ok : Valid B) (ly : length ys ≡ 2 ^ B.m) where
  -- ---- one extraction

  -- where step 1 stops
  final-plain : (u : List ℕ) (t : Moment) → HoldsBits B ys t.state.arrays u t.path → t.path.blocks ≡ length B.blocks →
      final_at B t ≡ final_of B ys (plain B t.path u)
  unfolding final_at plain final_of read_data
  final-plain u t h e =
      let p : Path = t.path in
      let A : Arrays = t.state.arrays in
      let others : List (ℕ → ℕ) = ids_of t.state.queue in
      let v : View = commit B others p p.blocks (view_of A p) in
      let z : PathSized B ys u p p.blocks = sized B ys (view_of A p) u p ok p.blocks h.inv in
      let r : Ready B ys others u p.blocks v = ready B ys ok others u p p.blocks (view_of A p) h.inv in
      let f : start_of B.blocks p.blocks ≡ 2 ^ B.m = ap (start_of B.blocks) e ∙ ok.covered in
      let word : sums_of v B.m ≡ transform B.m u =
      root-word B.m u (sums_of v) (z.size ∙ f) (subst (λ (t : ℕ). Sums (suc B.m) u t (sums_of v)) f r.sums) in
      let back : transform B.m (sums_of v B.m) ≡ u = ap (transform B.m) word ∙ transform-twice B.m u (z.size ∙ f) z.bits in
      let total : p.spent + p.cost ≡ nat_abs (Value.R B.m ys u) =
      z.total ∙ sym (ap nat_abs (R-costs B.m ys u) ∙ neg-abs (pos (costs B.m ys u 0 (length u)))) in
      let make : List ℕ → List ℕ → ℕ → Final = λ w x n. record { word = w; bits = free_bits B.kinds x; discrepancy = n } in
      ap₂ (λ (w x : List ℕ). make w x (p.spent + p.cost)) word back ∙ ap (make (transform B.m u) u) total

  module _ (L D : ℕ) (s : M.Moment) (t : Moment) (h : MomentIs B ys s t) where
    blocks-are : s.path.blocks ≡ t.path.blocks
    blocks-are = stands-blocks B ys t.state.arrays s.path t.path h.path

    final-is : t.path.blocks ≡ length B.blocks → final_at B t ≡ final_of B ys s.path
    final-is e = final-plain s.path.bits t h.path.holds e ∙ ap (final_of B ys) (sym h.path.same)

    -- of a path that has not all blocks
    extract-at : (s.path.blocks ≡ length B.blocks → ⊥) → StepIs B ys (M.extract_at B L D ys s) (R.extract_at B L D t)
    unfolding M.extract_at R.extract_at
    extract-at d =
        subst₂ (λ (n : ℕ) (visits : List ℕ). StepIs B ys (M.extract B L D ys s.path s.state.queue n visits) (R.extract_at B L D t)) (sym h.next) (sym h.visits)
        (extract-is B ys ok ly L D t.state.arrays s.path t.path s.state.queue t.state.queue t.state.next t.state.visits h.path h.queue d)

    pub step_is : M.step_at B L D ys s ≡ R.step_at B L D t
    unfolding M.step_at R.step_at plain
    step_is = subst (λ (b : ℕ). M.step_at B L D ys s ≡ cond (eqb b (length B.blocks)) last (R.extract_at B L D t).step) blocks-are (go (eqb s.path.blocks (length B.blocks)) refl)
      where
        last : Step
        last = record { path = t.path.number; blocks = t.path.blocks; score = score_of B t.path t.path.blocks; crowded = []; outrun = [] }

        go : (b : Bool) → eqb s.path.blocks (length B.blocks) ≡ b →
            cond b (record { path = s.path.number; blocks = s.path.blocks; score = s.path.score; crowded = []; outrun = [] }) (M.extract_at B L D ys s).step ≡ cond b last (R.extract_at B L D t).step
        go true e = unfold plain in ap {B = Step} (λ (q : M.Path). record { path = q.number; blocks = q.blocks; score = q.score; crowded = []; outrun = [] }) h.path.same
        go false e = (extract-at (eqb-false s.path.blocks (length B.blocks) e)).step

  -- both take a path, or neither does
  taking-is : (A : Arrays) (qs : List M.Path) (ps : List Path) (n n' : ℕ) (visits visits' : List ℕ) → Paired (StandsFor B ys A) qs ps → n ≡ n' → visits ≡ visits' →
      InStep (MomentIs B ys) (EndIs B ys) (M.taking_from qs n visits) (R.taking_from A ps n' visits')
  unfolding M.taking_from R.taking_from InStep Paired end_of end_as
  taking-is A [] [] n n' visits visits' h e f = refl
  taking-is A [] (p ∷ ps) n n' visits visits' h e f = absurd h
  taking-is A (q ∷ qs) [] n n' visits visits' h e f = absurd h
  taking-is A (q ∷ qs) (p ∷ ps) n n' visits visits' h e f = record { path = h.0; queue = h.1; next = e; visits = f }

  next-is : (L D : ℕ) (s : M.Moment) (t : Moment) → MomentIs B ys s t → InStep (MomentIs B ys) (EndIs B ys) (M.next_at B L D ys s) (R.next_at B L D t)
  unfolding M.next_at R.next_at M.taking R.taking InStep end_of end_as
  next-is L D s t h =
      subst (λ (b : ℕ). InStep (MomentIs B ys) (EndIs B ys) (M.next_at B L D ys s) (cond (eqb b (length B.blocks)) (over (found (final_at B t))) (R.taking (R.extract_at B L D t).state))) (blocks-are L D s t h)
      (go (eqb s.path.blocks (length B.blocks)) refl)
    where
      go : (b : Bool) → eqb s.path.blocks (length B.blocks) ≡ b →
          InStep (MomentIs B ys) (EndIs B ys) (cond b (over (found s.path)) (M.taking (M.extract_at B L D ys s).state)) (cond b (over (found (final_at B t))) (R.taking (R.extract_at B L D t).state))
      go true e = ap found (final-is L D s t h (sym (blocks-are L D s t h) ∙ eqb-true s.path.blocks (length B.blocks) e))
      go false e =
          let i = extract-at L D s t h (eqb-false s.path.blocks (length B.blocks) e) in
          taking-is _ _ _ _ _ _ _ i.queue i.next i.visits

  -- ---- the run

  pub traces-are : (L D : ℕ) (A : Arrays) → A.vals B.m 1 ≡ ys → TracesInStep (MomentIs B ys) (EndIs B ys) (M.trace_of B L D ys) (R.trace_of B L D A)
  unfolding M.trace_of R.trace_of M.taking R.taking M.first_state R.first_state Paired
  traces-are L D A e =
      traces-in-step (MomentIs B ys) (EndIs B ys) (M.next_at B L D ys) (R.next_at B L D) (next-is L D) _ _ _ (taking-is A _ _ _ _ _ _ (first-stands B ys A e, tt) refl refl)
