-- An extraction looks at the visits of the book's blocks alone: from lists of visits that agree there, it comes to the same, and its visits agree there.
-- The code has room for the visits of 512 blocks, the reader's list is as long as the book. Assumes nothing.
use mathlib.Core.Path.{◌≡◌, refl, sym, ap, ◌∙◌}
use mathlib.Core.Bool.{cond}
use mathlib.Core.List.{List, []}
use Prim.Native.Nat.{ℕ, suc, ◌≤◌, ◌<◌}
use native.Mathlib.Decide.{ℕ_discrete}
use native.Mathlib.Omega.{arith}
use lib.ListN.{length, get_or, replicate, length-set, length-replicate}
use lib.Seq.{get_or-set_same, get_or-set_other}
use lib.Dec.{eqb}
use Rattle.laws.proofs.Lists.{get_d-zeros}
use Rattle.codebook.specs.Book.{Book}
use Rattle.queue.specs.Queue.{insert, ahead, behind, staying, outrun_by, numbers, visit, Step}
use Rattle.reader.specs.Arrays.{Arrays}
use Rattle.reader.specs.Paths.{Path, score_of, key_of}
use Rattle.reader.specs.Reader as R

-- ---- visits that agree below n

pub record Alike (n : ℕ) (visits visits' : List ℕ) : Type 0 where
  pub long : n ≤ length visits
  pub long' : n ≤ length visits'
  pub same : (i : ℕ) → i < n → get_or visits i 0 ≡ get_or visits' i 0

-- they do so after one visit more
pub alike-visit : {n : ℕ} (visits visits' : List ℕ) (b : ℕ) → b < n → Alike n visits visits' → Alike n (visit visits b) (visit visits' b)
unfolding visit
alike-visit {n} visits visits' b l a =
    record {
      long = omega (arith, length-set visits b (suc (get_or visits b 0)), a.long);
      long' = omega (arith, length-set visits' b (suc (get_or visits' b 0)), a.long');
      same = λ i k. go i k (ℕ_discrete i b);
    }
  where
    now : (xs : List ℕ) → n ≤ length xs → get_or (visit xs b) b 0 ≡ suc (get_or xs b 0)
    now xs h = get_or-set_same xs b (suc (get_or xs b 0)) 0 (omega arith)

    go : (i : ℕ) → i < n → Dec (i ≡ b) → get_or (visit visits b) i 0 ≡ get_or (visit visits' b) i 0
    go i k (yes e) =
        ap (λ j. get_or (visit visits b) j 0) e ∙ now visits a.long ∙ ap suc (a.same b l) ∙ sym (now visits' a.long')
        ∙ ap (λ j. get_or (visit visits' b) j 0) (sym e)
    go i k (no d) =
        get_or-set_other visits b i (suc (get_or visits b 0)) 0 d ∙ a.same i k ∙ sym (get_or-set_other visits' b i (suc (get_or visits' b 0)) 0 d)

-- zeros
pub alike-zeros : (n k : ℕ) → n ≤ k → Alike n (replicate n 0) (replicate k 0)
alike-zeros n k l =
    record {
      long = omega (arith, length-replicate {A = ℕ} n 0);
      long' = omega (arith, length-replicate {A = ℕ} k 0);
      same = λ i h. get_d-zeros n i ∙ sym (get_d-zeros k i);
    }

-- ---- one extraction

module _ (B : Book) (L b : ℕ) (visits visits' : List ℕ) (qs : List Path) (e : get_or visits b 0 ≡ get_or visits' b 0) where
  staying-same : staying (key_of B) L b visits qs ≡ staying (key_of B) L b visits' qs
  unfolding staying
  staying-same = ap (λ v. cond (eqb v L) (ahead (key_of B) b qs) qs) e

  outrun-same : outrun_by (key_of B) L b visits qs ≡ outrun_by (key_of B) L b visits' qs
  unfolding outrun_by
  outrun-same = ap (λ v. cond (eqb v L) (behind (key_of B) b qs) []) e

-- two extractions are the same but for the visits, which agree below n
pub record Same (n : ℕ) (x x' : R.Extracted) : Type 0 where
  pub step : x.step ≡ x'.step
  pub arrays : x.state.arrays ≡ x'.state.arrays
  pub queue : x.state.queue ≡ x'.state.queue
  pub next : x.state.next ≡ x'.state.next
  pub visits : Alike n x.state.visits x'.state.visits

pub extract-same : (B : Book) (L D : ℕ) (A : Arrays) (p : Path) (qs : List Path) (k n : ℕ) (visits visits' : List ℕ) → p.blocks < n →
    Alike n visits visits' → Same n (R.extract B L D A p qs k visits) (R.extract B L D A p qs k visits')
unfolding R.extract
extract-same B L D A p qs k n visits visits' l a =
    let b = p.blocks in
    let second = R.copy B D A p qs k b in
    let queued = insert (key_of B) (R.move B second.arrays p second.queue).path second.queue in
    let v : Alike n (visit visits b) (visit visits' b) = alike-visit visits visits' b l a in
    let e = v.same b l in
    let make : List Path → Step = λ o.
    record { path = p.number; blocks = b; score = score_of B p b; crowded = second.crowded; outrun = numbers (key_of B) o } in
    record {
      step = ap make (outrun-same B L b (visit visits b) (visit visits' b) queued e);
      arrays = refl;
      queue = staying-same B L b (visit visits b) (visit visits' b) queued e;
      next = refl;
      visits = v;
    }
