-- One extraction on a clean hook: path 0 is taken, and stays first. The invariant: every other queued path scores below path 0, no block from path 0's next on was
-- visited, and the copies made are those queued, crowded out and outrun. With L 1 the copy is outrun; else it stays, and at most one path is crowded out. Assumes
-- nothing.
use mathlib.Core.Path.{◌≡◌, refl, sym, ap, ◌∙◌, subst}
use mathlib.Core.Bool.{Bool, true, false, cond}
use mathlib.Core.List.{List, [], ◌∷◌}
use mathlib.Core.Logic.{◌≢◌, inl, inr}
use mathlib.Core.Option.{Option}
use Prim.Native.Nat.{ℕ, suc, ◌+◌, ◌-◌, ◌≤◌, ◌<◌}
use native.Mathlib.Nat.{zero-sub}
use native.Mathlib.Decide.{ℕ_discrete}
use native.Mathlib.Omega.{arith}
use lib.ListN.{length, get_or, length-set, length-take}
use lib.Seq.{take-nil}
use lib.IntN.{ℤ}
use lib.Dec.{eqb}
use borrow.Author.Tests.{eq-eqb, ne_eqb}
use Rattle.laws.specs.Lists.{All}
use Rattle.laws.proofs.Lists.{all_map, length_none}
use Rattle.codebook.specs.Book.{Book}
use Rattle.codebook.specs.Limits.{Valid}
use Rattle.queue.specs.Queue.{insert, staying, outrun_by, numbers, visit}
use Rattle.machine.specs.Machine.{Path, key_of, path, copy_of, cut, advance, extract}
use Rattle.runs.proofs.Steps.{copy_blocks, all-cut}
use Rattle.runs.proofs.Ends.{visit-same, visit-other}
use Rattle.clean.specs.Clean.{Clean}
use Rattle.clean.proofs.Queue.{insert-first, last-staying, last-outrun, early-staying, early-outrun, cut-queued, cut-crowded}
use Rattle.clean.proofs.Path.{right_bits, right_path, made, earlier, CopyMade, Under, under_next, under-score, copy-under, copy-made, advance-right}

-- of so many copies, those crowded out and those outrun
abbrev pub crowded_of : ℕ → ℕ → ℕ → ℕ
crowded_of L D t = cond (eqb L 1) 0 (t - (D - 1))

abbrev pub outrun_of : ℕ → ℕ → ℕ
outrun_of L t = cond (eqb L 1) t 0

-- what holds before path 0 is taken with b blocks, of the other queued paths and the visits
pub record Going (B : Book) (L D b : ℕ) (qs : List Path) (visits : List ℕ) : Type 0 where
  pub under : All (Under B b) qs
  pub sized : length visits ≡ length B.blocks
  pub fresh : (i : ℕ) → b ≤ i → get_or visits i 0 ≡ 0
  pub counted : length qs + (crowded_of L D (earlier B b) + outrun_of L (earlier B b)) ≡ earlier B b

-- what its extraction does
pub record Turn (B : Book) (ys : List ℤ) (w : List ℕ) (L D b : ℕ) (qs : List Path) (n : ℕ) (visits : List ℕ) : Type 0 where
  pub rest : List Path
  pub queue : (extract B L D ys (right_path B ys w b) qs n visits).state.queue ≡ right_path B ys w (suc b) ∷ rest
  pub going : Going B L D (suc b) rest (extract B L D ys (right_path B ys w b) qs n visits).state.visits
  pub crowded : length (extract B L D ys (right_path B ys w b) qs n visits).step.crowded + crowded_of L D (earlier B b) ≡ crowded_of L D (earlier B (suc b))
  pub outrun : length (extract B L D ys (right_path B ys w b) qs n visits).step.outrun + outrun_of L (earlier B b) ≡ outrun_of L (earlier B (suc b))

module _ (B : Book) (ok : Valid B) (ys : List ℤ) (w : List ℕ) (clean : Clean B ys w) (L D : ℕ) (hd : 2 ≤ D)
    (b : ℕ) (qs : List Path) (n : ℕ) (visits : List ℕ) (l : b < length B.blocks) (g : Going B L D b qs visits) where
  abbrev copy : Option Path
  copy = copy_of B ys n b (right_bits B w b)

  -- path 0 with its next block
  abbrev ahead : Path
  ahead = right_path B ys w (suc b)

  -- the queue after step 2, and after step 3
  abbrev second : List Path
  second = (cut D qs n copy).queue

  under-second : All (Under B (suc b)) second
  under-second = all_map (under_next B ok ys w clean b l) second (all-cut (Under B b) D qs n copy g.under (copy-under B ok ys w clean n b (omega arith)))

  third : insert key_of (advance B ys (right_path B ys w b)) second ≡ ahead ∷ second
  third = ap (λ p. insert key_of p second) (advance-right B ok ys w clean b l) ∙ insert-first ahead second (all_map (under-score B ok ys w clean b l) second under-second)

  -- ---- the visits

  one-visit : get_or (visit visits b) b 0 ≡ 1
  one-visit = visit-same visits b (omega (arith, g.sized)) ∙ ap suc (g.fresh b (omega arith))

  fresh-next : (i : ℕ) → suc b ≤ i → get_or (visit visits b) i 0 ≡ 0
  fresh-next i h = visit-other visits b i (λ e. omega arith) ∙ g.fresh i (omega arith)

  sized-next : length (visit visits b) ≡ length B.blocks
  unfolding visit
  sized-next = length-set visits b _ ∙ g.sized

  -- ---- L is 1: no other path is queued, and the copy is outrun

  module _ (e : L ≡ 1) where
    once : eqb L 1 ≡ true
    once = eq-eqb L 1 e

    alone : qs ≡ []
    alone =
        let c : length qs + (0 + earlier B b) ≡ earlier B b = subst (λ (o : Bool). length qs + (cond o 0 (earlier B b - (D - 1)) + cond o (earlier B b) 0) ≡ earlier B b) once g.counted in
        length_none qs (omega arith)

    second-level : All (λ (q : Path). q.blocks ≡ b) second
    unfolding All
    second-level = rw alone (all-cut (λ (q : Path). q.blocks ≡ b) D [] n copy tt (copy_blocks B ys n b (right_bits B w b)))

    second-made : (length second ≡ made B b) × (length (cut D qs n copy).crowded ≡ 0)
    unfolding cut
    second-made = rw alone (go (copy-made B ok ys w clean n b (omega arith)))
      where
        go : CopyMade B ys w n b →
            (length (cut D [] n (copy_of B ys n b (right_bits B w b))).queue ≡ made B b) × (length (cut D [] n (copy_of B ys n b (right_bits B w b))).crowded ≡ 0)
        go (inl (p, q)) = rw (p, q) (refl, refl)
        go (inr (c, p, q)) = rw (p, q) (cut-queued D [] n c ∙ ap (λ (x : List Path). suc (length x)) (take-nil (D - 2)), cut-crowded D [] n c ∙ zero-sub (D - 2))

    turn-once : Turn B ys w L D b qs n visits
    unfolding extract path earlier
    turn-once =
        let last : get_or (visit visits b) b 0 ≡ L = one-visit ∙ sym e in
        record {
          rest = [];
          queue = ap (staying key_of L b (visit visits b)) third ∙ last-staying L b (visit visits b) ahead second (omega arith) last second-level;
          going = record { under = unfold All in tt; sized = sized-next; fresh = fresh-next; counted = rw once (omega arith) };
          crowded = rw once (omega (arith, second-made.1));
          outrun =
              rw once
              (ap (λ (x : List Path). length (numbers key_of (outrun_by key_of L b (visit visits b) x)) + earlier B b) third
              ∙ omega (arith, last-outrun L b (visit visits b) ahead second (omega arith) last second-level, second-made.0));
        }

  -- ---- L is above 1: the copy stays, and one path is crowded out where there is no room

  module _ (e : L ≢ 1) where
    more : eqb L 1 ≡ false
    more = ne_eqb L 1 e

    queued : length qs + (earlier B b - (D - 1)) ≡ earlier B b
    queued =
        let c : length qs + (earlier B b - (D - 1) + 0) ≡ earlier B b = subst (λ (o : Bool). length qs + (cond o 0 (earlier B b - (D - 1)) + cond o (earlier B b) 0) ≡ earlier B b) more g.counted in
        omega arith

    second-queued : (length second + (earlier B (suc b) - (D - 1)) ≡ earlier B (suc b)) × (length (cut D qs n copy).crowded + (earlier B b - (D - 1)) ≡ earlier B (suc b) - (D - 1))
    unfolding cut earlier
    second-queued = go (copy-made B ok ys w clean n b (omega arith))
      where
        go : CopyMade B ys w n b →
            (length (cut D qs n (copy_of B ys n b (right_bits B w b))).queue + (earlier B b + made B b - (D - 1)) ≡ earlier B b + made B b)
            × (length (cut D qs n (copy_of B ys n b (right_bits B w b))).crowded + (earlier B b - (D - 1)) ≡ earlier B b + made B b - (D - 1))
        go (inl (p, q)) = rw (p, q) (omega (arith, queued), omega arith)
        go (inr (c, p, q)) = rw (p, q) (omega (arith, queued, hd, cut-queued D qs n c, length-take (D - 2) qs), omega (arith, queued, hd, cut-crowded D qs n c))

    turn_more : Turn B ys w L D b qs n visits
    unfolding extract path
    turn_more =
        let early : get_or (visit visits b) b 0 ≢ L = λ q. e (sym q ∙ one-visit) in
        record {
          rest = second;
          queue = ap (staying key_of L b (visit visits b)) third ∙ early-staying L b (visit visits b) ahead second (omega arith) early;
          going = record { under = under-second; sized = sized-next; fresh = fresh-next; counted = rw more (omega (arith, second-queued.0)) };
          crowded = rw more second-queued.1;
          outrun =
              rw more
              (ap (λ (x : List Path). length (numbers key_of (outrun_by key_of L b (visit visits b) x)) + 0) third
              ∙ omega (arith, early-outrun L b (visit visits b) ahead second (omega arith) early));
        }

  pub turn : Turn B ys w L D b qs n visits
  turn = go (ℕ_discrete L 1)
    where
      go : Dec (L ≡ 1) → Turn B ys w L D b qs n visits
      go (yes e) = turn-once e
      go (no e) = turn_more e
