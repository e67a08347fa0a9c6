-- Path 0 on a clean hook, block by block: it takes the right word, and scores 0 and minus the bias of its last block; a copy of it, which there is exactly where the
-- last block holds a free index, has lost at least 1, and scores below every later stage of path 0, since biases never rise. Assumes nothing.
use mathlib.Core.Path.{◌≡◌, refl, sym, ap, ◌∙◌, subst}
use mathlib.Core.List.{List}
use mathlib.Core.Logic.{◌⊎◌, inl, inr}
use mathlib.Core.Option.{Option, none, some}
use Prim.Native.Nat.{ℕ, zero, suc, ◌+◌, ◌-◌, ◌^◌, ◌≤◌, ◌<◌, min}
use native.Mathlib.Omega.{arith}
use lib.ListN.{length, take}
use lib.Seq.{take_all}
use lib.IntN.{ℤ, neg_ℤ, nat_abs, ◌-ℤ◌, +ℤ_idl}
use lib.Signed.{◌<ℤ◌, <ℤ-≤ℤ_trans}
use Rattle.laws.specs.Lists.{May}
use Rattle.laws.specs.Pairs.{Paired}
use Rattle.laws.proofs.Integers.{neg-≤ℤ, less-below}
use Rattle.polar.specs.Shown.{Shows}
use Rattle.polar.specs.Transform.{transform}
use Rattle.polar.specs.Value.{R}
use Rattle.polar.proofs.Transform.{transform-length, transform-bits, transform-twice}
use Rattle.codebook.specs.Book.{Book, free_count, block_at, kinds_of}
use Rattle.codebook.specs.Limits.{Valid}
use Rattle.codec.specs.Code.{free_bits, in_code, read_data}
use Rattle.machine.specs.Words.{Ranked, next_after}
use Rattle.machine.specs.Machine.{Path, path, score_of, copy_with, copy_of, advance_with, advance}
use Rattle.machine.specs.Calls.{final_of}
use Rattle.runs.proofs.Choice.{Found}
use Rattle.outer.proofs.Shown.{Right, up_to}
use Rattle.clean.specs.Clean.{Clean, clean_score, branching, copies, clean_final}
use Rattle.clean.proofs.Words.{right-R, nearest-right, right-bits, Costly, next-costly, next-found, next-none}

-- path 0 with the right word w in b blocks
abbrev pub right_bits : Book → List ℕ → ℕ → List ℕ
right_bits B w b = up_to B (transform B.m w) b

abbrev pub right_path : Book → List ℤ → List ℕ → ℕ → Path
right_path B ys w b = path B ys 0 b (right_bits B w b)

-- ---- how many copies

module _ (B : Book) where
  -- the copies made when path 0 is taken with b blocks
  unfoldable pub made : ℕ → ℕ
  made zero = 0
  made (suc b) = min 1 (free_count (kinds_of B b))

  -- those made before
  unfoldable pub earlier : ℕ → ℕ
  earlier zero = 0
  earlier (suc b) = earlier b + made b

  earlier-branching : (b : ℕ) → earlier (suc b) ≡ branching B b
  unfolding earlier made branching
  earlier-branching zero = refl
  earlier-branching (suc b) = ap (λ i. i + min 1 (free_count (kinds_of B b))) (earlier-branching b)

  pub earlier-all : earlier (length B.blocks) ≡ copies B
  unfolding copies earlier
  earlier-all = go (length B.blocks)
    where
      go : (n : ℕ) → earlier n ≡ branching B (n - 1)
      go zero = unfold branching in refl
      go (suc n) = let e : n ≡ suc n - 1 = omega arith in earlier-branching n ∙ ap (branching B) e

-- there is a copy, numbered n, of path 0 with b blocks, or none, as many as are made
abbrev pub CopyMade : Book → List ℤ → List ℕ → ℕ → ℕ → Type 0
CopyMade B ys w n b =
    let copy = copy_of B ys n b (right_bits B w b) in
    ((copy ≡ none) × (made B b ≡ 0)) ⊎ ((q : Path) × (copy ≡ some q) × (made B b ≡ 1))

-- ---- scores

-- q scores below path 0 with b blocks; with none, there is no other path
unfoldable pub Under : Book → ℕ → Path → Type 0
Under B zero q = ⊥
Under B (suc b) q = q.score <ℤ neg_ℤ (block_at B b).bias

module _ (B : Book) (ok : Valid B) (ys : List ℤ) (w : List ℕ) (clean : Clean B ys w) where
  abbrev u : List ℕ
  u = transform B.m w

  back : transform B.m u ≡ w
  back = transform-twice B.m w clean.size clean.bits

  right : Right B ys u
  unfolding in_code
  right =
      record {
        size = transform-length B.m w clean.size;
        bits = transform-bits B.m w clean.bits;
        shown = subst (λ (x : List ℕ). Paired Shows x ys) (sym back) clean.signs;
        obey = clean.member;
      }

  pub right-score : (b : ℕ) → b ≤ length B.blocks → (right_path B ys w b).score ≡ clean_score B b
  unfolding path score_of clean_score
  right-score zero l = refl
  right-score (suc b) l = ap (λ z. z -ℤ (block_at B b).bias) (right-R B ok ys u right (suc b) l) ∙ +ℤ_idl (neg_ℤ (block_at B b).bias)

  -- biases never rise
  pub under_next : (b : ℕ) → b < length B.blocks → (q : Path) → Under B b q → Under B (suc b) q
  unfolding Under
  under_next zero l q h = absurd h
  under_next (suc b) l q h = <ℤ-≤ℤ_trans h (neg-≤ℤ (clean.biases b l))

  pub under-score : (b : ℕ) → b < length B.blocks → (q : Path) → Under B (suc b) q → q.score <ℤ (right_path B ys w (suc b)).score
  unfolding Under clean_score
  under-score b l q h = subst (λ (z : ℤ). q.score <ℤ z) (sym (right-score (suc b) l)) h

  -- ---- the copy

  pub copy-under : (n b : ℕ) → b ≤ length B.blocks → May (Under B b) (copy_of B ys n b (right_bits B w b))
  unfolding copy_of May
  copy-under n zero l = tt
  copy-under n (suc b) l = go (next_after B ys (right_bits B w (suc b)) b) (next-costly B ok ys u right b l)
    where
      go : (o : Option Ranked) → May (Costly B ok ys u right b l) o → May (Under B (suc b)) (copy_with B ys n (suc b) o)
      go none h = unfold copy_with in tt
      go (some x) h = unfold copy_with path score_of Under in subst (λ (z : ℤ). (z -ℤ (block_at B b).bias) <ℤ neg_ℤ (block_at B b).bias) (sym h.1) (less-below h.0 (block_at B b).bias)

  pub copy-made : (n b : ℕ) → b ≤ length B.blocks → CopyMade B ys w n b
  unfolding copy_of made
  copy-made n zero l = inl (refl, refl)
  copy-made n (suc b) l = free (free_count (kinds_of B b)) refl
    where
      next : Option Ranked
      next = next_after B ys (right_bits B w (suc b)) b

      found : (o : Option Ranked) → next ≡ o → Found o → (q : Path) × (copy_with B ys n (suc b) next ≡ some q)
      found none e h = absurd (unfold Found in h)
      found (some x) e h = unfold copy_with in (path B ys n (suc b) x.bits, ap (copy_with B ys n (suc b)) e)

      free : (k : ℕ) → free_count (kinds_of B b) ≡ k →
          ((copy_with B ys n (suc b) next ≡ none) × (min 1 (free_count (kinds_of B b)) ≡ 0)) ⊎ ((q : Path) × (copy_with B ys n (suc b) next ≡ some q) × (min 1 (free_count (kinds_of B b)) ≡ 1))
      free zero e = inl (ap (copy_with B ys n (suc b)) (next-none B ok ys u right b l e) ∙ unfold copy_with in refl, omega arith)
      free (suc k) e = let (q, h) = found next refl (next-found B ok ys u right b l (omega arith)) in inr (q, h, omega arith)

  -- ---- the next block, and the end

  pub advance-right : (b : ℕ) → b < length B.blocks → advance B ys (right_path B ys w b) ≡ right_path B ys w (suc b)
  unfolding advance path advance_with
  advance-right b l = ap (advance_with B ys (right_path B ys w b)) (nearest-right B ok ys u right b l) ∙ ap (path B ys 0 (suc b)) (right-bits B ok ys u right b l)

  pub right-final : final_of B ys (right_path B ys w (length B.blocks)) ≡ clean_final B w
  unfolding final_of path read_data clean_final
  right-final =
      let all : right_bits B w (length B.blocks) ≡ u = ap (λ i. take i u) ok.covered ∙ take_all (2 ^ B.m) u (omega (arith, right.size)) in
      let none : nat_abs (R B.m ys (right_bits B w (length B.blocks))) ≡ 0 = ap nat_abs (right-R B ok ys u right (length B.blocks) (omega arith)) in
      let word : transform B.m (right_bits B w (length B.blocks)) ≡ w = ap (transform B.m) all ∙ back in
      λ i. record { word = word i; bits = free_bits B.kinds (all i); discrepancy = none i }
