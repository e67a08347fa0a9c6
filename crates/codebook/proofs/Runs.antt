-- The index commands of a book are obeyed, run by run, where its kinds keep the limits: all its indices are filled then. By induction on the runs and on the terms of a tie;
-- relies on Obeyed. Assumes nothing.
use mathlib.Core.Path.{◌≡◌, refl, sym, ap, subst, ◌∙◌}
use mathlib.Core.Bool.{Bool, true, false}
use mathlib.Core.List.{List, [], ◌∷◌, ◌++◌, map, flat_map, append-nil, append_assoc}
use mathlib.Core.Logic.{◌≢◌}
use Prim.Native.Nat.{ℕ, zero, suc, ◌+◌, ◌-◌, ◌^◌, ◌≤◌, ◌<◌}
use native.Mathlib.Nat.{zero-add}
use native.Mathlib.Omega.{arith}
use lib.ListN.{length, replicate, length-append, length-replicate}
use lib.Seq.{get_or_at, set_at, append_snoc, take-append_seam, get_or-append_seam}
use lib.Pow.{pow_mono}
use borrow.Author.Tests.{lt-ltb, le-leb, ne_eqb}
use Rattle.laws.specs.Lists.{All, NonEmpty, Distinct}
use Rattle.laws.proofs.Lists.{all-at, length-snoc}
use Rattle.codebook.specs.declared.Command.{Command}
use Rattle.codebook.specs.declared.Command.TheVariants.{Free, Zero, Tie, Term}
use Rattle.codebook.specs.Refusals.{unless}
use Rattle.codebook.specs.Book.{Kind, free, frozen, tied, tied_count}
use Rattle.codebook.specs.Loading.{Loading, total, terms_of, last_terms, member, placed, fault, grown, next}
use Rattle.codebook.specs.Limits.{TieOk, KindOk, KindsOk}
use Rattle.codebook.specs.Progress.{byte_of, is_end}
use Rattle.codebook.specs.Written.{Run, frees, zeros, tie, kinds_in, commands_in}
use Rattle.codebook.proofs.Indices.{kinds-take, kind_at, tied-append, tied-replicate}
use Rattle.codebook.proofs.Codes.{tied-tie}
use Rattle.codebook.proofs.Loaded.{total-begun}
use Rattle.codebook.proofs.Obeyed.{Fitting, goes, obeyed}

-- a number that stands after distinct ones is none of them
fresh : (t : ℕ) (us ts : List ℕ) → Distinct (us ++ t ∷ ts) → member t us ≡ false
unfolding member Distinct
fresh t [] ts d = refl
fresh t (u ∷ us) ts d =
    let l = length-append us (t ∷ ts) in
    let other : u ≢ t = subst (λ (x : ℕ). u ≢ x) (get_or-append_seam us t ts 0) (all-at (λ (x : ℕ). u ≢ x) (us ++ t ∷ ts) (length us) 0 (omega arith) d.0) in
    rw (ne_eqb t u (λ e. other (sym e)), fresh t us ts d.1)

-- the terms of a tie that stands last
last-terms : (ks : List Kind) (ts : List ℕ) → last_terms (ks ++ tied ts ∷ []) ≡ ts
unfolding last_terms terms_of
last-terms ks ts = rw (get_or_at ks (tied ts) [] free (length (ks ++ tied ts ∷ []) - 1) (omega (arith, length-append ks (tied ts ∷ []))))

-- kinds that keep the limits, as far as they go
pub record Fit (m : ℕ) (ks : List Kind) : Type 0 where
  pub kinds : KindsOk 0 ks
  pub room : length ks ≤ 2 ^ m
  pub few : tied_count ks ≤ 32

fit-front : (m : ℕ) (ks ls : List Kind) → Fit m (ks ++ ls) → Fit m ks
fit-front m ks ls f =
    record {
      kinds = rw (take-append_seam ks ls) at (kinds-take 0 (length ks) (ks ++ ls) f.kinds);
      room = omega (arith, f.room, length-append ks ls);
      few = omega (arith, f.few, tied-append ks ls);
    }

module _ (m : ℕ) (low : 2 ≤ m) (high : m ≤ 9) where
  -- these kinds are loaded, and no block
  abbrev pub filled : List Kind → Bool → Loading
  filled ks tying = record { m = m; kinds = ks; ties = tied_count ks; tying = tying; blocks = []; covered = 0 }

  all : (ks : List Kind) (y : Bool) → total (filled ks y) ≡ 2 ^ m
  all ks y = total-begun (filled ks y) (λ e. absurd (omega arith))

  short : 2 ^ m ≤ 512
  short = pow_mono high

  -- ---- a run of free or of zero indices

  -- more of a kind that is not tied
  grown-filled : (k : Kind) (count : ℕ) (ks : List Kind) (y : Bool) → ((ls : List Kind) → tied_count (k ∷ ls) ≡ tied_count ls) → grown (filled ks y) (replicate count k) ≡ filled (ks ++ replicate count k) false
  unfolding grown
  grown-filled k count ks y untied =
      let n : tied_count ks ≡ tied_count (ks ++ replicate count k) = omega (arith, tied-append ks (replicate count k), tied-replicate count k untied) in
      rw n

  module _ (count : ℕ) (ks : List Kind) (y : Bool) (cs : List Command) (some : 0 < count) (fits : length ks + count ≤ 2 ^ m) where
    frees-go : goes (filled ks y) (Free count ∷ cs) ≡ goes (filled (ks ++ replicate count free) false) cs
    unfolding is_end byte_of placed fault unless Fitting next tied_count
    frees-go =
        obeyed (Free count) (filled ks y) cs (omega (arith, short)) refl
        (rw (all ks y, ne_eqb (length ks) (2 ^ m) (λ e. absurd (omega arith))))
        (rw (all ks y, lt-ltb 0 count some, le-leb (length ks + count) (2 ^ m) fits))
        ∙ ap (λ (s : Loading). goes s cs) (grown-filled free count ks y (λ _. refl))

    zeros-go : goes (filled ks y) (Zero count ∷ cs) ≡ goes (filled (ks ++ replicate count frozen) false) cs
    unfolding is_end byte_of placed fault unless Fitting next tied_count
    zeros-go =
        obeyed (Zero count) (filled ks y) cs (omega (arith, short)) refl
        (rw (all ks y, ne_eqb (length ks) (2 ^ m) (λ e. absurd (omega arith))))
        (rw (all ks y, lt-ltb 0 count some, le-leb (length ks + count) (2 ^ m) fits))
        ∙ ap (λ (s : Loading). goes s cs) (grown-filled frozen count ks y (λ _. refl))

  -- ---- a tie

  module _ (ks : List Kind) (room : length ks < 2 ^ m) where
    -- the first term
    tie-goes : (t : ℕ) (y : Bool) (cs : List Command) → t < length ks → tied_count ks < 32 → goes (filled ks y) (Tie t ∷ cs) ≡ goes (filled (ks ++ tied (t ∷ []) ∷ []) true) cs
    unfolding is_end byte_of placed fault unless Fitting next
    tie-goes t y cs earlier few =
        obeyed (Tie t) (filled ks y) cs (omega (arith, short)) refl
        (rw (all ks y, ne_eqb (length ks) (2 ^ m) (λ e. absurd (omega arith))))
        (rw (lt-ltb t (length ks) earlier, lt-ltb (tied_count ks)))
        ∙ rw (tied-tie ks (t ∷ []))

    -- one more, after the terms us
    term-goes : (t : ℕ) (us : List ℕ) (cs : List Command) → t < length ks → member t us ≡ false → goes (filled (ks ++ tied us ∷ []) true) (Term t ∷ cs) ≡ goes (filled (ks ++ tied (us ++ t ∷ []) ∷ []) true) cs
    unfolding is_end byte_of placed fault unless Fitting next
    term-goes t us cs earlier new =
        let l = length-snoc ks (tied us) in
        obeyed (Term t) (filled (ks ++ tied us ∷ []) true) cs (omega (arith, short)) refl refl
        (rw (lt-ltb (suc t) (length (ks ++ tied us ∷ [])) (omega arith), last-terms ks us, new))
        ∙ rw (last-terms ks us, set_at ks (tied us) [] (tied (us ++ t ∷ [])) (length (ks ++ tied us ∷ []) - 1) (omega arith), tied-tie ks us, tied-tie ks (us ++ t ∷ []))

    -- all the others
    terms-go : (ts us : List ℕ) (cs : List Command) → All (λ (t : ℕ). t < length ks) ts → Distinct (us ++ ts) → goes (filled (ks ++ tied us ∷ []) true) (map Term ts ++ cs) ≡ goes (filled (ks ++ tied (us ++ ts) ∷ []) true) cs
    unfolding All
    terms-go [] us cs earlier once = rw append-nil
    terms-go (t ∷ ts) us cs earlier once =
        term-goes t us (map Term ts ++ cs) earlier.0 (fresh t us ts once)
        ∙ rw (← append_snoc us t ts) (terms-go ts (us ++ t ∷ []) cs earlier.1 (rw append_snoc once))

  -- ---- every run

  run-goes : (r : Run) (ks : List Kind) (y : Bool) (cs : List Command) → NonEmpty (kinds_in r) → Fit m (ks ++ kinds_in r) → (z : Bool) × (goes (filled ks y) (commands_in r ++ cs) ≡ goes (filled (ks ++ kinds_in r) z) cs)
  unfolding kinds_in commands_in NonEmpty KindOk All
  run-goes (frees zero) ks y cs some f = absurd some
  run-goes (frees (suc count)) ks y cs some f =
      (false, frees-go (suc count) ks y cs (omega arith) (omega (arith, f.room, length-append ks (replicate (suc count) free), length-replicate (suc count) free)))
  run-goes (zeros zero) ks y cs some f = absurd some
  run-goes (zeros (suc count)) ks y cs some f =
      (false, zeros-go (suc count) ks y cs (omega arith) (omega (arith, f.room, length-append ks (replicate (suc count) frozen), length-replicate (suc count) frozen)))
  run-goes (tie t ts) ks y cs some f =
      let l = length-snoc ks (tied (t ∷ ts)) in
      let n = tied-tie ks (t ∷ ts) in
      let k : TieOk (length ks) (t ∷ ts) = rw (zero-add, get_or-append_seam ks (tied (t ∷ ts)) [] free) at (kind_at 0 (ks ++ tied (t ∷ ts) ∷ []) (length ks) f.kinds) in
      let room : length ks < 2 ^ m = omega (arith, f.room) in
      (true, tie-goes ks room t y (map Term ts ++ cs) k.earlier.0 (omega (arith, f.few)) ∙ terms-go ks room ts (t ∷ []) cs k.earlier.1 k.once)

  -- and all of them
  pub runs-go : (rs : List Run) (ks : List Kind) (y : Bool) (cs : List Command) → All (λ (r : Run). NonEmpty (kinds_in r)) rs → Fit m (ks ++ flat_map kinds_in rs) → (z : Bool) × (goes (filled ks y) (flat_map commands_in rs ++ cs) ≡ goes (filled (ks ++ flat_map kinds_in rs) z) cs)
  unfolding flat_map All
  runs-go [] ks y cs some f = (y, rw append-nil)
  runs-go (r ∷ rs) ks y cs some f =
      let all : Fit m (ks ++ kinds_in r ++ flat_map kinds_in rs) = rw append_assoc f in
      let first = run-goes r ks y (flat_map commands_in rs ++ cs) some.0 (fit-front m (ks ++ kinds_in r) (flat_map kinds_in rs) all) in
      let others = runs-go rs (ks ++ kinds_in r) first.0 cs some.1 all in
      (others.0, rw (append_assoc (commands_in r) (flat_map commands_in rs) cs, ← append_assoc ks (kinds_in r) (flat_map kinds_in rs)) (first.1 ∙ others.1))
