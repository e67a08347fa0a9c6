-- What a command is judged by, from the loader's numbers: each test of the definitions has the answer of the code's. By cases on the command.
-- Assumes nothing.
use mathlib.Core.Path.{◌≡◌, refl, sym, ap, ◌∙◌, subst}
use mathlib.Core.Bool.{Bool, true, false, not}
use mathlib.Core.Option.{Option, none, some}
use mathlib.Core.Logic.{◌⊎◌, inl, inr}
use Prim.Native.Nat.{ℕ, zero, suc, ◌+◌, ◌-◌, ◌^◌, ◌≤◌, ◌<◌}
use native.Mathlib.Omega.{arith}
use lib.ListN.{length, take, drop, replicate}
use lib.IntN.{ℤ}
use lib.Dec.{T, leb, ltb, eqb, eqb→eq, ltb→lt}
use borrow.Author.Tests.{ltb-true, eqb-true, eq-eqb, ne_eqb, lt-ltb, le-ltb, le-leb, lt-leb}
use Rattle.std.specs.Prelude.{Result, Ok, Err}
use Rattle.laws.proofs.Tests.{lt-or, and_left, and_right}
use Rattle.codebook.specs.declared.Refusal.{Refusal}
use Rattle.codebook.specs.declared.Refusal.TheVariants.{Truncated, Misplaced, OutOfRange, TooManyFree}
use Rattle.codebook.specs.declared.Command.{Command}
use Rattle.codebook.specs.declared.Command.TheVariants.{Length, Free, Zero, Tie, Term, Block as NextBlock, End}
use Rattle.codebook.specs.declared.Progress.{Progress}
use Rattle.codebook.specs.declared.Step.TheVariants.{Next, End as Ended}
use Rattle.codebook.specs.Refusals.{unless}
use Rattle.codebook.specs.Book.{free_count}
use Rattle.codebook.specs.Loading.{Loading, total, last_terms, member, placed, fault, grown, next}
use Rattle.codebook.specs.Progress.{byte_of, is_end, verdict, CountsLoaded, stands, Settled, Goes, run_command, block_fits, kind_of}

-- ---- what is settled

module _ {A : Type 0} where
  pub refuse : {K : Type 0} (o : Option Refusal) (P : A → Type 0) (r : Refusal) → o ≡ some r → K → Settled o K P (Err r)
  unfolding Settled
  refuse o P r e k = rw e (refl, k)

  pub proceed : (K : Type 0) (o : Option Refusal) (P : A → Type 0) (y : A) → o ≡ none → P y → Settled o K P (Ok y)
  unfolding Settled
  proceed K o P y e h = rw e (y, refl, h)

  pub refused : (K : Type 0) (o : Option Refusal) (P : A → Type 0) (r : Refusal) → Settled o K P (Err r) → (o ≡ some r) × K
  unfolding Settled
  refused K none P r h = let e : ◌≡◌ {A = Result A Refusal} (Err r) (Ok h.0) = h.1 in absurd (let z : ◌≡◌ {A = ℕ} 0 1 = cc in omega arith)
  refused K (some f) P r h = let e : ◌≡◌ {A = Result A Refusal} (Err r) (Err f) = h.0 in (let g : some f ≡ some r = cc in g, h.1)

  pub proceeded : (K : Type 0) (o : Option Refusal) (P : A → Type 0) (y : A) → Settled o K P (Ok y) → (o ≡ none) × P y
  unfolding Settled
  proceeded K none P y h = let e : ◌≡◌ {A = Result A Refusal} (Ok y) (Ok h.0) = h.1 in (refl, subst P (let f : h.0 ≡ y = cc in f) h.2)
  proceeded K (some f) P y h = let e : ◌≡◌ {A = Result A Refusal} (Ok y) (Err f) = h.0 in absurd (let z : ◌≡◌ {A = ℕ} 0 1 = cc in omega arith)

-- a run has the faults of free indices, and puts its kinds last
pub run-goes : (s : Loading) (code count : ℕ) → fault s (run_command code count) ≡ fault s (Free count) × next s (run_command code count) ≡ grown s (replicate count (kind_of code))
unfolding fault next run_command kind_of
run-goes s zero count = (refl, refl)
run-goes s (suc code) count = (refl, refl)

twice : (b : Bool) → b ≡ not (not b)
twice true = refl
twice false = refl

module _ (p : Progress) (s : Loading) (c : CountsLoaded p s) where
  -- ---- faults

  pub length-low : (m : ℕ) → m < 2 → fault s (Length m) ≡ some OutOfRange
  unfolding fault unless
  length-low m h = rw (lt-leb 2 m h)

  pub length-fits : (m : ℕ) → 2 ≤ m → m ≤ 9 → fault s (Length m) ≡ none
  unfolding fault unless
  length-fits m l h = rw (le-leb 2 m l, le-leb m 9 h)

  pub run-empty : (count : ℕ) → count < 1 → fault s (Free count) ≡ some OutOfRange
  unfolding fault unless
  run-empty count h = rw (le-ltb 0 count (omega arith))

  pub run_past : (count : ℕ) → 1 ≤ count → p.n - p.filled < count → fault s (Free count) ≡ some OutOfRange
  unfolding fault unless
  run_past count l h = rw (lt-ltb 0 count l, lt-leb (length s.kinds + count) (total s) (omega (arith, c.filled, c.n)))

  pub run_fits : (count : ℕ) → 1 ≤ count → count ≤ p.n - p.filled → p.filled < p.n → fault s (Free count) ≡ none
  unfolding fault unless
  run_fits count l h b = rw (lt-ltb 0 count l, le-leb (length s.kinds + count) (total s) (omega (arith, c.filled, c.n)))

  pub tie-later : (i : ℕ) → p.filled ≤ i → fault s (Tie i) ≡ some OutOfRange
  unfolding fault unless
  tie-later i h = rw (le-ltb i (length s.kinds) (omega (arith, c.filled)))

  pub tie-fits : (i : ℕ) → i < p.filled → p.ties < 32 → fault s (Tie i) ≡ none
  unfolding fault unless
  tie-fits i h m = rw (lt-ltb i (length s.kinds) (omega (arith, c.filled)), lt-ltb s.ties 32 (omega (arith, c.ties)))

  pub term-later : (i : ℕ) → p.filled ≤ suc i → fault s (Term i) ≡ some OutOfRange
  unfolding fault unless
  term-later i h = rw (le-ltb (suc i) (length s.kinds) (omega (arith, c.filled)))

  pub term-again : (i : ℕ) → suc i < p.filled → member i (last_terms s.kinds) ≡ true → fault s (Term i) ≡ some OutOfRange
  unfolding fault unless
  term-again i h m = rw (lt-ltb (suc i) (length s.kinds) (omega (arith, c.filled)), m)

  pub term_fits : (i : ℕ) → suc i < p.filled → member i (last_terms s.kinds) ≡ false → fault s (Term i) ≡ none
  unfolding fault unless
  term_fits i h m = rw (lt-ltb (suc i) (length s.kinds) (omega (arith, c.filled)), m)

  pub block-unfit : (j : ℕ) (bias : ℤ) → block_fits p.covered p.n j bias ≡ false → fault s (NextBlock j bias) ≡ some OutOfRange
  unfolding fault unless block_fits
  block-unfit j bias e = rw (rw (c.covered, c.n) at e)

  pub block_fit : (j : ℕ) (bias : ℤ) → block_fits p.covered p.n j bias ≡ true → fault s (NextBlock j bias) ≡ unless (leb (free_count (take (2 ^ j) (drop s.covered s.kinds))) 8) TooManyFree none
  unfolding fault unless block_fits
  block_fit j bias e = rw (rw (c.covered, c.n) at e)

  -- ---- places

  -- before all are filled or covered the tests of equality fail
  apart : (a b x y : ℕ) → a ≡ x → b ≡ y → a ≤ b → ltb a b ≡ not (eqb x y)
  apart a b x y ea eb h = go (lt-or a b)
    where
      go : (a < b) ⊎ (b ≤ a) → ltb a b ≡ not (eqb x y)
      go (inl l) = rw (lt-ltb a b l, ne_eqb x y (λ e. omega arith))
      go (inr l) = rw (le-ltb a b l, eq-eqb x y (omega arith))

  -- the numbers say where a command may stand
  pub stands-placed : (k : Command) → stands p k ≡ placed s (byte_of k)
  unfolding stands placed byte_of
  stands-placed (Length m) = ap (λ (n : ℕ). eqb n 0) c.m ∙ twice (eqb s.m 0)
  stands-placed (Free count) = apart p.filled p.n (length s.kinds) (total s) c.filled c.n p.within
  stands-placed (Zero count) = apart p.filled p.n (length s.kinds) (total s) c.filled c.n p.within
  stands-placed (Tie i) = apart p.filled p.n (length s.kinds) (total s) c.filled c.n p.within
  stands-placed (Term i) = c.tying
  stands-placed (NextBlock j bias) = rw (apart p.covered p.n s.covered (total s) c.covered c.n p.reach, c.filled, c.n)
  stands-placed End = rw (c.m, c.covered, c.n)

  -- ---- a command and its operands, whole or cut

  module _ (k : Command) where
    pub verdict-misplaced : (whole : Bool) → stands p k ≡ false → verdict s k whole ≡ some Misplaced
    unfolding verdict unless
    verdict-misplaced whole e = rw (sym (stands-placed k) ∙ e)

    pub verdict-cut : stands p k ≡ true → is_end k ≡ false → verdict s k false ≡ some Truncated
    unfolding verdict unless
    verdict-cut e n = rw (sym (stands-placed k) ∙ e, n)

    pub verdict-whole : stands p k ≡ true → is_end k ≡ false → verdict s k true ≡ fault s k
    unfolding verdict unless
    verdict-whole e n = rw (sym (stands-placed k) ∙ e, n)

  -- the end needs no operands
  pub verdict-end : (whole : Bool) → stands p End ≡ true → verdict s End whole ≡ none
  unfolding verdict unless is_end byte_of fault
  verdict-end whole e = rw (sym (stands-placed End) ∙ e)

-- numbers that go on are no end, or are the end's
pub goes-next : (k : Bool) (P : Progress → Type 0) (q : Progress) → k ≡ false → P q → Goes k P (Next q)
unfolding Goes
goes-next k P q e h = rw e (q, refl, h)

pub goes-end : (k : Bool) (P : Progress → Type 0) (q : Progress) → k ≡ true → P q → Goes k P (Ended q)
unfolding Goes
goes-end k P q e h = rw e (q, refl, h)

-- a command that is not the end
pub not-end : (k : Command) → (k ≡ End → ⊥) → is_end k ≡ false
unfolding is_end byte_of
not-end (Length m) n = refl
not-end (Free count) n = refl
not-end (Zero count) n = refl
not-end (Tie i) n = refl
not-end (Term i) n = refl
not-end (NextBlock j bias) n = refl
not-end End n = absurd (n refl)

-- A command that may stand and is not the end is the length where there is none yet, or a term, or an index command where an index is left, or a
-- block where one is to come.
pub nowhere : (p : Progress) (k : Command) → stands p k ≡ true → is_end k ≡ false
    → ((m : ℕ) → p.m ≡ 0 → k ≡ Length m → ⊥)
    → ((n : ℕ) → k ≡ Free n → ⊥) → ((n : ℕ) → k ≡ Zero n → ⊥) → ((i : ℕ) → k ≡ Term i → ⊥)
    → ((i : ℕ) → p.filled < p.n → k ≡ Tie i → ⊥)
    → ((j : ℕ) (bias : ℤ) → p.filled ≡ p.n → p.covered < p.n → k ≡ NextBlock j bias → ⊥)
    → ⊥
unfolding stands is_end byte_of
nowhere p (Length m) e n l f z t i b = l m (eqb-true p.m 0 e) refl
nowhere p (Free count) e n l f z t i b = f count refl
nowhere p (Zero count) e n l f z t i b = z count refl
nowhere p (Tie at) e n l f z t i b = i at (ltb-true p.filled p.n e) refl
nowhere p (Term at) e n l f z t i b = t at refl
nowhere p (NextBlock j bias) e n l f z t i b =
    let both = subst T (sym e) tt in
    b j bias (eqb→eq p.filled p.n (and_left (eqb p.filled p.n) (ltb p.covered p.n) both)) (ltb→lt p.covered p.n (and_right (eqb p.filled p.n) (ltb p.covered p.n) both)) refl
nowhere p End e n l f z t i b = subst T n tt

-- before the length there is no index to fill
pub no-index : (p : Progress) (s : Loading) → CountsLoaded p s → p.m ≡ 0 → p.n ≡ 0
unfolding total
no-index p s c e = let z : s.m ≡ 0 = sym c.m ∙ e in c.n ∙ rw z
