-- The limits that a book keeps, as far as it is loaded, hold after each command that may stand where it stands and is not refused: an index
-- command comes before any block and changes the kinds alone, a block command comes when all indices are filled and changes the blocks
-- alone. By cases on the command. Assumes nothing.
use mathlib.Core.Path.{◌≡◌, refl, ap, ◌∙◌}
use mathlib.Core.Bool.{Bool, true, false, not, ◌&&◌}
use mathlib.Core.List.{List, [], ◌∷◌, ◌++◌}
use mathlib.Core.Logic.{◌≢◌, ◌⊎◌, inl, inr}
use mathlib.Core.Option.{Option, none, some}
use Prim.Native.Nat.{ℕ, suc, ◌+◌, ◌-◌, ◌^◌, ◌%◌, ◌≤◌, ◌<◌, zero-le}
use native.Mathlib.Nat.{le_refl}
use native.Mathlib.Omega.{arith}
use lib.ListN.{length, take, drop, set, replicate, length-append, length-set}
use lib.Seq.{get_or_at, get_or-set_same}
use lib.IntN.{nat_abs}
use lib.Dec.{T, leb, ltb, eqb, leb→le, ltb→lt, eqb→eq}
use Rattle.laws.specs.Lists.{All, Distinct}
use Rattle.laws.proofs.Tests.{cond-case, and_left, and_right, lt-or}
use Rattle.codebook.specs.declared.Refusal.{Refusal}
use Rattle.codebook.specs.declared.Command.{Command}
use Rattle.codebook.specs.declared.Command.TheVariants.{Length, Free, Zero, Tie, Term, Block as NextBlock, End}
use Rattle.codebook.specs.Refusals.{unless}
use Rattle.codebook.specs.Book.{Kind, free, frozen, tied, Block, free_count, tied_count, start_of}
use Rattle.codebook.specs.Loading.{Loading, total, last_terms, member, fault, grown, next}
use Rattle.codebook.specs.Limits.{KindOk, KindsOk}
use Rattle.codebook.proofs.Indices.{kinds-append, kinds-replicate, kinds-set, kind_at, Tied, LastTied, term-ok, tied-append, tied-replicate, tied-set}
use Rattle.codebook.proofs.Blocks.{Fits, AllFit, all-fit-none, all-fit-last, start-last}

-- ---- what a command that is obeyed has passed

-- no refusal
unfoldable pub Passed : Option Refusal → Type 0
Passed none = Unit {0}
Passed (some r) = ⊥

pub passed-test : (b : Bool) (r : Refusal) (o : Option Refusal) → Passed (unless b r o) → T b
unfolding unless Passed
passed-test true r o p = tt
passed-test false r o p = p

pub passed-rest : (b : Bool) (r : Refusal) (o : Option Refusal) → Passed (unless b r o) → Passed o
unfolding unless Passed
passed-rest true r o p = p
passed-rest false r o p = absurd p

-- what is needed here of where a command may stand
unfoldable pub Placed : Loading → Command → Type 0
Placed s (Length m) = Unit {0}
Placed s (Free count) = length s.kinds ≢ total s
Placed s (Zero count) = length s.kinds ≢ total s
Placed s (Tie i) = length s.kinds ≢ total s
Placed s (Term i) = T s.tying
Placed s (NextBlock j bias) = length s.kinds ≡ total s
Placed s End = Unit {0}

-- ---- the invariant

-- The limits on what is loaded so far. After a tie or a term the last kind is tied and there is no block; where there is a block, all
-- indices are filled.
pub record Ok (s : Loading) : Type 0 where
  pub low : s.m ≢ 0 → 2 ≤ s.m
  pub high : s.m ≤ 9
  pub kinds : KindsOk 0 s.kinds
  pub ties : tied_count s.kinds ≡ s.ties
  pub few : s.ties ≤ 32
  pub tying : T s.tying → LastTied s.kinds × (length s.blocks ≡ 0)
  pub filled : 0 < length s.blocks → length s.kinds ≡ total s
  pub blocks : AllFit s.m s.kinds s.blocks
  pub covered : start_of s.blocks (length s.blocks) ≡ s.covered

-- no index and no block yet
pub empty-ok : (m : ℕ) → (m ≢ 0 → 2 ≤ m) → m ≤ 9 → Ok (record { m = m; kinds = []; ties = 0; tying = false; blocks = []; covered = 0 })
unfolding KindsOk tied_count start_of
empty-ok m low high =
    record {
      low = low;
      high = high;
      kinds = tt;
      ties = refl;
      few = zero-le;
      tying = λ t. absurd t;
      filled = λ h. absurd (omega arith);
      blocks = all-fit-none m [] [] refl;
      covered = refl;
    }

module _ (s : Loading) (ok : Ok s) where
  -- ---- index commands

  -- before all indices are filled there is no block
  unfilled : length s.kinds ≢ total s → length s.blocks ≡ 0
  unfilled ne =
      go (lt-or 0 (length s.blocks))
    where
      go : (0 < length s.blocks) ⊎ (length s.blocks ≤ 0) → length s.blocks ≡ 0
      go (inl h) = absurd (ne (ok.filled h))
      go (inr h) = omega arith

  -- other kinds, before any block
  kinds-ok : (ks : List Kind) (ties : ℕ) (tying : Bool) → length s.blocks ≡ 0 → KindsOk 0 ks → tied_count ks ≡ ties → ties ≤ 32 → (T tying → LastTied ks) → Ok (record { m = s.m; kinds = ks; ties = ties; tying = tying; blocks = s.blocks; covered = s.covered })
  kinds-ok ks ties tying first kinds count few last =
      record {
        low = ok.low;
        high = ok.high;
        kinds = kinds;
        ties = count;
        few = few;
        tying = λ t. (last t, first);
        filled = λ h. absurd (omega arith);
        blocks = all-fit-none s.m ks s.blocks first;
        covered = ok.covered;
      }

  -- more of a kind that is not tied
  grown-ok : (count : ℕ) (k : Kind) → ((i : ℕ) → KindOk i k) → ((ls : List Kind) → tied_count (k ∷ ls) ≡ tied_count ls) → length s.kinds ≢ total s → Ok (grown s (replicate count k))
  unfolding grown
  grown-ok count k sound untied ne =
      let n = length s.kinds in
      let more = replicate count k in
      kinds-ok (s.kinds ++ more) s.ties false (unfilled ne)
      (kinds-append 0 n s.kinds more (omega arith) ok.kinds (kinds-replicate n count k sound))
      (omega (arith, tied-append s.kinds more, tied-replicate count k untied, ok.ties))
      ok.few
      (λ t. absurd t)

  tied-ok : (i : ℕ) → length s.kinds ≢ total s → i < length s.kinds → s.ties < 32 → Ok (next s (Tie i))
  unfolding next KindsOk KindOk tied_count LastTied Tied All Distinct
  tied-ok i ne earlier few =
      let n = length s.kinds in
      let k = tied (i ∷ []) in
      let l = length-append s.kinds (k ∷ []) in
      kinds-ok (s.kinds ++ k ∷ []) (suc s.ties) true (unfilled ne)
      (kinds-append 0 n s.kinds (k ∷ []) (omega arith) ok.kinds (record { some = omega arith; earlier = (earlier, tt); once = (tt, tt) }, tt))
      (omega (arith, tied-append s.kinds (k ∷ []), ok.ties))
      few
      (λ _. rw (get_or_at s.kinds k [] free (length (s.kinds ++ k ∷ []) - 1) (omega arith)) tt)

  more-ok : (i : ℕ) → T s.tying → suc i < length s.kinds → T (not (member i (last_terms s.kinds))) → Ok (next s (Term i))
  unfolding next KindOk LastTied Tied last_terms
  more-ok i t earlier fresh =
      let n = length s.kinds - 1 in
      let ts = last_terms s.kinds ++ i ∷ [] in
      let y = ok.tying t in
      kinds-ok (set s.kinds n (tied ts)) s.ties true y.1
      (kinds-set 0 s.kinds n (tied ts) (term-ok (0 + n) i _ y.0 (kind_at 0 s.kinds n ok.kinds) (omega arith) fresh) ok.kinds)
      (tied-set s.kinds n ts y.0 ∙ ok.ties)
      ok.few
      (λ _. rw (length-set, get_or-set_same s.kinds n (tied ts) free (omega arith)) tt)

  -- ---- block commands

  block-ok : (x : Block) → length s.kinds ≡ total s → Fits s.m s.kinds s.covered x → Ok (next s (NextBlock x.j x.bias))
  unfolding next total
  block-ok x all f =
      record {
        low = ok.low;
        high = ok.high;
        kinds = ok.kinds;
        ties = ok.ties;
        few = ok.few;
        tying = λ t. absurd t;
        filled = λ _. all;
        blocks = all-fit-last s.m s.kinds s.blocks x ok.blocks (rw ok.covered f);
        covered = start-last s.blocks x ∙ ap (λ (a : ℕ). a + 2 ^ x.j) ok.covered;
      }

-- ---- every command

total-le : (s : Loading) → total s ≤ 2 ^ s.m
unfolding total
total-le s = cond-case (λ (n : ℕ). n ≤ 2 ^ s.m) (eqb s.m 0) (λ _. zero-le) (λ _. le_refl (2 ^ s.m))

pub next-ok : (s : Loading) (c : Command) → Ok s → Placed s c → Passed (fault s c) → Ok (next s c)
unfolding fault next Placed KindOk tied_count
next-ok s (Length m) ok p f =
    let t = passed-test _ _ _ f in
    empty-ok m (λ _. omega (arith, leb→le _ m (and_left (leb _ m) (leb m _) t))) (omega (arith, leb→le m _ (and_right (leb _ m) (leb m _) t)))
next-ok s (Free count) ok p f = grown-ok s ok count free (λ _. tt) (λ _. refl) p
next-ok s (Zero count) ok p f = grown-ok s ok count frozen (λ _. tt) (λ _. refl) p
next-ok s (Tie i) ok p f = tied-ok s ok i p (ltb→lt _ _ (passed-test _ _ _ f)) (omega (arith, ltb→lt s.ties _ (passed-test _ _ _ (passed-rest _ _ _ f))))
next-ok s (Term i) ok p f =
    let n = length s.kinds in
    let fresh = not (member i (last_terms s.kinds)) in
    let t = passed-test _ _ _ f in
    more-ok s ok i p (omega (arith, ltb→lt _ n (and_left (ltb _ n) fresh t))) (and_right (ltb _ n) fresh t)
next-ok s (NextBlock j bias) ok p f =
    let aligned = eqb (s.covered % 2 ^ j) 0 in
    let within = leb (s.covered + 2 ^ j) (total s) in
    let t₄ = passed-test _ _ _ f in
    let t₃ = and_left (leb j _ && aligned && within) (leb (nat_abs bias) _) t₄ in
    let t₂ = and_left (leb j _ && aligned) within t₃ in
    let room = leb→le (s.covered + 2 ^ j) (total s) (and_right (leb j _ && aligned) within t₃) in
    block-ok s ok (record { j = j; bias = bias }) p
    (record {
      short = omega (arith, leb→le j _ (and_left (leb j _) aligned t₂));
      aligned = eqb→eq (s.covered % 2 ^ j) 0 (and_right (leb j _) aligned t₂);
      within = omega (arith, total-le s);
      light = omega (arith, leb→le (free_count (take (2 ^ j) (drop s.covered s.kinds))) _ (passed-test _ _ _ (passed-rest _ _ _ f)));
      bias = omega (arith, leb→le (nat_abs bias) _ (and_right (leb j _ && aligned && within) (leb (nat_abs bias) _) t₄));
    })
next-ok s End ok p f = ok
