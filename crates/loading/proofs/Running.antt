-- The loader's run is the definition's: what is read at a place, and what the command there comes to, takes loading to its answer or to the
-- next place. By cases on what is read, and by the law of codebook/proofs/Fuel. Assumes nothing.
use mathlib.Core.Path.{◌≡◌, refl, sym, ap, ◌∙◌, subst}
use mathlib.Core.Bool.{Bool, true, false, cond, not, ◌&&◌, ◌||◌, or-true}
use mathlib.Core.List.{List, []}
use mathlib.Core.Logic.{◌≢◌, ◌⊎◌, inl, inr}
use mathlib.Core.Option.{Option, none, some}
use Prim.Native.Nat.{ℕ, suc, ◌+◌, ◌-◌, ◌^◌, ◌≤◌, ◌<◌, zero-le}
use native.Mathlib.Numerals.{add-one}
use native.Mathlib.Omega.{arith}
use lib.ListN.{length, get_or, take, drop, length-drop, drop_of_length-le}
use lib.Seq.{drop-cons, drop-drop, take_all}
use lib.Pow.{pow_pos}
use lib.Dec.{T, leb, ltb, eqb, leb→le, nleb→lt, eqb→eq}
use borrow.Author.Tests.{eq-eqb, ne_eqb, eqb-true, eqb-false, lt-ltb, le-ltb}
use Rattle.std.specs.Prelude.{Option as Maybe, Some, None, Result, Ok, Err}
use Rattle.laws.specs.Lists.{tab, over}
use Rattle.laws.proofs.Tests.{cond-case, cond_same, and_left, and_right, or_case, neqb→ne, T_true, T_false, lt-or}
use Rattle.codebook.specs.declared.Refusal.{Refusal}
use Rattle.codebook.specs.declared.Refusal.TheVariants.{Truncated, Unknown, Misplaced}
use Rattle.codebook.specs.declared.Command.{Command}
use Rattle.codebook.specs.declared.Command.TheVariants.{Length, Free, Zero, Tie, Term, Block as NextBlock, End}
use Rattle.codebook.specs.declared.Found.{Found}
use Rattle.codebook.specs.declared.Progress.{Progress}
use Rattle.codebook.specs.declared.Step.{Step}
use Rattle.codebook.specs.declared.Step.TheVariants.{Next, End as Ended}
use Rattle.codebook.specs.Refusals.{unless}
use Rattle.codebook.specs.Book.{free_count}
use Rattle.codebook.specs.Loading.{Loading, refused, loaded, start, total, placed, listed, width, command, next, refusal, book_of, load, shape_of}
use Rattle.codebook.specs.declared.Tables.{Tables}
use Rattle.codebook.specs.Tables.{kind_codes, tie_set, tables_of, overlaid, tables_so_far, loaded_up_to, Filled}
use Rattle.codebook.specs.Progress.{read_at, byte_of, is_end, verdict, Begun, HoldsLoaded, Settled, Goes, shape_at}
use Rattle.codebook.proofs.Fuel.{judged_as, fold_from, none_left, fuel-enough, refused_as, ended_as, load-fold, stopped, stopped_at, stop-fold}
use Rattle.codebook.proofs.Blocks.{start-some}
use Rattle.codebook.proofs.Loaded.{total-begun}
use Rattle.obeying.proofs.Growing.{counts-none}
use Rattle.obeying.proofs.Verdicts.{refused as settled-refused, proceeded}

-- ---- commands and their bytes

pub byte-command : (byte : ℕ) (operands : List ℕ) → T (listed byte) → byte_of (command byte operands) ≡ byte
unfolding command byte_of listed
byte-command byte operands l =
    cond-case B (eqb byte 0x10) (λ t. sym (eqb→eq byte 0x10 t)) (λ n₀.
    cond-case B (eqb byte 0x01) (λ t. sym (eqb→eq byte 0x01 t)) (λ n₁.
    cond-case B (eqb byte 0x02) (λ t. sym (eqb→eq byte 0x02 t)) (λ n₂.
    cond-case B (eqb byte 0x03) (λ t. sym (eqb→eq byte 0x03 t)) (λ n₃.
    cond-case B (eqb byte 0x04) (λ t. sym (eqb→eq byte 0x04 t)) (λ n₄.
    cond-case B (eqb byte 0x05) (λ t. sym (eqb→eq byte 0x05 t)) (λ n₅.
    or_case (eqb byte 0x10 || leb 1 byte && leb byte 5) (eqb byte 0x7f) l
    (λ t. or_case (eqb byte 0x10) (leb 1 byte && leb byte 5) t
    (λ t₀. absurd (neqb→ne byte 0x10 n₀ (eqb→eq byte 0x10 t₀)))
    (λ _ t₁. absurd (omega (arith, leb→le 1 byte (and_left (leb 1 byte) (leb byte 5) t₁), leb→le byte 5 (and_right (leb 1 byte) (leb byte 5) t₁), neqb→ne byte 1 n₁, neqb→ne byte 2 n₂, neqb→ne byte 3 n₃, neqb→ne byte 4 n₄, neqb→ne byte 5 n₅))))
    (λ _ t. sym (eqb→eq byte 0x7f t))))))))
  where
    B : Command → Type 0
    B c = byte_of c ≡ byte

-- ---- one command

-- of any fold: what loading comes to, and what is loaded where it stops
module _ {A : Type 0} (bad : Refusal → Loading → A) (good : Loading → Bool → A) where
  -- what it comes to from here on, by what is read
  unfoldable pub Comes : List ℕ → Loading → ℕ → Maybe Found → Type 0
  Comes bytes s at (Some f) =
      (fold_from bad good (length bytes) s (drop at bytes) ≡ judged_as bad good (verdict s f.command f.whole) s (cond (is_end f.command) (good s (eqb f.next (length bytes))) (fold_from bad good (length bytes) (next s f.command) (drop f.next bytes))))
      × (at < f.next) × (f.next ≤ length bytes)
  Comes bytes s at None = fold_from bad good (length bytes) s (drop at bytes) ≡ bad Unknown s

  judged-cut : (t : Bool) (s : Loading) (x y : A) → judged_as bad good (unless t Misplaced (some Truncated)) s x ≡ judged_as bad good (unless t Misplaced (some Truncated)) s y
  unfolding unless judged_as
  judged-cut true s x y = refl
  judged-cut false s x y = refl

  module _ (bytes : List ℕ) (s : Loading) (at : ℕ) (h : at < length bytes) where
    -- the byte there, and those after it
    abbrev b : ℕ
    b = get_or bytes at 0

    abbrev rest : List ℕ
    rest = drop (at + 1) bytes

    -- the definition's step, at a place within the book
    load_step : fold_from bad good (length bytes) s (drop at bytes) ≡ judged_as bad good (refusal s b rest) s (cond (eqb b 0x7f) (good s (eqb (length rest) 0)) (fold_from bad good (length bytes - 1) (next s (command b (take (width b) rest))) (drop (width b) rest)))
    unfolding fold_from
    load_step =
        let e : length bytes ≡ suc (length bytes - 1) = omega arith in
        ap (λ (f : ℕ). fold_from bad good f s (drop at bytes)) e ∙ rw (drop-cons bytes at 0 h, add-one)

    unlisted-comes : T (not (listed b)) → Comes bytes s at None
    unfolding Comes refusal unless judged_as
    unlisted-comes l = load_step ∙ rw (T_false (listed b) l)

    -- the end has no operands
    end-width : b ≡ 0x7f → width b ≡ 0
    unfolding width
    end-width e = rw e

    module _ (l : T (listed b)) where
      end_test : (operands : List ℕ) → is_end (command b operands) ≡ eqb b 0x7f
      unfolding is_end
      end_test operands = ap (λ (x : ℕ). eqb x 0x7f) (byte-command b operands l)

      whole-refusal : T (leb (width b) (length rest)) → refusal s b rest ≡ verdict s (command b (take (width b) rest)) true
      unfolding refusal verdict unless
      whole-refusal w = rw (T_true (listed b) l, T_true (leb (width b) (length rest)) w, byte-command b (take (width b) rest) l, or-true (is_end (command b (take (width b) rest))))

      last-test : b ≡ 0x7f → eqb (length rest) 0 ≡ eqb (at + 1 + width b) (length bytes)
      last-test e = go (lt-or (at + 1) (length bytes))
        where
          size : length rest ≡ length bytes - (at + 1)
          size = length-drop (at + 1) bytes

          go : (at + 1 < length bytes) ⊎ (length bytes ≤ at + 1) → eqb (length rest) 0 ≡ eqb (at + 1 + width b) (length bytes)
          go (inl k) = ne_eqb (length rest) 0 (λ z. omega (arith, size)) ∙ sym (ne_eqb (at + 1 + width b) (length bytes) (λ z. omega (arith, end-width e)))
          go (inr k) = eq-eqb (length rest) 0 (omega (arith, size)) ∙ sym (eq-eqb (at + 1 + width b) (length bytes) (omega (arith, end-width e)))

      whole-comes : T (leb (width b) (length rest)) → Comes bytes s at (Some (record { command = command b (take (width b) rest); next = at + 1 + width b; whole = true }))
      unfolding Comes
      whole-comes w =
          let c = command b (take (width b) rest) in
          let size = length-drop (at + 1) bytes in
          let fits = leb→le (width b) (length rest) w in
          let ended : T (eqb b 0x7f) → good s (eqb (length rest) 0) ≡ good s (eqb (at + 1 + width b) (length bytes))
          = λ t. ap (good s) (last-test (eqb→eq b 0x7f t)) in
          let more : fold_from bad good (length bytes - 1) (next s c) (drop (width b) rest) ≡ fold_from bad good (length bytes) (next s c) (drop (at + 1 + width b) bytes)
          = rw (drop-drop (width b) (at + 1) bytes) (fuel-enough bad good (length bytes - 1) (length bytes) (next s c) (drop (at + 1 + width b) bytes) (omega (arith, length-drop (at + 1 + width b) bytes)) (omega (arith, length-drop (at + 1 + width b) bytes))) in (
            load_step ∙ rw (whole-refusal w, end_test (take (width b) rest)) (ap (judged_as bad good (verdict s c true) s) (cond_same (eqb b 0x7f) ended more)),
            omega arith,
            omega (arith, size),
          )

      -- a cut command is refused, whatever would follow
      cut-comes : T (not (leb (width b) (length rest))) → Comes bytes s at (Some (record { command = command b []; next = at + 1; whole = false }))
      unfolding Comes refusal verdict unless judged_as
      cut-comes w =
          let other : b ≡ 0x7f → ⊥ = λ e. omega (arith, nleb→lt (width b) (length rest) w, end-width e) in (
            load_step ∙ rw (T_true (listed b) l, T_false (leb (width b) (length rest)) w, byte-command b [] l, end_test [], ne_eqb b 0x7f other) (judged-cut (placed s b) s _ _),
            omega arith,
            omega arith,
          )

    comes : Comes bytes s at (read_at bytes at)
    unfolding read_at
    comes =
        cond-case (Comes bytes s at) (listed b)
        (λ l. cond-case (λ (f : Found). Comes bytes s at (Some f)) (leb (width b) (length rest)) (whole-comes l) (cut-comes l))
        unlisted-comes

  -- what a fold over all bytes comes to, that goes on from a place
  module _ (bytes : List ℕ) (s : Loading) (at : ℕ) (x : A) (goes : x ≡ fold_from bad good (length bytes) s (drop at bytes)) where
    fold_end : length bytes ≤ at → x ≡ bad Truncated s
    fold_end l = goes ∙ rw (drop_of_length-le bytes {i = at} l) (none_left bad good (length bytes) s)

    fold-unlisted : at < length bytes → read_at bytes at ≡ None → x ≡ bad Unknown s
    unfolding Comes
    fold-unlisted h e = goes ∙ subst (Comes bytes s at) e (comes bytes s at h)

    module _ (h : at < length bytes) (f : Found) (e : read_at bytes at ≡ Some f) where
      there : Comes bytes s at (Some f)
      there = subst (Comes bytes s at) e (comes bytes s at h)

      fold-place : (at < f.next) × (f.next ≤ length bytes)
      unfolding Comes
      fold-place = (there.1, there.2)

      fold-refused : (r : Refusal) → verdict s f.command f.whole ≡ some r → x ≡ bad r s
      unfolding Comes judged_as
      fold-refused r k = goes ∙ there.0 ∙ rw k

      fold_next : verdict s f.command f.whole ≡ none → is_end f.command ≡ false → x ≡ fold_from bad good (length bytes) (next s f.command) (drop f.next bytes)
      unfolding Comes judged_as
      fold_next k l = goes ∙ there.0 ∙ rw (k, l)

      fold-last : verdict s f.command f.whole ≡ none → is_end f.command ≡ true → x ≡ good s (eqb f.next (length bytes))
      unfolding Comes judged_as
      fold-last k l = goes ∙ there.0 ∙ rw (k, l)

-- ---- what a step was settled by

goes-on : (end : Bool) (P : Progress → Type 0) (q : Progress) → Goes end P (Next q) → (end ≡ false) × P q
unfolding Goes
goes-on true P q g = let e : Next q ≡ Ended g.0 = g.1 in absurd (let z : ◌≡◌ {A = ℕ} 0 1 = cc in omega arith)
goes-on false P q g = let e : Next q ≡ Next g.0 = g.1 in (refl, subst P (let f : g.0 ≡ q = cc in f) g.2)

goes-last : (end : Bool) (P : Progress → Type 0) (q : Progress) → Goes end P (Ended q) → (end ≡ true) × P q
unfolding Goes
goes-last true P q g = let e : Ended q ≡ Ended g.0 = g.1 in (refl, subst P (let f : g.0 ≡ q = cc in f) g.2)
goes-last false P q g = let e : Ended q ≡ Next g.0 = g.1 in absurd (let z : ◌≡◌ {A = ℕ} 0 1 = cc in omega arith)

-- ---- the end

unless-none : (b : Bool) (f : Refusal) (o : Option Refusal) → unless b f o ≡ none → b ≡ true
unfolding unless
unless-none true f o e = refl
unless-none false f o e = cc

-- the end command may stand, and changes nothing
end-stands : (s : Loading) (c : Command) (whole : Bool) → verdict s c whole ≡ none → is_end c ≡ true → T (placed s 0x7f) × (next s c ≡ s)
unfolding is_end byte_of next verdict
end-stands s (Length m) whole e n = absurd (eqb-false 0x10 0x7f refl (eqb-true 0x10 0x7f n))
end-stands s (Free count) whole e n = absurd (eqb-false 0x01 0x7f refl (eqb-true 0x01 0x7f n))
end-stands s (Zero count) whole e n = absurd (eqb-false 0x02 0x7f refl (eqb-true 0x02 0x7f n))
end-stands s (Tie i) whole e n = absurd (eqb-false 0x03 0x7f refl (eqb-true 0x03 0x7f n))
end-stands s (Term i) whole e n = absurd (eqb-false 0x04 0x7f refl (eqb-true 0x04 0x7f n))
end-stands s (NextBlock j bias) whole e n = absurd (eqb-false 0x05 0x7f refl (eqb-true 0x05 0x7f n))
end-stands s End whole e n = (subst T (sym (unless-none (placed s 0x7f) Misplaced _ e)) tt, refl)

module _ (p : Progress) (t old : Tables) (s : Loading) (h : HoldsLoaded p t old s) (e : T (placed s 0x7f)) where
  begun : s.m ≢ 0
  unfolding placed
  begun = neqb→ne s.m 0 (and_left (not (eqb s.m 0)) (eqb s.covered (total s)) e)

  all-covered : s.covered ≡ total s
  unfolding placed
  all-covered = eqb→eq s.covered (total s) (and_right (not (eqb s.m 0)) (eqb s.covered (total s)) e)

  all-filled : length s.kinds ≡ total s
  all-filled = h.counts.order (start-some s.blocks (omega (arith, h.counts.start, all-covered, total-begun s begun, pow_pos s.m)))

  pub end-shape : shape_of (loaded (book_of s)) ≡ Ok (shape_at p)
  unfolding shape_of shape_at book_of
  end-shape =
      let c = h.counts in
      let n : 2 ^ s.m ≡ p.n = sym (total-begun s begun) ∙ sym c.n in
      let k : free_count s.kinds ≡ p.free = sym (c.free ∙ ap free_count (take_all s.covered s.kinds (omega (arith, all-covered, all-filled)))) in
      λ i. Ok (record { m = sym c.m i; n = n i; k = k i; blocks = sym c.blocks i })

  end-filled : t ≡ overlaid (tables_of (book_of s)) old
  unfolding overlaid tables_of book_of
  end-filled =
      let terms = h.terms ∙ ap (λ (n : ℕ). over (tab n (tie_set 0 s.kinds)) old.terms) (total-begun s begun) in
      λ i. record { kinds = h.kinds i; terms = terms i; heights = h.heights i; starts = h.starts i; biases = h.biases i }

-- the tables of what is loaded so far
holds-tables : (p : Progress) (t old : Tables) (s : Loading) → HoldsLoaded p t old s → t ≡ overlaid (tables_so_far s) old
unfolding overlaid tables_so_far
holds-tables p t old s h = λ i. record { kinds = h.kinds i; terms = h.terms i; heights = h.heights i; starts = h.starts i; biases = h.biases i }

-- ---- the run

-- The numbers p and tables t, which were old at first, stand for what is loaded of these bytes before a place, and loading goes on from there.
pub record Reached (bytes : List ℕ) (old : Tables) (p : Progress) (t : Tables) (at : ℕ) : Type 0 where
  pub s : Loading
  pub holds : HoldsLoaded p t old s
  pub goes : load bytes ≡ fold_from refused_as ended_as (length bytes) s (drop at bytes)
  pub stops : loaded_up_to bytes ≡ fold_from stopped stopped_at (length bytes) s (drop at bytes)
  pub within : at ≤ length bytes

-- nothing is loaded yet
pub reached-none : (bytes : List ℕ) (t : Tables) (p : Progress) → Begun 0 0 p → Reached bytes t p t 0
unfolding load loaded_up_to start total over tab kind_codes tie_set
reached-none bytes t p b =
    record {
      s = start;
      holds = record {
        counts = counts-none p 0 0 b refl;
        kinds = refl;
        terms = refl;
        heights = refl;
        starts = refl;
        biases = refl;
      };
      goes = load-fold (length bytes) start bytes;
      stops = stop-fold (length bytes) start bytes;
      within = zero-le;
    }

-- loading is refused, and the tables u, which were old at first, are those of what was loaded before
pub record Refuses (bytes : List ℕ) (old u : Tables) (f : Refusal) : Type 0 where
  pub answer : load bytes ≡ refused f
  pub left : u ≡ overlaid (tables_so_far (loaded_up_to bytes)) old

-- the answer of a refusal
pub refused-answer : (bytes : List ℕ) (old u : Tables) (f : Refusal) → Refuses bytes old u f → Err f ≡ shape_of (load bytes) × Filled (load bytes) (loaded_up_to bytes) old u
unfolding Filled shape_of
refused-answer bytes old u f e = (rw e.answer, rw e.answer e.left)

-- the answer at the end command, before nothing or more bytes
ended : (bytes : List ℕ) (old : Tables) (q : Progress) (u : Tables) (s : Loading) (nx : ℕ) → HoldsLoaded q u old s → T (placed s 0x7f) → nx ≤ length bytes
    → load bytes ≡ ended_as s (eqb nx (length bytes)) → loaded_up_to bytes ≡ s
    → shape_of (load bytes) ≡ cond (ltb nx (length bytes)) (shape_of (refused Misplaced)) (Ok (shape_at q)) × Filled (load bytes) (loaded_up_to bytes) old u
unfolding Filled
ended bytes old q u s nx h e w all stop = go (lt-or nx (length bytes))
  where
    go : (nx < length bytes) ⊎ (length bytes ≤ nx)
        → shape_of (load bytes) ≡ cond (ltb nx (length bytes)) (shape_of (refused Misplaced)) (Ok (shape_at q)) × Filled (load bytes) (loaded_up_to bytes) old u
    go (inl l) =
        let more : load bytes ≡ refused Misplaced = all ∙ rw (ne_eqb nx (length bytes) (omega arith)) in
        (rw (more, lt-ltb nx (length bytes) l), rw (more, stop) (holds-tables q u old s h))
    go (inr l) =
        let none : load bytes ≡ loaded (book_of s) = all ∙ rw (eq-eqb nx (length bytes) (omega arith)) in
        (rw (none, le-ltb nx (length bytes) l) (end-shape q u old s h e), rw none (end-filled q u old s h e))

module _ (bytes : List ℕ) (old : Tables) (p : Progress) (t : Tables) (at : ℕ) (r : Reached bytes old p t at) where
  -- loading stops here, with the tables as they are
  here : (f : Refusal) (u : Tables) → load bytes ≡ refused f → loaded_up_to bytes ≡ r.s → u ≡ t → Refuses bytes old u f
  here f u e k same = record { answer = e; left = rw k (same ∙ holds-tables p t old r.s r.holds) }

  -- the bytes end where a command is due
  pub reached-end : length bytes ≤ at → Refuses bytes old t Truncated
  reached-end l =
      here Truncated t (fold_end refused_as ended_as bytes r.s at (load bytes) r.goes l) (fold_end stopped stopped_at bytes r.s at (loaded_up_to bytes) r.stops l) refl

  pub reached-unlisted : at < length bytes → read_at bytes at ≡ None → Refuses bytes old t Unknown
  reached-unlisted h e =
      here Unknown t (fold-unlisted refused_as ended_as bytes r.s at (load bytes) r.goes h e) (fold-unlisted stopped stopped_at bytes r.s at (loaded_up_to bytes) r.stops h e) refl

  -- a command and what it comes to
  module _ (h : at < length bytes) (f : Found) (e : read_at bytes at ≡ Some f) where
    -- what its verdict settles, where the tables become u
    abbrev pub Step-settled : Tables → Result Step Refusal → Type 0
    Step-settled u x = Settled (verdict r.s f.command f.whole) (u ≡ t) (Goes (is_end f.command) (λ (q : Progress). HoldsLoaded q u old (next r.s f.command))) x

    pub reached-refused : (u : Tables) (why : Refusal) → Step-settled u (Err why) → Refuses bytes old u why
    reached-refused u why j =
        let k = settled-refused (u ≡ t) _ _ why j in
        here why u (fold-refused refused_as ended_as bytes r.s at (load bytes) r.goes h f e why k.0) (fold-refused stopped stopped_at bytes r.s at (loaded_up_to bytes) r.stops h f e why k.0) k.1

    pub reached-next : (q : Progress) (u : Tables) → Step-settled u (Ok (Next q)) → Reached bytes old q u f.next × (at < f.next)
    reached-next q u j =
        let k = proceeded (u ≡ t) _ _ (Next q) j in
        let g = goes-on _ _ q k.1 in
        let place = fold-place refused_as ended_as bytes r.s at (load bytes) r.goes h f e in (
          record {
            s = next r.s f.command;
            holds = g.1;
            goes = fold_next refused_as ended_as bytes r.s at (load bytes) r.goes h f e k.0 g.0;
            stops = fold_next stopped stopped_at bytes r.s at (loaded_up_to bytes) r.stops h f e k.0 g.0;
            within = place.1;
          },
          place.0,
        )

    -- the end, with what follows it
    pub reached-last : (q : Progress) (u : Tables) → Step-settled u (Ok (Ended q))
        → shape_of (load bytes) ≡ cond (ltb f.next (length bytes)) (shape_of (refused Misplaced)) (Ok (shape_at q)) × Filled (load bytes) (loaded_up_to bytes) old u
    reached-last q u j =
        let k = proceeded (u ≡ t) _ _ (Ended q) j in
        let g = goes-last _ _ q k.1 in
        let last = end-stands r.s f.command f.whole k.0 g.0 in
        ended bytes old q u r.s f.next (rw last.1 at g.1) last.0 (fold-place refused_as ended_as bytes r.s at (load bytes) r.goes h f e).1
        (fold-last refused_as ended_as bytes r.s at (load bytes) r.goes h f e k.0 g.0)
        (fold-last stopped stopped_at bytes r.s at (loaded_up_to bytes) r.stops h f e k.0 g.0)
