-- What loading and the tests give the run of a call: a loaded book stands in its tables, with its shape, and values that pass their test fit it. Assumes nothing.
use mathlib.Core.Path.{◌≡◌, refl, sym, ap, ap₂, ◌∙◌, subst}
use mathlib.Core.List.{List, [], ◌∷◌, map}
use mathlib.Core.Option.{Option, none, some}
use Prim.Native.Nat.{ℕ, ◌^◌, ◌≤◌}
use native.Mathlib.Omega.{arith}
use Rattle.std.specs.Prelude.{Ok, Err}
use lib.IntN.{ℤ, pos, nat_abs}
use lib.ListN.{length, get_or, length-map, get_or-map}
use lib.Dec.{T, leb, leb→le}
use lib.Pow.{pow_mono}
use Rattle.laws.specs.Lists.{All, tab}
use Rattle.laws.proofs.Tests.{and_left, and_right}
use Rattle.laws.proofs.Lists.{over-get_d, length-tab, get_d-tab}
use Rattle.polar.specs.Layers.{Within}
use Rattle.codebook.specs.declared.Refusal.{Refusal}
use Rattle.codebook.specs.declared.Shape.{Shape}
use Rattle.codebook.specs.declared.Tables.{Tables}
use Rattle.codebook.specs.Book.{Book, Block, block_at, start_of}
use Rattle.codebook.specs.Loading.{Load, load, refused, loaded, book_shape, shape_of}
use Rattle.codebook.specs.Tables.{tables_of, overlaid, loaded_up_to, Filled}
use Rattle.codebook.proofs.Loaded.{loaded-valid}
use Rattle.coding.proofs.Told.{shape-refused, load-tabled}
use Rattle.settings.specs.declared.Settings.{Settings}
use Rattle.codec.specs.Record.{no_record}
use Rattle.machine.specs.declared.Manner.{Manner}
use Rattle.machine.specs.declared.Counts.{Counts}
use Rattle.machine.specs.declared.HookDecoded.{HookDecoded}
use Rattle.machine.specs.Calls.{Input, Lent, Called, lengths_of, first_failed, values_ok, tests_before, barred, no_counts, refused_as, refused_call, ran_call, call_by}
use Rattle.machine.proofs.Unbarred.{Free, nothing-bars}
use Rattle.machine.proofs.Called.{call-refused, call-barred, call-ran}
use Rattle.checks.specs.Checks.{admitted_as}
use Rattle.reading.specs.Running.{InTables}
use Rattle.extraction.proofs.Counts.{blocks-few}
use Rattle.attempts.specs.Reading.{reader_run}
use Rattle.attempts.specs.Attempt.{Ready}

-- ---- the book that is loaded

-- a book, its loading, and that a shape is its own
pub record Has (book : List ℕ) (x : Shape) : Type 0 where
  pub is : Book
  pub loads : load book ≡ loaded is
  pub shape : x ≡ book_shape is

pub shape_has : (book : List ℕ) (x : Shape) → Ok x ≡ shape_of (load book) → Has book x
unfolding shape_of
shape_has book x e = go (load book) refl e
  where
    go : (l : Load) → load book ≡ l → Ok x ≡ shape_of l → Has book x
    go (refused r) p f = let z : ◌≡◌ {A = ℕ} 0 1 = cc in absurd (omega arith)
    go (loaded B) p f = record { is = B; loads = p; shape = (cc) }

module _ (book : List ℕ) (x : Shape) (h : Has book x) where
  -- it is small
  pub has-small : x.n ≤ 512
  has-small =
      let small : 2 ^ h.is.m ≤ 2 ^ 9 = pow_mono {j = 9} (loaded-valid book h.is h.loads).high in
      omega (arith, ap (λ (y : Shape). y.n) h.shape)

  pub has-few : x.blocks ≤ 512
  has-few = omega (arith, ap (λ (y : Shape). y.blocks) h.shape, blocks-few h.is (loaded-valid book h.is h.loads))

-- ---- the tables of a loaded book

module _ (book : List ℕ) (B : Book) (e : load book ≡ loaded B) (old new : Tables) (f : Filled (load book) (loaded_up_to book) old new) where
  pub load_read : InTables B new
  unfolding Filled overlaid tables_of block_at
  load_read =
      let g : new ≡ overlaid (tables_of B) old = rw e at f in
      record {
        booked = record { valid = loaded-valid book B e; tabled = load-tabled book B old new e f };
        blocks =
            record {
              height = λ b h.
                  ap (λ (t : Tables). get_or t.heights b 0) g
                  ∙ over-get_d (map (λ (x : Block). x.j) B.blocks) old.heights b 0 (omega (arith, length-map B.blocks (λ (x : Block). x.j)))
                  ∙ get_or-map (λ (x : Block). x.j) B.blocks b (record { j = 0; bias = pos 0 });
              start = λ b h.
                  ap (λ (t : Tables). get_or t.starts b 0) g
                  ∙ over-get_d (tab (length B.blocks) (start_of B.blocks)) old.starts b 0 (omega (arith, length-tab (length B.blocks) (start_of B.blocks)))
                  ∙ get_d-tab (length B.blocks) (start_of B.blocks) b 0 h;
              bias = λ b h.
                  ap (λ (t : Tables). get_or t.biases b (pos 0)) g
                  ∙ over-get_d (map (λ (x : Block). x.bias) B.blocks) old.biases b (pos 0) (omega (arith, length-map B.blocks (λ (x : Block). x.bias)))
                  ∙ get_or-map (λ (x : Block). x.bias) B.blocks b (record { j = 0; bias = pos 0 });
            };
      }

-- ---- the values

pub values-within : (ys : List ℤ) → T (values_ok ys) → All (Within 2047) ys
unfolding values_ok All
values-within [] t = tt
values-within (y ∷ ys) t = (leb→le (nat_abs y) 2047 (and_left (leb (nat_abs y) 2047) (values_ok ys) t), values-within ys (and_right (leb (nat_abs y) 2047) (values_ok ys) t))

-- ---- what the tests come to

pub admitted-good : (o : Option Refusal) (s x : Settings) → Ok x ≡ admitted_as o s → (o ≡ none) × (x ≡ s)
unfolding admitted_as
admitted-good none s x e = (refl, (cc))
admitted-good (some r) s x e = let z : ◌≡◌ {A = ℕ} 0 1 = cc in absurd (omega arith)

pub admitted-bad : (o : Option Refusal) (s : Settings) (r : Refusal) → Err r ≡ admitted_as o s → o ≡ some r
unfolding admitted_as
admitted-bad none s r e = let z : ◌≡◌ {A = ℕ} 0 1 = cc in absurd (omega arith)
admitted-bad (some q) s r e = cc

-- ---- all that the run needs

abbrev pub ready : (book : List ℕ) (ys : List ℤ) (x : Shape) (h : Has book x) (old new : Tables) → Filled (load book) (loaded_up_to book) old new
    → length ys ≡ x.n → T (values_ok ys) → Ready x ys new
ready book ys x h old new f fits good =
    record {
      book = h.is;
      in_tables = load_read book h.is h.loads old new f;
      shape = h.shape;
      fits = fits;
      range = values-within ys good;
    }

-- ---- what the call comes to

-- where no run is made
pub refused-bare : (r : Refusal) (x : Counts) → x ≡ no_counts → record { outcome = Err r; counts = x; hook = no_record } ≡ refused_as r
unfolding refused_as
refused-bare r x e = ap (λ (y : Counts). record { outcome = Err r; counts = y; hook = no_record }) e

module _ (k : Manner) (c : Input) (l : Lent) where
  abbrev call : Called HookDecoded
  call = call_by reader_run k c l

  abbrev refusal : Refusal → Type 0
  refusal r = (refused_as r ≡ call.answer) × (l ≡ call.lent)

  refusing : (r : Refusal) → call ≡ refused_call r l → refusal r
  unfolding refused_call
  refusing r e = (sym (ap (λ (w : Called HookDecoded). w.answer) e), sym (ap (λ (w : Called HookDecoded). w.lent) e))

  -- loading refuses
  pub not-loaded : (r : Refusal) → Err r ≡ shape_of (load c.book) → refusal r
  not-loaded r e = refusing r (call-refused reader_run k c l r (shape-refused c.book r e))

  -- a loaded book: its shape is its own, and the tests are of it
  module _ (x : Shape) (e : Ok x ≡ shape_of (load c.book)) where
    abbrev pub has : Has c.book x
    has = shape_has c.book x e

    abbrev barring : Option Refusal
    barring = first_failed (tests_before k x c.settings (lengths_of c l) c.values)

    barred-is : barring ≡ barred k has.is c l
    unfolding barred
    barred-is = ap (λ (y : Shape). first_failed (tests_before k y c.settings (lengths_of c l) c.values)) has.shape

    -- a test refuses
    pub not-admitted : (r : Refusal) → Err r ≡ admitted_as barring c.settings → refusal r
    not-admitted r a = refusing r (call-barred reader_run k c l has.is r has.loads (sym barred-is ∙ admitted-bad barring c.settings r a))

    -- none does: the settings are those asked, and the run has what it needs
    module _ (s : Settings) (a : Ok s ≡ admitted_as barring c.settings) where
      pub free : Free k x s (lengths_of c l) c.values
      free =
          let g = admitted-good barring c.settings s a in
          subst (λ (z : Settings). Free k x z (lengths_of c l) c.values) (sym g.1) (nothing-bars k x c.settings (lengths_of c l) c.values g.0)

      pub ran : ran_call k.reads x s l (reader_run has.is s c.values l) ≡ call
      ran =
          let g = admitted-good barring c.settings s a in
          ap₂ (λ (y : Shape) (z : Settings). ran_call k.reads y z l (reader_run has.is z c.values l)) has.shape g.1
          ∙ sym (call-ran reader_run k c l has.is has.loads (sym barred-is ∙ g.0))
