-- A test answers yes exactly where some data encode to the word, and no exactly where the word could be tested and none do: by the laws that take
-- encoding to testing and back (proofs/Calls, Reverse). Assumes nothing.
use mathlib.Core.Path.{◌≡◌, refl, ap, ◌∙◌, subst}
use mathlib.Core.Bool.{Bool, true, false}
use mathlib.Core.List.{List}
use Rattle.std.specs.Prelude.{Result, Ok}
use Rattle.codebook.specs.declared.Refusal.{Refusal}
use Prim.Native.Nat.{ℕ}
use Rattle.codebook.specs.Book.{Book}
use Rattle.codebook.specs.Limits.{Valid}
use Rattle.codebook.specs.Loading.{Load, refused, loaded, load}
use Rattle.codec.specs.Code.{read_data}
use Rattle.codec.specs.Calls.{Wrote, wrote, encode_with, encode_call, test_with, test_call}
use Rattle.codec.specs.Testing.{EncodesTo, Testable, TestedExactly}
use Rattle.codec.proofs.Answers.{not-said, encode-wrote, test-yes, test-no, test_in, test-out}
use Rattle.codec.proofs.Reverse.{in-encode, read-data}
use Rattle.codec.proofs.Calls.{by-load, test-of-encode}

module _ (book c : List ℕ) where
  -- what data encode to tests yes
  encoded-yes : (ds : List ℕ) → EncodesTo book ds c → test_call book c ≡ Ok true
  unfolding wrote
  encoded-yes ds e =
      subst (λ w. test_call book w ≡ Ok true) (ap (λ (w : Wrote). w.buffer) e) (test-of-encode book ds c (ap (λ (w : Wrote). w.outcome) e))

  -- a word that tests yes is the encoding of its data
  yes-encoded : test_call book c ≡ Ok true → (ds : List ℕ) × EncodesTo book ds c
  unfolding test_call encode_call test_with
  yes-encoded = by-load P (λ r t. absurd (not-said r t)) one book
    where
      P : Load → Type 0
      P l = test_with l c ≡ Ok true → (ds : List ℕ) × (encode_with l ds c ≡ wrote c)

      one : (B : Book) → Valid B → P (loaded B)
      one B ok t =
          let (w, h, i) = test-yes B c t in
          let (x, y) = read-data B c ok w h in
          (read_data B c, encode-wrote B (read_data B c) c x w y ∙ ap wrote (in-encode B c ok w h i))

  -- a word that can be tested, and that no data encode to, tests no
  none-no : Testable book c → ((ds : List ℕ) → EncodesTo book ds c → ⊥) → test_call book c ≡ Ok false
  unfolding test_call
  none-no x f =
      let p : test_call book c ≡ test_with (loaded x.is) c = ap (λ l. test_with l c) x.loads in
      p ∙ test-out x.is c x.size x.bits (λ t. let (ds, e) = yes-encoded (p ∙ test_in x.is c x.size x.bits t) in f ds e)

  not-both : (t : Result Bool Refusal) → t ≡ Ok true → t ≡ Ok false → ⊥
  not-both t p q = cc

  -- a word that tests no could be tested
  no-tested : test_call book c ≡ Ok false → Testable book c
  unfolding test_call test_with
  no-tested t = go (load book) refl t
    where
      go : (l : Load) → load book ≡ l → test_with l c ≡ Ok false → Testable book c
      go (refused r) e q = absurd (not-said r q)
      go (loaded B) e q = let (w, h) = test-no B c q in record { is = B; loads = e; size = w; bits = h }

  pub tested-exactly : TestedExactly book c (test_call book c)
  tested-exactly =
      record {
        yes = (yes-encoded, λ x. encoded-yes x.0 x.1);
        no = (λ t. (no-tested t, λ ds e. not-both (test_call book c) (encoded-yes ds e) t), λ x. none-no x.0 x.1);
      }
