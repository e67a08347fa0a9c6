-- What testing a word means by encoding: document 01, "Refusal table", a word outside the code tests "no". proofs/Testing shows it of every test.
-- Assumes nothing.
use Rattle.std.specs.Prelude.{◌≡◌, Bool, true, false, List, ◌↔◌, ℕ, ◌^◌, length, Result, Ok}
use Rattle.laws.specs.Lists.{All}
use Rattle.polar.specs.Bits.{Bit}
use Rattle.codebook.specs.declared.Refusal.{Refusal}
use Rattle.codebook.specs.Book.{Book}
use Rattle.codebook.specs.Loading.{loaded, load}
use Rattle.codec.specs.Calls.{wrote, encode_call}

-- data encode to a word: the call that encodes them into it succeeds, and leaves that very word. So they are k bits.
abbrev pub EncodesTo : List ℕ → List ℕ → List ℕ → Type 0
EncodesTo book ds c = encode_call book ds c ≡ wrote c

-- the book loads, and the word has its length and is of bits
pub record Testable (book c : List ℕ) : Type 0 where
  pub is : Book
  pub loads : load book ≡ loaded is
  pub size : length c ≡ 2 ^ is.m
  pub bits : All Bit c

-- a test's answer t is yes exactly where some data encode to the word, and no exactly where the word could be tested and no data encode to it
pub record TestedExactly (book c : List ℕ) (t : Result Bool Refusal) : Type 0 where
  pub yes : (t ≡ Ok true) ↔ ((ds : List ℕ) × EncodesTo book ds c)
  pub no : (t ≡ Ok false) ↔ (Testable book c × ((ds : List ℕ) → EncodesTo book ds c → ⊥))
