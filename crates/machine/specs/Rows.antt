-- The kinds of rows of the marked table, and what each claims. Assumes nothing.
use Rattle.std.specs.Prelude.{◌≡◌, Bool, List, [], ◌∷◌, ℕ, zero, suc, length, ℤ, Result, Ok, Err}
use Rattle.std.proofs.Math.Option.{Option, none, some}
use Rattle.polar.specs.Transform.{transform}
use Rattle.polar.specs.Soft.{Q, P}
use Rattle.codebook.specs.declared.Refusal.{Refusal}
use Rattle.codebook.specs.declared.Shape.{Shape}
use Rattle.codebook.specs.Refusals.{refusal_number, outcome_number}
use Rattle.codebook.specs.Book.{Book}
use Rattle.codebook.specs.Loading.{Load, refused, loaded, load, shape_of}
use Rattle.codec.specs.declared.HookRecord.{HookRecord}
use Rattle.codec.specs.Record.{record_bits, read_record}
use Rattle.codec.specs.Calls.{encode_call, test_call, read_data_call, make_record_call, read_record_call, hook_read}
use Rattle.machine.specs.declared.Manner.{Manner}
use Rattle.machine.specs.declared.Counts.{Counts}
use Rattle.machine.specs.declared.Decoded.{Decoded}
use Rattle.machine.specs.declared.HookDecoded.{HookDecoded}
use Rattle.queue.specs.Queue.{Step}
use Rattle.machine.specs.Words.{Ranked, nearest, next_after}
use Rattle.machine.specs.Machine.{run_of}
use Rattle.machine.specs.Calls.{Input, Lent, Called, call_of, plain_call, hook_call}

-- what loading answers, as numbers: the outcome's, n, k and V
unfoldable pub shape : ℕ → ℕ → ℕ → ℕ → List ℕ
shape outcome n k blocks = outcome ∷ n ∷ k ∷ blocks ∷ []

unfoldable pub shape_as : Result Shape Refusal → List ℕ
shape_as (Ok s) = shape 0 s.n s.k s.blocks
shape_as (Err r) = shape (refusal_number r) 0 0 0

-- the numbers of the first n words of block 0, in their order
unfoldable pub words_from : ℕ → Book → List ℤ → Option Ranked → List ℕ
words_from zero B ys found = []
words_from (suc n) B ys none = []
words_from (suc n) B ys (some x) = x.word ∷ words_from n B ys (next_after B ys x.bits 0)

unfoldable pub words_of : ℕ → Load → List ℤ → List ℕ
words_of n (refused r) ys = []
words_of n (loaded B) ys = words_from n B ys (nearest B ys [] 0)

-- the extractions of a run
unfoldable pub steps_of : Load → ℕ → ℕ → List ℤ → List Step
steps_of (refused r) L D ys = []
steps_of (loaded B) L D ys = (run_of B L D ys).steps

-- what a decoding row looks at: the outcome's number, the counts, and the word and data buffers
pub record Seen : Type 0 where
  pub number : ℕ
  pub counts : Counts
  pub word : List ℕ
  pub bits : List ℕ

unfoldable pub seen : Called Decoded → Seen
seen r = record { number = outcome_number r.answer.outcome; counts = r.answer.counts; word = r.lent.word; bits = r.lent.bits }

-- and the record besides
pub record SeenHook : Type 0 where
  pub seen : Seen
  pub hook : HookRecord

unfoldable pub seen_hook : Called HookDecoded → SeenHook
seen_hook r =
    record {
      seen = record { number = outcome_number r.answer.outcome; counts = r.answer.counts; word = r.lent.word; bits = r.lent.bits };
      hook = r.answer.hook;
    }

-- a row, by the kind of its claim
pub data Row : Type 0 where
  -- Q(a,b) = r; P(v,a,b) = r; u·A = c for length 2^m
  is_q : ℤ → ℤ → ℤ → Row
  is_p : ℕ → ℤ → ℤ → ℤ → Row
  transforms : ℕ → List ℕ → List ℕ → Row
  -- a book: loading it answers this shape; the words of its first block, at these values, in order
  loads : List ℕ → List ℕ → Row
  ranks : List ℕ → List ℤ → List ℕ → Row
  -- encode, test and read data, as calls
  encodes : List ℕ → List ℕ → List ℕ → ℕ → List ℕ → Row
  tests : List ℕ → List ℕ → Result Bool Refusal → Row
  reads_data : List ℕ → List ℕ → List ℕ → ℕ → List ℕ → Row
  -- records, by themselves and as calls
  makes : HookRecord → List ℕ → Row
  reads : List ℕ → Option HookRecord → Row
  makes_in : List ℕ → HookRecord → List ℕ → ℕ → List ℕ → Row
  reads_in : List ℕ → List ℕ → ℕ → HookRecord → Row
  -- a run's extractions; of the plain decoding call, what it answers and writes, its outcome's number alone, and all that it leaves; what the
  -- hook call answers and writes
  walks : Input → List Step → Row
  decodes : Input → Lent → Seen → Row
  refuses : Input → Lent → ℕ → Row
  leaves : Input → Lent → Lent → Row
  hooks : Input → Lent → Seen → HookRecord → Row
  -- the number of a call in any manner
  answers : Manner → Input → Lent → ℕ → Row

-- what a row claims
unfoldable pub Holds : Row → Type 0
Holds (is_q a b r) = Q a b ≡ r
Holds (is_p v a b r) = P v a b ≡ r
Holds (transforms m u c) = transform m u ≡ c
Holds (loads book s) = shape_as (shape_of (load book)) ≡ s
Holds (ranks book ys words) = words_of (length words) (load book) ys ≡ words
Holds (encodes book ds c r after) = (outcome_number (encode_call book ds c).outcome ≡ r) × ((encode_call book ds c).buffer ≡ after)
Holds (tests book c t) = test_call book c ≡ t
Holds (reads_data book c ds r after) = (outcome_number (read_data_call book c ds).outcome ≡ r) × ((read_data_call book c ds).buffer ≡ after)
Holds (makes h ds) = record_bits h ≡ ds
Holds (reads ds h) = read_record ds ≡ h
Holds (makes_in book h ds r after) = (outcome_number (make_record_call book h ds).outcome ≡ r) × ((make_record_call book h ds).buffer ≡ after)
Holds (reads_in book ds r h) = (outcome_number (read_record_call book ds) ≡ r) × (hook_read (read_record_call book ds) ≡ h)
Holds (walks c steps) = steps_of (load c.book) c.settings.visits c.settings.paths c.values ≡ steps
Holds (decodes c l s) = seen (plain_call c l) ≡ s
Holds (refuses c l r) = outcome_number (plain_call c l).answer.outcome ≡ r
Holds (leaves c l after) = (plain_call c l).lent ≡ after
Holds (hooks c l s h) = seen_hook (hook_call c l) ≡ record { seen = s; hook = h }
Holds (answers k c l r) = outcome_number (call_of k c l).answer.outcome ≡ r
