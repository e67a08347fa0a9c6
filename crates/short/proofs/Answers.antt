-- What the search of 8 positions answers: a byte of least key from a bound on is the word that the scan by settings finds, and the bytes that the two
-- least weights give have the least keys of all bytes, or of those of one parity. By the order of the keys, which no two bytes share. Assumes nothing.
use mathlib.Core.Path.{◌≡◌, refl, sym, ap, ap₂, ◌∙◌}
use mathlib.Core.Bool.{true, false}
use mathlib.Core.List.{List}
use mathlib.Core.Logic.{◌⊎◌, inl, inr}
use mathlib.Core.Option.{Option, none, some}
use Prim.Native.Nat.{ℕ, ◌+◌, ◌-◌, ◌*◌, ◌/◌, ◌%◌, ◌^◌, ◌≤◌, ◌<◌}
use native.Mathlib.Omega.{arith}
use lib.Dec.{leb, eqb, eqb→eq}
use lib.IntN.{ℤ}
use lib.ListN.{length}
use borrow.Author.Tests.{le-leb, leb-true}
use Rattle.laws.specs.Lists.{All}
use Rattle.laws.proofs.Tests.{lt-or}
use Rattle.polar.specs.Layers.{Within}
use Rattle.outer.specs.declared.Candidate.{Candidate}
use Rattle.outer.specs.Search.{Entry, spread, cost_of, key_of, setting_key, least_from, answer}
use Rattle.outer.proofs.Rows.{every-at}
use Rattle.outer.proofs.Sums.{cost-bound}
use Rattle.outer.proofs.Least.{Chosen, least-chosen}
use Rattle.short.specs.declared.Lead.{Lead}
use Rattle.short.specs.Short.{least_key, byte_key, Halves, byte_rows, back_rows, Octets, word_with}
use Rattle.short.specs.Flips.{odd_of}
use Rattle.short.proofs.Octets.{byte-key, turns}
use Rattle.short.proofs.LeastKey.{key_or, key-found}
use Rattle.short.proofs.Weights.{key_from, At, Led, odd_low}

-- the setting of 8 free indices that makes a byte
abbrev pub back : ℕ → ℕ
back x = spread back_rows 0 8 x

-- its highest bit is the byte's parity: computed over all bytes
back-odd : (y : ℕ) → y < 256 → odd_of 8 y ≡ back y / 128
unfolding odd_of spread back_rows
back-odd y l = eqb→eq (odd_of 8 y) (back y / 128) (every-at (λ (k : ℕ). eqb (odd_of 8 k) (back k / 128)) 256 tt y l)

-- a key by its parts
key-parts : (x : ℕ) (vs : List ℤ) → x < 256 → (key_from 1 x vs / 256 ≡ cost_of x vs) × (key_from 1 x vs % 256 ≡ x)
unfolding key_from
key-parts x vs l = (omega arith, omega arith)

-- bytes of different numbers have different keys
key_apart : (x y : ℕ) (vs : List ℤ) → x < 256 → y < 256 → key_from 1 x vs ≡ key_from 1 y vs → x ≡ y
key_apart x y vs l m q = omega (arith, (key-parts x vs l).1, (key-parts y vs m).1)

-- keys of both widths, in order
wide_below : (x y : ℕ) (vs : List ℤ) → x < 256 → y < 256 → key_of (cost_of x vs) x ≤ key_of (cost_of y vs) y → key_from 1 x vs ≤ key_from 1 y vs
unfolding key_from key_of
wide_below x y vs l m h = omega arith

wide-above : (x y : ℕ) (vs : List ℤ) → x < 256 → y < 256 → key_from 1 x vs < key_from 1 y vs → key_of (cost_of x vs) x + 1 ≤ key_of (cost_of y vs) y
unfolding key_from key_of
wide-above x y vs l m h = omega arith

above_wide : (x y : ℕ) (vs : List ℤ) → x < 256 → y < 256 → key_of (cost_of x vs) x + 1 ≤ key_of (cost_of y vs) y → key_from 1 x vs < key_from 1 y vs
unfolding key_from key_of
above_wide x y vs l m h = omega arith

module _ {from count free : ℕ} {sets : List ℕ} {e : ℕ → Entry} (vs : List ℤ) (k : Octets from count free sets e) (fits : from + count ≤ 256) where
  -- the byte is one of the words
  abbrev Word : ℕ → Type 0
  Word x = (x < 256) × (from ≤ back x) × (back x < from + count)

  entry_of : (x : ℕ) → Word x → (e (back x - from)).word ≡ x
  entry_of x h =
      let q : from + (back x - from) ≡ back x = omega (arith, h.1) in
      k.words (back x - from) (omega (arith, h.1, h.2)) ∙ ap (spread byte_rows 0 8) q ∙ (turns x h.0).round

  word_of : (w : ℕ) → w < count → Word (e w).word
  word_of w l =
      let t = turns (from + w) (omega arith) in
      let q = k.words w l in
      let b : back (e w).word ≡ from + w = ap back q ∙ t.home in
      (omega (arith, q, t.there), omega (arith, b), omega (arith, b))

  home_of : (w : ℕ) → w < count → back (e w).word ≡ from + w
  home_of w l = ap back (k.words w l) ∙ (turns (from + w) (omega arith)).home

  -- setting w's answer, by its word
  abbrev named : ℕ → ℕ → Candidate
  named w x = record { some = true; setting = w; parities = (e w).set; cost = cost_of x vs; number = x }

  -- a word of least key from a bound on is the one that the scan by settings finds
  pub word-answer : (bound x : ℕ) → Word x → bound ≤ key_of (cost_of x vs) x → ((y : ℕ) → Word y → bound ≤ key_of (cost_of y vs) y → key_from 1 x vs ≤ key_from 1 y vs)
      → word_with sets free (back x - from) (key_from 1 x vs) ≡ answer e vs (least_from (setting_key e vs) bound count)
  unfolding setting_key word_with answer
  word-answer bound x h b f = go (least_from (setting_key e vs) bound count) (least-chosen (setting_key e vs) bound count)
    where
      low : back x - from < count
      low = omega (arith, h.1, h.2)

      own : setting_key e vs (back x - from) ≡ key_of (cost_of x vs) x
      own = ap (λ (y : ℕ). key_of (cost_of y vs) y) (entry_of x h)

      go : (o : Option ℕ) → Chosen (setting_key e vs) bound count o → word_with sets free (back x - from) (key_from 1 x vs) ≡ answer e vs o
      go none c = absurd (omega (arith, c (back x - from) low, own))
      go (some y) c =
          let z = (e y).word in
          let m = word_of y c.0 in
          let le : key_from 1 x vs ≤ key_from 1 z vs = f z m c.1 in
          let ge : key_from 1 z vs ≤ key_from 1 x vs = wide_below z x vs m.0 h.0 (omega (arith, c.2 (back x - from) low (omega (arith, own)), own)) in
          let same : x ≡ z = key_apart x z vs h.0 m.0 (omega arith) in
          let at : back x - from ≡ y = omega (arith, ap back same, home_of y c.0) in
          let p = key-parts x vs h.0 in
          rw (at, p.0, p.1, k.spans y) (ap (named y) same)

-- ---- the two least keys

module _ {vs : List ℤ} (size : length vs ≡ 8) {x : Lead} (d : Led 1 vs x) where
  -- a word of 8 positions is a byte
  byte_low : {o key : ℕ} (t : At 1 vs o key) → t.word < 256
  byte_low t = omega (arith, t.low, ap (λ (n : ℕ). 2 ^ n) size)

  byte-odd : {o key : ℕ} (t : At 1 vs o key) → odd_of 8 t.word ≡ o
  byte-odd t = ap (λ (n : ℕ). odd_of n t.word) (sym size) ∙ t.odd_is

  low : (y : ℕ) → y < 256 → y < 2 ^ length vs
  low y l = omega (arith, ap (λ (n : ℕ). 2 ^ n) size)

  odd : (y : ℕ) → odd_of (length vs) y ≡ odd_of 8 y
  odd y = ap (λ (n : ℕ). odd_of n y) size

  first : At 1 vs (1 - x.odd) (x.base + x.least)
  first = d.one (omega (arith, size))

  second : At 1 vs (1 - x.odd) (x.base + x.next)
  second = d.two (omega (arith, size))

  third : At 1 vs x.odd (x.base + x.least + x.next)
  third = d.both (omega (arith, size))

  -- weights are above 0, and no two are equal
  least-pos : 0 < x.least
  least-pos = go (lt-or 0 x.least)
    where
      go : (0 < x.least) ⊎ (x.least ≤ 0) → 0 < x.least
      go (inl l) = l
      go (inr l) =
          let same : first.word ≡ d.near.word = key_apart first.word d.near.word vs (byte_low first) (byte_low d.near) (omega (arith, first.key-is, d.near.key-is)) in
          absurd (omega (arith, byte-odd first, byte-odd d.near, ap (odd_of 8) same, d.odd_low))

  next-above : x.least < x.next
  unfolding first second
  next-above = go (lt-or x.least x.next)
    where
      go : (x.least < x.next) ⊎ (x.next ≤ x.least) → x.least < x.next
      go (inl l) = l
      go (inr l) =
          absurd (d.apart (omega (arith, size)) (omega (arith, size)) (key_apart first.word second.word vs (byte_low first) (byte_low second) (omega (arith, first.key-is, second.key-is, d.least-low))))

  -- the keys that the code sums up fit
  pub keys-fit : All (Within 1048064) vs → (x.base + x.least < 4294967296) × (x.base + x.next < 4294967296) × (x.base + x.least + x.next < 4294967296)
  unfolding key_from
  keys-fit h = (
    omega (arith, first.key-is, byte_low first, cost-bound first.word vs h),
    omega (arith, second.key-is, byte_low second, cost-bound second.word vs h),
    omega (arith, third.key-is, byte_low third, cost-bound third.word vs h),
  )

  -- words of the other parity, and all words
  others : (y : ℕ) → y < 256 → odd_of 8 y ≡ 1 - x.odd → x.base + x.least ≤ key_from 1 y vs
  others y l o = go (d.other y (low y l) (odd y ∙ o))
    where
      go : (key_from 1 y vs ≡ x.base + x.least) ⊎ (x.base + x.next ≤ key_from 1 y vs) → x.base + x.least ≤ key_from 1 y vs
      go (inl q) = omega arith
      go (inr q) = omega (arith, d.least-low)

  at-least : (y : ℕ) → y < 256 → (odd_of 8 y ≡ x.odd) ⊎ (odd_of 8 y ≡ 1 - x.odd) → x.base ≤ key_from 1 y vs
  at-least y l (inl o) = go (d.same y (low y l) (odd y ∙ o))
    where
      go : (y ≡ d.near.word) ⊎ (x.base + x.least + x.next ≤ key_from 1 y vs) → x.base ≤ key_from 1 y vs
      go (inl q) = omega (arith, ap (λ (i : ℕ). key_from 1 i vs) q, d.near.key-is)
      go (inr q) = omega arith
  at-least y l (inr o) = omega (arith, others y l o)

  -- what lies above the least key of a parity
  above-near : (y : ℕ) → y < 256 → odd_of 8 y ≡ x.odd → x.base < key_from 1 y vs → x.base + x.least + x.next ≤ key_from 1 y vs
  above-near y l o h = go (d.same y (low y l) (odd y ∙ o))
    where
      go : (y ≡ d.near.word) ⊎ (x.base + x.least + x.next ≤ key_from 1 y vs) → x.base + x.least + x.next ≤ key_from 1 y vs
      go (inl q) = absurd (omega (arith, ap (λ (i : ℕ). key_from 1 i vs) q, d.near.key-is))
      go (inr q) = q

  above-first : (y : ℕ) → y < 256 → odd_of 8 y ≡ 1 - x.odd → x.base + x.least < key_from 1 y vs → x.base + x.next ≤ key_from 1 y vs
  above-first y l o h = go (d.other y (low y l) (odd y ∙ o))
    where
      go : (key_from 1 y vs ≡ x.base + x.least) ⊎ (x.base + x.next ≤ key_from 1 y vs) → x.base + x.next ≤ key_from 1 y vs
      go (inl q) = absurd (omega arith)
      go (inr q) = q

  -- ---- the answers, for words whose settings are those of 8 free indices from one of these on

  module _ {from count free : ℕ} {sets : List ℕ} {e : ℕ → Entry} (k : Octets from count free sets e) (fits : from + count ≤ 256) where
    -- a candidate by its key
    abbrev made : ℕ → Candidate
    made key = word_with sets free (back (key % 256) - from) key

    at-answer : (bound : ℕ) {o key : ℕ} (t : At 1 vs o key) → from ≤ back t.word → back t.word < from + count → bound ≤ key_of (cost_of t.word vs) t.word
        → ((y : ℕ) → (y < 256) × (from ≤ back y) × (back y < from + count) → bound ≤ key_of (cost_of y vs) y → key ≤ key_from 1 y vs) → made key ≡ answer e vs (least_from (setting_key e vs) bound count)
    at-answer bound {o} {key} t p q b f =
        let n : key % 256 ≡ t.word = ap (λ (i : ℕ). i % 256) (sym t.key-is) ∙ (key-parts t.word vs (byte_low t)).1 in
        ap₂ (λ (i j : ℕ). word_with sets free (back i - from) j) n (sym t.key-is)
        ∙ word-answer vs k fits bound t.word (byte_low t, p, q) b (λ y h c. omega (arith, f y h c, t.key-is))

    -- two words with the least keys
    pair-answers : {o key o' key' : ℕ} (t : At 1 vs o key) (u : At 1 vs o' key') → from ≤ back t.word → back t.word < from + count → from ≤ back u.word → back u.word < from + count
        → key < key' → ((y : ℕ) → y < 256 → from ≤ back y → back y < from + count → key ≤ key_from 1 y vs)
        → ((y : ℕ) → y < 256 → from ≤ back y → back y < from + count → key < key_from 1 y vs → key' ≤ key_from 1 y vs) → (a b : Candidate) → a ≡ made key → b ≡ made key'
        → (a ≡ answer e vs (least_from (setting_key e vs) 0 count)) × (b ≡ answer e vs (least_from (setting_key e vs) (key_of a.cost a.number + 1) count))
    unfolding word_with
    pair-answers {o} {key} {o'} {key'} t u p q p' q' l f g a b i j =
        let r = key-parts t.word vs (byte_low t) in
        let c : a.cost ≡ cost_of t.word vs = ap (λ (z : Candidate). z.cost) i ∙ ap (λ (z : ℕ). z / 256) (sym t.key-is) ∙ r.0 in
        let n : a.number ≡ t.word = ap (λ (z : Candidate). z.number) i ∙ ap (λ (z : ℕ). z % 256) (sym t.key-is) ∙ r.1 in (
          i ∙ at-answer 0 t p q (omega arith) (λ y h _. f y h.0 h.1 h.2),
          j
              ∙ at-answer (key_of (cost_of t.word vs) t.word + 1) u p' q' (wide-above t.word u.word vs (byte_low t) (byte_low u) (omega (arith, t.key-is, u.key-is)))
              (λ y h m. g y h.0 h.1 h.2 (omega (arith, t.key-is, above_wide t.word y vs (byte_low t) h.0 m)))
              ∙ ap₂ (λ (y z : ℕ). answer e vs (least_from (setting_key e vs) (key_of y z + 1) count)) (sym c) (sym n),
        )

  -- all 8 indices are free
  pub free-answers : {sets : List ℕ} {e : ℕ → Entry} → Octets 0 256 8 sets e → (a b : Candidate) → a ≡ word_with sets 8 (back (x.base % 256)) x.base
      → b ≡ word_with sets 8 (back ((x.base + x.least) % 256)) (x.base + x.least)
      → (a ≡ answer e vs (least_from (setting_key e vs) 0 256)) × (b ≡ answer e vs (least_from (setting_key e vs) (key_of a.cost a.number + 1) 256))
  free-answers {sets} {e} k a b p q =
      pair-answers k (omega arith) d.near first (omega arith) (every d.near.word (byte_low d.near)) (omega arith) (every first.word (byte_low first)) (omega (arith, least-pos))
      (λ y l _ _. at-least y l (either y))
      (λ y l _ _ h. go y l h (either y))
      a
      b
      (p ∙ whole x.base)
      (q ∙ whole (x.base + x.least))
    where
      whole : (key : ℕ) → word_with sets 8 (back (key % 256)) key ≡ word_with sets 8 (back (key % 256) - 0) key
      whole key = let h : back (key % 256) ≡ back (key % 256) - 0 = omega arith in ap (λ (i : ℕ). word_with sets 8 i key) h

      every : (y : ℕ) → y < 256 → back y < 256
      every y l = (turns y l).back

      either : (y : ℕ) → (odd_of 8 y ≡ x.odd) ⊎ (odd_of 8 y ≡ 1 - x.odd)
      either y = pick (lt-or (odd_of 8 y) 1) (lt-or x.odd 1)
        where
          pick : (odd_of 8 y < 1) ⊎ (1 ≤ odd_of 8 y) → (x.odd < 1) ⊎ (1 ≤ x.odd) → (odd_of 8 y ≡ x.odd) ⊎ (odd_of 8 y ≡ 1 - x.odd)
          pick (inl i) (inl j) = inl (omega arith)
          pick (inl i) (inr j) = inr (omega (arith, d.odd_low))
          pick (inr i) (inl j) = inr (omega (arith, odd_low 8 y))
          pick (inr i) (inr j) = inl (omega (arith, odd_low 8 y, d.odd_low))

      go : (y : ℕ) → y < 256 → x.base < key_from 1 y vs → (odd_of 8 y ≡ x.odd) ⊎ (odd_of 8 y ≡ 1 - x.odd) → x.base + x.least ≤ key_from 1 y vs
      go y l h (inl o) = omega (arith, above-near y l o h)
      go y l h (inr o) = others y l o

  -- all indices but the first are free, and its bit is p: the hard decisions have this parity, or not
  module _ {p : ℕ} {sets : List ℕ} {e : ℕ → Entry} (bit : p < 2) (k : Octets (128 * p) 128 7 sets e) where
    inside : (y : ℕ) → y < 256 → odd_of 8 y ≡ p → (128 * p ≤ back y) × (back y < 128 * p + 128)
    inside y l o = let h : back y / 128 ≡ p = sym (back-odd y l) ∙ o in (omega arith, omega arith)

    outside : (y : ℕ) → y < 256 → 128 * p ≤ back y → back y < 128 * p + 128 → odd_of 8 y ≡ p
    outside y l i j = back-odd y l ∙ omega arith

    -- the setting of 7 indices
    setting : {o key : ℕ} (t : At 1 vs o key) → o ≡ p → word_with sets 7 (back (key % 256) % 128) key ≡ word_with sets 7 (back (key % 256) - 128 * p) key
    setting {o} {key} t q =
        let n : key % 256 ≡ t.word = ap (λ (i : ℕ). i % 256) (sym t.key-is) ∙ (key-parts t.word vs (byte_low t)).1 in
        let h = inside t.word (byte_low t) (byte-odd t ∙ q) in
        let m : back (key % 256) ≡ back t.word = ap back n in
        let s : back (key % 256) % 128 ≡ back (key % 256) - 128 * p = omega (arith, h.0, h.1) in
        ap (λ (i : ℕ). word_with sets 7 i key) s

    pub even-answers : x.odd ≡ p → (a b : Candidate) → a ≡ word_with sets 7 (back (x.base % 256) % 128) x.base
        → b ≡ word_with sets 7 (back ((x.base + x.least + x.next) % 256) % 128) (x.base + x.least + x.next)
        → (a ≡ answer e vs (least_from (setting_key e vs) 0 128)) × (b ≡ answer e vs (least_from (setting_key e vs) (key_of a.cost a.number + 1) 128))
    even-answers o a b i j =
        let t = inside d.near.word (byte_low d.near) (byte-odd d.near ∙ o) in
        let u = inside third.word (byte_low third) (byte-odd third ∙ o) in
        pair-answers k (omega arith) d.near third t.0 t.1 u.0 u.1 (omega (arith, least-pos))
        (λ y l m n. at-least y l (inl (outside y l m n ∙ sym o)))
        (λ y l m n h. above-near y l (outside y l m n ∙ sym o) h)
        a
        b
        (i ∙ setting d.near o)
        (j ∙ setting third o)

    pub odd-answers : (x.odd ≡ p → ⊥) → (a b : Candidate) → a ≡ word_with sets 7 (back ((x.base + x.least) % 256) % 128) (x.base + x.least)
        → b ≡ word_with sets 7 (back ((x.base + x.next) % 256) % 128) (x.base + x.next)
        → (a ≡ answer e vs (least_from (setting_key e vs) 0 128)) × (b ≡ answer e vs (least_from (setting_key e vs) (key_of a.cost a.number + 1) 128))
    odd-answers z a b i j =
        let o : 1 - x.odd ≡ p = flipped z d.odd_low in
        let t = inside first.word (byte_low first) (byte-odd first ∙ o) in
        let u = inside second.word (byte_low second) (byte-odd second ∙ o) in
        pair-answers k (omega arith) first second t.0 t.1 u.0 u.1 (omega (arith, next-above))
        (λ y l m n. others y l (outside y l m n ∙ sym o))
        (λ y l m n h. above-first y l (outside y l m n ∙ sym o) h)
        a
        b
        (i ∙ setting first o)
        (j ∙ setting second o)
      where
        flipped : {q : ℕ} → (q ≡ p → ⊥) → q < 2 → 1 - q ≡ p
        flipped {q} z l = pick (lt-or q 1) (lt-or p 1)
          where
            pick : (q < 1) ⊎ (1 ≤ q) → (p < 1) ⊎ (1 ≤ p) → 1 - q ≡ p
            pick (inl i) (inl j) = absurd (z (omega arith))
            pick (inl i) (inr j) = omega arith
            pick (inr i) (inl j) = omega arith
            pick (inr i) (inr j) = absurd (z (omega arith))

-- ---- the least key of all bytes from a bound on, by the keys of half bytes

module _ {halves sets : List ℕ} {e : ℕ → Entry} {vs : List ℤ} (small : All (Within 1048064) vs) (h : Halves halves vs) (k : Octets 0 256 8 sets e) (bound b : ℕ)
    (nb : (c x : ℕ) → c < 8388608 → x < 256 → leb bound (key_of c x) ≡ leb b (c * 256 + x)) where
  key-is : (x : ℕ) → x < 256 → byte_key halves x ≡ key_from 1 x vs
  unfolding key_from
  key-is x l = omega (arith, byte-key h x l)

  key-small : (x : ℕ) → x < 256 → byte_key halves x < 4294967295
  key-small x l = omega (arith, byte-key h x l, cost-bound x vs small, h.short)

  -- a bound on keys of 64 bits is one on those of 32
  both : (x : ℕ) → x < 256 → leb bound (key_of (cost_of x vs) x) ≡ leb b (byte_key halves x)
  both x l = nb (cost_of x vs) x (omega (arith, cost-bound x vs small, h.short)) l ∙ ap (leb b) (sym (byte-key h x l))

  from-wide : (x : ℕ) → x < 256 → bound ≤ key_of (cost_of x vs) x → b ≤ byte_key halves x
  from-wide x l m = leb-true b (byte_key halves x) (sym (both x l) ∙ le-leb bound (key_of (cost_of x vs) x) m)

  to-wide : (x : ℕ) → x < 256 → b ≤ byte_key halves x → bound ≤ key_of (cost_of x vs) x
  to-wide x l m = leb-true bound (key_of (cost_of x vs) x) (both x l ∙ le-leb b (byte_key halves x) m)

  pub bytes-answer : (key : ℕ) → key ≡ least_key (byte_key halves) b 256
      → ((key ≡ 4294967295 → record { some = false; setting = 0; parities = 0; cost = 0; number = 0 } ≡ answer e vs (least_from (setting_key e vs) bound 256))
      × ((key ≡ 4294967295 → ⊥) → word_with sets 8 (back (key % 256)) key ≡ answer e vs (least_from (setting_key e vs) bound 256)))
  unfolding setting_key answer
  bytes-answer key q = go (least_from (byte_key halves) b 256) (least-chosen (byte_key halves) b 256) (q ∙ key-found (byte_key halves) b 256 key-small)
    where
      -- no byte passes the bound
      none_left : ((x : ℕ) → x < 256 → byte_key halves x < b) → (o : Option ℕ) → Chosen (setting_key e vs) bound 256 o
          → record { some = false; setting = 0; parities = 0; cost = 0; number = 0 } ≡ answer e vs o
      none_left f none c = refl
      none_left f (some w) c =
          let t = word_of vs k (omega arith) w c.0 in
          absurd (omega (arith, f (e w).word t.0, from-wide (e w).word t.0 c.1))

      go : (o : Option ℕ) → Chosen (byte_key halves) b 256 o → key ≡ key_or (byte_key halves) o
          → ((key ≡ 4294967295 → record { some = false; setting = 0; parities = 0; cost = 0; number = 0 } ≡ answer e vs (least_from (setting_key e vs) bound 256))
          × ((key ≡ 4294967295 → ⊥) → word_with sets 8 (back (key % 256)) key ≡ answer e vs (least_from (setting_key e vs) bound 256)))
      go none c i = (λ _. none_left c (least_from (setting_key e vs) bound 256) (least-chosen (setting_key e vs) bound 256), λ z. absurd (z i))
      go (some x) c i =
          let l = c.0 in
          let kx : key ≡ key_from 1 x vs = i ∙ key-is x l in
          let n : back (key % 256) ≡ back x - 0 = ap (λ (j : ℕ). back (j % 256)) kx ∙ ap back (key-parts x vs l).1 ∙ omega arith in (
            λ z. absurd (omega (arith, key-small x l)),
            λ _.
                ap₂ (λ (j m : ℕ). word_with sets 8 j m) n kx
                ∙ word-answer vs k (omega arith) bound x (l, omega arith, (turns x l).back) (to-wide x l c.1)
                (λ y t m. omega (arith, key-is x l, key-is y t.0, c.2 y t.0 (from-wide y t.0 m))),
          )
