-- The last word of the path in hand goes into the sums: those that it is joined with are there, since the path is fit, and what the path then sees is
-- the definition's. Assumes nothing.
use mathlib.Core.Path.{◌≡◌, sym, ap, ap₂, ◌∙◌, subst, subst₂}
use mathlib.Core.List.{List}
use Prim.Native.Nat.{ℕ, ◌-◌, ◌^◌}
use native.Mathlib.Omega.{arith}
use Rattle.codebook.specs.Book.{Book, block_at}
use Rattle.codebook.specs.Limits.{Valid}
use Rattle.reader.specs.Arrays.{View, sums_of, put_sums, joined}
use Rattle.reader.specs.Paths.{last_word, ids_of, view_of}
use Rattle.reader.specs.Reader.{commit}
use Rattle.reader.proofs.Next.{last-bits, join-ready, commit-word}
use Rattle.order.specs.Entries.{slot_at}
use Rattle.heights.specs.Workspace.{bits_of}
use Rattle.heights.proofs.Words.{bits_back}
use Rattle.standing.specs.Seen.{Memory, Enough, Seen, Viewed, StepSeen}
use Rattle.standing.specs.Standing.{cell, word_at, InHand}
use Rattle.standing.proofs.Taken.{taken-row}
use Rattle.standing.proofs.Views.{stands-seen}
use Rattle.views.specs.Steps.{Joinable}
use Rattle.words.specs.declared.Block.{Block}
use Rattle.steps.specs.Steps.{Last, committed}

module _ {m D N : ℕ} {x : Memory} {e : ℕ} {es vs : List ℕ} (h : InHand m D N x e es vs) (enough : Enough D N) {s : ℕ} (is : s ≡ slot_at e) where
  -- what the path sees at first
  pub own-seen : Seen m N s x (ids_of h.rest) (view_of h.arrays h.taken)
  own-seen = subst₂ (λ n t. Seen n N t x (ids_of h.rest) (view_of h.arrays h.taken)) h.deep (sym is) (stands-seen h.stands enough)

  module _ (valid : Valid h.book) {last : Block} {b : ℕ} (own : Last h last b) where
    -- the sums that its word is joined with are there
    own-joinable : Joinable last.height last.place (view_of h.arrays h.taken)
    unfolding Joinable
    own-joinable = λ k a d.
        join-ready h.book valid h.arrays h.taken b own.fit k (omega (arith, own.block.height)) (omega (arith, own.block.word))

    pub own-viewed : Viewed m N s x (Joinable last.height last.place)
    own-viewed = record { others = ids_of h.rest; view = view_of h.arrays h.taken; seen = own-seen; met = own-joinable }

    -- the word that the row holds, as bits
    word-bits : (w : ℕ) → w ≡ cell x.rows s word_at → bits_of (2 ^ (block_at h.book b).j) w ≡ last_word h.book h.taken b
    word-bits w i =
        let l = last-bits h.book valid h.arrays h.taken b own.fit in
        ap₂ bits_of (sym l.0) (i ∙ ap (λ t. cell x.rows t word_at) is ∙ (taken-row h.stands).word b own.blocks)
        ∙ bits_back (last_word h.book h.taken b) l.1

    -- the word is in the sums
    pub commit-seen : (y : Memory) (w : ℕ) → w ≡ cell x.rows s word_at →
        StepSeen m N s x y (Joinable last.height last.place)
        (λ others v. put_sums others last.place (joined (sums_of v) last.height (last.place - last.height) (bits_of (2 ^ last.height) w)) v) →
        Seen m N s y (ids_of h.rest) (committed h)
    unfolding StepSeen
    commit-seen y w i t =
        let B : Book = h.book in
        let o : List (ℕ → ℕ) = ids_of h.rest in
        let v : View = view_of h.arrays h.taken in
        subst (λ u. Seen m N s y o u)
        (ap₂ (λ j k. put_sums o k (joined (sums_of v) j (k - j) (bits_of (2 ^ j) w)) v) own.block.height own.block.word
        ∙ commit-word B o h.taken v b (bits_of (2 ^ (block_at B b).j) w) (word-bits w i)
        ∙ ap (λ k. commit B o h.taken k v) (sym own.blocks))
        (t o v own-seen own-joinable)
