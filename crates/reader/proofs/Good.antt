-- What is true of a queued path (specs/Reached): its record, and what it sees of the arrays, by the bits u of the machine's path that it stands
-- for. It stays true while others write; with the last word in the sums it gives all that the next block needs; and a word found makes it true of that block.
-- Assumes nothing.
use mathlib.Core.Path.{◌≡◌, refl, sym, ap, ap₂, ◌∙◌, subst}
use mathlib.Core.List.{List}
use Prim.Native.Nat.{ℕ, zero, suc, ◌+◌, ◌-◌, ◌^◌, ◌≤◌, ◌<◌}
use native.Mathlib.Nat.{zero-add}
use native.Mathlib.Omega.{arith}
use lib.ListN.{length, take, drop}
use lib.Seq.{take_all, length-take-le}
use lib.Pow.{pow_pos}
use lib.IntN.{ℤ, pos, neg_ℤ, ◌-ℤ◌}
use Rattle.laws.specs.Lists.{All}
use Rattle.laws.proofs.Lists.{all_any}
use Rattle.polar.specs.Bits.{Bit, number}
use Rattle.polar.specs.Transform.{transform}
use Rattle.polar.specs.Value.{costs}
use Rattle.polar.proofs.Value.{costs-add, costs-same, penalties-costs, R-costs, Same}
use Rattle.codebook.specs.Book.{Book, start_of, block_at}
use Rattle.codebook.specs.Limits.{Valid}
use Rattle.codec.proofs.Fill.{After}
use Rattle.machine.specs.Words.{Ranked, rank}
use Rattle.machine.specs.Machine as M
use Rattle.reader.specs.Arrays.{Arrays, View, vals_of, sums_of, upd, writes, turn, joined}
use Rattle.codec.specs.Ties.{parities_of, fill_block, filled}
use Rattle.outer.specs.Words.{Word}
use Rattle.reader.specs.Paths.{Path, score_of, last_word, own_word, place, view_of}
use Rattle.reader.specs.Reader.{commit}
use Rattle.reader.specs.Reached.{Vals, Sums, Good, Inv, HoldsBits, plain, StandsFor}
use Rattle.reader.proofs.Upd.{upd_other, upd-agree}
use Rattle.reader.proofs.Tree.{Prior, vals-same, sums_same, vals-prior, prior-zero, sums-zero, prior-turn, turn_low, turn-less, root-join}
use Rattle.codec.proofs.Ties.{filled-take, filled-drop}
use Rattle.outer.proofs.Blocks.{Placed, placed, start-less}
use Rattle.outer.proofs.Words.{Matches, filled-after}
use Rattle.reader.proofs.Arrays.{Sees, sees-same, Kept, Alone, sums_kept, sums-put, vals-lost, sums-alone}

-- ---- the frame: a path that sees what it saw is as it was

inv-frame : (B : Book) (ys : List ℤ) (v v' : View) (u : List ℕ) (p : Path) (b : ℕ) → vals_of v' ≡ vals_of v → sums_of v' ≡ sums_of v → Inv B ys v u p b →
    Inv B ys v' u p b
unfolding Inv
inv-frame B ys v v' u p zero e f h = record { bits = h.bits; spent = h.spent; cost = h.cost; root = ap (λ S. S B.m) e ∙ h.root }
inv-frame B ys v v' u p (suc b) e f h =
    record {
      within = h.within;
      size = h.size;
      bits = h.bits;
      spent = h.spent;
      cost = h.cost;
      setting = h.setting;
      earlier = h.earlier;
      way = h.way;
      root = h.root;
      vals = h.vals;
      same = λ k n. ap (λ S. S k) e ∙ h.same k n;
      own = ap (λ S. S (block_at B b).j) e ∙ h.own;
      sums = subst (Sums (suc B.m) u (start_of B.blocks b)) (sym f) h.sums;
    }

module _ (B : Book) (ys : List ℤ) (A A' : Arrays) where
  pub holds_frame : (u : List ℕ) (p : Path) → Sees A A' p.ids → HoldsBits B ys A u p → HoldsBits B ys A' u p
  holds_frame u p e h =
      record { parities = h.parities; inv = inv-frame B ys (view_of A p) (view_of A' p) u p p.blocks e.vals e.sums h.inv }

  pub stands-frame : (q : M.Path) (p : Path) → Sees A A' p.ids → StandsFor B ys A q p → StandsFor B ys A' q p
  stands-frame q p e h = record { same = h.same; holds = holds_frame q.bits p e h.holds }

-- ---- what the record says

-- of a path with b blocks
pub record PathSized (B : Book) (ys : List ℤ) (u : List ℕ) (p : Path) (b : ℕ) : Type 0 where
  pub within : b ≤ length B.blocks
  pub size : length u ≡ start_of B.blocks b
  pub bits : All Bit u
  pub total : p.spent + p.cost ≡ costs B.m ys u 0 (length u)

-- what the next block finds once the last word is in the sums
pub record Ready (B : Book) (ys : List ℤ) (others : List (ℕ → ℕ)) (u : List ℕ) (b : ℕ) (v : View) : Type 0 where
  pub sums : Sums (suc B.m) u (start_of B.blocks b) (sums_of v)
  pub root : b < length B.blocks → vals_of v B.m ≡ ys
  pub prior : b < length B.blocks → (k : ℕ) → Prior k B.m ys u (start_of B.blocks b) (vals_of v)
  pub alone : b < length B.blocks → 0 < start_of B.blocks b → Alone others (turn B.m (start_of B.blocks b)) v.ids

module _ (B : Book) (ys : List ℤ) (v : View) (u : List ℕ) (p : Path) where
  pub sized : Valid B → (b : ℕ) → Inv B ys v u p b → PathSized B ys u p b
  unfolding Inv start_of All costs
  sized ok zero h =
      record {
        within = omega arith;
        size = ap length h.bits;
        bits = subst (All Bit) (sym h.bits) tt;
        total = rw (h.bits, h.spent, h.cost);
      }
  sized ok (suc b) h =
      let o : Placed B b = placed B ok b h.within in
      let s : ℕ = start_of B.blocks b in
      let n : ℕ = 2 ^ (block_at B b).j in
      record {
        within = h.within;
        size = h.size ∙ sym o.next;
        bits = h.bits;
        total =
            ap₂ ◌+◌ h.spent h.cost
            ∙ ap (λ t. costs B.m ys u 0 s + costs B.m ys u t n) (sym (zero-add s))
            ∙ sym (costs-add B.m ys u 0 s n)
            ∙ ap (costs B.m ys u 0) (sym h.size);
      }

  -- ---- the last block b

  module _ (b : ℕ) (g : Good B ys v u p b) where
    before-size : length (take (start_of B.blocks b) u) ≡ start_of B.blocks b
    before-size = length-take-le (start_of B.blocks b) u (omega (arith, g.size))

    -- its word is the path's
    last_word_lem : last_word B p b ≡ transform (block_at B b).j (drop (start_of B.blocks b) u)
    unfolding last_word
    last_word_lem =
        let s : ℕ = start_of B.blocks b in
        let j : ℕ = (block_at B b).j in
        ap (λ x. transform j (fill_block B x b p.setting).bits) g.earlier
        ∙ ap (transform j) (sym (filled-drop B (take s u) b p.setting before-size))
        ∙ ap (λ x. transform j (drop s x)) (sym g.setting)

    pub own-matches : p.parities ≡ parities_of B u → Matches B ys (take (start_of B.blocks b) u) b (rank B ys b u) (own_word B p b)
    unfolding rank own_word
    own-matches e =
        record {
          bits = g.setting;
          parities = e;
          cost = g.cost;
          sum = penalties-costs B.m ys u (start_of B.blocks b) (2 ^ (block_at B b).j) ∙ ap (λ n. neg_ℤ (pos n)) (sym g.cost);
          number = ap number last_word_lem;
        }

-- the machine scores its path alike
pub plain-path : (B : Book) (ys : List ℤ) (u : List ℕ) (p : Path) → PathSized B ys u p p.blocks → M.path B ys p.number p.blocks u ≡ plain B p u
unfolding M.path M.score_of plain score_of
plain-path B ys u p h = ap {A = ℤ} {B = M.Path} (λ z. record { number = p.number; blocks = p.blocks; bits = u; score = z }) (score p.blocks)
  where
    score : (b : ℕ) → M.score_of B ys b u ≡ score_of B p b
    score zero = refl
    score (suc b) = ap (λ z. z -ℤ (block_at B b).bias) (R-costs B.m ys u ∙ ap (λ n. neg_ℤ (pos n)) (sym h.total))

-- ---- the last word goes into the sums

pub commit-kept : (B : Book) (others : List (ℕ → ℕ)) (p : Path) (b : ℕ) (v : View) → Kept others v.arrays (commit B others p b v).arrays
unfolding commit
commit-kept B others p zero v = all_any (sees-same v.arrays) others
commit-kept B others p (suc b) v = sums_kept others _ v _

module _ (B : Book) (ys : List ℤ) (ok : Valid B) where
  pub ready : (others : List (ℕ → ℕ)) (u : List ℕ) (p : Path) (b : ℕ) (v : View) → Inv B ys v u p b → Ready B ys others u b (commit B others p b v)
  unfolding Inv start_of commit place
  ready others u p zero v h =
      record {
        sums = sums-zero (suc B.m) u 0 (sums_of v) refl;
        root = λ l. h.root;
        prior = λ l k. prior-zero k B.m ys u 0 (vals_of v) refl;
        alone = λ l z. absurd (omega arith);
      }
  ready others u p (suc b) v h =
      let o : Placed B b = placed B ok b h.within in
      let j : ℕ = (block_at B b).j in
      let m : ℕ = B.m in
      let s : ℕ = start_of B.blocks b in
      let t : ℕ = start_of B.blocks (suc b) in
      let a : ℕ = turn (suc m) (s + 2 ^ j) in
      let w : List ℕ = joined (sums_of v) j (a - j) (last_word B p b) in
      let lost : List ℤ = v.arrays.vals a (writes others a v) in
      let after : sums_of (commit B others p (suc b) v) ≡ upd (sums_of v) a (joined (sums_of v) j (a - j) (transform j (drop s u))) =
      sums-put others a v w ∙ ap (λ x. upd (sums_of v) a (joined (sums_of v) j (a - j) x)) (last_word_lem B ys v u p b h) in
      let less : suc b < length B.blocks → t < 2 ^ m = start-less B ok (suc b) in
      let same : suc b < length B.blocks → a ≡ turn m t = λ l. ap (turn (suc m)) (sym o.next) ∙ turn_low m t (less l) in
      let above : 0 < t = omega (arith, o.next, pow_pos j) in
      record {
        sums =
            subst (λ (x : ℕ). Sums (suc m) u x (sums_of (commit B others p (suc b) v))) (sym o.next)
            (subst (Sums (suc m) u (s + 2 ^ j)) (sym after) (root-join (m - j) j m s o.small o.starts u (sums_of v) h.size h.sums));
        root = λ l.
            let n : m ≡ a → ⊥ = λ x. omega (arith, same l, turn-less m t above (less l)) in
            ap (λ f. f m) (vals-lost others a v w) ∙ upd_other (vals_of v) a lost m n ∙ h.same m n ∙ h.root;
        prior = λ l k.
            subst (Prior k m ys u t) (sym (vals-lost others a v w ∙ upd-agree (vals_of v) h.way a lost h.same))
            (subst (λ (x : ℕ). Prior k m ys u t (upd h.way x lost)) (sym (same l))
            (prior-turn k m ys u t h.way lost above (less l) (vals-prior (m - j) k j m ys u s t h.way o.small o.starts o.next (less l) h.vals)));
        alone = λ l z. subst (λ (x : ℕ). Alone others x (commit B others p (suc b) v).ids) (same l) (sums-alone others a v w);
      }

  -- ---- the word y, the machine's x, enters block b after the bits z, and makes p

  module _ (v : View) (way : ℕ → List ℤ) (b : ℕ) (z : List ℕ) (x : Ranked) (y : Word) (p : Path) where
    pub enter : b < length B.blocks → length ys ≡ 2 ^ B.m → length z ≡ start_of B.blocks b → All Bit z →
        way B.m ≡ ys → Vals (B.m - (block_at B b).j) B.m ys z (start_of B.blocks b) way →
        ((k : ℕ) → (k ≡ place B b → ⊥) → vals_of v k ≡ way k) → vals_of v (block_at B b).j ≡ way (block_at B b).j →
        Sums (suc B.m) z (start_of B.blocks b) (sums_of v) →
        Matches B ys z b x y → p.spent ≡ costs B.m ys z 0 (start_of B.blocks b) → p.earlier ≡ parities_of B z → p.cost ≡ y.cost →
        p.setting ≡ y.setting →
        Good B ys v x.bits p b
    enter l ly lz bz root vals same own sums k spent earlier cost setting =
        let j : ℕ = (block_at B b).j in
        let m : ℕ = B.m in
        let s : ℕ = start_of B.blocks b in
        let a : After z (2 ^ j) x.bits = subst (After z (2 ^ j)) (sym k.bits) (filled-after B ys z b (placed B ok b l) ly lz bz y.setting) in
        let front : take s x.bits ≡ z = ap (take s) k.bits ∙ filled-take B z b y.setting lz in
        let alike : Same s z x.bits = take_all s z (omega arith) ∙ sym front in
        record {
          within = l;
          size = a.size ∙ ap (λ n. n + 2 ^ j) lz;
          bits = a.bits;
          spent = spent ∙ costs-same m ys z x.bits 0 s s (omega arith) alike;
          cost = cost ∙ k.cost;
          setting = k.bits ∙ ap₂ (λ (c : List ℕ) (w : ℕ). filled B c b w) (sym front) (sym setting);
          earlier = earlier ∙ ap (parities_of B) (sym front);
          way = way;
          root = root;
          vals = vals-same (m - j) m ys z x.bits s way alike vals;
          same = same;
          own = own;
          sums = sums_same (suc m) z x.bits s (sums_of v) alike sums;
        }
