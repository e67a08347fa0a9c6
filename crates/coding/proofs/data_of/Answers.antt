-- `coding::data_of` meets its contract: what is read is the word's u. Assumes nothing.
use mathlib.Core.Path.{◌≡◌, sym, ap, ◌∙◌, subst}
use Prim.Native.Nat.{◌^◌}
use lib.ListN.{length}
use Rattle.laws.specs.Lists.{All}
use Rattle.polar.specs.Bits.{Bit}
use Rattle.polar.specs.Transform.{transform}
use Rattle.polar.proofs.Transform.{transform-length}
use Rattle.codebook.specs.Book.{free_count}
use Rattle.codec.specs.Code.{free_bits}
use Rattle.codec.specs.Tabled.{Coded, Some}
use Rattle.coding.proofs.data_of.Goals as goal
use Rattle.coding.proofs.data_of.Goals.{After-transform}

-- u is what the word turns back into
back : (c : After-transform) → c.transform.new.c ≡ transform c.args.m c.args.word.now
back c = c.transform.ensures ∙ ap (transform c.args.m) c.copy_from_slice.ensures.after

pub transform-requires : goal.transform-requires
transform-requires c =
    let r = c.requires.word_len in
    subst (λ l. (length l ≡ 2 ^ c.args.m) × All Bit l) (sym c.copy_from_slice.ensures.after) (r.1, r.2)

pub free_bits-requires : goal.free_bits-requires
free_bits-requires c =
    let a = c.args in
    let s = c.requires.some in
    let r = c.requires.word_len in
    subst (λ l. Some (λ ks. Coded ks a.tables.now.kinds × (length ks ≡ length l) × (free_count ks ≡ length a.bits.now))) (sym (back (goal.at.free_bits-requires c).After-transform))
    (s.0, (s.1.0, s.1.1 ∙ r.1 ∙ sym (transform-length a.m a.word.now r.1), s.1.2))

pub returns : goal.returns
returns c =
    let a = c.args in
    let r = c.requires.word_len in
    let b = back (goal.at.returns c).After-transform in
    record {
      bits_after = λ ks C w f.
          c.free_bits.ensures ks C (w ∙ r.1 ∙ sym (transform-length a.m a.word.now r.1) ∙ ap length (sym b)) f ∙ ap (free_bits ks) b;
      u_after = b;
    }
