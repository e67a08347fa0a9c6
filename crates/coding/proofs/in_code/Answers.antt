-- `coding::in_code` meets its contract: what is tested is the word's u. Assumes nothing.
use mathlib.Core.Path.{◌≡◌, sym, ap, ◌∙◌, subst}
use Prim.Native.Nat.{◌^◌}
use lib.ListN.{length}
use Rattle.laws.specs.Lists.{All}
use Rattle.polar.specs.Bits.{Bit}
use Rattle.polar.specs.Transform.{transform}
use Rattle.polar.proofs.Transform.{transform-length, transform-bits}
use Rattle.codec.specs.Code.{obeys_all}
use Rattle.codec.specs.Tabled.{Tabled, Some}
use Rattle.coding.proofs.in_code.Goals as goal
use Rattle.coding.proofs.in_code.Goals.{After-transform}

-- u is what the word turns back into
back : (c : After-transform) → c.transform.new.c ≡ transform c.args.m c.args.word.now
back c = c.transform.ensures ∙ ap (transform c.args.m) c.copy_from_slice.ensures.after

pub transform-requires : goal.transform-requires
transform-requires c =
    let r = c.requires.word_len in
    subst (λ l. (length l ≡ 2 ^ c.args.m) × All Bit l) (sym c.copy_from_slice.ensures.after) (r.1, r.2)

pub obeys_all-requires : goal.obeys_all-requires
obeys_all-requires c =
    let a = c.args in
    let s = c.requires.some in
    let r = c.requires.word_len in
    let w = a.word.now in
    let b = back (goal.at.obeys_all-requires c).After-transform in
    record {
      some = subst (λ l. Some (λ ks. Tabled ks a.tables.now.kinds a.tables.now.terms × (length ks ≡ length l))) (sym b) (s.0, (s.1.0, s.1.1 ∙ r.1 ∙ sym (transform-length a.m w r.1)));
      all = subst (All Bit) (sym b) (transform-bits a.m w r.2);
    }

pub returns : goal.returns
returns c = λ ks T w.
    let a = c.args in
    let r = c.requires.word_len in
    let b = back (goal.at.returns c).After-transform in
    c.obeys_all.ensures ks T (w ∙ r.1 ∙ sym (transform-length a.m a.word.now r.1) ∙ ap length (sym b)) ∙ ap (λ l. obeys_all l 0 ks) b
