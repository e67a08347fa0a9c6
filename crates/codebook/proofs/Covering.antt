-- The block commands of a valid book are obeyed, block by block, once its indices are filled, and at the end the book is loaded. By induction on the blocks; relies on Obeyed. Assumes
-- nothing.
use mathlib.Core.Path.{◌≡◌, refl, sym, ap, ◌∙◌}
use mathlib.Core.Bool.{Bool, false}
use mathlib.Core.List.{List, [], ◌∷◌, ◌++◌, map, flat_map, append-nil}
use Prim.Native.Nat.{◌+◌, ◌%◌, ◌^◌}
use native.Mathlib.Omega.{arith}
use lib.ListN.{length, get_or, take, drop, length-append}
use lib.Seq.{append_snoc, get_or-append_seam}
use lib.IntN.{nat_abs}
use lib.Pow.{pow_pos}
use borrow.Author.Tests.{le-leb, eq-eqb, ne_eqb}
use Rattle.codebook.specs.declared.Command.{Command}
use Rattle.codebook.specs.declared.Command.TheVariants.{End}
use Rattle.codebook.specs.Refusals.{unless}
use Rattle.codebook.specs.Book.{Block, Book, free_count, tied_count, start_of, block_at, kinds_of}
use Rattle.codebook.specs.Loading.{Loading, loaded, listed, width, command, total, placed, fault, next, book_of, refusal, decided, load_from}
use Rattle.codebook.specs.Limits.{Valid}
use Rattle.codebook.specs.Progress.{byte_of, is_end}
use Rattle.codebook.specs.Written.{written, block_command}
use Rattle.codebook.proofs.Blocks.{Fits, no_block, start-append, start-last}
use Rattle.codebook.proofs.Loaded.{total-begun}
use Rattle.codebook.proofs.Obeyed.{Fitting, from, goes, obeyed}

module _ (B : Book) (v : Valid B) where
  -- all indices are filled, and these blocks are loaded
  abbrev pub reached : List Block → Bool → Loading
  reached bs tying = record { m = B.m; kinds = B.kinds; ties = tied_count B.kinds; tying = tying; blocks = bs; covered = start_of bs (length bs) }

  all : (bs : List Block) (y : Bool) → total (reached bs y) ≡ 2 ^ B.m
  all bs y = total-begun (reached bs y) (λ e. absurd (omega (arith, v.low)))

  -- the block after some of the book's keeps the limits where they end
  next_fits : (bs : List Block) (x : Block) (after : List Block) → B.blocks ≡ bs ++ x ∷ after → Fits B.m B.kinds (start_of bs (length bs)) x
  unfolding block_at kinds_of
  next_fits bs x after e =
      let here : get_or B.blocks (length bs) no_block ≡ x = ap (λ l. get_or l (length bs) no_block) e ∙ get_or-append_seam bs x after no_block in
      let from : start_of B.blocks (length bs) ≡ start_of bs (length bs) = ap (λ l. start_of l (length bs)) e ∙ start-append bs (x ∷ after) (length bs) (omega arith) in
      let f = v.blocks (length bs) (omega (arith, ap length e, length-append bs (x ∷ after))) in
      record {
        short = rw here at f.short;
        aligned = rw (here, from) at f.aligned;
        within = rw (here, from) at f.within;
        light = rw (here, from) at f.light;
        bias = rw here at f.bias;
      }

  -- one block more
  block_goes : (bs : List Block) (x : Block) (y : Bool) (cs : List Command) → Fits B.m B.kinds (start_of bs (length bs)) x → goes (reached bs y) (block_command x ∷ cs) ≡ goes (reached (bs ++ x ∷ []) false) cs
  unfolding block_command is_end byte_of placed fault unless Fitting next
  block_goes bs x y cs f =
      let a = start_of bs (length bs) in
      -- the tests below are settled by these
      let short = f.short in
      let within = f.within in
      let range = f.bias in
      let light = f.light in
      obeyed (block_command x) (reached bs y) cs (omega (arith, f.short), f.bias) refl
      (rw (all bs y, eq-eqb (length B.kinds) (2 ^ B.m) v.indices, ne_eqb a (2 ^ B.m) (λ e. absurd (omega (arith, f.within, pow_pos x.j)))))
      (rw (all bs y, le-leb x.j, eq-eqb (a % 2 ^ x.j) 0 f.aligned, le-leb (a + 2 ^ x.j), le-leb (nat_abs x.bias), le-leb (free_count (take (2 ^ x.j) (drop a B.kinds)))))
      ∙ rw (start-last bs x)

  -- the end, once the blocks are those of the book
  end_goes : (bs : List Block) (y : Bool) → B.blocks ≡ bs → goes (reached bs y) (End ∷ []) ≡ loaded B
  unfolding goes from flat_map written load_from refusal unless decided placed listed width fault command book_of
  end_goes bs y e =
      rw (ne_eqb B.m 0 (λ z. absurd (omega (arith, v.low))), all bs y, eq-eqb (start_of bs (length bs)) (2 ^ B.m) (rw e at v.covered), ← e)

  -- all other blocks, and the end
  pub blocks-go : (bs cs : List Block) (y : Bool) → B.blocks ≡ bs ++ cs → goes (reached bs y) (map block_command cs ++ End ∷ []) ≡ loaded B
  blocks-go bs [] y e = end_goes bs y (e ∙ append-nil bs)
  blocks-go bs (x ∷ cs) y e =
      block_goes bs x y (map block_command cs ++ End ∷ []) (next_fits bs x cs e)
      ∙ blocks-go (bs ++ x ∷ []) cs false (e ∙ sym (append_snoc bs x cs))
