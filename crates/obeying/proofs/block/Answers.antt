-- `obeying::block` meets its contract: each return is the refusal of the test that led there, or the block that fits, with an entry in each of its
-- tables. Assumes nothing.
use mathlib.Core.Path.{◌≡◌, refl, sym, ap, ◌∙◌}
use Prim.Native.Nat.{◌+◌, ◌-◌, ◌^◌}
use native.Mathlib.Omega.{arith}
use lib.ListN.{length, take, drop, length-take}
use lib.Pow.{pow_pos}
use lib.Dec.{eqb}
use mir.Syntax.{w32}
use mir.ValLaws.{to_z-of_z}
use borrow.Author.Tests.{le-leb, lt-leb}
use Rattle.std.proofs.lemmas.List.Sums.{count_by-le-length}
use Rattle.codebook.specs.declared.Refusal.TheVariants.{OutOfRange, TooManyFree}
use Rattle.codebook.specs.Refusals.{unless}
use Rattle.codebook.specs.Book.{free_count}
use Rattle.codebook.specs.Loading.{total}
use Rattle.codebook.proofs.Placing.{block-free, block-holds}
use Rattle.obeying.proofs.Verdicts.{refuse, proceed, block-unfit, block_fit}
use Rattle.obeying.proofs.block.Goals as goal

pub returns-then-not-fits : goal.returns-then-not-fits
returns-then-not-fits c old s h =
    let a = c.args in
    let unfit = rw (to_z-of_z w32 a.bias c.ranges.bias) at (sym c.fits.ensures.value ∙ c.if-not-fits.true) in
    refuse _ _ OutOfRange (block-unfit a.p s h.counts a.j a.bias unfit) refl

pub returns-then-not-light : goal.returns-then-not-light
unfolding unless
returns-then-not-light c old s h =
    let a = c.args in
    let fit = rw (to_z-of_z w32 a.bias c.ranges.bias) at (sym c.fits.ensures.value ∙ c.if-not-fits.false) in
    let count = c.count_free-free.ensures ∙ block-free a.p a.tables.now old s h a.j a.bias _ (omega (arith, c.word_power.ensures)) c.requires.0 (omega (arith, c.word_power.ensures, c.fits.ensures.within c.if-not-fits.false)) in
    refuse _ _ TooManyFree (block_fit a.p s h.counts a.j a.bias fit ∙ rw (lt-leb (free_count (take (2 ^ a.j) (drop s.covered s.kinds))) 8 (rw count at c.if-not-light.true))) refl

pub count_free-free-requires : goal.count_free-free-requires
count_free-free-requires c =
    let p = c.args.p in
    let size = p.covered + c.word_power.result - p.covered in
    omega (arith, p.small, c.word_power.ensures, c.fits.ensures.within c.if-not-fits.false, length-take size (drop p.covered c.args.tables.now.kinds))

pub invariant_of-q-clause-room : goal.invariant_of-q-clause-room
invariant_of-q-clause-room c = omega (arith, c.args.p.room, c.word_power.ensures, pow_pos c.args.j)

pub invariant_of-q-clause-most : goal.invariant_of-q-clause-most
invariant_of-q-clause-most c =
    let p = c.args.p in
    let size = p.covered + c.word_power.result - p.covered in
    let part = drop p.covered c.args.tables.now.kinds in
    omega (arith, p.most, c.count_free-free.ensures, count_by-le-length (λ x. eqb x 0) (take size part), length-take size part)

pub returns : goal.returns
unfolding unless
returns c old s h =
    let a = c.args in
    let back = to_z-of_z w32 a.bias c.ranges.bias in
    let fit = rw back at (sym c.fits.ensures.value ∙ c.if-not-fits.false) in
    let power = c.word_power.ensures in
    let count = c.count_free-free.ensures ∙ block-free a.p a.tables.now old s h a.j a.bias _ (omega (arith, power)) c.requires.0 (omega (arith, power, c.fits.ensures.within c.if-not-fits.false)) in
    let full : length s.kinds ≡ total s = omega (arith, h.counts.filled, h.counts.n, c.requires.0) in
    proceed _ _ _ _ (block_fit a.p s h.counts a.j a.bias fit ∙ rw (le-leb (free_count (take (2 ^ a.j) (drop s.covered s.kinds))) 8 (rw count at c.if-not-light.false)))
    (rw back (block-holds a.p a.tables.now old s h a.j a.bias _ full (omega arith) (omega arith) (omega arith) refl refl refl refl refl (ap (λ n. a.p.free + n) count) refl (ap (λ n. a.p.covered + n) power)))
