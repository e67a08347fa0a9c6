-- `attempts::attempt::decide` meets its contract: the run is the reader's on the lent part of the workspace, its word is of the code and the data are that word's, the verdict is the
-- call's, and so is what is handed out. Assumes nothing.
use mathlib.Core.Path.{◌≡◌, sym, ap, ◌∙◌}
use native.Mathlib.Omega.{arith}
use Rattle.std.specs.Prelude.{is_ok}
use mathlib.Core.List.{◌++◌}
use borrow.Author.Rules.{rules}
use lib.IntN.{pos}
use lib.ListN.{length, drop, replicate}
use Rattle.polar.specs.Transform.{transform}
use Rattle.codec.specs.Code.{free_bits}
use Rattle.coding.proofs.Told.{zeros-part}
use Rattle.machine.specs.Calls.{Lent, lent_in, final_in, numbers_needed, bytes_needed, walk_needed}
use Rattle.attempts.specs.Reading.{arrays_lent}
use Rattle.attempts.specs.Attempt.{Ready}
use Rattle.attempts.proofs.Judged.{lent_length, part-cleared, ready-own, ready-size, ready-bits, ready-small, ready-free, ready-running, numbers-room, bytes-room, run_lent, word-size, word-bits, data-size, data-bits, record-in}
use Rattle.attempts.proofs.Decided.{all-given, none-given, handed-out, kept-back}
use Rattle.attempts.proofs.attempt.decide.Goals as goal
use Rattle.attempts.proofs.attempt.decide.Goals.{After-run_cleared-counts, After-data_of}

pub slice_bounds-info-end : goal.slice_bounds-info-end
slice_bounds-info-end c = ready-free c.requires.ready

pub slice_bounds-bits-end : goal.slice_bounds-bits-end
slice_bounds-bits-end c = zeros-part _ (ready-free c.requires.ready)

pub slice_bounds-run_cleared-end : goal.slice_bounds-run_cleared-end
unfolding numbers_needed
slice_bounds-run_cleared-end c = c.requires.workspace_needed.0

pub slice_bounds-run_cleared-end-2 : goal.slice_bounds-run_cleared-end-2
unfolding numbers_needed
slice_bounds-run_cleared-end-2 c = lent_length (numbers_needed c.args.x c.args.s) c.args.workspace.now.numbers.now c.requires.workspace_needed.0

pub slice_bounds-run_cleared-end-3 : goal.slice_bounds-run_cleared-end-3
unfolding bytes_needed
slice_bounds-run_cleared-end-3 c = c.requires.workspace_needed.1

pub slice_bounds-run_cleared-end-4 : goal.slice_bounds-run_cleared-end-4
unfolding bytes_needed
slice_bounds-run_cleared-end-4 c = lent_length (bytes_needed c.args.x c.args.s) c.args.workspace.now.bytes.now c.requires.workspace_needed.1

pub run_cleared-counts-requires-clause-room : goal.run_cleared-counts-requires-clause-room
unfolding numbers_needed bytes_needed
run_cleared-counts-requires-clause-room c =
    let a = c.args in
    let p = c.requires in
    (numbers-room p.ready a.s a.workspace.now.numbers.now p.workspace_needed.0, bytes-room p.ready a.s a.workspace.now.bytes.now p.workspace_needed.1)

pub run_cleared-counts-requires-clause-blocks_in_bounds : goal.run_cleared-counts-requires-clause-blocks_in_bounds
unfolding walk_needed
run_cleared-counts-requires-clause-blocks_in_bounds c = c.requires.walk_needed

-- what the call is lent
abbrev buffers : After-run_cleared-counts → Lent
buffers c = let a = c.args in lent_in a.out.now a.workspace.now a.walk.now

-- the word that the run leaves is its final word, for each input, and is as long as the book's words
left : (c : After-run_cleared-counts) (r : Ready c.args.x c.args.values.now c.args.tables.now) →
    c.run_cleared-counts.new.found ≡ (final_in (run_lent r c.args.s (buffers c) c.requires.ranged.0 c.requires.workspace_needed.0).end).word
unfolding arrays_lent numbers_needed bytes_needed
left c r = (c.run_cleared-counts.ensures.fact (ready-running r)).1

sized : (c : After-run_cleared-counts) → length c.run_cleared-counts.new.found ≡ c.args.x.n
sized c = let r = c.requires.ready in word-size r c.args.s (buffers c) c.requires.ranged.0 c.requires.workspace_needed.0 (left c r)

kinds-fit : (c : After-run_cleared-counts) (r : Ready c.args.x c.args.values.now c.args.tables.now) → length r.book.kinds ≡ length c.run_cleared-counts.new.found
kinds-fit c r = r.in_tables.booked.valid.indices ∙ sym (sized c ∙ ready-size r)

pub data_of-requires-clause-some : goal.data_of-requires-clause-some
data_of-requires-clause-some c =
    let r = c.requires.ready in
    (r.book.kinds, (r.in_tables.booked.tabled.coded, kinds-fit (goal.at.data_of-requires-clause-some c).After-run_cleared-counts r, sym (ready-bits r) ∙ zeros-part _ (ready-free r)))

pub data_of-requires-clause-word_len : goal.data_of-requires-clause-word_len
data_of-requires-clause-word_len c =
    let r = c.requires.ready in
    let d = (goal.at.data_of-requires-clause-word_len c).After-run_cleared-counts in
    (sized d ∙ zeros-part _ (ready-small r), sized d ∙ ready-own r, word-bits r c.args.s (buffers d) c.requires.ranged.0 c.requires.workspace_needed.0 (left d r))

-- its data, for each input
read : (c : After-data_of) (r : Ready c.args.x c.args.values.now c.args.tables.now) → length r.book.kinds ≡ length c.run_cleared-counts.new.found
    → c.data_of.new.bits ≡ free_bits r.book.kinds (transform c.args.x.m c.run_cleared-counts.new.found)
read c r fit = c.data_of.ensures.bits_after r.book.kinds r.in_tables.booked.tabled.coded fit (sym (ready-bits r) ∙ zeros-part _ (ready-free r))

pub judge-read-requires : goal.judge-read-requires
judge-read-requires c =
    let a = c.args in
    let p = c.requires in
    let r = p.ready in
    let w = (goal.at.judge-read-requires c).After-run_cleared-counts in
    let ds = read (goal.at.judge-read-requires c).After-data_of r (kinds-fit w r) in
    record-in a.r a.x p.ranged.1 c.data_of.new.bits (data-size r a.s (buffers w) p.ranged.0 p.workspace_needed.0 (left w r) ds)
    (data-bits r a.s (buffers w) p.ranged.0 p.workspace_needed.0 (left w r) ds)

-- what is found is as long as what is lent for it
fits : (c : After-data_of) → let a = c.args.out.now in
    (length a.word.now ≡ length c.run_cleared-counts.new.found) × (length a.bits.now ≡ length c.data_of.new.bits)
fits c =
    let p = c.requires in
    let r = p.ready in
    let w = (goal.at.After-data_of c).After-run_cleared-counts in
    let ds = read c r (kinds-fit w r) in
    (p.ranged.2 ∙ sym (sized w), p.ranged.3 ∙ sym (data-size r c.args.s (buffers w) p.ranged.0 p.workspace_needed.0 (left w r) ds))

pub give-requires : goal.give-requires
give-requires c = λ q. let f = fits (goal.at.give-requires c).After-data_of in (omega (arith, f.0), omega (arith, f.1))

-- the workspace, cleared at its stated size
cleared : (c : After-run_cleared-counts) → let a = c.args in
    let n = numbers_needed a.x a.s in
    let b = bytes_needed a.x a.s in
    let l = c.run_cleared-counts.new in
    (l.numbers ++ drop n a.workspace.now.numbers.now ≡ replicate n (pos 0) ++ drop n a.workspace.now.numbers.now) × (l.bytes ++ drop b a.workspace.now.bytes.now ≡ replicate b 0 ++ drop b a.workspace.now.bytes.now)
unfolding numbers_needed bytes_needed
cleared c =
    let a = c.args in
    let p = c.requires.workspace_needed in
    let o = c.run_cleared-counts.ensures.numbers_after in
    (part-cleared (pos 0) (numbers_needed a.x a.s) a.workspace.now.numbers.now p.0 o.0, part-cleared 0 (bytes_needed a.x a.s) a.workspace.now.bytes.now p.1 o.1)

pub returns-in-Ok-clause-called : goal.returns-in-Ok-clause-called
unfolding arrays_lent numbers_needed bytes_needed
returns-in-Ok-clause-called c = λ r.
    let p = c.requires in
    let f = fits (goal.at.returns-in-Ok-clause-called c).After-data_of in
    let w = (goal.at.returns-in-Ok-clause-called c).After-run_cleared-counts in
    let ds = read (goal.at.returns-in-Ok-clause-called c).After-data_of r (kinds-fit w r) in
    let o = c.run_cleared-counts.ensures.fact (ready-running r) in
    let good = ap is_ok c.in-Ok.is in
    handed-out r c.args.r c.args.s (buffers w) p.ranged.0 p.workspace_needed.0 o.0 (left w r) ds _ (cleared w).0 (cleared w).1 o.2 o.3 o.4
    c.in-Ok.hook (sym c.in-Ok.is ∙ c.judge-read.ensures)
    (search (rules, all-given)) (search (rules, all-given))

pub returns-in-Err-clause-called : goal.returns-in-Err-clause-called
unfolding arrays_lent numbers_needed bytes_needed
returns-in-Err-clause-called c = λ r.
    let p = c.requires in
    let w = (goal.at.returns-in-Err-clause-called c).After-run_cleared-counts in
    let ds = read (goal.at.returns-in-Err-clause-called c).After-data_of r (kinds-fit w r) in
    let o = c.run_cleared-counts.ensures.fact (ready-running r) in
    rw c.refused.ensures
    (kept-back r c.args.r c.args.s (buffers w) p.ranged.0 p.workspace_needed.0 o.0 (left w r) ds _ (cleared w).0 (cleared w).1 o.2 o.3 o.4
    c.in-Err.against (sym c.in-Err.is ∙ c.judge-read.ensures) (none-given _ _ c.in-Err.is c.give.ensures.given.0) (none-given _ _ c.in-Err.is c.give.ensures.given.1))
