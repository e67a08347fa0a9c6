-- `commands::read_command` meets its contract: the tests that led to each return have the definition's answers. Assumes nothing.
use native.Mathlib.Omega.{arith}
use mathlib.Core.Path.{◌≡◌}
use Prim.Native.Nat.{◌+◌, ◌-◌}
use lib.ListN.{length, get_or, drop, length-drop}
use borrow.Author.Tests.{le-leb, lt-leb}
use Rattle.codebook.specs.Loading.{listed, width}
use Rattle.codebook.specs.Progress.{read_at}
use Rattle.commands.proofs.Operands.{fails}
use Rattle.commands.proofs.read_command.Goals as goal

pub returns-in_err-width : goal.returns-in_err-width
unfolding read_at
returns-in_err-width c =
    rw (c.from_residual.ensures, fails (listed (get_or c.args.book.now c.args.at 0)) c.in_err-width.ensures)

pub returns-then-book-start : goal.returns-then-book-start
unfolding read_at
returns-then-book-start c =
    let a = c.args in
    let of = c.in_ok-width.ensures in
    let cut = lt-leb (width (get_or a.book.now a.at 0)) (length (drop (a.at + 1) a.book.now)) (simp length-drop (omega (arith, of.1))) in
    rw (of.0, cut, c.command_of-command.ensures)

pub returns : goal.returns
unfolding read_at
returns c =
    let a = c.args in
    let of = c.in_ok-width.ensures in
    let whole = le-leb (width (get_or a.book.now a.at 0)) (length (drop (a.at + 1) a.book.now)) (simp length-drop (omega (arith, of.1))) in
    let size : a.at + 1 + width (get_or a.book.now a.at 0) - (a.at + 1) ≡ width (get_or a.book.now a.at 0) = omega arith in
    rw (of.0, whole, c.command_of-command-2.ensures, of.1, size)
