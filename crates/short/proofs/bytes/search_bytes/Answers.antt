-- `short::bytes::search_bytes` meets its contract: the least key of all bytes from the bound on is that of the word found. Assumes nothing.
use mathlib.Core.Path.{◌∙◌}
use Rattle.short.proofs.Answers.{bytes-answer}
use Rattle.short.proofs.bytes.search_bytes.Goals as goal

pub returns-then-key : goal.returns-then-key
returns-then-key c = λ e k. (bytes-answer c.requires.1 c.fill_halves.ensures k c.args.bound _ c.narrow.ensures _ c.least_byte-key.ensures).0 c.if-key.true

pub returns : goal.returns
returns c = λ e k. c.byte_with.ensures ∙ (bytes-answer c.requires.1 c.fill_halves.ensures k c.args.bound _ c.narrow.ensures _ c.least_byte-key.ensures).1 c.if-key.false
