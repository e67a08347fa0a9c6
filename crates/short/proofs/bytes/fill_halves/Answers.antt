-- `short::bytes::fill_halves` meets its contract: the keys of the low halves, and of the high ones. Assumes nothing.
use Rattle.short.proofs.Octets.{halves-made}
use Rattle.short.proofs.bytes.fill_halves.Goals as goal

pub returns : goal.returns
returns c =
    let f = c.half_bytes in
    let g = c.half_bytes-2 in
    halves-made f.new.table g.new.table c.args.values.now c.requires.0 c.requires.1 f.ensures.costs g.ensures.before g.ensures.costs
