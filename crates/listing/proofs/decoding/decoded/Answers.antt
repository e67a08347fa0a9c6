-- `listing::decoding::decoded` prints no more extractions than the walk has room for, since a call leaves an entry in the walk's buffers for each. Assumes nothing.
use Rattle.machine.specs.Calls.{plain}
use Rattle.decoder.proofs.Walked.{left-long}
use Rattle.listing.proofs.decoding.decoded.Goals as goal

pub print_walk-requires : goal.print_walk-requires
print_walk-requires c = left-long plain _ _ _ _ c.decode-r.ensures.decodes
