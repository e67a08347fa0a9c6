-- `listing::decoding::shape` has no more data than a word is long, by the limits of a loaded book. Assumes nothing.
use Rattle.listing.proofs.Printed.{free-within}
use Rattle.listing.proofs.decoding.shape.Goals as goal

pub returns : goal.returns
returns c = rw c.load.ensures.value (free-within c.args.book.now)
