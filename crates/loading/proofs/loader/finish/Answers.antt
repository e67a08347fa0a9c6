-- `loading::loader::finish` meets its contract: each return is that of the test that led there. Assumes nothing.
use Rattle.codebook.specs.Loading.{shape_of}
use Rattle.codebook.specs.Progress.{shape_at}
use Rattle.loading.proofs.loader.finish.Goals as goal

pub returns-then-follows : goal.returns-then-follows
unfolding shape_of
returns-then-follows c = rw c.if-follows.true

pub returns : goal.returns
unfolding shape_at
returns c = rw c.if-follows.false
