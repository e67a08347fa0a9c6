-- Every row on small queues holds: by computing with the definitions. Assumes nothing.
use mathlib.Core.Path.{refl}
use Rattle.laws.specs.Lists.{keep}
use Rattle.queue.specs.Run.{most_extractions}
use Rattle.queue.specs.Queue.{before, insert, ahead, behind, staying, outrun_by, numbers, room_for, crowded_out, visit}
use Rattle.queue.specs.Rows.{path, own, queued, Rows}

pub rows-hold : Rows
unfolding keep before insert ahead behind staying outrun_by numbers room_for crowded_out visit most_extractions path own queued
rows-hold =
    record {
      between = refl;
      last = refl;
      left = refl;
      crowded = refl;
      none_left = refl;
      all_crowded = refl;
      all_left = refl;
      none_crowded = refl;
      ahead = refl;
      outrun = refl;
      all_stay = refl;
      none_outrun = refl;
      later_stay = refl;
      later_outrun = refl;
      most = refl;
      visited = refl;
    }
