-- Once its columns are copied and linked, the program's expression stands in them.
use Rattle.replay.proofs.Starting.{program_linked}
use Rattle.replay.proofs.start.begin_held.Goals as goal

pub first_point-requires : goal.first_point-requires
first_point-requires c =
    let held = c.requires in
    record { listed = held.listed; stands = program_linked _ _ _ _ _ c.copy_columns.array_long c.copy_columns.ensures held.held held.few held.procs c.link.ensures }

pub returns : goal.returns
returns c =
    let held = c.requires in (
      λ P H. c.first_point.ensures.0 P (program_linked _ _ _ _ _ c.copy_columns.array_long c.copy_columns.ensures H held.few held.procs c.link.ensures),
      c.first_point.ensures.1,
    )
