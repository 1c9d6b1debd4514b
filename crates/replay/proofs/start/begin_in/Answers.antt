-- A sheet that is too long or refused has stopped the run; else the program that the space holds is begun.
use Rattle.program.proofs.Found.{program_read_by}
use Rattle.replay_theory.specs.Replay.{replay_space}
use Rattle.replay.proofs.Starting.{long_program, sheet_refused, sheet_held, sheet_holds, sheet_judged}
use Rattle.replay.proofs.Runs.{refused_begins, read_begins}
use Rattle.replay.proofs.start.begin_in.Goals as goal

pub returns-then-program-gt-PROGRAM_LIMIT : goal.returns-then-program-gt-PROGRAM_LIMIT
unfolding replay_space
returns-then-program-gt-PROGRAM_LIMIT c =
    let (comes, none_done) = refused_begins _ _ _ _ _ (long_program _ c.if-program-gt-PROGRAM_LIMIT.true) c.refused_point.ensures in
    (comes, none_done, c.told-space)

pub begin_held-requires : goal.begin_held-requires
begin_held-requires c =
    let told = c.in-Ok.ensures in
    sheet_holds _ c.if-program-gt-PROGRAM_LIMIT.false _ (program_read_by _ _ told.answer) _ c.read_program.array_long told.front

pub returns-in-Err : goal.returns-in-Err
unfolding replay_space
returns-in-Err c =
    let (comes, none_done) = refused_begins _ _ _ _ _ (sheet_refused _ c.if-program-gt-PROGRAM_LIMIT.false _ c.in-Err.ensures.answer) c.refused_point-in-Err.ensures in
    (comes, none_done, c.read_program.array_long)

pub returns-in-Ok : goal.returns-in-Ok
unfolding replay_space
returns-in-Ok c =
    let told = c.in-Ok.ensures in
    let sheet = program_read_by _ _ told.answer in (
      read_begins _ _ c.begin_held.new.job c.begin_held.new.space c.begin_held.result (sheet_judged _ c.if-program-gt-PROGRAM_LIMIT.false _ sheet)
          (c.begin_held.ensures.0 _ (sheet_held _ c.if-program-gt-PROGRAM_LIMIT.false _ sheet _ c.read_program.array_long told.front)),
      c.begin_held.ensures.1,
      c.begin_held.array_long4,
    )
