-- A job of another size and a space that is too short are refused; else the front of the space is lent on.
use mathlib.Core.Path.{sym, ◌∙◌}
use lib.Seq.{length-take-le}
use Rattle.replay_theory.specs.Replay.{replay_space}
use Rattle.replay_control.specs.Layout.{space_size}
use Rattle.replay.proofs.Starting.{short_room}
use Rattle.replay.proofs.Promises.{space_counted, long_space_after}
use Rattle.replay.proofs.Runs.{no_steps, refused_telling, refused_run, begun_run}
use Rattle.replay.proofs.start.begin.Goals as goal

pub returns-in_default-clause-short : goal.returns-in_default-clause-short
returns-in_default-clause-short c = λ other. refused_telling _ c.refused_point.ensures

pub returns-in_default-clause-at_start : goal.returns-in_default-clause-at_start
returns-in_default-clause-at_start c = no_steps _ c.refused_point.ensures

pub returns-in_default-first_chunk_mut-clause-begun : goal.returns-in_default-first_chunk_mut-clause-begun
returns-in_default-first_chunk_mut-clause-begun c = λ sized.
    refused_run _ _ _ _ _ (short_room _ _ c.in_default-first_chunk_mut.ensures.cases) c.refused_point-in_default-first_chunk_mut.ensures

pub returns-in_default-first_chunk_mut-clause-at_start : goal.returns-in_default-first_chunk_mut-clause-at_start
returns-in_default-first_chunk_mut-clause-at_start c = no_steps _ c.refused_point-in_default-first_chunk_mut.ensures

pub returns-clause-begun : goal.returns-clause-begun
unfolding replay_space
returns-clause-begun c =
    let enough = c.in-Some-first_chunk_mut.ensures.cases.enough in
    let same = c.begin_in.ensures.2 ∙ sym (length-take-le space_size c.args.space.now enough) in
    let after = long_space_after c.args.space.now c.begin_in.new.space enough same in
    λ sized. begun_run space_size space_counted c.args.space.now c.begin_in.new.space enough same after.long _ _ _ c.begin_in.ensures.0

pub returns-clause-free : goal.returns-clause-free
unfolding replay_space
returns-clause-free c =
    let enough = c.in-Some-first_chunk_mut.ensures.cases.enough in
    let same = c.begin_in.ensures.2 ∙ sym (length-take-le space_size c.args.space.now enough) in
    let after = long_space_after c.args.space.now c.begin_in.new.space enough same in
    (after.long, after.behind)
