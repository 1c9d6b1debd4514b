-- With no thread to join the threads are as they were.
use Rattle.std.proofs.Common.{sym, ◌∙◌}
use Rattle.std.proofs.lemmas.Result.{err_from_is_err_and}
use Rattle.replay_engine.specs.Steps.{joined_step}
use Rattle.replay_engine.proofs.Halting.{not_joined}
use Rattle.replay_engine.proofs.join.Goals as goal

pub returns-in_err-i : goal.returns-in_err-i
unfolding joined_step
returns-in_err-i c =
    let e = err_from_is_err_and c.from_residual.result c.from_residual.ensures.1 in
    rw (e.1, e.2, ← c.lowest.ensures) (not_joined c.lowest.result _ _ c.args.threads _ _ (sym c.ok_or.ensures.value ∙ c.in_err-i.was) c.of.ensures)
