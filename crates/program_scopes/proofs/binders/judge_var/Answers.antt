-- A variable is used within its scope.
use Rattle.std.proofs.Common.{◌≤◌, ◌<◌, rules}
use Rattle.program_scopes.proofs.JudgingLaws.{used_inside}
use Rattle.program_scopes.proofs.binders.judge_var.Goals as goal

pub returns-in-Some : goal.returns-in-Some
returns-in-Some c =
    let begun : c.scope_of.result.start ≤ c.args.k = search rules in
    let not_ended : c.args.k < c.scope_of.result.end = search rules in
    rw c.in-Some.is (used_inside _ _ _ c.scope_of.ensures.0 c.scope_of.ensures.1 begun not_ended)
