-- The walk, the root's index, and the scopes.
use Rattle.std.proofs.lemmas.Result.{err_from_is_err_and}
use borrow.Author.Rules.{rules}
use Rattle.program_scopes.proofs.Resolved.{resolve_refused, resolve_scopable, root_small, resolved}
use Rattle.program_scopes.proofs.resolve.Goals as goal

pub returns-in_err-root : goal.returns-in_err-root
returns-in_err-root c =
    let p = err_from_is_err_and c.from_residual.result c.from_residual.ensures.1 in
    rw (p.1, p.2) (resolve_refused c.in_err-root.ensures)

pub overflow_cast-work : goal.overflow_cast-work
overflow_cast-work c =
    let small = root_small c.told-work c.requires c.in_ok-root.ensures c.requires.stored in
    search (rules, small)

pub scopes-requires : goal.scopes-requires
scopes-requires c = resolve_scopable c.told-work c.requires c.in_ok-root.ensures c.requires.stored

pub returns : goal.returns
returns c = resolved c.told-work c.requires c.in_ok-root.ensures c.scopes.ensures
