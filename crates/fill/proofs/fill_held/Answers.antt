-- By what the maps came to: a refusal, or the sheet with them is written.
use Rattle.std.proofs.lemmas.Result.{err_from_is_err_and}
use Rattle.fill.proofs.Stages.{maps_refused, some_filled, maps_filled}
use Rattle.fill.proofs.fill_held.Goals as goal

pub returns-in_err-fill_maps : goal.returns-in_err-fill_maps
returns-in_err-fill_maps c =
    let p = err_from_is_err_and c.from_residual.result c.from_residual.ensures.1 in
    rw (p.1, p.2) (maps_refused _ c.in_err-fill_maps.ensures)

pub write_filled-requires : goal.write_filled-requires
write_filled-requires c = some_filled c.in_ok-fill_maps.ensures c.grown-whole.ensures c.requires

pub returns : goal.returns
returns c = maps_filled c.in_ok-fill_maps.ensures c.grown-whole.ensures c.write_filled.ensures
