use native.Mathlib.Omega.{arith}
use Rattle.std.proofs.lemmas.Result.{err_from_is_err_and}
use Rattle.fill.proofs.SoFar.{given_still, large_again, maps_again}
use Rattle.fill.proofs.Whole.{filled_nothing, filled_large, filled_maps}
use Rattle.fill.proofs.maps.fill_maps.Goals as goal
use Rattle.fill.proofs.maps.fill_maps.Goals.{then-not-stored, else-not-stored}

pub fill_column-requires : goal.fill_column-requires
fill_column-requires c = record { given = given_still c.loop-l.invariant.behind c.requires; within = omega arith }

pub returns-in_err-stored : goal.returns-in_err-stored
returns-in_err-stored c =
    let p = err_from_is_err_and c.from_residual.result c.from_residual.ensures.1 in
    rw (p.1, p.2) (filled_nothing _ _ _ _ _ _ _ c.loop-l.invariant c.loop-l-test.true c.in_err-stored.ensures)

pub loop-l-preserved : goal.loop-l-preserved
loop-l-preserved c =
    elim c.if-not-stored.branch [
      | then-not-stored w ↦ rw w.large-is (large_again _ _ _ _ _ _ _ _ c.loop-l.invariant c.loop-l-test.true (rw w.if-not-stored.true at c.in_ok-stored.ensures))
      | else-not-stored w ↦ rw w.large-is (maps_again _ _ _ _ _ _ _ _ c.loop-l.invariant c.loop-l-test.true (rw w.if-not-stored.false at c.in_ok-stored.ensures))
    ]

pub returns-then-large : goal.returns-then-large
returns-then-large c = filled_large _ _ _ _ _ _ _ c.loop-l.invariant (omega arith) c.if-large.true

pub returns : goal.returns
returns c =
    let G = c.requires in
    filled_maps _ _ _ _ _ _ _ c.loop-l.invariant (omega arith) c.if-large.false G.few_maps (omega arith) _ c.show_maps.ensures
