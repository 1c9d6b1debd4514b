use mathlib.Core.Path.{refl}
use native.Mathlib.Omega.{arith}
use Rattle.fill.proofs.Fits.{fits_each}
use Rattle.fill.proofs.Stores.{column_again, stored_again}
use Rattle.fill.proofs.maps.store_column.Goals as goal

pub overflow_cast-work : goal.overflow_cast-work
overflow_cast-work c = omega (arith, fits_each _ c.requires.1 _ c.loop-i-test.true)

pub loop-i-preserved : goal.loop-i-preserved
loop-i-preserved c =
    let R = c.requires.0 in
    let is-index = c.index-l.ensures.0 in
    let (one, stored) = c.loop-i.invariant in (
      column_again _ _ _ _ _ one (omega (arith, R.within, is-index)) (omega (arith, R.room)) (omega arith) _,
      stored_again _ _ _ _ _ one (omega (arith, R.within, is-index)) (omega (arith, R.room)) (omega arith) _ _ refl stored,
    )
