-- The roots from procedure 0 on are those of the sheets.
use native.Mathlib.Omega.{arith}
use Rattle.fill_pass.proofs.Sheets.{fillable_ready, roots_filled}
use Rattle.fill_pass.proofs.fill_location.Goals as goal

pub fill_roots-requires : goal.fill_roots-requires
fill_roots-requires c =
    fillable_ready _ _ _ c.requires (λ i. omega (arith, c.type_inv.work i))

pub returns : goal.returns
returns c = roots_filled _ _ _ c.fill_roots.ensures
