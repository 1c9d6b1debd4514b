-- From the roots that the work space shows to the posts of the sheets that it holds.
use mathlib.Core.Path.{◌≡◌, ◌∙◌}
use mathlib.Core.Bool.{Bool}
use mathlib.Core.List.{List, [], ◌∷◌}
use Prim.Native.Nat.{ℕ, ◌+◌, ◌≤◌, ◌<◌}
use native.Mathlib.Omega.{arith}
use lib.ListN.{length, get_or}
use Rattle.spec.specs.Expression.{Expr, Procedure, size}
use Rattle.spec.specs.Program.{Program}
use Rattle.spec.specs.Split.{Split}
use Rattle.spec.specs.Maps.{share}
use Rattle.spec.specs.Conditions.{start_map}
use Rattle.workspace.proofs.Shown.{has_shown}
use Rattle.workspace.proofs.Bodies.{AllHere}
use Rattle.workspace.proofs.Sheets.{program_here, signatures_counted_lem, header_start_stands}
use Rattle.fill_theory.specs.FlowOf.{flow_of, roots_from, roots_of}
use Rattle.fill_theory.specs.GreatestMaps.{posts_at}
use Rattle.fill_theory.proofs.Limits.{steps_few, procedures_few}
use Rattle.fill_theory.proofs.Placed.{flow_steps, size_of, roots_steps, steps_sized}
use Rattle.fill_transfer.specs.declared.Column.{Column}
use Rattle.fill_transfer.specs.Transfers.{cell_in}
use Rattle.fill_transfer.proofs.Held.{before_held, after_held, held_shows}
use Rattle.fill_pass.specs.declared.Given.{Given}
use Rattle.fill_pass.specs.Roots.{first_in, RootsShown, root_shown, body_shown, RootsReady, RootsFilled}
use Rattle.fill_pass.specs.Contract.{HoldsColumn, ColumnReady, FilledHere}

module _ (w : List ℕ) (column : Column) (given : Given) {P : Program} {S : Split} (H : HoldsColumn w column given P S) where
  located : column.location.0 < S.header.locations
  located = omega (arith, H.within, H.sheets.locations_given)

  start_shown_lem : cell_in w column given.start ≡ share (start_map S) column.location
  unfolding cell_in
  start_shown_lem = has_shown w S P H.sheets.split H.sheets.in_range column.location (header_start_stands H.sheets) located

  -- the procedures from number f on, and the root
  shown_from : (f k : ℕ) (ps : List Procedure) (root : Expr) → AllHere w (length P.procedures) f k ps root → f + length ps ≡ length P.procedures
      → k + size_of ps root ≤ length S.rows → (first_in w f ≡ k) × RootsShown w column given f (roots_from S column.location f ps root)
  unfolding AllHere roots_from size_of first_in
  shown_from f k [] root here counted inside =
      let shown = held_shows w column P S H.sheets.split H.sheets.in_range located H.sheets.denominator_given _ k [] [] root here.body
      (omega (arith, signatures_counted_lem H.sheets, H.sheets.procedures_counted)) inside in
      (here.first, rw (← start_shown_lem) (root_shown {f = f} {g = flow_of S column.location root} (omega (arith, H.sheets.procedures_counted)) (rw here.first shown)))
  shown_from f k (p ∷ ps) root here counted inside =
      let there : f < length S.signatures = omega (arith, signatures_counted_lem H.sheets, H.sheets.procedures_counted) in
      let shown = held_shows w column P S H.sheets.split H.sheets.in_range located H.sheets.denominator_given _ k _ _ p.body here.0.body
      (omega (arith, signatures_counted_lem H.sheets, H.sheets.procedures_counted)) (omega arith) in
      let (next, others) = shown_from (f + 1) (k + size p.body) ps root here.1 (omega arith) (omega arith) in (
        here.0.first,
        rw (
          ← before_held w column P S H.sheets.split H.sheets.in_range located H.sheets.denominator_given f there,
          ← after_held w column P S H.sheets.split H.sheets.in_range located H.sheets.denominator_given f there,
        )
            (body_shown {f = f} {g = flow_of S column.location p.body} (omega (arith, H.sheets.procedures_counted)) (rw here.0.first shown)
            (next ∙ omega (arith, here.0.first, flow_steps S column.location p.body)) others),
      )

  roots_shown : (first_in w 0 ≡ 0) × RootsShown w column given 0 (roots_of S column.location P)
  unfolding roots_of
  roots_shown =
      shown_from 0 0 P.procedures P.root (program_here H.sheets) (omega arith)
      (omega (arith, steps_sized P H.sheets.well_formed, H.sheets.in_range.rows_counted))

pub fillable_ready : (w : List ℕ) (column : Column) (given : Given) → ColumnReady w column given → ((i : ℕ) → get_or w i 0 < 4294967296)
    → RootsReady w column given 0
unfolding roots_of
fillable_ready w column given F fits =
    let (begins, shown) = roots_shown w column given F.held in
    let sheets = F.held.sheets in
    record {
      shown_roots = roots_of F.S column.location F.P;
      shown = shown;
      inside = omega (
        arith,
        begins,
        roots_steps F.S column.location 0 F.P.procedures F.P.root,
        steps_sized F.P sheets.well_formed,
        steps_few F.P sheets.well_formed,
      );
      fits = fits;
      few = omega (arith, procedures_few F.P sheets.well_formed, sheets.procedures_counted);
    }

pub roots_filled : (w : List ℕ) (column : Column) (given : Given) {q q' : List ℕ} {r : Bool} → RootsFilled w column given 0 q q' r → FilledHere w column given q' r
unfolding posts_at
roots_filled w column given A = record {
  answers = λ P S H.
      let (begins, shown) = roots_shown w column given H in
      rw begins at (A.answers (roots_of S column.location P) shown);
}
