-- The sheets that the work space holds: where the bodies and the root stand, how many steps they have, and the start; and that they stay while what is
-- behind their maps changes.
use mathlib.Core.Path.{◌≡◌, sym, ap, ◌∙◌}
use mathlib.Core.Logic.{inl, inr}
use mathlib.Core.List.{List, []}
use Prim.Native.Nat.{ℕ, ◌+◌, ◌*◌, ◌≤◌}
use native.Mathlib.Omega.{arith}
use lib.ListN.{length, get_or, length-map}
use Rattle.spec.specs.Expression.{size, steps_among}
use Rattle.spec.specs.Program.{Program}
use Rattle.spec.specs.Split.{Row, Split}
use Rattle.spec.specs.declared.Signature.{Signature}
use Rattle.spec.specs.Conditions.{start_map}
use Rattle.spec.specs.Ranges.{InRange}
use Rattle.spec.specs.WellFormed.{listing}
use Rattle.workspace.specs.Layout.{proc_firsts_at, maps_at, stride, empty_map, kind_code, first_of, second_of, row_types_at, pres_at, work_size}
use Rattle.workspace.specs.Region.{ChangedWithin}
use Rattle.workspace.specs.Holds.{start_number, HoldsSplit}
use Rattle.workspace.specs.Sheets.{HoldsSheets}
use Rattle.workspace.proofs.Region.{changed_wider, region_kept}
use Rattle.workspace.proofs.Held.{program_kept}
use Rattle.workspace.proofs.Expression.{Here}
use Rattle.workspace.proofs.Bodies.{AllHere, all_here, root_of_lem, root_ends}
use Rattle.workspace.proofs.Shown.{map_number, Stands, map_stands}

module _ {w : List ℕ} {steps procedures denominator locations start : ℕ} {P : Program} {S : Split}
    (H : HoldsSheets w steps procedures denominator locations start P S) where
  pub program_here : AllHere w (length P.procedures) 0 0 P.procedures P.root
  program_here =
      let at_start : steps_among (listing P.procedures P.root) ≡ P.steps = sym H.well_formed.stepped in
      all_here (length P.procedures) 0 0 P.procedures P.root
      (record {
        words = rw at_start H.program.steps.words;
        values = rw at_start H.program.steps.values;
        lines = rw at_start H.program.steps.lines;
        ended = H.program.ends;
        bound = H.program.lets;
        proc_lines = H.program.proc_lines;
        proc_vars = H.program.proc_vars;
        proc_firsts = H.program.proc_firsts;
      })
      H.well_formed.numbering
      H.well_formed.used_inside

  pub program_sized : length (steps_among (listing P.procedures P.root)) ≡ steps
  program_sized = sym (ap length H.well_formed.stepped) ∙ sym H.steps_counted

  -- the root stands at the index that is stored behind those of the bodies, and is the end of the program
  pub root_here : Here w (length P.procedures) (get_or w (proc_firsts_at + procedures) 0) [] [] P.root
  root_here =
      let e : 0 + length P.procedures ≡ procedures = omega (arith, H.procedures_counted) in
      rw e at (root_of_lem w (length P.procedures) 0 0 P.procedures P.root program_here)

  pub root_last : get_or w (proc_firsts_at + procedures) 0 + size P.root ≡ steps
  root_last =
      let e : 0 + length P.procedures ≡ procedures = omega (arith, H.procedures_counted) in
      let last = root_ends w (length P.procedures) 0 0 P.procedures P.root program_here in
      omega (arith, rw e at last, program_sized)

  -- a procedure that is there has a signature
  pub signatures_counted_lem : length S.signatures ≡ procedures
  signatures_counted_lem = H.in_range.signatures_counted ∙ sym H.procedures_counted

  pub header_start_stands : Stands w S (record { 0 = start }) (start_map S)
  unfolding start_map
  header_start_stands =
      rw (map_number H.start_given) (map_stands w S P H.split H.in_range S.header.start H.in_range.start)

-- ------------------------------------------------------------------ the sheets stay

-- the split, where only maps before steps change
pub split_kept_by_pres : {w w' : List ℕ} {S : Split} → length S.rows ≤ 256 → ChangedWithin pres_at (pres_at + 256) w w' → HoldsSplit w S → HoldsSplit w' S
split_kept_by_pres {S = S} few c H = record {
  kinds = region_kept c (inr (omega arith)) H.kinds;
  firsts = region_kept c (inr (omega arith)) H.firsts;
  seconds = region_kept c (inr (omega arith)) H.seconds;
  maps = λ m h. region_kept c (inr (omega arith)) (H.maps m h);
  empty = region_kept c (inr (omega arith)) H.empty;
  befores = region_kept c (inr (omega arith)) H.befores;
  arguments = region_kept c (inr (omega arith)) H.arguments;
  afters = region_kept c (inr (omega arith)) H.afters;
  results = region_kept c (inr (omega arith)) H.results;
  row_types = region_kept c (inl (omega (arith, length-map S.rows (λ (r : Row). r.type.0)))) H.row_types;
  posts = region_kept c (inl (omega (arith, length-map S.rows (λ (r : Row). r.post.0)))) H.posts;
  starts = region_kept c (inl (omega (arith, length-map S.rows (λ (r : Row). start_number r.start)))) H.starts;
}

module _ {w w' : List ℕ} {maps : ℕ} (c : ChangedWithin (maps_at + stride * maps) (maps_at + stride * empty_map) w w') where
  split_kept : {P : Program} {S : Split} → InRange P S → S.header.maps ≤ maps → length P.steps ≤ 256 → length P.procedures ≤ 16
      → HoldsSplit w S → HoldsSplit w' S
  split_kept {P} {S} R given few procs H = record {
    kinds = region_kept c (inl (omega (arith, types, length-map S.types kind_code))) H.kinds;
    firsts = region_kept c (inl (omega (arith, types, length-map S.types first_of))) H.firsts;
    seconds = region_kept c (inl (omega (arith, types, length-map S.types second_of))) H.seconds;
    maps = λ m l.
        region_kept c (inl (omega (arith, R.map_wide m l, R.maps_counted, R.locations))) (H.maps m l);
    empty = region_kept c (inr (omega arith)) H.empty;
    befores = region_kept c (inl (omega (arith, signatures, length-map S.signatures (λ (g : Signature). g.before.0)))) H.befores;
    arguments = region_kept c (inl (omega (arith, signatures, length-map S.signatures (λ (g : Signature). g.argument.0)))) H.arguments;
    afters = region_kept c (inl (omega (arith, signatures, length-map S.signatures (λ (g : Signature). g.after.0)))) H.afters;
    results = region_kept c (inl (omega (arith, signatures, length-map S.signatures (λ (g : Signature). g.result.0)))) H.results;
    row_types = region_kept c (inl (omega (arith, rows, length-map S.rows (λ (r : Row). r.type.0)))) H.row_types;
    posts = region_kept c (inl (omega (arith, rows, length-map S.rows (λ (r : Row). r.post.0)))) H.posts;
    starts = region_kept c (inl (omega (arith, rows, length-map S.rows (λ (r : Row). start_number r.start)))) H.starts;
  }
    where
      types : length S.types ≤ 64
      types = omega (arith, R.types_counted, R.types_few)

      signatures : length S.signatures ≤ 16
      signatures = omega (arith, R.signatures_counted)

      rows : length S.rows ≤ 256
      rows = omega (arith, R.rows_counted)

  pub sheets_kept : {steps procedures denominator locations start : ℕ} {P : Program} {S : Split} → S.header.maps ≤ maps → steps ≤ 256 → procedures ≤ 16
      → HoldsSheets w steps procedures denominator locations start P S → HoldsSheets w' steps procedures denominator locations start P S
  sheets_kept given few procs H = record {
    program_text = H.program_text;
    well_formed = H.well_formed;
    in_range = H.in_range;
    program = program_kept (changed_wider row_types_at work_size (omega arith) (omega arith) c) H.well_formed.stepped (omega (arith, H.steps_counted)) (omega (arith, H.procedures_counted)) H.program;
    split = split_kept H.in_range given (omega (arith, H.steps_counted)) (omega (arith, H.procedures_counted)) H.split;
    steps_counted = H.steps_counted;
    procedures_counted = H.procedures_counted;
    denominator_given = H.denominator_given;
    locations_given = H.locations_given;
    start_given = H.start_given;
  }
