-- The procedures one after the other, then the root: what the walk over each comes to for the sheets that the work space holds.
-- Between two of them only maps before steps are changed, so the sheets are held throughout.
use Rattle.std.proofs.Common.{Result, Ok}
use mathlib.Core.Path.{◌≡◌, refl, sym, ap, ◌∙◌}
use mathlib.Core.List.{List, [], ◌∷◌}
use Prim.Native.Nat.{ℕ, zero, suc, ◌+◌, ◌-◌, ◌<◌, ◌≤◌}
use native.Mathlib.Omega.{arith}
use lib.ListN.{length, get_or, drop, drop_of_length-le}
use lib.Seq.{drop-cons}
use Rattle.spec.specs.declared.Refusal.{Refusal}
use Rattle.spec.specs.Expression.{Expr, size, line_of, steps_among, Procedure}
use Rattle.spec.specs.Program.{Program}
use Rattle.spec.specs.Split.{Split}
use Rattle.spec.specs.Conditions.{start_map, signature, procedure_conditions}
use Rattle.spec.specs.StepContexts.{numbered, claims, step_contexts, body_step_contexts, claims_of_procedure, claims_of_procedures, claims_of}
use Rattle.spec.specs.Verdict.{refuse_over, start_at_most_one, conditions_hold, type_conditions_hold}
use Rattle.spec.specs.WellFormed.{listing}
use Rattle.spec.specs.declared.Purpose.{Purpose}
use Rattle.spec.specs.declared.Purpose.TheVariants.{Check, Fill}
use Rattle.spec.proofs.Listing.{size_positive}
use Rattle.workspace.specs.Layout.{lines_at, proc_firsts_at, proc_mark, row_types_at, pres_at, sig_befores_at, work_size}
use Rattle.workspace.specs.Region.{ChangedWithin}
use Rattle.workspace.specs.Sheets.{HoldsSheets}
use Rattle.workspace.proofs.Region.{changed_wider}
use Rattle.workspace.proofs.Held.{program_kept, body_sized}
use Rattle.workspace.proofs.Shown.{before_at}
use Rattle.workspace.proofs.Expression.{here_index, here_line}
use Rattle.workspace.proofs.Bodies.{AllHere}
use Rattle.workspace.proofs.Sheets.{program_here, program_sized, root_here, root_last, signatures_counted_lem, header_start_stands, split_kept_by_pres}
use Rattle.conditions.specs.Outcome.{both}
use Rattle.conditions.specs.SheetOutcomes.{start_outcome}
use Rattle.conditions.proofs.Shown.{within_shown}
use Rattle.rule_rows.specs.StepView.{cell}
use Rattle.rule_rows.proofs.Scopes.{by_procedure, scoped_none, scoped_more}
use Rattle.rule_rows.proofs.Views.{part_at, signed}
use Rattle.rule_rows.proofs.TableRows.{procedure_shown}
use Rattle.step_walk.specs.Walk.{counted, put_pre, walk}
use Rattle.step_walk.specs.declared.Judging.{Judging}
use Rattle.walk.specs.Bodies.{procedure_outcome, body_outcome}
use Rattle.walk.specs.Contract.{ruled_for}
use Rattle.step_walk.specs.Asked.{asked}
use Rattle.step_walk.proofs.Asked.{procedure_counted}
use Rattle.step_walk.proofs.Claims.{first_asked, asked_parts, none_asked}
use Rattle.step_walk.proofs.Transfer.{expression_shown}

-- ------------------------------------------------------------------ where they stand

-- the procedures from number f on and the root stand there, and end at this index
record RestHere (w : List ℕ) (count f end : ℕ) (ps : List Procedure) (root : Expr) : Type 0 where
  pub index : ℕ
  pub here : AllHere w count f index ps root
  pub ends : index + length (steps_among (listing ps root)) ≡ end

-- those behind the first i
rest_here : (w : List ℕ) (count f k i : ℕ) (ps : List Procedure) (root : Expr) → i ≤ length ps → AllHere w count f k ps root
    → RestHere w count (f + i) (k + length (steps_among (listing ps root))) (drop i ps) root
unfolding AllHere
rest_here w count f k zero ps root h H =
    let e : f + 0 ≡ f = omega arith in
    rw e (record { index = k; here = H; ends = refl })
rest_here w count f k (suc i) [] root h H = absurd (omega arith)
rest_here w count f k (suc i) (p ∷ ps) root h H =
    let e : f + suc i ≡ f + 1 + i = omega arith in
    let l : k + length (steps_among (listing (p ∷ ps) root)) ≡ k + size p.body + length (steps_among (listing ps root)) =
    omega (arith, body_sized p ps root) in
    rw (e, l) (rest_here w count (f + 1) (k + size p.body) i ps root (omega arith) H.1)

-- where the first of them begins
first_here : (w : List ℕ) (count f k : ℕ) (ps : List Procedure) (root : Expr) → AllHere w count f k ps root → cell w proc_firsts_at f ≡ k
unfolding AllHere
first_here w count f k [] root H = H.first
first_here w count f k (p ∷ ps) root H = H.0.first

-- ------------------------------------------------------------------ the sheets stay

-- where only maps before steps are changed
pub sheets_stay : {w w' : List ℕ} {steps procedures denominator locations start : ℕ} {P : Program} {S : Split}
    → ChangedWithin pres_at (pres_at + 256) w w' → steps ≤ 256 → procedures ≤ 16
    → HoldsSheets w steps procedures denominator locations start P S → HoldsSheets w' steps procedures denominator locations start P S
sheets_stay {P = P} {S = S} c few procs H = record {
  program_text = H.program_text;
  well_formed = H.well_formed;
  in_range = H.in_range;
  program =
      program_kept (changed_wider row_types_at work_size (omega arith) (omega arith) c) H.well_formed.stepped
      (omega (arith, H.steps_counted)) (omega (arith, H.procedures_counted)) H.program;
  split = split_kept_by_pres (omega (arith, H.in_range.rows_counted, H.steps_counted)) c H.split;
  steps_counted = H.steps_counted;
  procedures_counted = H.procedures_counted;
  denominator_given = H.denominator_given;
  locations_given = H.locations_given;
  start_given = H.start_given;
}

-- ------------------------------------------------------------------ the sheets

-- the claims of a pair of sheets, by purpose
claims_ruled : (purpose : Purpose) (P : Program) (S : Split) → first_asked purpose (claims_of S P) ≡ ruled_for purpose P S
unfolding asked ruled_for conditions_hold type_conditions_hold
claims_ruled Check P S = refl
claims_ruled Fill P S = refl

module _ (w : List ℕ) (steps procedures denominator locations start : ℕ) (P : Program) (S : Split)
    (H : HoldsSheets w steps procedures denominator locations start P S) where
  -- 30, at the root's line
  start_shown_lem : start_outcome (cell w lines_at (cell w proc_firsts_at procedures)) w denominator locations (record { 0 = start }) ≡ start_at_most_one P S
  unfolding start_outcome start_at_most_one
  start_shown_lem =
      rw (here_line P.root (root_here H), H.denominator_given)
      (ap (refuse_over (line_of P.root)) (within_shown H.locations_given (header_start_stands H) _))

  -- what is judged at the root's line is the start
  pub start_judged : {root line : ℕ} {o : Result (Unit {0}) Refusal} → root ≡ cell w proc_firsts_at procedures → line ≡ cell w lines_at root
      → o ≡ start_outcome line w denominator locations (record { 0 = start }) → o ≡ start_at_most_one P S
  start_judged at_root at_line judged =
      judged ∙ ap (λ l. start_outcome l w denominator locations (record { 0 = start })) (at_line ∙ ap (cell w lines_at) at_root) ∙ start_shown_lem

  -- the procedures from number f on and the root, which end where the steps end
  procedures_left : (f : ℕ) → f ≤ procedures → RestHere w (length P.procedures) f steps (drop f P.procedures) P.root
  procedures_left f h =
      let e : 0 + f ≡ f = omega arith in
      let l : 0 + length (steps_among (listing P.procedures P.root)) ≡ steps = omega (arith, program_sized H) in
      rw (e, l) at (rest_here w (length P.procedures) 0 0 f P.procedures P.root (omega (arith, H.procedures_counted)) (program_here H))

  module _ (purpose : Purpose) (long : length w ≡ work_size) (few : steps ≤ 256) where
    abbrev how : Judging
    how = record { purpose = purpose; denominator = denominator; locations = locations }

    rows_few : length S.rows ≤ 256
    rows_few = omega (arith, H.in_range.rows_counted, H.steps_counted)

    -- ---------------------------------------------------------------- a procedure

    module _ (f k : ℕ) (p : Procedure) (ps : List Procedure) (there : f < procedures)
        (here : AllHere w (length P.procedures) f k (p ∷ ps) P.root)
        (ends : k + length (steps_among (listing (p ∷ ps) P.root)) ≡ steps) where
      has_signature : f < length S.signatures
      has_signature = omega (arith, signatures_counted_lem H)

      body_fits : k + size p.body ≤ length S.rows
      body_fits = omega (arith, ends, body_sized p ps P.root, H.in_range.rows_counted, H.steps_counted)

      -- the conditions at its line
      line_shown : counted purpose (procedure_outcome w locations f)
          ≡ first_asked purpose (numbered p.line 1 (procedure_conditions S (signature S f) p))
      unfolding AllHere procedure_outcome
      line_shown =
          rw (
            here.0.first,
            here.0.line,
            procedure_shown w S P H.split H.in_range locations H.locations_given _ _ (signed w S P H.split H.in_range f has_signature)
                p _ _
                (part_at w S P H.split H.in_range p.body k (here_index p.body here.0.body) (omega (arith, size_positive p.body, body_fits)) refl refl),
          )
          (procedure_counted p.line purpose S (signature S f) p)

      -- its body
      body_walked : walk how (put_pre w k (record { 0 = cell w sig_befores_at f })) k (cell w (proc_firsts_at + 1) f - k)
          ≡ first_asked purpose (claims S (body_step_contexts S (signature S f) p))
      unfolding AllHere body_step_contexts
      body_walked =
          let next : cell w (proc_firsts_at + 1) f ≡ k + size p.body =
          ap (λ (i : ℕ). get_or w i 0) (omega arith) ∙ first_here w _ (f + 1) _ ps P.root here.1 in
          rw (H.denominator_given, H.locations_given)
          (expression_shown purpose S P H.in_range rows_few p.body H.split (omega arith) here.0.body
          (scoped_more S [] [] [] (scoped_none S) p.parameter (proc_mark + f) (signature S f).argument (by_procedure f refl has_signature refl))
          _ (before_at w S P H.split H.in_range f has_signature refl) body_fits _ (omega (arith, next)))

      body_shown_lem : body_outcome how w f ≡ first_asked purpose (claims_of_procedure S (signature S f) p)
      unfolding body_outcome claims_of_procedure AllHere
      body_shown_lem =
          rw (line_shown, here.0.first, body_walked) (sym (asked_parts purpose _ _))

    -- ---------------------------------------------------------------- one procedure more

    pub bodies_more : (f : ℕ) → f < procedures
        → first_asked purpose (claims_of_procedures S f (drop f P.procedures))
        ≡ both (body_outcome how w f) (first_asked purpose (claims_of_procedures S (f + 1) (drop (f + 1) P.procedures)))
    unfolding claims_of_procedures
    bodies_more f there =
        let d : Procedure = record { line = 0; parameter = 0; body = P.root } in
        let p : Procedure = get_or P.procedures f d in
        let ps : List Procedure = drop (f + 1) P.procedures in
        let count : f < length P.procedures = omega (arith, H.procedures_counted) in
        let next : suc f ≡ f + 1 = omega arith in
        let parted : drop f P.procedures ≡ p ∷ ps = drop-cons P.procedures f d count ∙ ap (λ (i : ℕ). p ∷ drop i P.procedures) next in
        let left = procedures_left f (omega arith) in
        let own = body_shown_lem f left.index p ps there (rw parted at left.here) (rw parted at left.ends) in
        rw parted
        (asked_parts purpose (claims_of_procedure S (signature S f) p) (claims_of_procedures S (f + 1) ps)
        ∙ ap (λ o. both o (first_asked purpose (claims_of_procedures S (f + 1) ps))) (sym own))

    pub bodies_none : (f : ℕ) → procedures ≤ f → first_asked purpose (claims_of_procedures S f (drop f P.procedures)) ≡ Ok tt
    unfolding claims_of_procedures
    bodies_none f h =
        let past : length P.procedures ≤ f = omega (arith, H.procedures_counted) in
        rw (drop_of_length-le P.procedures past) (none_asked purpose)

    -- ---------------------------------------------------------------- the root

    pub root_shown_lem : walk how (put_pre w (cell w proc_firsts_at procedures) (record { 0 = start })) (cell w proc_firsts_at procedures) (steps - cell w proc_firsts_at procedures)
        ≡ first_asked purpose (claims S (step_contexts S [] (start_map S) P.root))
    root_shown_lem =
        rw (H.denominator_given, H.locations_given)
        (expression_shown purpose S P H.in_range rows_few P.root H.split (omega arith) (root_here H) (scoped_none S)
        _ (header_start_stands H) (omega (arith, root_last H, H.in_range.rows_counted, H.steps_counted)) _ (omega (arith, root_last H)))

-- the bodies and the root
pub program_ruled : (purpose : Purpose) (P : Program) (S : Split)
    → both (first_asked purpose (claims_of_procedures S 0 P.procedures)) (first_asked purpose (claims S (step_contexts S [] (start_map S) P.root)))
    ≡ ruled_for purpose P S
unfolding claims_of
program_ruled purpose P S = sym (asked_parts purpose _ _) ∙ claims_ruled purpose P S
