-- The sheets that meet none of 10 to 15, 45 and 49, none of 20 to 23, 40 and 50, are the well-formed ones.
use Rattle.std.proofs.Common.{Ok}
use mathlib.Core.Path.{◌≡◌, refl, ap, sym, ◌∙◌, subst}
use mathlib.Core.List.{List, map}
use Prim.Native.Nat.{ℕ, ◌+◌, ◌≤◌}
use native.Mathlib.Omega.{arith}
use lib.ListN.{length}
use Rattle.spec.specs.Text.{lines}
use Rattle.spec.specs.Reading.{require, program_sheet, split_sheet, good, Place, begin, end}
use Rattle.spec.specs.Expression.{Expr, Item, steps_among, Procedure}
use Rattle.spec.specs.Program.{Counts, Program, program, program_limit, count_line, item_lines}
use Rattle.spec.specs.Split.{Split, split, split_limit, header_line, row_line}
use Rattle.spec.specs.WellFormed.{Parses, first_item_line, WellFormedProgram, WellFormedSplit}
use Rattle.spec.specs.declared.Purpose.{Purpose}
use Rattle.spec.proofs.Outcomes.{on_injective, bind_through, goes_on_bind}
use Rattle.spec.proofs.Reading.{next_begins, all_shown, begun, ended, shown_length, read_next, read_all}
use Rattle.spec.proofs.StepLines.{item_lines_counted}
use Rattle.spec.proofs.Listing.{Listed, structure_lists, listing_structured, listing_length}
use Rattle.spec.proofs.Scopes.{scoped_once_inside, once_inside_scoped}

-- ------------------------------------------------------------------ the program sheet

-- the counts of line 1 are those of what the lines list
counts_listed : (N : Counts) {items : List Item} {ps : List Procedure} {root : Expr} → length items ≡ N.steps + N.procedures
    → Listed N.procedures 0 items ps root → N ≡ record { heading = N.heading; steps = length (steps_among items); procedures = length ps }
counts_listed N {items} {ps} {root} all l =
    let steps : N.steps ≡ length (steps_among items) = rw l.all (omega (arith, all, ap length l.all, listing_length ps root, l.counted)) in
    λ i. record { heading = N.heading; steps = steps i; procedures = sym l.counted i }

pub program_well_formed : {P : Program} (text : List ℕ) → length text ≤ program_limit → program text ≡ Ok P → WellFormedProgram text P
unfolding program first_item_line
program_well_formed text fits h =
    bind_through _ _ h λ top h₁ r₁.
    bind_through _ _ r₁ λ (N, first) h₂ r₂.
    bind_through _ _ r₂ λ (items, last) h₃ r₃.
    bind_through _ _ r₃ λ done h₄ r₄.
    bind_through _ _ r₄ λ (ps, e) h₅ r₅.
    bind_through _ _ r₅ λ bound h₆ r₆.
    let b = next_begins program_sheet count_line top h₂ in
    let from : first.last + 1 ≡ 2 = omega (arith, b.counted, ap (λ (p : Place). p.last) (begun program_sheet (lines text) h₁)) in
    let s = all_shown program_sheet (item_lines N.heading (first.last + 1) (N.steps + N.procedures)) first h₃ in
    let l = structure_lists last.last N.procedures 0 items h₅ in
    let counts = counts_listed N (shown_length s ∙ item_lines_counted N.heading (first.last + 1) (N.steps + N.procedures)) l in
    let steps : N.steps ≡ length (steps_among items) = ap (λ (n : Counts). n.steps) counts in
    let (once, inside) = scoped_once_inside N.procedures ps e h₆ in
    subst (WellFormedProgram text) (on_injective r₆) (record {
      fits = fits;
      first = b.first;
      others = first.rest;
      lined = ap (λ (p : Place). p.rest) (begun program_sheet (lines text) h₁) ∙ b.lined;
      heading = N.heading;
      counted = b.shown ∙ ap good counts;
      listed = rw (← from, ← steps, l.counted, ← ended program_sheet last h₄, ← l.all) s;
      stepped = ap steps_among l.all;
      numbering = l.numbering;
      bound_once = once;
      used_inside = rw l.counted inside;
    })

pub well_formed_program : {P : Program} (text : List ℕ) → WellFormedProgram text P → program text ≡ Ok P
unfolding program begin end require first_item_line
well_formed_program {P} text w =
    let (last, items) = read_all program_sheet w.listed 1 in
    let (bound, scoped) = once_inside_scoped (length P.procedures) P.procedures P.root w.bound_once w.used_inside in
    goes_on_bind _ _ (ap (begin program_sheet) w.lined)
    (goes_on_bind _ _ (read_next program_sheet count_line 0 w.first w.others w.counted)
    (goes_on_bind _ _ items
    (goes_on_bind _ _ refl
    (goes_on_bind _ _ (listing_structured last 0 P.procedures P.root w.numbering)
    (goes_on_bind _ _ scoped (λ i. Ok (record { steps = sym w.stepped i; procedures = P.procedures; root = P.root })))))))

-- ------------------------------------------------------------------ the split sheet

pub split_well_formed : {S : Split} (purpose : Purpose) (P : Program) (text : List ℕ) → length text ≤ split_limit
    → split purpose P text ≡ Ok S → WellFormedSplit purpose P text S
unfolding split
split_well_formed purpose P text fits h =
    bind_through _ _ h λ top h₁ r₁.
    bind_through _ _ r₁ λ Hp h₂ r₂.
    bind_through _ _ r₂ λ tp h₃ r₃.
    bind_through _ _ r₃ λ mp h₄ r₄.
    bind_through _ _ r₄ λ gp h₅ r₅.
    bind_through _ _ r₅ λ rp h₆ r₆.
    bind_through _ _ r₆ λ done h₇ r₇.
    let b = next_begins split_sheet (header_line purpose) top h₂ in
    subst (WellFormedSplit purpose P text) (on_injective r₇) (record {
      fits = fits;
      first = b.first;
      others = Hp.1.rest;
      after_types = tp.1.rest;
      after_maps = mp.1.rest;
      after_signatures = gp.1.rest;
      lined = ap (λ (p : Place). p.rest) (begun split_sheet (lines text) h₁) ∙ b.lined;
      headed = b.shown;
      typed = all_shown split_sheet _ Hp.1 h₃;
      mapped = all_shown split_sheet _ tp.1 h₄;
      signed = all_shown split_sheet _ mp.1 h₅;
      rowed = subst (λ rest. Parses (map (row_line purpose Hp.0) P.steps) gp.1.rest rp.0 rest) (ended split_sheet rp.1 h₇)
          (all_shown split_sheet _ gp.1 h₆);
    })

pub well_formed_split : {S : Split} (purpose : Purpose) (P : Program) (text : List ℕ) → WellFormedSplit purpose P text S
    → split purpose P text ≡ Ok S
unfolding split begin end require
well_formed_split {S} purpose P text w =
    let (l₁, types) = read_all split_sheet w.typed 1 in
    let (l₂, maps) = read_all split_sheet w.mapped l₁ in
    let (l₃, signatures) = read_all split_sheet w.signed l₂ in
    let (l₄, rows) = read_all split_sheet w.rowed l₃ in
    goes_on_bind _ _ (ap (begin split_sheet) w.lined)
    (goes_on_bind _ _ (read_next split_sheet (header_line purpose) 0 w.first w.others w.headed)
    (goes_on_bind _ _ types
    (goes_on_bind _ _ maps
    (goes_on_bind _ _ signatures
    (goes_on_bind _ _ rows
    (goes_on_bind _ _ refl refl))))))
