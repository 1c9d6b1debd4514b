-- Reading a program sheet, put together from its lines and from what they list.
use Rattle.std.proofs.Common.{Result, Ok, Err}
use mathlib.Core.Path.{◌≡◌, refl, sym, ap, subst, ◌∙◌}
use mathlib.Core.Bool.{true, false}
use mathlib.Core.List.{List, []}
use Prim.Native.Nat.{ℕ, ◌+◌, ◌≤◌}
use native.Mathlib.Omega.{arith}
use lib.ListN.{length}
use Rattle.spec.specs.Text.{lines}
use Rattle.spec.specs.Reading.{program_sheet, ◌>>=◌, Place, miscounted, begin, read_line, end}
use Rattle.spec.specs.Expression.{Expr, Item, steps_among, Procedure, structure, scopes}
use Rattle.spec.specs.Program.{Program, count_line, program}
use Rattle.spec.specs.declared.Refusal.{Refusal}
use Rattle.spec.specs.declared.Refusal.TheVariants.{ProgramLines}
use Rattle.lexer.specs.Views.{text_ended}
use Rattle.lexer.specs.Cursors.{rest, place_at}
use Rattle.lexer.specs.declared.Cursor.{Cursor}
use Rattle.lexer.proofs.Sheets.{end_at_none, end_at_some}
use Rattle.lexer.proofs.Walks.{left_none, left_some}
use Rattle.spec.proofs.Outcomes.{on_injective, bind_through, bind_bind, bind_alike}
use Rattle.spec.proofs.Listing.{Listed, structure_lists}
use Rattle.spec.specs.WellFormed.{listing}
use Rattle.program_tree.specs.Items.{proc_rows}
use Rattle.program_lines.specs.Lines.{count_at, CountShown}
use Rattle.program.specs.Lines.{items_at, StepsShown}
use Rattle.program_tree.proofs.Outcomes.{found, refused}
use Rattle.program_tree.specs.declared.Stored.{Stored}
use Rattle.program_scopes.specs.Resolved.{resolved_of, Resolved}
use Rattle.program_lines.specs.declared.counts.CountLine.{CountLine}
use Rattle.program.specs.Sheet.{behind_count, counted, LinesRead, ProgramIs}
use Rattle.program.specs.declared.Counts.{Counts}
use Rattle.program_tree.proofs.Rows.{rows_counted_lem}

-- ------------------------------------------------------------------ the lines behind line 1

module _ (items : List Item) where
  abbrev with_steps : List Procedure × Expr → Result Program Refusal
  with_steps t = Ok (record { steps = steps_among items; procedures = t.0; root = t.1 })

  from_resolved : (last count : ℕ)
      → (structure last count 0 items >>= λ t. scopes count t.0 t.1 [] >>= λ bound. with_steps t) ≡ (resolved_of last count items >>= with_steps)
  unfolding resolved_of ◌>>=◌
  from_resolved last count =
      let found = structure last count 0 items in
      sym (bind_bind found (λ t. scopes count t.0 t.1 [] >>= λ bound. Ok t) with_steps
      ∙ bind_alike found _ _ (λ t e. bind_bind (scopes count t.0 t.1 []) (λ bound. Ok t) with_steps))

-- lines whose scopes are judged are those of as many procedures, and of the root
resolved_lists : (last count : ℕ) (items : List Item) (t : List Procedure × Expr) → resolved_of last count items ≡ Ok t
    → Listed count 0 items t.0 t.1
unfolding resolved_of
resolved_lists last count items t p =
    bind_through (structure last count 0 items) (λ found. scopes count found.0 found.1 [] >>= λ bound. Ok found) p
    (λ found q r. bind_through (scopes count found.0 found.1 []) (λ bound. Ok found) r
    (λ bound goes is. subst (λ (u : List Procedure × Expr). Listed count 0 items u.0 u.1) (on_injective is) (structure_lists last count 0 items q)))

module _ (text : List ℕ) (one : CountLine) {m k : ℕ} (em : m ≡ one.steps) (ek : k ≡ one.procedures) where
  behind_items : {o : Result (List Item × Place) Refusal} → items_at text one.heading (m + k) one.next ≡ o
      → behind_count (counted one) (place_at text one.next)
      ≡ (o >>= λ r. end program_sheet r.1 >>= λ done. structure r.1.last k 0 r.0 >>= λ t. scopes k t.0 t.1 [] >>= λ bound. with_steps r.0 t)
  unfolding behind_count items_at place_at
  behind_items p = rw (← em, ← ek, p) refl

  pub lines_refused : {w w₁ : List ℕ} {x : Refusal} → StepsShown text one.heading (m + k) one.next w w₁ (Err x) → LinesRead text one w₁ (Err x)
  unfolding ◌>>=◌
  lines_refused x = rw (behind_items x.found) refl

  module _ {w w₁ : List ℕ} {s : Stored} {d : Cursor} (x : StepsShown text one.heading (m + k) one.next w w₁ (Ok (s, d))) where
    abbrev items : List Item
    items = x.found.stored.items

    pub lines_spare : text_ended (rest text d) ≡ false → LinesRead text one w₁ (Err (ProgramLines (d.line + 1)))
    unfolding ◌>>=◌ miscounted
    lines_spare e = rw (behind_items x.found.shown, end_at_some program_sheet text d (left_some (rest text d) e)) refl

    -- all lines are read: what they list decides
    lines_listed : text_ended (rest text d) ≡ true → behind_count (counted one) (place_at text one.next) ≡ (resolved_of s.last k items >>= with_steps items)
    unfolding ◌>>=◌ place_at
    lines_listed e =
        behind_items x.found.shown ∙ rw (end_at_none program_sheet text d (left_none (rest text d) e)) (from_resolved items d.line k)
        ∙ ap (λ l. resolved_of l k items >>= with_steps items) (sym x.found.last)

    module _ (e : text_ended (rest text d) ≡ true) {w₂ : List ℕ} where
      pub lines_unresolved : {y : Refusal} → Resolved s k w₁ w₂ (Err y) → LinesRead text one w₂ (Err y)
      unfolding ◌>>=◌
      lines_unresolved a = rw (lines_listed e, refused _ _ (resolved_of s.last k items) (a.found x.found.stored)) refl

      pub lines_read : one.steps ≤ 256 → one.procedures ≤ 16 → Resolved s k w₁ w₂ (Ok tt) → LinesRead text one w₂ (Ok (record { steps = m; procedures = k }))
      unfolding ◌>>=◌
      lines_read few few_procedures a =
          let f = found _ _ (resolved_of s.last k items) (a.found x.found.stored) in
          let t = f.value in
          let l = resolved_lists s.last k items t f.is in
          let procs : length (proc_rows 0 (listing t.0 t.1)) ≡ s.procs = subst (λ is. length (proc_rows 0 is) ≡ s.procs) l.all x.found.stored.procs_counted in
          let steps : length (steps_among items) ≡ m = omega (arith, x.found.stored.steps_counted, procs, rows_counted_lem 0 t.0 t.1, l.counted, x.found.all) in
          let tree = f.holds.0 in
          rw (lines_listed e, f.is) (
            rw (steps, l.counted) refl,
            (
              record {
                steps = f.holds.1;
                ends = tree.ends;
                lets = tree.lets;
                proc_lines = tree.proc_lines;
                proc_vars = tree.proc_vars;
                proc_firsts = tree.proc_firsts;
              },
              omega (arith, steps, em),
              omega (arith, l.counted, ek),
            ),
          )

-- ------------------------------------------------------------------ the sheet

module _ (text : List ℕ) where
  by_count : program text ≡ (count_at text >>= λ r. behind_count r.0 r.1)
  unfolding program count_at behind_count
  by_count = sym (bind_bind (begin program_sheet (lines text)) (λ top. read_line program_sheet count_line top) (λ r. behind_count r.0 r.1))

  pub sheet_refused : (w : List ℕ) {x : Refusal} → CountShown text (Err x) → ProgramIs text w w (Err x)
  unfolding ◌>>=◌
  sheet_refused w p = record { answer = rw (by_count, p) refl; long = refl }

  pub sheet_read : {w w' : List ℕ} {one : CountLine} {r : Result Counts Refusal} → CountShown text (Ok one) → length w' ≡ length w → LinesRead text one w' r
      → ProgramIs text w w' r
  unfolding ◌>>=◌
  sheet_read p l a = record { answer = rw (by_count, p.0) a; long = l }
