-- Reading lines one after the other: what the loop over them has read and stored after k of them.
use Rattle.std.proofs.Common.{Result, Ok, Err}
use mathlib.Core.Path.{◌≡◌, refl, ap, ◌∙◌}
use mathlib.Core.Logic.{inl, inr}
use mathlib.Core.List.{List, [], ◌∷◌, ◌++◌, map}
use Prim.Native.Nat.{ℕ, suc, zero, ◌+◌, ◌<◌, ◌≤◌}
use native.Mathlib.Omega.{arith}
use lib.ListN.{length, set, length-set, length-append, length-map}
use Rattle.spec.specs.Text.{Field}
use Rattle.spec.specs.Reading.{program_sheet, LineResult, Place, read_line, read_lines}
use Rattle.spec.specs.Expression.{Step, Item, step, proc, steps_among}
use Rattle.spec.specs.Program.{item_line, item_lines}
use Rattle.spec.specs.declared.ProgramHeading.{ProgramHeading}
use Rattle.spec.specs.declared.Refusal.{Refusal}
use Rattle.spec.specs.declared.Word.{Word}
use Rattle.lexer.specs.Cursors.{Placed, place_at}
use Rattle.lexer.specs.declared.Cursor.{Cursor}
use Rattle.lexer.proofs.LoopSteps.{numbered, LoopStep, first_loop_step, loop_step_on, loop_step_stops, loop_steps_done}
use Rattle.workspace.specs.Layout.{words_at, values_at, lines_at, proc_lines_at, proc_vars_at, proc_firsts_at, row_types_at, step_room, code_of, work_size}
use Rattle.workspace.specs.Region.{ChangedWithin}
use Rattle.workspace.specs.Holds.{HoldsSteps}
use Rattle.workspace.proofs.Region.{region_empty, region_apart, region_kept, column_push, changed_nothing, changed_store, changed_then}
use Rattle.workspace.proofs.Steps.{steps_push}
use Rattle.program_tree.specs.Items.{ProcRow, proc_rows, no_variables, HoldsProcs, none_limited, ItemsStored}
use Rattle.program_lines.specs.Lines.{item_at, StepShown}
use Rattle.program.specs.Lines.{items_at, StepsShown}
use Rattle.program_tree.proofs.Limits.{limited_snoc, variables_snoc}
use Rattle.program_lines.specs.declared.items.StepLine.TheVariants as step_line

-- ------------------------------------------------------------------ one line more

steps_step : (items : List Item) (s : Step) → steps_among (items ++ (step s ∷ [])) ≡ steps_among items ++ (s ∷ [])
unfolding steps_among
steps_step [] s = refl
steps_step (step t ∷ items) s = ap (λ l. t ∷ l) (steps_step items s)
steps_step (proc x k ∷ items) s = steps_step items s

steps_proc : (items : List Item) (x k : ℕ) → steps_among (items ++ (proc x k ∷ [])) ≡ steps_among items
unfolding steps_among
steps_proc [] x k = refl
steps_proc (step t ∷ items) x k = ap (λ l. t ∷ l) (steps_proc items x k)
steps_proc (proc y l ∷ items) x k = steps_proc items x k

rows_step : (i : ℕ) (items : List Item) (s : Step) → proc_rows i (items ++ (step s ∷ [])) ≡ proc_rows i items
unfolding proc_rows
rows_step i [] s = refl
rows_step i (step t ∷ items) s = rows_step (i + 1) items s
rows_step i (proc x k ∷ items) s = ap (λ l. record { line = k; variable = x; first = i } ∷ l) (rows_step i items s)

-- a `proc` line behind lines, the first of which has index i
abbrev row_at : (i x k : ℕ) → ProcRow
row_at i x k = record { line = k; variable = x; first = i }

rows_proc : (i : ℕ) (items : List Item) (x k : ℕ) → proc_rows i (items ++ (proc x k ∷ [])) ≡ proc_rows i items ++ (row_at (i + length (steps_among items)) x k ∷ [])
unfolding proc_rows steps_among
rows_proc i [] x k = let e : i + 0 ≡ i = omega arith in rw e refl
rows_proc i (step t ∷ items) x k =
    let e : i + suc (length (steps_among items)) ≡ i + 1 + length (steps_among items) = omega arith in
    rw e (rows_proc (i + 1) items x k)
rows_proc i (proc y l ∷ items) x k = ap (λ rs. row_at i y l ∷ rs) (rows_proc i items x k)

-- a `proc` line stored
abbrev proc_stored : List ℕ → (j : ℕ) → ProcRow → List ℕ
proc_stored w j r = set (set (set w (proc_lines_at + j) r.line) (proc_vars_at + j) r.variable) (proc_firsts_at + j) r.first

module _ (w : List ℕ) (rows : List ProcRow) (r : ProcRow) (j : ℕ) (counted : length rows ≡ j) (few : j < step_room) (long : length w ≡ work_size) where
  abbrev w₁ : List ℕ
  w₁ = set w (proc_lines_at + j) r.line

  abbrev w₂ : List ℕ
  w₂ = set w₁ (proc_vars_at + j) r.variable

  long₁ : length w₁ ≡ work_size
  long₁ = length-set w (proc_lines_at + j) r.line ∙ long

  long₂ : length w₂ ≡ work_size
  long₂ = length-set w₁ (proc_vars_at + j) r.variable ∙ long₁

  more_rows : (f : ProcRow → ℕ) → length (map f (rows ++ (r ∷ []))) ≡ j + 1
  more_rows f = simp (length-map, length-append) (omega (arith, counted))

  procs_push : HoldsProcs w rows → HoldsProcs (proc_stored w j r) (rows ++ (r ∷ []))
  procs_push H = record {
    lines = region_apart w₂ proc_lines_at _ (proc_firsts_at + j) r.first (inr (omega (arith, more_rows (λ (r : ProcRow). r.line))))
        (region_apart w₁ proc_lines_at _ (proc_vars_at + j) r.variable (inr (omega (arith, more_rows (λ (r : ProcRow). r.line))))
        (column_push w proc_lines_at (λ (r : ProcRow). r.line) rows r j counted (omega arith) H.lines));
    variables = region_apart w₂ proc_vars_at _ (proc_firsts_at + j) r.first (inr (omega (arith, more_rows (λ (r : ProcRow). r.variable))))
        (column_push w₁ proc_vars_at (λ (r : ProcRow). r.variable) rows r j counted (omega (arith, long₁))
        (region_apart w proc_vars_at _ (proc_lines_at + j) r.line (inl (omega arith)) H.variables));
    firsts = column_push w₂ proc_firsts_at (λ (r : ProcRow). r.first) rows r j counted (omega (arith, long₂))
        (region_apart w₁ proc_firsts_at _ (proc_vars_at + j) r.variable (inl (omega arith))
        (region_apart w proc_firsts_at _ (proc_lines_at + j) r.line (inl (omega arith)) H.firsts));
  }

  procs_within : ChangedWithin proc_lines_at row_types_at w (proc_stored w j r)
  procs_within =
      changed_then proc_lines_at row_types_at (changed_store proc_lines_at row_types_at w (proc_lines_at + j) r.line (omega arith) (omega arith))
      (changed_then proc_lines_at row_types_at (changed_store proc_lines_at row_types_at w₁ (proc_vars_at + j) r.variable (omega arith) (omega arith))
      (changed_store proc_lines_at row_types_at w₂ (proc_firsts_at + j) r.first (omega arith) (omega arith)))

-- steps stay while `proc` lines are stored, and the reverse
steps_beside : {w w' : List ℕ} {ss : List Step} → ChangedWithin proc_lines_at row_types_at w w' → length ss ≤ step_room → HoldsSteps w ss → HoldsSteps w' ss
steps_beside {ss = ss} c few H = record {
  words = region_kept c (inl (omega (arith, length-map ss (λ (s : Step). code_of s.word)))) H.words;
  values = region_kept c (inl (omega (arith, length-map ss (λ (s : Step). s.value)))) H.values;
  lines = region_kept c (inl (omega (arith, length-map ss (λ (s : Step). s.line)))) H.lines;
}

procs_beside : {w w' : List ℕ} {rows : List ProcRow} → ChangedWithin words_at proc_lines_at w w' → HoldsProcs w rows → HoldsProcs w' rows
procs_beside c H = record {
  lines = region_kept c (inr (omega arith)) H.lines;
  variables = region_kept c (inr (omega arith)) H.variables;
  firsts = region_kept c (inr (omega arith)) H.firsts;
}

-- ------------------------------------------------------------------ the loop

-- how the line with number i is read, where l is the line in front of them
abbrev line_from : ProgramHeading → (l : ℕ) → ℕ → List Field → LineResult Item
line_from h l i = item_line h (l + 1 + i)

items_numbered : (h : ProgramHeading) (l k n : ℕ) → item_lines h (l + 1 + k) n ≡ numbered (line_from h l) k n
unfolding item_lines numbered
items_numbered h l k zero = refl
items_numbered h l k (suc n) =
    let e : l + 1 + k + 1 ≡ l + 1 + (k + 1) = omega arith in
    ap (λ rs. item_line h (l + 1 + k) ∷ rs) (ap (λ i. item_lines h i n) e ∙ items_numbered h l (k + 1) n)

-- k lines are read, i steps and j `proc` lines, and the cursor stands behind them
pub record StepsSoFar (text : List ℕ) (h : ProgramHeading) (n : ℕ) (c₀ : Cursor) (w₀ w : List ℕ) (c : Cursor) (i j k : ℕ) : Type 0 where
  pub stored : ItemsStored i j w
  pub both : i + j ≡ k
  pub loop_step : LoopStep program_sheet (line_from h c₀.line) n text (place_at text c₀) c k stored.items
  pub lined : c.line ≡ c₀.line + k
  pub changed : ChangedWithin words_at row_types_at w₀ w

pub start : (text : List ℕ) (h : ProgramHeading) (n : ℕ) (c : Cursor) (w : List ℕ) → length w ≡ work_size → Placed text c → StepsSoFar text h n c w w c 0 0 0
unfolding steps_among proc_rows
start text h n c w l p = record {
  stored = record {
    items = [];
    held = record {
      steps = record { words = region_empty w words_at (omega arith); values = region_empty w values_at (omega arith); lines = region_empty w lines_at (omega arith) };
      procs = record { lines = region_empty w proc_lines_at (omega arith); variables = region_empty w proc_vars_at (omega arith); firsts = region_empty w proc_firsts_at (omega arith) };
    };
    steps_counted = refl;
    procs_counted = refl;
    limited = none_limited;
    variables = no_variables;
  };
  both = omega arith;
  loop_step = first_loop_step p;
  lined = omega arith;
  changed = changed_nothing words_at row_types_at w;
}

module _ {text : List ℕ} {h : ProgramHeading} {n : ℕ} {c₀ : Cursor} {w₀ w : List ℕ} {c : Cursor} {i j k : ℕ} (s : StepsSoFar text h n c₀ w₀ w c i j k) where
  -- what reading all of the lines comes to
  all_of : (o : Result (List Item × Place) Refusal) → read_lines program_sheet (numbered (line_from h c₀.line) 0 n) (place_at text c₀) ≡ o → items_at text h n c₀ ≡ o
  unfolding items_at
  all_of o e =
      let z : c₀.line + 1 + 0 ≡ c₀.line + 1 = omega arith in
      ap (λ rs. read_lines program_sheet rs (place_at text c₀)) (rw z at (items_numbered h c₀.line 0 n)) ∙ e

  pub finish : n ≤ k → (room : (i ≤ step_room) × (j ≤ step_room))
      → StepsShown text h n c₀ w₀ w (Ok (record { steps = i; procs = j; last = c.line; in_room = room }, c))
  finish l room = record {
    found = record {
      stored = s.stored;
      all = omega (arith, s.both, s.loop_step.few);
      last = refl;
      shown = all_of _ (loop_steps_done s.loop_step l);
      placed = s.loop_step.placed;
    };
    changed = s.changed;
  }

  module _ (l : k < n) where
    -- the line at the cursor is the next of them
    line_here : {o : Result (Item × Place) Refusal} → item_at text h c ≡ o → read_line program_sheet (line_from h c₀.line k) (place_at text c) ≡ o
    unfolding item_at
    line_here e =
        let here : c₀.line + 1 + k ≡ c.line + 1 = omega (arith, s.lined) in
        ap (λ i. read_line program_sheet (item_line h i) (place_at text c)) here ∙ e

    pub refuses : {x : Refusal} → StepShown text h c (Err x) → StepsShown text h n c₀ w₀ w (Err x)
    refuses p = record { found = all_of _ (loop_step_stops s.loop_step l (line_here p)); changed = s.changed }

    module _ (long₀ : length w₀ ≡ work_size) (few : n ≤ step_room) where
      whole : length w ≡ work_size
      whole = s.changed.long ∙ long₀

      pub more_step : (x : Word) (v code : ℕ) (d : Cursor) → StepShown text h c (Ok (step_line.Step x v d)) → code ≡ code_of x
          → StepsSoFar text h n c₀ w₀ (set (set (set w (words_at + i) code) (values_at + i) v) (lines_at + i) d.line) d (i + 1) j (k + 1)
      more_step x v code d p e =
          let one : Step = record { word = x; value = v; line = d.line } in
          let u₁ : List ℕ = set w (words_at + i) code in
          let u₂ : List ℕ = set u₁ (values_at + i) v in
          let within : ChangedWithin words_at proc_lines_at w (set u₂ (lines_at + i) d.line) =
          changed_then words_at proc_lines_at (changed_store words_at proc_lines_at w (words_at + i) code (omega arith) (omega (arith, s.both)))
          (changed_then words_at proc_lines_at (changed_store words_at proc_lines_at u₁ (values_at + i) v (omega arith) (omega (arith, s.both)))
          (changed_store words_at proc_lines_at u₂ (lines_at + i) d.line (omega arith) (omega (arith, s.both)))) in
          record {
            stored = record {
              items = s.stored.items ++ (step one ∷ []);
              held = record {
                steps = rw (steps_step s.stored.items one) (steps_push one i code s.stored.steps_counted (omega (arith, s.both)) whole e s.stored.held.steps);
                procs = rw (rows_step 0 s.stored.items one) (procs_beside within s.stored.held.procs);
              };
              steps_counted = rw (steps_step s.stored.items one) (omega (arith, length-append (steps_among s.stored.items) (one ∷ []), s.stored.steps_counted));
              procs_counted = rw (rows_step 0 s.stored.items one) s.stored.procs_counted;
              limited = rw (steps_step s.stored.items one) (limited_snoc one s.stored.limited p.1);
              variables = rw (rows_step 0 s.stored.items one) s.stored.variables;
            };
            both = omega (arith, s.both);
            loop_step = loop_step_on s.loop_step l (line_here p.0) p.2;
            lined = omega (arith, p.3, s.lined);
            changed = changed_then words_at row_types_at s.changed (Rattle.workspace.proofs.Region.changed_wider words_at row_types_at (omega arith) (omega arith) within);
          }

      pub more_proc : (x first : ℕ) (d : Cursor) → StepShown text h c (Ok (step_line.Proc x d)) → first ≡ i
          → StepsSoFar text h n c₀ w₀ (set (set (set w (proc_lines_at + j) d.line) (proc_vars_at + j) x) (proc_firsts_at + j) first) d i (j + 1) (k + 1)
      more_proc x first d p e =
          let at_end_lem : 0 + length (steps_among s.stored.items) ≡ first = omega (arith, s.stored.steps_counted, e) in
          let row : ProcRow = row_at first x d.line in
          let rows = proc_rows 0 s.stored.items in
          let snoc : proc_rows 0 (s.stored.items ++ (proc x d.line ∷ [])) ≡ rows ++ (row ∷ []) = rw at_end_lem at (rows_proc 0 s.stored.items x d.line) in
          let few_procs : j < step_room = omega (arith, s.both) in
          let within = procs_within w rows row j s.stored.procs_counted few_procs whole in
          record {
            stored = record {
              items = s.stored.items ++ (proc x d.line ∷ []);
              held = record {
                steps = rw (steps_proc s.stored.items x d.line) (steps_beside within (omega (arith, s.stored.steps_counted, s.both)) s.stored.held.steps);
                procs = rw snoc (procs_push w rows row j s.stored.procs_counted few_procs whole s.stored.held.procs);
              };
              steps_counted = rw (steps_proc s.stored.items x d.line) s.stored.steps_counted;
              procs_counted = rw snoc (omega (arith, length-append rows (row ∷ []), s.stored.procs_counted));
              limited = rw (steps_proc s.stored.items x d.line) s.stored.limited;
              variables = rw snoc (variables_snoc row s.stored.variables p.1);
            };
            both = omega (arith, s.both);
            loop_step = loop_step_on s.loop_step l (line_here p.0) p.2;
            lined = omega (arith, p.3, s.lined);
            changed = changed_then words_at row_types_at s.changed (Rattle.workspace.proofs.Region.changed_wider words_at row_types_at (omega arith) (omega arith) within);
          }

      -- the same, with what the loop goes on with told otherwise
      pub step_on : (x : Word) (v code : ℕ) (d : Cursor) → StepShown text h c (Ok (step_line.Step x v d)) → code ≡ code_of x
          → (w' : List ℕ) (d' : Cursor) (i' j' : ℕ) → w' ≡ set (set (set w (words_at + i) code) (values_at + i) v) (lines_at + i) d.line
          → d' ≡ d → i' ≡ i + 1 → j' ≡ j → StepsSoFar text h n c₀ w₀ w' d' i' j' (k + 1)
      step_on x v code d p e w' d' i' j' ew ed ei ej = rw (ew, ed, ei, ej) (more_step x v code d p e)

      pub proc_on : (x first : ℕ) (d : Cursor) → StepShown text h c (Ok (step_line.Proc x d)) → first ≡ i
          → (w' : List ℕ) (d' : Cursor) (i' j' : ℕ) → w' ≡ set (set (set w (proc_lines_at + j) d.line) (proc_vars_at + j) x) (proc_firsts_at + j) first
          → d' ≡ d → i' ≡ i → j' ≡ j + 1 → StepsSoFar text h n c₀ w₀ w' d' i' j' (k + 1)
      proc_on x first d p e w' d' i' j' ew ed ei ej = rw (ew, ed, ei, ej) (more_proc x first d p e)
