-- Whatever is refused before the conditions are judged is no refusal on the conditions.
use Rattle.std.proofs.Common.{Option, None, Some, Result, Ok, Err}
use mathlib.Core.Path.{◌≡◌, refl, ap, sym, ◌∙◌}
use mathlib.Core.List.{List, [], ◌∷◌}
use mathlib.Core.Bool.{Bool, true, false}
use Prim.Native.Nat.{ℕ, zero, suc, ◌+◌}
use lib.Dec.{ltb}
use Rattle.spec.specs.Choice.{when◌then◌else◌}
use Rattle.spec.specs.Text.{Line, closed, unclosed, Field, fields}
use Rattle.spec.specs.Reading.{◌>>=◌, require, Fault, bad_form, bad_range, no_start, freelock, no_kept, LineResult, good, bad, SheetName, program_sheet, split_sheet, form, outside, miscounted, faulty, Place, passed, next_line, read_line, read_lines, begin, end}
use Rattle.spec.specs.Expression.{Expr, leaf, unary, binary, size, Item, step, proc, first_listed, expression, no_line_left, Procedure, structure, among, scope_step, scope, scopes}
use Rattle.spec.specs.Program.{Program, program}
use Rattle.spec.specs.Split.{Split, split}
use Rattle.spec.specs.Verdict.{takes_enough, all_take_enough, locks_take_enough, refuse_over, start_at_most_one, numbers4, returned, on_conditions}
use Rattle.spec.specs.declared.Answer.TheVariants.{Refuse}
use Rattle.spec.specs.declared.Purpose.{Purpose}
use Rattle.spec.specs.declared.Refusal.{Refusal}
use Rattle.spec.specs.declared.Refusal.TheVariants.{Unbound, Rebound, NoProcedure, LockTakesLess}
use Rattle.spec.specs.declared.TypeLine.{TypeLine}
use Rattle.spec.specs.declared.Role.{Role}
use Rattle.spec.specs.declared.Role.TheVariants.{Binds, Uses, Calls, Neither}
use Rattle.spec.proofs.Clashes.{true_is_not_false}
use Rattle.spec.proofs.Outcomes.{stop_is_not_on, stop_injective}

-- a refusal's number
abbrev pub number_of : Refusal → ℕ
number_of r = (returned (Refuse r)).number

-- an outcome that, if it is stopped, is stopped by something else than a condition
abbrev pub Early : {A : Type 0} → Result A Refusal → Type 0
Early (Err r) = on_conditions (number_of r) ≡ false
Early (Ok a) = Unit {0}

pub early_bind : {A B : Type 0} (m : Result A Refusal) (f : A → Result B Refusal) → Early m → ((a : A) → Early (f a)) → Early (m >>= f)
unfolding ◌>>=◌
early_bind (Err r) f p q = p
early_bind (Ok a) f p q = q a

pub early_demand : (b : Bool) (r : Refusal) → on_conditions (number_of r) ≡ false → Early (require b r)
unfolding require
early_demand true r h = tt
early_demand false r h = h

early_choice : {A : Type 0} (b : Bool) (x y : Result A Refusal) → Early x → Early y → Early (when b then x else y)
early_choice true x y p q = p
early_choice false x y p q = q

-- an outcome that goes on, or is stopped by a condition
abbrev pub Late : {A : Type 0} → Result A Refusal → Type 0
Late (Err r) = on_conditions (number_of r) ≡ true
Late (Ok a) = Unit {0}

-- a late outcome comes from what follows an early one, which goes on
pub past : {A B C : Type 0} (o : Result B Refusal) (m : Result A Refusal) (f : A → Result B Refusal) → Early m → Late o → (m >>= f) ≡ o
    → ((a : A) → m ≡ Ok a → f a ≡ o → C) → C
unfolding ◌>>=◌
past (Err r) (Err s) f early late h go =
    true_is_not_false (sym late ∙ ap (λ q. on_conditions (number_of q)) (sym (stop_injective h)) ∙ early)
past (Ok b) (Err s) f early late h go = stop_is_not_on h
past (Err r) (Ok a) f early late h go = go a refl h
past (Ok b) (Ok a) f early late h go = go a refl h

-- ------------------------------------------------------------------ lines

form_early : (sheet : SheetName) (k : ℕ) → on_conditions (number_of (form sheet k)) ≡ false
unfolding form returned numbers4 on_conditions
form_early program_sheet k = refl
form_early split_sheet k = refl

outside_early : (sheet : SheetName) (k : ℕ) → on_conditions (number_of (outside sheet k)) ≡ false
unfolding outside returned numbers4 on_conditions
outside_early program_sheet k = refl
outside_early split_sheet k = refl

miscounted_early : (sheet : SheetName) (k : ℕ) → on_conditions (number_of (miscounted sheet k)) ≡ false
unfolding miscounted returned numbers4 on_conditions
miscounted_early program_sheet k = refl
miscounted_early split_sheet k = refl

faulty_early : (sheet : SheetName) (w : Fault) (k : ℕ) → on_conditions (number_of (faulty sheet w k)) ≡ false
unfolding faulty returned numbers4 on_conditions
faulty_early sheet bad_form k = form_early sheet k
faulty_early sheet bad_range k = outside_early sheet k
faulty_early sheet no_start k = refl
faulty_early sheet freelock k = refl
faulty_early sheet no_kept k = refl

passed_early : {A : Type 0} (sheet : SheetName) (k : ℕ) (rest : List Line) (x : LineResult A) → Early (passed sheet k rest x)
unfolding passed
passed_early sheet k rest (good a) = tt
passed_early sheet k rest (bad w) = faulty_early sheet w k

line_early : {A : Type 0} (sheet : SheetName) (read : List Field → LineResult A) (k : ℕ) (ls : List Line) → Early (next_line sheet read k ls)
unfolding next_line
line_early sheet read k [] = miscounted_early sheet k
line_early sheet read k (unclosed l ∷ rest) = form_early sheet (k + 1)
line_early sheet read k (closed l ∷ rest) = passed_early sheet (k + 1) rest (read (fields l))

next_early : {A : Type 0} (sheet : SheetName) (read : List Field → LineResult A) (place : Place) → Early (read_line sheet read place)
unfolding read_line
next_early sheet read place = line_early sheet read place.last place.rest

all_early : {A : Type 0} (sheet : SheetName) (reads : List (List Field → LineResult A)) (place : Place) → Early (read_lines sheet reads place)
unfolding read_lines
all_early sheet [] place = tt
all_early sheet (read ∷ reads) place =
    early_bind _ _ (next_early sheet read place) λ a. early_bind _ _ (all_early sheet reads a.1) λ as'. tt

begin_early : (sheet : SheetName) (ls : List Line) → Early (begin sheet ls)
unfolding begin
begin_early sheet [] = form_early sheet 1
begin_early sheet (l ∷ rest) = tt

end_early : (sheet : SheetName) (place : Place) → Early (end sheet place)
unfolding end
end_early sheet place = early_demand _ _ (miscounted_early sheet (place.last + 1))

-- ------------------------------------------------------------------ the sheets

first_early : (last : ℕ) (items : List Item) (es : List Expr) → Early (first_listed last items es)
unfolding first_listed returned numbers4 on_conditions
first_early last items [] = refl
first_early last items (e ∷ es) = tt

expression_early : (last i : ℕ) (items : List Item) → Early (expression last i items)
unfolding expression
expression_early last i items = first_early last items _

no_line_early : (items : List Item) → Early (no_line_left items)
unfolding no_line_left returned numbers4 on_conditions
no_line_early [] = tt
no_line_early (x ∷ items) = refl

structure_early : (last k i : ℕ) (items : List Item) → Early (structure last k i items)
unfolding structure returned numbers4 on_conditions
structure_early last zero i items =
    early_bind _ _ (expression_early last i items) λ e. early_bind _ _ (no_line_early e.1) λ done. tt
structure_early last (suc k) i [] = refl
structure_early last (suc k) i (step s ∷ items) = refl
structure_early last (suc k) i (proc x l ∷ items) =
    early_bind _ _ (expression_early last i items) λ e. early_bind _ _ (structure_early last k (i + size e.0) e.1) λ others. tt

module _ (count : ℕ) where
  step_early : (r : Role) (k v : ℕ) (inside bound : List ℕ) → Early (scope_step count r k v inside bound)
  unfolding scope_step returned numbers4 on_conditions
  step_early Binds k v inside bound = early_choice (among v bound) (Err (Rebound k)) (Ok (v ∷ bound)) refl tt
  step_early Uses k v inside bound = early_choice (among v inside) (Ok bound) (Err (Unbound k)) tt refl
  step_early Calls k f inside bound = early_choice (ltb f count) (Ok bound) (Err (NoProcedure k)) tt refl
  step_early Neither k v inside bound = tt

  scope_early : (e : Expr) (inside bound : List ℕ) → Early (scope count e inside bound)
  unfolding scope
  scope_early (leaf w k v) inside bound = step_early _ k.line v inside bound
  scope_early (unary w k v e) inside bound = early_bind _ _ (step_early _ k.line v inside bound) λ b. scope_early e inside b
  scope_early (binary w k v e₁ e₂) inside bound =
      early_bind _ _ (step_early _ k.line v inside bound) λ b.
      early_bind _ _ (scope_early e₁ inside b) λ b₁. scope_early e₂ _ b₁

  scopes_early : (ps : List Procedure) (root : Expr) (bound : List ℕ) → Early (scopes count ps root bound)
  unfolding scopes
  scopes_early [] root bound = scope_early root [] bound
  scopes_early (p ∷ ps) root bound =
      early_bind _ _ (step_early Binds p.line p.parameter [] bound) λ b.
      early_bind _ _ (scope_early p.body (p.parameter ∷ []) b) λ b₁. scopes_early ps root b₁

pub program_early : (text : List ℕ) → Early (program text)
unfolding program
program_early text =
    early_bind _ _ (begin_early program_sheet _) λ top.
    early_bind _ _ (next_early program_sheet _ top) λ N.
    early_bind _ _ (all_early program_sheet _ N.1) λ items.
    early_bind _ _ (end_early program_sheet items.1) λ done.
    early_bind _ _ (structure_early items.1.last N.0.procedures 0 items.0) λ found.
    early_bind _ _ (scopes_early N.0.procedures found.0 found.1 []) λ bound. tt

pub split_early : (purpose : Purpose) (P : Program) (text : List ℕ) → Early (split purpose P text)
unfolding split
split_early purpose P text =
    early_bind _ _ (begin_early split_sheet _) λ top.
    early_bind _ _ (next_early split_sheet _ top) λ H.
    early_bind _ _ (all_early split_sheet _ H.1) λ types.
    early_bind _ _ (all_early split_sheet _ types.1) λ maps.
    early_bind _ _ (all_early split_sheet _ maps.1) λ signatures.
    early_bind _ _ (all_early split_sheet _ signatures.1) λ rows.
    early_bind _ _ (end_early split_sheet rows.1) λ done. tt

all_take_enough_early : (S : Split) (k : ℕ) (xs : List TypeLine) → Early (all_take_enough S k xs)
unfolding all_take_enough returned numbers4 on_conditions
all_take_enough_early S k [] = tt
all_take_enough_early S k (x ∷ xs) =
    early_bind _ _ (early_demand (takes_enough S x) (LockTakesLess k) refl) λ enough. all_take_enough_early S (k + 1) xs

pub locks_early : (S : Split) → Early (locks_take_enough S)
unfolding locks_take_enough
locks_early S = all_take_enough_early S 2 S.types

over_early : (k : ℕ) (o : Option ℕ) → Early (refuse_over k o)
unfolding refuse_over returned numbers4 on_conditions
over_early k None = tt
over_early k (Some l) = refl

pub start_early : (P : Program) (S : Split) → Early (start_at_most_one P S)
unfolding start_at_most_one
start_early P S = over_early _ _
