-- What a well-formed sheet is, said of the text as a whole. No refusal is named here; proofs/WellFormed.antt shows that
-- these are the sheets that meet none of 10 to 15, 45 and 49, none of 20 to 23, 40 and 50.
use Rattle.std.specs.Prelude.{◌≡◌, List, [], ◌∷◌, ◌++◌, map, true, false, ℕ, ◌+◌, ◌≤◌, ◌<◌, length, replicate}
use Rattle.spec.specs.Text.{Line, closed, lines, Field, fields}
use Rattle.spec.specs.Reading.{LineResult, good}
use Rattle.spec.specs.Words.{role, binding}
use Rattle.spec.specs.Expression.{Step, Expr, leaf, unary, binary, size, Item, step, proc, steps_among, Procedure, among}
use Rattle.spec.specs.Program.{Program, program_limit, count_line, item_lines}
use Rattle.spec.specs.Split.{Split, split_limit, header_line, type_lines, map_line, signature_line, row_line}
use Rattle.spec.specs.declared.Purpose.{Purpose}
use Rattle.spec.specs.declared.Role.{Role}
use Rattle.spec.specs.declared.Role.TheVariants.{Binds, Uses, Calls, Neither}
use Rattle.spec.specs.declared.ProgramHeading.{ProgramHeading}
use Rattle.spec.specs.declared.Word.TheVariants.{Leaf, Unary, Binary}

-- Shows reads ls as rest: the lines ls begin with a closed line for each way of reading, each line shows its entry of as,
-- and rest is behind them
pub data Parses {A : Type 0} : List (List Field → LineResult A) → List Line → List A → List Line → Type 0 where
  nothing : {rest : List Line} → Parses [] rest [] rest
  line : {read : List Field → LineResult A} {reads : List (List Field → LineResult A)} {l : List ℕ} {ls rest : List Line} {a : A} {as' : List A}
      → read (fields l) ≡ good a
      → Parses reads ls as' rest
      → Parses (read ∷ reads) (closed l ∷ ls) (a ∷ as') rest

-- ------------------------------------------------------------------ the expression

-- the steps of an expression in prefix order
unfoldable pub prefix : Expr → List Step
prefix (leaf w k v) = record { word = Leaf w; value = v; line = k.line } ∷ []
prefix (unary w k v e) = record { word = Unary w; value = v; line = k.line } ∷ prefix e
prefix (binary w k v e₁ e₂) = record { word = Binary w; value = v; line = k.line } ∷ (prefix e₁ ++ prefix e₂)

-- the indexes of an expression's steps count up from i, in prefix order
unfoldable pub IndexesFrom : (i : ℕ) → Expr → Type 0
IndexesFrom i (leaf w k v) = k.index ≡ i
IndexesFrom i (unary w k v e) = (k.index ≡ i) × IndexesFrom (i + 1) e
IndexesFrom i (binary w k v e₁ e₂) = (k.index ≡ i) × IndexesFrom (i + 1) e₁ × IndexesFrom (i + 1 + size e₁) e₂

-- ------------------------------------------------------------------ the program

-- the lines that list an expression
unfoldable pub items_of : Expr → List Item
items_of e = map step (prefix e)

-- "k lines `proc,x`, each followed by its body, then the root expression"
unfoldable pub listing : List Procedure → (root : Expr) → List Item
listing [] root = items_of root
listing (p ∷ ps) root = proc p.parameter p.line ∷ (items_of p.body ++ listing ps root)

-- the indexes count on over the bodies and the root
unfoldable pub NumberedFrom : (i : ℕ) → List Procedure → (root : Expr) → Type 0
NumberedFrom i [] root = IndexesFrom i root
NumberedFrom i (p ∷ ps) root = IndexesFrom i p.body × NumberedFrom (i + size p.body) ps root

-- ------------------------------------------------------------------ variables

-- the variables that steps bind, in line order
unfoldable pub binders : Expr → List ℕ
binders (leaf w k v) = binding (role (Leaf w)) v []
binders (unary w k v e) = binding (role (Unary w)) v (binders e)
binders (binary w k v e₁ e₂) = binding (role (Binary w)) v (binders e₁ ++ binders e₂)

-- those that procedures bind, each with the lets of its body, and those of the root
unfoldable pub all_binders : List Procedure → (root : Expr) → List ℕ
all_binders [] root = binders root
all_binders (p ∷ ps) root = p.parameter ∷ (binders p.body ++ all_binders ps root)

-- no variable twice
unfoldable pub Distinct : List ℕ → Type 0
Distinct [] = Unit {0}
Distinct (v ∷ vs) = (among v vs ≡ false) × Distinct vs

-- of a sheet with `count` procedures
module _ (count : ℕ) where
  -- a step that uses a variable is inside its let's e2, or inside the body of the procedure that binds it; `inside` has the variables of
  -- which that holds here. A step that calls a procedure calls one that is there.
  unfoldable pub StepInside : (inside : List ℕ) → Role → (v : ℕ) → Type 0
  StepInside inside Binds v = Unit {0}
  StepInside inside Uses v = among v inside ≡ true
  StepInside inside Calls f = f < count
  StepInside inside Neither v = Unit {0}

  -- each variable is used only there
  unfoldable pub UsedInside : (inside : List ℕ) → Expr → Type 0
  UsedInside inside (leaf w k v) = StepInside inside (role (Leaf w)) v
  UsedInside inside (unary w k v e) = StepInside inside (role (Unary w)) v × UsedInside inside e
  UsedInside inside (binary w k v e₁ e₂) =
      StepInside inside (role (Binary w)) v × UsedInside inside e₁ × UsedInside (binding (role (Binary w)) v inside) e₂

  -- "A body uses only x and its own lets"
  unfoldable pub AllUsedInside : List Procedure → (root : Expr) → Type 0
  AllUsedInside [] root = UsedInside [] root
  AllUsedInside (p ∷ ps) root = UsedInside (p.parameter ∷ []) p.body × AllUsedInside ps root

-- ------------------------------------------------------------------ the sheets

-- "Line 1 is `P,n` [..]. Then come n lines `word,v`"; "After the header come n + k lines"
unfoldable pub first_item_line : ℕ
first_item_line = 2

-- a well-formed program sheet under a heading, and the program that it lists
pub record WellFormedProgram (text : List ℕ) (P : Program) : Type 0 where
  pub fits : length text ≤ program_limit
  pub first : List ℕ
  pub others : List Line
  pub lined : lines text ≡ closed first ∷ others
  pub heading : ProgramHeading
  pub counted : count_line (fields first)
      ≡ good (record { heading = heading; steps = length P.steps; procedures = length P.procedures })
  pub listed : Parses (item_lines heading first_item_line (length P.steps + length P.procedures)) others (listing P.procedures P.root) []
  pub stepped : P.steps ≡ steps_among (listing P.procedures P.root)
  pub numbering : NumberedFrom 0 P.procedures P.root
  pub bound_once : Distinct (all_binders P.procedures P.root)
  pub used_inside : AllUsedInside (length P.procedures) P.procedures P.root

-- a well-formed split sheet for the procedures and the steps of a program
pub record WellFormedSplit (purpose : Purpose) (P : Program) (text : List ℕ) (S : Split) : Type 0 where
  pub fits : length text ≤ split_limit
  pub first : List ℕ
  pub others : List Line
  pub after_types : List Line
  pub after_maps : List Line
  pub after_signatures : List Line
  pub lined : lines text ≡ closed first ∷ others
  pub headed : header_line purpose (fields first) ≡ good S.header
  pub typed : Parses (type_lines S.header 0 S.header.types) others S.types after_types
  pub mapped : Parses (replicate S.header.maps (map_line S.header)) after_types S.maps after_maps
  pub signed : Parses (replicate (length P.procedures) (signature_line S.header)) after_maps S.signatures after_signatures
  pub rowed : Parses (map (row_line purpose S.header) P.steps) after_signatures S.rows []

-- "both sheets are well formed", and what they say
pub record WellFormedSheets (purpose : Purpose) (program_text split_text : List ℕ) (P : Program) (S : Split) : Type 0 where
  pub program : WellFormedProgram program_text P
  pub split : WellFormedSplit purpose P split_text S
