-- A loop that stores what counted lines say: what it has stored after some of them, and what it leaves at its end.
use Rattle.std.proofs.Common.{Ok, Err}
use mathlib.Core.Path.{◌≡◌, refl, ap}
use mathlib.Core.List.{List, [], ◌∷◌, ◌++◌, map}
use Prim.Native.Nat.{ℕ, zero, suc, ◌+◌, ◌≤◌, ◌<◌}
use lib.ListN.{replicate}
use Rattle.spec.specs.Text.{Field}
use Rattle.spec.specs.Reading.{split_sheet, LineResult, Place, read_line, read_lines}
use Rattle.spec.specs.Expression.{Step}
use Rattle.spec.specs.Split.{type_line, type_lines, map_line, signature_line, row_line}
use Rattle.spec.specs.declared.Header.{Header}
use Rattle.spec.specs.declared.Purpose.{Purpose}
use Rattle.spec.specs.declared.Refusal.{Refusal}
use Rattle.lexer.specs.Cursors.{Placed, place_at}
use Rattle.lexer.specs.declared.Cursor.{Cursor}
use Rattle.lexer.proofs.LoopSteps.{numbered, same_numbered, LoopStep, first_loop_step, loop_step_on, loop_step_stops, loop_steps_done, loop_steps_counted}
use Rattle.workspace.specs.Region.{ChangedWithin}
use Rattle.workspace.specs.Steps.{step_at, steps_from}
use Rattle.workspace.proofs.Region.{changed_nothing, changed_then}
use Rattle.split_lines.specs.TypeLines.{cells, cell_line}
use Rattle.split_lines.specs.RowLines.{word_line}
use Rattle.split.specs.Stored.{LinesStored}

-- ------------------------------------------------------------------ ways of reading, by number

pub types_numbered : (H : Header) (k n : ℕ) → type_lines H k n ≡ numbered (type_line H) k n
unfolding type_lines numbered
types_numbered H k zero = refl
types_numbered H k (suc n) = ap (λ (r : List _). type_line H k ∷ r) (types_numbered H (k + 1) n)

pub maps_numbered : (H : Header) (n : ℕ) → replicate n (map_line H) ≡ numbered (λ m. cell_line H.locations) 0 n
unfolding map_line cell_line cells
maps_numbered H n = same_numbered (map_line H) 0 n

pub signatures_numbered : (H : Header) (k : ℕ) → replicate k (signature_line H) ≡ numbered (λ f. signature_line H) 0 k
signatures_numbered H k = same_numbered (signature_line H) 0 k

-- a row is read by its step's word, whatever its step's number
by_word : (purpose : Purpose) (H : Header) (s : Step) (fs : List Field) → row_line purpose H s fs ≡ word_line purpose H s.word fs
unfolding word_line row_line
by_word purpose H s [] = refl
by_word purpose H s (t ∷ []) = refl
by_word purpose H s (t ∷ m ∷ []) = refl
by_word purpose H s (t ∷ m ∷ [] ∷ []) = refl
by_word purpose H s (t ∷ m ∷ (b ∷ f) ∷ []) = refl
by_word purpose H s (t ∷ m ∷ f ∷ g ∷ fs) = refl

pub rows_numbered : (purpose : Purpose) (H : Header) (w : List ℕ) (k n : ℕ) → map (row_line purpose H) (steps_from w k n) ≡ numbered (λ i. word_line purpose H (step_at w i).word) k n
unfolding steps_from numbered
rows_numbered purpose H w k zero = refl
rows_numbered purpose H w k (suc n) = λ i. (λ fs. by_word purpose H (step_at w k) fs i) ∷ rows_numbered purpose H w (k + 1) n i

-- ------------------------------------------------------------------ a loop that stores

-- After i of n lines, with the cursor at c and the work space w: what was read is stored.
pub record Stage
    {A : Type 0} (read : ℕ → List Field → LineResult A) (Stored : List ℕ → List A → Type 0) (a b n : ℕ)
    (text w₀ : List ℕ) (from : Place) (w : List ℕ) (c : Cursor) (i : ℕ) : Type 0
  where
    pub entries : List A
    pub loop_step : LoopStep split_sheet read n text from c i entries
    pub stored : Stored w entries
    pub changed : ChangedWithin a b w₀ w

pub first_stage : {A : Type 0} {read : ℕ → List Field → LineResult A} {Stored : List ℕ → List A → Type 0} {a b n : ℕ} {text w₀ : List ℕ} {c : Cursor} → Stored w₀ [] → Placed text c
    → Stage read Stored a b n text w₀ (place_at text c) w₀ c 0
first_stage {a = a} {b = b} {w₀ = w₀} s p = record { entries = []; loop_step = first_loop_step p; stored = s; changed = changed_nothing a b w₀ }

module _
    {A : Type 0} {read : ℕ → List Field → LineResult A} {Stored : List ℕ → List A → Type 0} {a b n : ℕ} {text w₀ : List ℕ} {from : Place} {w : List ℕ} {c : Cursor} {i : ℕ}
    (s : Stage read Stored a b n text w₀ from w c i)
  where
    pub stage_on : i < n → {w' : List ℕ} {entry : A} {d : Cursor} → read_line split_sheet (read i) (place_at text c) ≡ Ok (entry, place_at text d) → Placed text d
        → Stored w' (s.entries ++ (entry ∷ [])) → ChangedWithin a b w w' → Stage read Stored a b n text w₀ from w' d (i + 1)
    stage_on h {entry = entry} e p t x = record { entries = s.entries ++ (entry ∷ []); loop_step = loop_step_on s.loop_step h e p; stored = t; changed = changed_then a b s.changed x }

    module _ {reads : List (List Field → LineResult A)} (q : reads ≡ numbered read 0 n) where
      -- a line is refused, whatever was stored of it
      pub stage_stops : i < n → {r : Refusal} → read_line split_sheet (read i) (place_at text c) ≡ Err r → {w' : List ℕ} → ChangedWithin a b w w'
          → LinesStored a b n Stored text (read_lines split_sheet reads from) w₀ w' (Err r)
      stage_stops h e x = record { answered = rw q (loop_step_stops s.loop_step h e); changed = changed_then a b s.changed x }

      -- all of them are read
      pub stages_done : n ≤ i → LinesStored a b n Stored text (read_lines split_sheet reads from) w₀ w (Ok c)
      stages_done h = record {
        answered = (s.entries, rw q (loop_steps_done s.loop_step h), loop_steps_counted s.loop_step h, s.stored, s.loop_step.placed);
        changed = s.changed;
      }
