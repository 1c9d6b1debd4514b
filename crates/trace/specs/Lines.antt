-- A line of a trace, by its fields and as what the code hands back.
use Rattle.std.specs.Prelude.{List, [], ◌∷◌, ℕ, ◌+◌, ◌-◌, eqb, ltb, length, get_or, Option, None, Some}
use Rattle.spec.specs.Choice.{when◌then◌else◌}
use Rattle.spec.specs.Text.{Field, numeral}
use Rattle.spec.specs.Reading.{numerals}
use Rattle.lexer.specs.Views.{width, first_field}
use Rattle.lexer.specs.Numbers.{stored}
use Rattle.trace.specs.declared.Move.{Move}
use Rattle.trace.specs.declared.Closed.{Closed}

-- two numerals, and the byte behind the line
unfoldable pub move_of : Option (List ℕ) → (next : ℕ) → Option Move
move_of None next = None
move_of (Some []) next = None
move_of (Some (t ∷ [])) next = None
move_of (Some (t ∷ c ∷ [])) next = Some (record { thread = stored t; choice = stored c; next = next })
move_of (Some (t ∷ c ∷ x ∷ xs)) next = None

-- the fields of a closed line and what is left behind it, in a text of n bytes
unfoldable pub move_in : (n : ℕ) → Option (List Field × List ℕ) → Option Move
move_in n None = None
move_in n (Some found) = move_of (numerals found.0) (n - length found.1)

-- ------------------------------------------------------------------ field by field

unfoldable pub closed_number : Option ℕ → (next : ℕ) → Option Closed
closed_number None next = None
closed_number (Some n) next = Some (record { number = stored n; next = next })

-- the numeral in front of a text, which begins at that byte, where the byte `end` closes it
unfoldable pub closed_by : (end from : ℕ) → List ℕ → Option Closed
closed_by end from t =
    when ltb (width t) (length t)
    then (when eqb (get_or t (width t) 0) end then closed_number (numeral (first_field t)) (from + width t + 1) else None)
    else None

-- the choice behind a thread
unfoldable pub choice_by : (thread : ℕ) → Option Closed → Option Move
choice_by thread None = None
choice_by thread (Some c) = Some (record { thread = thread; choice = c.number; next = c.next })
