-- From what the stages found to the verdict.
use Rattle.std.proofs.Common.{◌≡◌, sym, ap, ◌∙◌, List, ℕ, ◌≤◌, Result, Ok, Err, arith}
use borrow.Author.Tests.{le-leb}
use Rattle.spec.specs.Reading.{◌>>=◌, require}
use Rattle.spec.specs.Workspace.{workspace_size}
use Rattle.spec.specs.Verdict.{checked, answer, verdict}
use Rattle.spec.specs.declared.Purpose.TheVariants.{Check}
use Rattle.spec.specs.declared.Refusal.{Refusal}
use Rattle.spec.proofs.Reasons.{sheets_refused, rules_decide}
use Rattle.workspace.specs.Layout.{work_size}
use Rattle.sheets.specs.declared.Held.{Held}
use Rattle.sheets.specs.Answers.{SheetsHeld}
use Rattle.split.proofs.Found.{types_decodes}
use Rattle.walk.specs.Contract.{ruled_for, Ruled}
use Rattle.spec.specs.Verdict.{sheets}

-- a sheet is refused
pub sheet_refused : (p s : List ℕ) (r : Refusal) → sheets Check p s ≡ Err r → answer (Err r) ≡ verdict workspace_size p s
unfolding workspace_size answer
sheet_refused p s r e = sym (sheets_refused work_size p s (omega arith) _ e)

-- both are held, and the rules asked
pub sheets_ruled : (p s w w' : List ℕ) (held : Held) (o : Result (Unit {0}) Refusal) → SheetsHeld Check p s w held.steps held.procedures held.header
    → Ruled w Check held.steps held.procedures held.header o w' → answer o ≡ verdict workspace_size p s
unfolding workspace_size ruled_for
sheets_ruled p s w w' held o H R =
    ap answer (R.answers H.P H.S H.holds.sheets (types_decodes H.S held.header H.holds.headed))
    ∙ sym (rules_decide work_size p s (omega arith) H.P H.S H.read)

-- any work space that is long enough gives the same verdict
pub room_enough : (room : ℕ) (p s : List ℕ) → work_size ≤ room → verdict workspace_size p s ≡ verdict room p s
unfolding verdict checked require ◌>>=◌ workspace_size
room_enough room p s h = rw (le-leb _ _ h)
