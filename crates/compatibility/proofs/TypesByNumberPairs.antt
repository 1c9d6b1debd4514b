-- The check before request (i) of document 02 on known pairs: what it gave them.
use mathlib.Core.Path.{◌≡◌, refl}
use mathlib.Core.List.{List, ◌∷◌, ◌++◌, map}
use Rattle.spec.specs.Workspace.{workspace_size}
use Rattle.spec.specs.Verdict.{numbers4, returned}
use Rattle.spec.specs.Pairs.KnownPairs.{Pair, barred, ◌with◌is◌, P, S, Z, starred, found}
use Rattle.spec.specs.Pairs.EdgeConditions.{rows, var_rows, if_rows, ref_rows, read_rows, write_rows}
use Rattle.spec.specs.declared.Returned.{Returned}
use Rattle.compatibility.specs.Judging.{sheets_by, checked_by, verdict_by}
use Rattle.compatibility.specs.TypesByNumber.{agree_by_number, conditions_by_number, procedure_conditions_by_number, claims_by_number, claims_of_procedure_by_number, claims_of_procedures_by_number, claims_of_by_number, ruled_by_number, verdict_by_number}

pub answered_by_number : Pair → Returned
answered_by_number r = returned (verdict_by_number workspace_size (barred r.program) (barred r.split))

pub two_numbers : Pair
two_numbers = "P,3|let,0|int,0|int,0|" with "C,1,1,2,1|int,0,0|int,0,0|0|1,0,|0,0,|0,0,|" is numbers4 0 0 0 0

-- the starred pairs, and the edge rows of words that compare two types
pub comparing : List Pair
comparing = starred ++ var_rows ++ if_rows ++ ref_rows ++ read_rows ++ write_rows

-- the check before request (i) of document 02 gives these the same answers; it refuses an int under two numbers
pub pairs_by_number : map answered_by_number (two_numbers ∷ comparing) ≡ numbers4 31 2 1 0 ∷ map (λ (r : Pair). r.expected) comparing
unfolding found agree_by_number conditions_by_number procedure_conditions_by_number claims_by_number claims_of_procedure_by_number claims_of_procedures_by_number claims_of_by_number ruled_by_number sheets_by checked_by verdict_by verdict_by_number ◌with◌is◌ answered_by_number two_numbers P S Z starred rows var_rows if_rows ref_rows read_rows write_rows comparing
pairs_by_number = refl
