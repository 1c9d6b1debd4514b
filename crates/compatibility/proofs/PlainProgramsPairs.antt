-- Sheets headed `P`, and one headed `P2`: what they used to get, and what they get.
use mathlib.Core.Path.{◌≡◌, refl}
use mathlib.Core.List.{List, [], ◌∷◌, ◌++◌, map}
use Rattle.spec.specs.Workspace.{workspace_size}
use Rattle.spec.specs.Verdict.{numbers4, returned}
use Rattle.spec.specs.Pairs.KnownPairs.{Pair, barred, ◌with◌is◌, found, P, S, Z, starred}
use Rattle.spec.specs.declared.Returned.{Returned}
use Rattle.compatibility.specs.Judging.{program_by, sheets_by, checked_by, verdict_by}
use Rattle.compatibility.specs.PlainPrograms.{plain_count_line, plain_item_line, plain_item_lines, plain_program, verdict_of_plain}

-- each used to get the answer listed
unfoldable pub plain_pairs : List Pair
plain_pairs =
    ("P2,1,0|int,0|" with "C,1,1,1,1|int,0,0|0|0,0,|" is numbers4 11 1 0 0) ∷
    ("P,2|call,0|int,0|" with "" is numbers4 11 2 0 0) ∷
    ("P,2|proc,0|int,0|" with "" is numbers4 11 2 0 0) ∷
    ("P,2|freelock,0|int,0|" with "" is numbers4 45 2 0 0) ∷
    []

unfoldable pub answered_plain : Pair → Returned
answered_plain r = returned (verdict_of_plain workspace_size (barred r.program) (barred r.split))

pub record PlainAnswered : Type 0 where
  pub formerly : map answered_plain (plain_pairs ++ starred) ≡ map (λ (r : Pair). r.expected) (plain_pairs ++ starred)
  pub now : map found plain_pairs ≡ numbers4 0 0 0 0 ∷ numbers4 11 2 0 0 ∷ numbers4 11 2 0 0 ∷ numbers4 45 2 0 0 ∷ []

pub plain_answered : PlainAnswered
unfolding found ◌with◌is◌ P S Z starred plain_pairs answered_plain program_by sheets_by checked_by verdict_by plain_count_line plain_item_line plain_item_lines plain_program verdict_of_plain
plain_answered = record { formerly = refl; now = refl }
