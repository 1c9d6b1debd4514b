-- Pairs with numbers at the old limits and past them: what they used to get, and what they get.
use mathlib.Core.Path.{◌≡◌, refl}
use mathlib.Core.List.{List, [], ◌∷◌, ◌++◌, map}
use Rattle.spec.specs.Workspace.{workspace_size}
use Rattle.spec.specs.Verdict.{numbers4, returned}
use Rattle.spec.specs.Pairs.KnownPairs.{Pair, barred, ◌with◌is◌, found, P, S, Z, starred}
use Rattle.spec.specs.declared.Returned.{Returned}
use Rattle.compatibility.specs.Judging.{program_by, split_by, sheets_by, checked_by, verdict_by}
use Rattle.compatibility.specs.SevenDigits.{over_seven, by_seven, narrowed, million_at_most, program_by_seven, verdict_by_seven}

-- one step; each used to get the answer listed
unfoldable pub limits : List Pair
limits =
    ("P,1|int,0|" with "C,1000000,1,1,1|int,0,0|1000000|0,0,|" is numbers4 0 0 0 0) ∷
    ("P,1|int,9999999|" with "" is numbers4 12 2 0 0) ∷
    ("P,1|var,1000000000|" with "" is numbers4 11 2 0 0) ∷
    ("P,1|int,0|" with "C,1000001,1,1,1|int,0,0|0|0,0,|" is numbers4 22 1 0 0) ∷
    ("P,1|int,0|" with "C,10000000,1,1,1|int,0,0|0|0,0,|" is numbers4 21 1 0 0) ∷
    ("P,1|int,0|" with "C,1000000,1,1,1|int,0,0|1000001|0,0,|" is numbers4 22 3 0 0) ∷
    ("P,1|int,0|" with "C,1000000,1,1,1|int,0,0|10000000|0,0,|" is numbers4 21 3 0 0) ∷
    []

unfoldable pub answered_by_seven : Pair → Returned
answered_by_seven r = returned (verdict_by_seven workspace_size (barred r.program) (barred r.split))

-- "a ten-digit variable, formerly refused on form, is now refused on range"
pub record LimitsAnswered : Type 0 where
  pub formerly : map answered_by_seven (limits ++ starred) ≡ map (λ (r : Pair). r.expected) (limits ++ starred)
  pub now :
      map found limits
      ≡ numbers4 0 0 0 0 ∷ numbers4 12 2 0 0 ∷ numbers4 12 2 0 0 ∷ numbers4 0 0 0 0 ∷ numbers4 0 0 0 0 ∷ numbers4 30 2 0 0 ∷ numbers4 30 2 0 0 ∷ []

pub limits_answered : LimitsAnswered
unfolding found ◌with◌is◌ P S Z starred limits answered_by_seven program_by split_by sheets_by checked_by verdict_by over_seven by_seven narrowed million_at_most program_by_seven verdict_by_seven
limits_answered = record { formerly = refl; now = refl }
