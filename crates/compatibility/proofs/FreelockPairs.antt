-- Pairs with the word `freelock`: what they used to get, what they get, and that they get with `lock` written what they used to get.
use mathlib.Core.Path.{◌≡◌, refl}
use mathlib.Core.List.{List, [], ◌∷◌, map}
use Prim.Native.Nat.{ℕ}
use Prim.Native.String.{String, ◌++◌}
use Rattle.spec.specs.Workspace.{workspace_size}
use Rattle.spec.specs.Verdict.{numbers4, returned}
use Rattle.spec.specs.Pairs.EdgeConditions.{rows}
use Rattle.spec.specs.declared.Returned.{Returned}
use Rattle.spec.specs.Pairs.KnownPairs.{Pair, barred, ◌with◌is◌, found, Answered}
use Rattle.compatibility.specs.Texts.{◌above◌, joined, on_closed}
use Rattle.compatibility.specs.Judging.{program_by, sheets_by, checked_by, verdict_by}
use Rattle.compatibility.specs.Freelock.{item_line_with_freelock, item_lines_with_freelock, program_with_freelock, verdict_with_freelock, freelock_first, lock_instead, locks_instead}

-- a lock taken by the word w; with `freelock` each used to get the answer listed
unfoldable pub frees : String → List Pair
frees w =
    ("P,2|" ++ w ++ ",0|newlock,0|" with rows "0,0,|3,1,|" is numbers4 0 0 0 0) ∷
    ("P,2|" ++ w ++ ",0|newlock,0|" with rows "1,0,|3,1,|" is numbers4 31 2 1 0) ∷
    ("P,2|" ++ w ++ ",0|newlock,0|" with rows "0,0,|2,1,|" is numbers4 31 2 2 0) ∷
    ("P,2|" ++ w ++ ",0|newlock,0|" with rows "0,1,|3,1,|" is numbers4 32 2 3 0) ∷
    ("P,7|let,0|newlock,0|let,1|" ++ w ++ ",0|var,0|" ++ w ++ ",0|var,0|" with rows "0,3,|3,1,|0,3,|0,0,|3,1,|0,3,|3,0,|" is numbers4 0 0 0 0) ∷
    []

unfoldable pub answered_v1 : Pair → Returned
answered_v1 r = returned (verdict_with_freelock workspace_size (barred r.program) (barred r.split))

unfoldable pub texts_of : List Pair → List (List ℕ)
texts_of rows = map (λ (r : Pair). barred r.program) rows

pub record FreesAnswered : Type 0 where
  pub formerly : map answered_v1 (frees "freelock") ≡ map (λ (r : Pair). r.expected) (frees "freelock")
  pub now : map found (frees "freelock") ≡ numbers4 45 2 0 0 ∷ numbers4 45 2 0 0 ∷ numbers4 45 2 0 0 ∷ numbers4 45 2 0 0 ∷ numbers4 45 5 0 0 ∷ []
  pub with_lock : Answered (frees "lock")
  pub written : map locks_instead (texts_of (frees "freelock")) ≡ texts_of (frees "lock")

pub frees_answered : FreesAnswered
unfolding ◌with◌is◌ found Answered rows item_line_with_freelock item_lines_with_freelock program_with_freelock verdict_with_freelock program_by sheets_by checked_by verdict_by freelock_first lock_instead locks_instead joined ◌above◌ on_closed frees answered_v1 texts_of
frees_answered = record { formerly = refl; now = refl; with_lock = refl; written = refl }
