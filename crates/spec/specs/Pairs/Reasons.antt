-- Every answer with its four numbers, worked out by hand from document 01's "Reasons to stop" and document 02: at line 7, condition 3 and
-- location 2 where a reason has them.
use Rattle.std.specs.Prelude.{◌≡◌, List, [], ◌∷◌, map}
use Rattle.spec.specs.Verdict.{numbers4, returned}
use Rattle.spec.specs.declared.Answer.{Answer}
use Rattle.spec.specs.declared.Answer.TheVariants.{Accept, Refuse}
use Rattle.spec.specs.declared.Returned.{Returned}
use Rattle.spec.specs.declared.Refusal.TheVariants.{ShortWorkspace, LongProgram, ProgramForm, ProgramRange, ProgramLines, Unbound, Rebound, LongSplit, SplitForm, SplitRange, SplitLines, NoStart, OverOne, TypeFalse, FlowFalse, AccessFalse, NoAfterMaps, TooLarge, TooManyMaps, LockTakesLess, Freelock, NoProcedure, NoKept}

unfoldable pub reasons : List (Answer × Returned)
reasons =
    (Accept, numbers4 0 0 0 0) ∷
    (Refuse ShortWorkspace, numbers4 1 0 0 0) ∷
    (Refuse LongProgram, numbers4 10 0 0 0) ∷
    (Refuse (ProgramForm 7), numbers4 11 7 0 0) ∷
    (Refuse (ProgramRange 7), numbers4 12 7 0 0) ∷
    (Refuse (ProgramLines 7), numbers4 13 7 0 0) ∷
    (Refuse (Unbound 7), numbers4 14 7 0 0) ∷
    (Refuse (Rebound 7), numbers4 15 7 0 0) ∷
    (Refuse LongSplit, numbers4 20 0 0 0) ∷
    (Refuse (SplitForm 7), numbers4 21 7 0 0) ∷
    (Refuse (SplitRange 7), numbers4 22 7 0 0) ∷
    (Refuse (SplitLines 7), numbers4 23 7 0 0) ∷
    (Refuse (OverOne 7 (record { 0 = 2 })), numbers4 30 7 0 2) ∷
    (Refuse (TypeFalse 7 3), numbers4 31 7 3 0) ∷
    (Refuse (FlowFalse 7 3 (record { 0 = 2 })), numbers4 32 7 3 2) ∷
    (Refuse (AccessFalse 7 3 (record { 0 = 2 })), numbers4 33 7 3 2) ∷
    (Refuse (NoStart 7), numbers4 40 7 0 0) ∷
    (Refuse NoAfterMaps, numbers4 41 0 0 0) ∷
    (Refuse TooLarge, numbers4 42 0 0 0) ∷
    (Refuse TooManyMaps, numbers4 43 0 0 0) ∷
    (Refuse (LockTakesLess 7), numbers4 44 7 0 0) ∷
    (Refuse (Freelock 7), numbers4 45 7 0 0) ∷
    (Refuse (NoProcedure 7), numbers4 49 7 0 0) ∷
    (Refuse (NoKept 7), numbers4 50 7 0 0) ∷
    []

-- each answer returns its row's numbers
unfoldable pub Returns : List (Answer × Returned) → Type 0
Returns rows = map (λ (r : Answer × Returned). returned r.0) rows ≡ map (λ (r : Answer × Returned). r.1) rows
