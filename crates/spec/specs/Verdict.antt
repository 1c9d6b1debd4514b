-- The answer to a pair of sheets, in the order of document 01's reasons to stop.
use Rattle.std.specs.Prelude.{List, [], ◌∷◌, Bool, true, ◌&&◌, ℕ, ◌+◌, leb, length, Option, None, Some, Result, Ok, Err}
use Rattle.spec.specs.declared.Refusal.{Refusal}
use Rattle.spec.specs.Choice.{when◌then◌else◌}
use Rattle.spec.specs.Reading.{◌>>=◌, require}
use Rattle.spec.specs.Expression.{line_of}
use Rattle.spec.specs.Program.{Program, program, program_limit}
use Rattle.spec.specs.Split.{Split, split, split_limit, map_at}
use Rattle.spec.specs.Maps.{◌≥ᵐ◌, holds_everywhere, over_whole}
use Rattle.spec.specs.Kinds.{lock, is, first_map, second_map}
use Rattle.spec.specs.Conditions.{start_map}
use Rattle.spec.specs.StepContexts.{claims_of, first_false, is_type, only}
use Rattle.spec.specs.Workspace.{workspace_size}
use Rattle.spec.specs.declared.Returned.{Returned}
use Rattle.spec.specs.declared.Answer.{Answer}
use Rattle.spec.specs.declared.Answer.TheVariants.{Accept, Refuse}
use Rattle.spec.specs.declared.TypeLine.{TypeLine}
use Rattle.spec.specs.declared.Refusal.TheVariants.{ShortWorkspace, LongProgram, ProgramForm, ProgramRange, ProgramLines, Unbound, Rebound, LongSplit, SplitForm, SplitRange, SplitLines, NoStart, OverOne, TypeFalse, FlowFalse, AccessFalse, NoAfterMaps, TooLarge, TooManyMaps, LockTakesLess, Freelock, NoProcedure, NoKept}
use Rattle.spec.specs.declared.Purpose.{Purpose}
use Rattle.spec.specs.declared.Purpose.TheVariants.{Check}

-- 44, at a type line: "a lock line whose out is below its in at some location"; "lowest such line first"
module _ (S : Split) where
  unfoldable pub takes_enough : TypeLine → Bool
  takes_enough x = when is lock x then holds_everywhere (map_at S (second_map x) ≥ᵐ map_at S (first_map x)) else true

  -- of the types from line k on
  unfoldable pub all_take_enough : (k : ℕ) → List TypeLine → Result (Unit {0}) Refusal
  all_take_enough k [] = Ok tt
  all_take_enough k (x ∷ xs) = do
    enough ← require (takes_enough x) (LockTakesLess k)
    all_take_enough (k + 1) xs

  -- types begin at line 2
  unfoldable pub locks_take_enough : Result (Unit {0}) Refusal
  locks_take_enough = all_take_enough 2 S.types

-- 30, at the root's line: the start is over the whole somewhere
unfoldable pub refuse_over : (line : ℕ) → Option ℕ → Result (Unit {0}) Refusal
refuse_over k None = Ok tt
refuse_over k (Some l) = Err (OverOne k (record { 0 = l }))

unfoldable pub start_at_most_one : Program → Split → Result (Unit {0}) Refusal
start_at_most_one P S = refuse_over (line_of P.root) (over_whole S.header.denominator 0 (start_map S))

-- 31 to 33
unfoldable pub conditions_hold : Program → Split → Result (Unit {0}) Refusal
conditions_hold P S = first_false (claims_of S P)

-- 31 alone, as filling asks it: the first (T) condition that is false, whatever flow conditions are false before it
unfoldable pub type_conditions_hold : Program → Split → Result (Unit {0}) Refusal
type_conditions_hold P S = first_false (only is_type (claims_of S P))

-- both sheets, 10; 11 to 15, 45 and 49; 20; 21 to 23, 40 and 50
unfoldable pub sheets : Purpose → (program_text split_text : List ℕ) → Result (Program × Split) Refusal
sheets purpose program_text split_text = do
  fits ← require (leb (length program_text) program_limit) LongProgram
  P ← program program_text
  fits' ← require (leb (length split_text) split_limit) LongSplit
  S ← split purpose P split_text
  Ok (P, S)

-- 1; both sheets; 44; 30; 31 to 33
unfoldable pub checked : (room : ℕ) → (program_text split_text : List ℕ) → Result (Unit {0}) Refusal
checked room program_text split_text = do
  enough ← require (leb workspace_size room) ShortWorkspace
  (P, S) ← sheets Check program_text split_text
  locks ← locks_take_enough S
  whole ← start_at_most_one P S
  conditions_hold P S

unfoldable pub answer : Result (Unit {0}) Refusal → Answer
answer (Err r) = Refuse r
answer (Ok a) = Accept

-- the answer to a pair of texts, with a work space of `room` numbers
unfoldable pub verdict : (room : ℕ) → (program_text split_text : List ℕ) → Answer
verdict room program_text split_text = answer (checked room program_text split_text)

-- ------------------------------------------------------------------ the returned numbers

unfoldable pub numbers4 : (number line condition location : ℕ) → Returned
numbers4 a b c d = record { number = a; line = b; condition = c; location = d }

-- document 01's table "Reasons to stop", a row a case, and the reasons of document 02; 41 to 43 are those of filling alone
unfoldable pub returned : Answer → Returned
returned Accept = numbers4 0 0 0 0
returned (Refuse ShortWorkspace) = numbers4 1 0 0 0
returned (Refuse LongProgram) = numbers4 10 0 0 0
returned (Refuse (ProgramForm k)) = numbers4 11 k 0 0
returned (Refuse (ProgramRange k)) = numbers4 12 k 0 0
returned (Refuse (ProgramLines k)) = numbers4 13 k 0 0
returned (Refuse (Unbound k)) = numbers4 14 k 0 0
returned (Refuse (Rebound k)) = numbers4 15 k 0 0
returned (Refuse LongSplit) = numbers4 20 0 0 0
returned (Refuse (SplitForm k)) = numbers4 21 k 0 0
returned (Refuse (SplitRange k)) = numbers4 22 k 0 0
returned (Refuse (SplitLines k)) = numbers4 23 k 0 0
returned (Refuse (NoStart k)) = numbers4 40 k 0 0
returned (Refuse (OverOne k l)) = numbers4 30 k 0 l.0
returned (Refuse (TypeFalse k i)) = numbers4 31 k i 0
returned (Refuse (FlowFalse k i l)) = numbers4 32 k i l.0
returned (Refuse (AccessFalse k i p)) = numbers4 33 k i p.0
returned (Refuse NoAfterMaps) = numbers4 41 0 0 0
returned (Refuse TooLarge) = numbers4 42 0 0 0
returned (Refuse TooManyMaps) = numbers4 43 0 0 0
returned (Refuse (LockTakesLess k)) = numbers4 44 k 0 0
returned (Refuse (Freelock k)) = numbers4 45 k 0 0
returned (Refuse (NoProcedure k)) = numbers4 49 k 0 0
returned (Refuse (NoKept k)) = numbers4 50 k 0 0

-- the numbers of a refusal on the conditions: 31 (T), 32 (F), 33 (A)
unfoldable pub on_conditions : (number : ℕ) → Bool
on_conditions n = leb 31 n && leb n 33
