-- Request (x), "Freelock goes". Before it `freelock` was a word with the conditions of `lock`.
use Rattle.std.specs.Prelude.{◌≡◌, List, [], ◌∷◌, map, Bool, true, false, ◌&&◌, ◌||◌, ℕ, zero, suc, ◌+◌, eqb, leb, drop, Result}
use Rattle.spec.specs.declared.Refusal.{Refusal}
use Rattle.spec.specs.Choice.{when◌then◌else◌}
use Rattle.spec.specs.Text.{bytes, same, lines, Field, fields}
use Rattle.spec.specs.Reading.{LineResult}
use Rattle.spec.specs.Expression.{Item}
use Rattle.spec.specs.Program.{count_line, word_line, item_line, Program}
use Rattle.spec.specs.Split.{split}
use Rattle.spec.specs.Verdict.{conditions_hold, verdict, returned}
use Rattle.spec.specs.declared.Answer.{Answer}
use Rattle.spec.specs.declared.ProgramHeading.{ProgramHeading}
use Rattle.spec.specs.declared.Purpose.TheVariants.{Check}
use Rattle.spec.specs.declared.UnaryWord.TheVariants.{Lock}
use Rattle.spec.specs.declared.Word.TheVariants.{Unary}
use Rattle.compatibility.specs.Texts.{joined, on_closed}
use Rattle.compatibility.specs.Judging.{program_by, verdict_by}

-- ------------------------------------------------------------------ the reading before

-- `freelock,v` was read as `lock,v`; other lines are read as they are now
unfoldable pub item_line_with_freelock : ProgramHeading → (line : ℕ) → List Field → LineResult Item
item_line_with_freelock h k [] = item_line h k []
item_line_with_freelock h k (f ∷ fs) = when same f (bytes "freelock") then word_line k (Unary Lock) fs else item_line h k (f ∷ fs)

unfoldable pub item_lines_with_freelock : ProgramHeading → (line n : ℕ) → List (List Field → LineResult Item)
item_lines_with_freelock h k zero = []
item_lines_with_freelock h k (suc n) = item_line_with_freelock h k ∷ item_lines_with_freelock h (k + 1) n

unfoldable pub program_with_freelock : List ℕ → Result Program Refusal
program_with_freelock = program_by count_line item_lines_with_freelock

unfoldable pub verdict_with_freelock : (room : ℕ) → (program_text split_text : List ℕ) → Answer
verdict_with_freelock = verdict_by program_with_freelock (split Check) conditions_hold

-- ------------------------------------------------------------------ the owner's change

unfoldable pub freelock_first : List Field → Bool
freelock_first [] = false
freelock_first (f ∷ fs) = same f (bytes "freelock")

-- a line whose word is `freelock` loses its first four bytes
unfoldable pub lock_instead : List ℕ → List ℕ
lock_instead l = when freelock_first (fields l) then drop 4 l else l

-- a text with each word `freelock` changed to `lock`
unfoldable pub locks_instead : List ℕ → List ℕ
locks_instead text = joined (map (on_closed lock_instead) (lines text))

-- ACCEPT and 30 to 33
unfoldable pub judged_by_rules : Answer → Bool
judged_by_rules a = let n = (returned a).number in eqb n 0 || (leb 30 n && leb n 33)

-- "An owner may write `lock` there: a pair that used to get ACCEPT or 30 to 33 gets that same answer with each such word changed"
abbrev pub LockKeepsTheAnswer : Type 0
LockKeepsTheAnswer =
    (room : ℕ) (p s : List ℕ) → judged_by_rules (verdict_with_freelock room p s) ≡ true
    → verdict room (locks_instead p) s ≡ verdict_with_freelock room p s
