-- Request (x): with `lock` written for `freelock`, each line of a program is read as it was, and so the sheet.
use Rattle.std.proofs.Common.{Result, Ok, Err}
use mathlib.Core.Path.{◌≡◌, refl, ap, sym, ◌∙◌}
use mathlib.Core.List.{List, [], ◌∷◌, map}
use mathlib.Core.Bool.{Bool, true, false}
use Prim.Native.Nat.{ℕ, zero, suc, ◌+◌, ◌≤◌}
use native.Mathlib.Omega.{arith}
use lib.Dec.{leb}
use lib.ListN.{length, drop, length-append, length-drop, length-map}
use borrow.Author.Tests.{leb-true, le-leb}
use Rattle.spec.specs.declared.Refusal.{Refusal}
use Rattle.spec.specs.Choice.{when◌then◌else◌}
use Rattle.spec.specs.Text.{bytes, same, Line, closed, unclosed, lines, Field, fields, look_up}
use Rattle.spec.specs.Reading.{◌>>=◌, require, LineResult, good, bad, or_bad_form, program_sheet, Place, passed, next_line, read_line, read_lines, begin, end}
use Rattle.spec.specs.Words.{leaf_words, cell_words, lock_words, unary_words, words, words_under}
use Rattle.spec.specs.Expression.{Item}
use Rattle.spec.specs.Program.{program_limit, Counts, program_headings, count_line, item_line, item_lines, Program, program}
use Rattle.spec.specs.declared.ProgramHeading.{ProgramHeading}
use Rattle.spec.specs.declared.ProgramHeading.TheVariants as heading
use Rattle.spec.specs.Split.{Split, split}
use Rattle.spec.specs.Workspace.{workspace_size}
use Rattle.spec.specs.Verdict.{sheets, conditions_hold, checked, answer, verdict, numbers4, returned}
use Rattle.spec.specs.declared.Purpose.TheVariants.{Check}
use Rattle.spec.specs.declared.Refusal.TheVariants.{ShortWorkspace, LongProgram}
use Rattle.spec.proofs.Clashes.{true_is_not_false}
use Rattle.spec.proofs.Tests.{same_equal}
use Rattle.compatibility.proofs.ProgramStages.{after_items, after_count}
use Rattle.compatibility.specs.Texts.{OneLine, ◌above◌, joined, on_closed}
use Rattle.compatibility.specs.Judging.{program_by, sheets_by, checked_by, verdict_by}
use Rattle.compatibility.specs.Freelock.{item_line_with_freelock, item_lines_with_freelock, program_with_freelock, verdict_with_freelock, freelock_first, lock_instead, locks_instead, judged_by_rules, LockKeepsTheAnswer}
use Rattle.compatibility.proofs.Texts.{Lined, no_line, closed_line, last_line, text_lined, lines_joined, joined_lines, field_byte}

-- ------------------------------------------------------------------ one line

lock_behind : (l : List ℕ) (fs : List Field) → fields l ≡ bytes "freelock" ∷ fs → fields (drop 4 l) ≡ bytes "lock" ∷ fs
unfolding bytes
lock_behind l fs h =
    let (l₁, e₁, h₁) = field_byte _ _ fs l h in
    let (l₂, e₂, h₂) = field_byte _ _ fs l₁ h₁ in
    let (l₃, e₃, h₃) = field_byte _ _ fs l₂ h₂ in
    let (l₄, e₄, h₄) = field_byte _ _ fs l₃ h₃ in
    rw (e₁, e₂, e₃, e₄) h₄

-- what is read alike of the two words, and alike of any other, is read alike of the line changed
changed_alike : {A : Type 0} (read read' : List Field → LineResult A)
    → read [] ≡ read' [] → ((fs : List Field) → read (bytes "freelock" ∷ fs) ≡ read' (bytes "lock" ∷ fs))
    → ((f : Field) (fs : List Field) → same f (bytes "freelock") ≡ false → read (f ∷ fs) ≡ read' (f ∷ fs))
    → (l : List ℕ) → read (fields l) ≡ read' (fields (lock_instead l))
unfolding lock_instead freelock_first
changed_alike read read' empty gone other l = by_fields (fields l) refl
  where
    by_word : (f : Field) (fs : List Field) → fields l ≡ f ∷ fs → (b : Bool) → same f (bytes "freelock") ≡ b
        → read (f ∷ fs) ≡ read' (fields (when b then drop 4 l else l))
    by_word f fs e true w =
        let is : f ≡ bytes "freelock" = same_equal f (bytes "freelock") w in
        ap (λ (x : Field). read (x ∷ fs)) is ∙ gone fs ∙ sym (ap read' (lock_behind l fs (e ∙ ap (◌∷ fs) is)))
    by_word f fs e false w = other f fs w ∙ sym (ap read' e)

    by_fields : (fs : List Field) → fields l ≡ fs → read fs ≡ read' (fields (when freelock_first fs then drop 4 l else l))
    by_fields [] e = empty ∙ sym (ap read' e)
    by_fields (f ∷ fs) e = by_word f fs e (same f (bytes "freelock")) refl

freelock_as_lock : (h : ProgramHeading) (k : ℕ) (fs : List Field) → item_line_with_freelock h k (bytes "freelock" ∷ fs) ≡ item_line h k (bytes "lock" ∷ fs)
unfolding item_line_with_freelock item_line or_bad_form look_up words_under words leaf_words unary_words cell_words lock_words same bytes
freelock_as_lock heading.P k fs = refl
freelock_as_lock heading.P2 k fs = refl

item_alike : (h : ProgramHeading) (k : ℕ) (l : List ℕ) → item_line_with_freelock h k (fields l) ≡ item_line h k (fields (lock_instead l))
item_alike h k = changed_alike (item_line_with_freelock h k) (item_line h k) no_fields (freelock_as_lock h k) other
  where
    no_fields : item_line_with_freelock h k [] ≡ item_line h k []
    no_fields = unfold item_line_with_freelock item_line in refl

    other : (f : Field) (fs : List Field) → same f (bytes "freelock") ≡ false → item_line_with_freelock h k (f ∷ fs) ≡ item_line h k (f ∷ fs)
    other f fs w = unfold item_line_with_freelock item_line in rw w

count_alike : (l : List ℕ) → count_line (fields l) ≡ count_line (fields (lock_instead l))
count_alike = changed_alike count_line count_line refl (λ fs. unfold count_line look_up program_headings same bytes in refl) (λ f fs w. refl)

-- ------------------------------------------------------------------ lines in turn

unfoldable changed_place : Place → Place
changed_place p = record { last = p.last; rest = map (on_closed lock_instead) p.rest }

unfoldable moved : {A : Type 0} → A × Place → Result (A × Place) Refusal
moved (a, p) = Ok (a, changed_place p)

module _ {A : Type 0} where
  passed_moved : (k : ℕ) (rest : List Line) (x : LineResult A)
      → passed program_sheet k (map (on_closed lock_instead) rest) x ≡ (passed program_sheet k rest x >>= moved)
  unfolding passed ◌>>=◌ moved changed_place
  passed_moved k rest (good a) = refl
  passed_moved k rest (bad w) = refl

  module _ (read read' : List Field → LineResult A) (alike : (l : List ℕ) → read (fields l) ≡ read' (fields (lock_instead l))) where
    line_moved : (k : ℕ) (ls : List Line)
        → next_line program_sheet read' k (map (on_closed lock_instead) ls) ≡ (next_line program_sheet read k ls >>= moved)
    unfolding next_line ◌>>=◌ on_closed
    line_moved k [] = refl
    line_moved k (unclosed l ∷ ls) = refl
    line_moved k (closed l ∷ ls) =
        ap (passed program_sheet (k + 1) (map (on_closed lock_instead) ls)) (sym (alike l)) ∙ passed_moved (k + 1) ls (read (fields l))

    next_moved : (p : Place) → read_line program_sheet read' (changed_place p) ≡ (read_line program_sheet read p >>= moved)
    unfolding read_line changed_place
    next_moved p = line_moved p.last p.rest

    then_moved : (o : Result (A × Place) Refusal) (more more' : Place → Result (List A × Place) Refusal)
        → ((p : Place) → more' (changed_place p) ≡ (more p >>= moved))
        → (o >>= moved >>= λ (a, after). more' after >>= λ (as', end). Ok (a ∷ as', end))
        ≡ (o >>= (λ (a, after). more after >>= λ (as', end). Ok (a ∷ as', end)) >>= moved)
    unfolding ◌>>=◌ moved
    then_moved (Err r) more more' h = refl
    then_moved (Ok (a, p)) more more' h = rw (h p) (behind (more p))
      where
        behind : (o : Result (List A × Place) Refusal)
            → (o >>= moved >>= λ (as', end). Ok (a ∷ as', end)) ≡ (o >>= (λ (as', end). Ok (a ∷ as', end)) >>= moved)
        behind (Err r) = refl
        behind (Ok (as', q)) = refl

items_moved : (h : ProgramHeading) (k n : ℕ) (p : Place)
    → read_lines program_sheet (item_lines h k n) (changed_place p) ≡ (read_lines program_sheet (item_lines_with_freelock h k n) p >>= moved)
unfolding read_lines item_lines item_lines_with_freelock
items_moved h k zero p = unfold ◌>>=◌ moved in refl
items_moved h k (suc n) p =
    rw (next_moved (item_line_with_freelock h k) (item_line h k) (item_alike h k) p)
    (then_moved (item_line_with_freelock h k) (item_line h k) (item_alike h k) (read_line program_sheet (item_line_with_freelock h k) p)
    (read_lines program_sheet (item_lines_with_freelock h (k + 1) n)) (read_lines program_sheet (item_lines h (k + 1) n)) (items_moved h (k + 1) n))

end_moved : (p : Place) → end program_sheet (changed_place p) ≡ end program_sheet p
unfolding end changed_place
end_moved p = rw (length-map p.rest (on_closed lock_instead)) refl

-- ------------------------------------------------------------------ the sheet

tree_moved : (k : ℕ) (o : Result (List Item × Place) Refusal) → (o >>= moved >>= after_items k) ≡ (o >>= after_items k)
unfolding ◌>>=◌ moved after_items
tree_moved k (Err r) = refl
tree_moved k (Ok (items, p)) = rw (end_moved p) (unfold changed_place in refl)

count_moved : (o : Result (Counts × Place) Refusal) → (o >>= moved >>= after_count item_lines) ≡ (o >>= after_count item_lines_with_freelock)
unfolding ◌>>=◌ moved after_count
count_moved (Err r) = refl
count_moved (Ok (N, p)) = unfold changed_place in
    ap (◌>>= after_items N.procedures) (items_moved N.heading (p.last + 1) (N.steps + N.procedures) p)
    ∙ tree_moved N.procedures (read_lines program_sheet (item_lines_with_freelock N.heading (p.last + 1) (N.steps + N.procedures)) p)

program_alike : (p p' : List ℕ) → lines p' ≡ map (on_closed lock_instead) (lines p) → program p' ≡ program_with_freelock p
unfolding program program_by program_with_freelock after_count after_items
program_alike p p' e = by_lines (lines p) refl
  where
    by_lines : (ls : List Line) → lines p ≡ ls → program p' ≡ program_with_freelock p
    by_lines [] h = rw (e, h) (unfold begin ◌>>=◌ in refl)
    by_lines (l ∷ ls) h = rw (e, h) (begun l ls)
      where
        begun : (l : Line) (ls : List Line)
            → (begin program_sheet (map (on_closed lock_instead) (l ∷ ls)) >>= λ top. read_line program_sheet count_line top >>= after_count item_lines)
            ≡ (begin program_sheet (l ∷ ls) >>= λ top. read_line program_sheet count_line top >>= after_count item_lines_with_freelock)
        begun l ls = unfold begin ◌>>=◌ changed_place in
            ap (◌>>= after_count item_lines) (next_moved count_line count_line count_alike (record { last = 0; rest = l ∷ ls }))
            ∙ count_moved (read_line program_sheet count_line (record { last = 0; rest = l ∷ ls }))

-- ------------------------------------------------------------------ the text

drop_one_line : (n : ℕ) (l : List ℕ) → OneLine l → OneLine (drop n l)
drop_one_line zero l one = one
drop_one_line (suc n) [] one = tt
drop_one_line (suc n) (b ∷ l) one = drop_one_line n l one.1

line_instead : (l : List ℕ) → OneLine l → OneLine (lock_instead l)
unfolding lock_instead
line_instead l one = by_word (freelock_first (fields l))
  where
    by_word : (b : Bool) → OneLine (when b then drop 4 l else l)
    by_word true = drop_one_line 4 l one
    by_word false = one

changed_lined : {ls : List Line} → Lined ls → Lined (map (on_closed lock_instead) ls)
unfolding on_closed
changed_lined no_line = no_line
changed_lined (closed_line {l = l} one w) = closed_line (line_instead l one) (changed_lined w)
changed_lined (last_line one) = last_line one

lines_instead : (p : List ℕ) → lines (locks_instead p) ≡ map (on_closed lock_instead) (lines p)
unfolding locks_instead
lines_instead p = lines_joined (changed_lined (text_lined p))

line_no_longer : (l : List ℕ) → length (lock_instead l) ≤ length l
unfolding lock_instead
line_no_longer l = by_word (freelock_first (fields l))
  where
    by_word : (b : Bool) → length (when b then drop 4 l else l) ≤ length l
    by_word true = omega (arith, length-drop 4 l)
    by_word false = omega arith

lines_no_longer : (ls : List Line) → length (joined (map (on_closed lock_instead) ls)) ≤ length (joined ls)
unfolding joined on_closed ◌above◌
lines_no_longer [] = omega arith
lines_no_longer (closed l ∷ ls) =
    omega (arith, line_no_longer l, lines_no_longer ls, length-append l (10 ∷ joined ls), length-append (lock_instead l) (10 ∷ joined (map (on_closed lock_instead) ls)))
lines_no_longer (unclosed l ∷ ls) = omega arith

text_no_longer : (p : List ℕ) → length (locks_instead p) ≤ length p
unfolding locks_instead
text_no_longer p = omega (arith, lines_no_longer (lines p), ap length (joined_lines p))

-- ------------------------------------------------------------------ the answer

checked_alike : (room : ℕ) (p s : List ℕ) → length p ≤ program_limit
    → checked room (locks_instead p) s ≡ checked_by program_with_freelock (split Check) conditions_hold room p s
unfolding sheets checked sheets_by checked_by
checked_alike room p s fits =
    let fits' : length (locks_instead p) ≤ program_limit = omega (arith, fits, text_no_longer p) in
    rw (le-leb _ _ fits, le-leb _ _ fits', program_alike p (locks_instead p) (lines_instead p))

-- of each pair whose program sheet is not too long, refused or accepted
pub lock_instead_as_formerly : (room : ℕ) (p s : List ℕ) → length p ≤ program_limit → verdict room (locks_instead p) s ≡ verdict_with_freelock room p s
unfolding verdict_with_freelock verdict_by verdict
lock_instead_as_formerly room p s fits = ap answer (checked_alike room p s fits)

long_refused : (b : Bool) (m : Result (Program × Split) Refusal) (f : Program × Split → Result (Unit {0}) Refusal)
    → judged_by_rules (answer (require b ShortWorkspace >>= λ enough. (require false LongProgram >>= λ fits. m) >>= f)) ≡ false
unfolding judged_by_rules answer returned numbers4 require ◌>>=◌
long_refused true m f = refl
long_refused false m f = refl

long_not_judged : (room : ℕ) (p s : List ℕ) → leb (length p) program_limit ≡ false → judged_by_rules (verdict_with_freelock room p s) ≡ false
unfolding verdict_with_freelock verdict_by checked_by sheets_by
long_not_judged room p s long = rw long (long_refused (leb workspace_size room) _ _)

pub lock_keeps_the_answer : LockKeepsTheAnswer
lock_keeps_the_answer room p s judged = by_length (leb (length p) program_limit) refl
  where
    by_length : (b : Bool) → leb (length p) program_limit ≡ b → verdict room (locks_instead p) s ≡ verdict_with_freelock room p s
    by_length true fits = lock_instead_as_formerly room p s (leb-true _ _ fits)
    by_length false long = true_is_not_false (sym judged ∙ long_not_judged room p s long)
