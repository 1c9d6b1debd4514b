-- The steps and the `proc` lines of a program sheet stand on the lines behind the count line, each on its own.
use mathlib.Core.Path.{◌≡◌, refl, ap, sym}
use mathlib.Core.List.{List, [], ◌∷◌, map}
use mathlib.Core.Bool.{Bool, true, false}
use Prim.Native.Nat.{ℕ, zero, suc, ◌+◌, ◌≤◌}
use native.Mathlib.Omega.{arith}
use lib.ListN.{length}
use Rattle.spec.specs.Choice.{when◌then◌else◌}
use Rattle.spec.specs.Text.{bytes, same, Line, Field, look_up}
use Rattle.spec.specs.Reading.{Fault, freelock, LineResult, good, bad, or_bad_form, refuse_after, ◌to◌, numbers}
use Rattle.spec.specs.Words.{words_under}
use Rattle.spec.specs.Expression.{Item, line_of_item}
use Rattle.spec.specs.Program.{step_of, word_line, proc_of, proc_line, item_line, item_lines}
use Rattle.spec.specs.WellFormed.{Parses, nothing, line}
use Rattle.spec.specs.declared.ProgramHeading.{ProgramHeading}
use Rattle.spec.specs.declared.ProgramHeading.TheVariants.{P, P2}
use Rattle.spec.specs.declared.Word.{Word}
use Rattle.spec.proofs.Seen.{wrong_is_not_right, seen_right, formed_right}

pub item_lines_counted : (h : ProgramHeading) (k n : ℕ) → length (item_lines h k n) ≡ n
unfolding item_lines
item_lines_counted h k zero = refl
item_lines_counted h k (suc n) = ap suc (item_lines_counted h (k + 1) n)

-- ------------------------------------------------------------------ the line of a step, and of a procedure

after_wrong : {A B C : Type 0} {b : B} (w : Fault) (x : LineResult A) → refuse_after w x ≡ good b → C
unfolding refuse_after
after_wrong w (good a) h = wrong_is_not_right h
after_wrong w (bad v) h = wrong_is_not_right h

word_line_lem : (k : ℕ) (w : Word) (fs : List Field) (s : Item) → word_line k w fs ≡ good s → line_of_item s ≡ k
unfolding word_line step_of line_of_item
word_line_lem k w fs s h =
    let (ns, _, is) = seen_right _ h in
    sym (ap line_of_item is)

proc_line_lem : (h : ProgramHeading) (k : ℕ) (fs : List Field) (s : Item) → proc_line h k fs ≡ good s → line_of_item s ≡ k
unfolding proc_line proc_of line_of_item
proc_line_lem P k fs s h = wrong_is_not_right h
proc_line_lem P2 k fs s h =
    let (ns, _, is) = seen_right _ h in
    sym (ap line_of_item is)

pub item_line_lem : (h : ProgramHeading) (k : ℕ) (fs : List Field) (s : Item) → item_line h k fs ≡ good s → line_of_item s ≡ k
unfolding item_line
item_line_lem g k [] s h = wrong_is_not_right h
item_line_lem g k (f ∷ fs) s h = by_word (same f (bytes "freelock")) (same f (bytes "proc")) h
  where
    by_word : (b c : Bool)
        → (when b then refuse_after freelock (numbers ((0 to 0) ∷ []) fs) else when c then proc_line g k fs else or_bad_form (look_up (words_under g) f) λ w. word_line k w fs) ≡ good s
        → line_of_item s ≡ k
    by_word true c h = after_wrong freelock (numbers ((0 to 0) ∷ []) fs) h
    by_word false true h = proc_line_lem g k fs s h
    by_word false false h = let (w, _, shown) = formed_right _ _ h in word_line_lem k w fs s shown

-- ------------------------------------------------------------------ lines rise

-- each line is at least lo, and past the one before it
unfoldable pub Rising : (lo : ℕ) → List ℕ → Type 0
Rising lo [] = Unit {0}
Rising lo (k ∷ ks) = (lo ≤ k) × Rising (k + 1) ks

pub items_rise : {ls rest : List Line} {items : List Item} (h : ProgramHeading) (k n : ℕ) → Parses (item_lines h k n) ls items rest
    → Rising k (map line_of_item items)
unfolding item_lines Rising
items_rise g k zero nothing = tt
items_rise g k (suc n) (line {a = s} h more) =
    let here : line_of_item s ≡ k = item_line_lem g k _ s h in
    rw here (omega arith, items_rise g (k + 1) n more)
