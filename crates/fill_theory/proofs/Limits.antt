-- The size limits of a filled sheet: its numbers, and its steps.
use mathlib.Core.Path.{◌≡◌, refl, subst}
use mathlib.Core.Bool.{Bool, true, false, ◌&&◌}
use mathlib.Core.List.{List, [], ◌∷◌}
use mathlib.Core.Logic.{◌↔◌}
use Prim.Native.Nat.{ℕ, zero, suc, ◌≤◌, ◌<◌}
use native.Mathlib.Omega.{arith}
use lib.Dec.{leb}
use lib.ListN.{length, get_or}
use borrow.Author.Tests.{leb-true, leb-false, le-leb}
use Rattle.spec.specs.Text.{Field, fields}
use Rattle.spec.specs.Reading.{good, ◌to◌, seen, numbers}
use Rattle.spec.specs.Program.{Program, Counts, count_ranges, procedures_of, counts_of, count_line}
use Rattle.spec.specs.Split.{Map}
use Rattle.spec.specs.WellFormed.{WellFormedProgram}
use Rattle.spec.specs.Accepted.{AtMost, none as none_at_most, more as more_at_most}
use Rattle.spec.specs.declared.ProgramHeading.{ProgramHeading}
use Rattle.spec.specs.declared.ProgramHeading.TheVariants as heading
use Rattle.spec.proofs.Clashes.{true_is_not_false}
use Rattle.spec.proofs.Tests.{both_true}
use Rattle.spec.proofs.Seen.{wrong_is_not_right, seen_right, in_range_at, in_to, formed_right}
use Rattle.fill_theory.specs.Answer.{map_at_most, all_at_most}

-- at most d at each place
pub at_most_at : {d : ℕ} (m : List ℕ) → AtMost d m → (i : ℕ) → get_or m i 0 ≤ d
at_most_at [] none_at_most i = omega arith
at_most_at (a ∷ m) (more_at_most l r) zero = l
at_most_at (a ∷ m) (more_at_most l r) (suc i) = at_most_at m r i

pub at_at_most : {d : ℕ} (m : List ℕ) → ((i : ℕ) → get_or m i 0 ≤ d) → AtMost d m
at_at_most [] h = none_at_most
at_at_most (a ∷ m) h = more_at_most (h 0) (at_at_most m (λ i. h (suc i)))

pub map_at_most_lem : (limit : ℕ) (m : Map) → map_at_most limit m ≡ true ↔ AtMost limit m
unfolding map_at_most
map_at_most_lem limit [] = (λ h. none_at_most, λ h. refl)
map_at_most_lem limit (a ∷ m) = (
  λ h. let both = both_true (leb a limit) (map_at_most limit m) h in more_at_most (leb-true a limit both.0) ((map_at_most_lem limit m).0 both.1),
  λ h. back h (map_at_most_lem limit m).1,
)
  where
    back : AtMost limit (a ∷ m) → (AtMost limit m → map_at_most limit m ≡ true) → (leb a limit && map_at_most limit m) ≡ true
    back (more_at_most l r) rest = rw (le-leb a limit l) (rest r)

pub all_at_most_lem : (limit : ℕ) (ms : List Map) → all_at_most limit ms ≡ true ↔ ((i : ℕ) → AtMost limit (get_or ms i []))
unfolding all_at_most
all_at_most_lem limit [] = (λ h i. none_at_most, λ h. refl)
all_at_most_lem limit (m ∷ ms) = (
  λ h. let both = both_true (map_at_most limit m) (all_at_most limit ms) h in each ((map_at_most_lem limit m).0 both.0) ((all_at_most_lem limit ms).0 both.1),
  λ h. rw ((map_at_most_lem limit m).1 (h 0)) ((all_at_most_lem limit ms).1 (λ i. h (suc i))),
)
  where
    each : AtMost limit m → ((i : ℕ) → AtMost limit (get_or ms i [])) → (i : ℕ) → AtMost limit (get_or (m ∷ ms) i [])
    each h r zero = h
    each h r (suc i) = r i

-- some number above the limit, where not all are at most it
map_above : (limit : ℕ) (m : Map) → map_at_most limit m ≡ false → (l : ℕ) × (limit < get_or m l 0)
unfolding map_at_most
map_above limit [] h = true_is_not_false h
map_above limit (a ∷ m) h = go (leb a limit) refl h (map_above limit m)
  where
    go : (b : Bool) → leb a limit ≡ b → (b && map_at_most limit m) ≡ false → (map_at_most limit m ≡ false → (l : ℕ) × (limit < get_or m l 0))
        → (l : ℕ) × (limit < get_or (a ∷ m) l 0)
    go false e h rest = (0, leb-false a limit e)
    go true e h rest = let (l, above) = rest h in (suc l, above)

pub some_above : (limit : ℕ) (ms : List Map) → all_at_most limit ms ≡ false → (i l : ℕ) × (limit < get_or (get_or ms i []) l 0)
unfolding all_at_most
some_above limit [] h = true_is_not_false h
some_above limit (m ∷ ms) h = go (map_at_most limit m) refl h (some_above limit ms)
  where
    go : (b : Bool) → map_at_most limit m ≡ b → (b && all_at_most limit ms) ≡ false
        → (all_at_most limit ms ≡ false → (i l : ℕ) × (limit < get_or (get_or ms i []) l 0))
        → (i l : ℕ) × (limit < get_or (get_or (m ∷ ms) i []) l 0)
    go false e h rest = let (l, above) = map_above limit m e in (0, l, above)
    go true e h rest = let (i, l, above) = rest h in (suc i, l, above)

-- a program has at most 256 steps
counted_few : (h : ProgramHeading) (fs : List Field) (N : Counts) → seen (counts_of h) (numbers (count_ranges h) fs) ≡ good N → N.steps ≤ 256
unfolding counts_of count_ranges
counted_few heading.P fs N h =
    let (ns, r, e) = seen_right _ h in
    subst (λ (M : Counts). M.steps ≤ 256) e (in_to _ _ _ (in_range_at ((1 to 256) ∷ []) fs ns r 0 (omega arith))).1
counted_few heading.P2 fs N h =
    let (ns, r, e) = seen_right _ h in
    subst (λ (M : Counts). M.steps ≤ 256) e (in_to _ _ _ (in_range_at ((1 to 256) ∷ (0 to 16) ∷ []) fs ns r 0 (omega arith))).1

count_few : (fs : List Field) (N : Counts) → count_line fs ≡ good N → N.steps ≤ 256
unfolding count_line
count_few [] N h = wrong_is_not_right h
count_few (f ∷ fs) N h = let (heading, _, shown) = formed_right _ _ h in counted_few heading fs N shown

pub steps_few : {text : List ℕ} (P : Program) → WellFormedProgram text P → length P.steps ≤ 256
steps_few P W = count_few (fields W.first) _ W.counted

-- and at most 16 procedures
counted_procedures : (h : ProgramHeading) (fs : List Field) (N : Counts) → seen (counts_of h) (numbers (count_ranges h) fs) ≡ good N → N.procedures ≤ 16
unfolding counts_of count_ranges procedures_of
counted_procedures heading.P fs N h =
    let (ns, r, e) = seen_right _ h in
    subst (λ (M : Counts). M.procedures ≤ 16) e (omega arith)
counted_procedures heading.P2 fs N h =
    let (ns, r, e) = seen_right _ h in
    subst (λ (M : Counts). M.procedures ≤ 16) e (in_to _ _ _ (in_range_at ((1 to 256) ∷ (0 to 16) ∷ []) fs ns r 1 (omega arith))).1

count_procedures : (fs : List Field) (N : Counts) → count_line fs ≡ good N → N.procedures ≤ 16
unfolding count_line
count_procedures [] N h = wrong_is_not_right h
count_procedures (f ∷ fs) N h = let (heading, _, shown) = formed_right _ _ h in counted_procedures heading fs N shown

pub procedures_few : {text : List ℕ} (P : Program) → WellFormedProgram text P → length P.procedures ≤ 16
procedures_few P W = count_procedures (fields W.first) _ W.counted
