-- The variables of a well-formed program are below 256, and its calls are of its own procedures.
use Prim.Native.Nat.{ℕ, zero, suc, ◌+◌, ◌<◌, ◌≤◌}
use mathlib.Core.Path.{◌≡◌, refl, subst}
use mathlib.Core.Bool.{Bool, true, false, ◌&&◌}
use mathlib.Core.List.{List, [], ◌∷◌, ◌++◌, map}
use native.Mathlib.Omega.{arith}
use borrow.Author.Tests.{leb-true}
use lib.Dec.{leb}
use lib.ListN.{length}
use Rattle.spec.specs.Choice.{when◌then◌else◌}
use Rattle.spec.specs.Text.{bytes, same, Line, closed, unclosed, Field, look_up, fields}
use Rattle.spec.specs.Reading.{LineResult, good, bad, refuse_after, freelock, ◌to◌, in_range, all_in_range, numbers, or_bad_form, nth}
use Rattle.spec.specs.Expression.{Step, Expr, leaf, unary, binary, Item, step, proc, Procedure}
use Rattle.spec.specs.Program.{Program, step_of, word_line, proc_of, proc_line, item_line, item_lines}
use Rattle.spec.specs.Words.{words_under, least_value, largest_value, value_range, role, binding}
use Rattle.spec.specs.WellFormed.{Parses, nothing, line, prefix, items_of, listing, StepInside, UsedInside, AllUsedInside, first_item_line, WellFormedProgram}
use Rattle.spec.proofs.Seen.{wrong_is_not_right, seen_right, numbers_right, formed_right}
use Rattle.spec.specs.declared.ProgramHeading.{ProgramHeading}
use Rattle.spec.specs.declared.ProgramHeading.TheVariants.{P, P2}
use Rattle.spec.specs.declared.Role.{Role}
use Rattle.spec.specs.declared.Role.TheVariants.{Binds, Uses, Calls, Neither}
use Rattle.spec.specs.declared.Word.{Word}
use Rattle.spec.specs.declared.Word.TheVariants.{Leaf, Unary, Binary}
use Rattle.replay_simulation.proofs.Held.{Called, Small}
use Rattle.replay_simulation.proofs.Linked.{Ranged}
use Rattle.replay_simulation.proofs.Bodies.{AllRanged}

-- ------------------------------------------------------------------ expressions

-- in a program of m procedures
module _ (m : ℕ) where
  called_of : (r : Role) (v : ℕ) (inside : List ℕ) → StepInside m inside r v → Called m r v
  unfolding StepInside
  called_of Binds v inside u = tt
  called_of Uses v inside u = tt
  called_of Calls v inside u = u
  called_of Neither v inside u = tt

  small_of : (w : Word) (v : ℕ) (inside : List ℕ) → v ≤ largest_value w → StepInside m inside (role w) v → Small m w v
  small_of w v inside h u = (h, called_of (role w) v inside u)

-- the numbers of steps are in the ranges of their words
abbrev AllLow : List Step → Type 0
AllLow [] = Unit {0}
AllLow (s ∷ ss) = (s.value ≤ largest_value s.word) × AllLow ss

low_left : (ss ts : List Step) → AllLow (ss ++ ts) → AllLow ss
low_left [] ts a = tt
low_left (s ∷ ss) ts (h, a) = (h, low_left ss ts a)

low_right : (ss ts : List Step) → AllLow (ss ++ ts) → AllLow ts
low_right [] ts a = a
low_right (s ∷ ss) ts (h, a) = low_right ss ts a

ranged : (m : ℕ) (e : Expr) (inside : List ℕ) → AllLow (prefix e) → UsedInside m inside e → Ranged m e
unfolding prefix UsedInside
ranged m (leaf w k v) inside a u = small_of m (Leaf w) v inside a.0 u
ranged m (unary w k v e) inside a u = (small_of m (Unary w) v inside a.0 u.0, ranged m e inside a.1 u.1)
ranged m (binary w k v e₁ e₂) inside a u = (
  small_of m (Binary w) v inside a.0 u.0,
  ranged m e₁ inside (low_left (prefix e₁) (prefix e₂) a.1) u.1,
  ranged m e₂ (binding (role (Binary w)) v inside) (low_right (prefix e₁) (prefix e₂) a.1) u.2,
)

-- ------------------------------------------------------------------ lines

-- the number of a line's item is in its range
abbrev ItemLow : Item → Type 0
ItemLow (step s) = s.value ≤ largest_value s.word
ItemLow (proc x k) = x < 256

abbrev AllItems : List Item → Type 0
AllItems [] = Unit {0}
AllItems (i ∷ is) = ItemLow i × AllItems is

true_left : (a b : Bool) → (a && b) ≡ true → a ≡ true
true_left true b h = refl
true_left false b h = absurd (let z : ◌≡◌ {A = ℕ} 0 1 = cc in omega arith)

true_right : (a b : Bool) → (a && b) ≡ true → b ≡ true
true_right true b h = h
true_right false b h = absurd (let z : ◌≡◌ {A = ℕ} 0 1 = cc in omega arith)

number_low : (least largest : ℕ) (ns : List ℕ) → length ns ≡ 1 → all_in_range ((least to largest) ∷ []) ns ≡ true → nth 0 ns ≤ largest
unfolding all_in_range in_range
number_low least largest [] l h = absurd (omega (arith, l))
number_low least largest (n ∷ ns) l h = leb-true n largest (true_right (leb least n) (leb n largest) (true_left (leb least n && leb n largest) (all_in_range [] ns) h))

word_low : (k : ℕ) (w : Word) (fs : List Field) (i : Item) → word_line k w fs ≡ good i → ItemLow i
unfolding word_line step_of value_range
word_low k w fs i h =
    let (ns, r, is) = seen_right (numbers (value_range w ∷ []) fs) h in
    let (l, in_range_lem) = numbers_right (value_range w ∷ []) fs ns r in
    subst ItemLow is (number_low (least_value w) (largest_value w) ns l in_range_lem)

proc_low : (h : ProgramHeading) (k : ℕ) (fs : List Field) (i : Item) → proc_line h k fs ≡ good i → ItemLow i
unfolding proc_line proc_of
proc_low P k fs i h = wrong_is_not_right h
proc_low P2 k fs i h =
    let (ns, r, is) = seen_right (numbers ((0 to 255) ∷ []) fs) h in
    let (l, in_range_lem) = numbers_right ((0 to 255) ∷ []) fs ns r in
    let z = number_low 0 255 ns l in_range_lem in
    subst ItemLow is (omega (arith, z))

freelock_wrong : {A : Type 0} (x : LineResult A) (i : Item) → refuse_after freelock x ≡ good i → ItemLow i
unfolding refuse_after
freelock_wrong (bad v) i h = wrong_is_not_right h
freelock_wrong (good a) i h = wrong_is_not_right h

line_low : (h : ProgramHeading) (k : ℕ) (fs : List Field) (i : Item) → item_line h k fs ≡ good i → ItemLow i
unfolding item_line
line_low h k [] i e = wrong_is_not_right e
line_low h k (f ∷ fs) i e = go (same f (bytes "freelock")) (same f (bytes "proc")) e
  where
    go : (a b : Bool) → (when a then refuse_after freelock (numbers ((0 to 0) ∷ []) fs) else when b then proc_line h k fs else or_bad_form (look_up (words_under h) f) λ w. word_line k w fs) ≡ good i → ItemLow i
    go true b e = freelock_wrong (numbers ((0 to 0) ∷ []) fs) i e
    go false true e = proc_low h k fs i e
    go false false e = let (w, _, shown) = formed_right _ _ e in word_low k w fs i shown

lines_low : (h : ProgramHeading) (n k : ℕ) (ls : List Line) (is : List Item) (rest : List Line) → Parses (item_lines h k n) ls is rest → AllItems is
unfolding item_lines
lines_low h zero k ls [] rest nothing = tt
lines_low h (suc n) k (closed l ∷ ls) (i ∷ is) rest (line e more) = (line_low h k (fields l) i e, lines_low h n (k + 1) ls is rest more)
lines_low h zero k ls (i ∷ is) rest p = elim p [ ]
lines_low h (suc n) k [] is rest p = elim p [ ]
lines_low h (suc n) k (closed l ∷ ls) [] rest p = elim p [ ]
lines_low h (suc n) k (unclosed l ∷ ls) is rest p = elim p [ ]

-- ------------------------------------------------------------------ the program

items_left : (ss : List Step) (is : List Item) → AllItems (map step ss ++ is) → AllLow ss
items_left [] is a = tt
items_left (s ∷ ss) is (h, a) = (h, items_left ss is a)

items_right : (ss : List Step) (is : List Item) → AllItems (map step ss ++ is) → AllItems is
items_right [] is a = a
items_right (s ∷ ss) is (h, a) = items_right ss is a

items_steps : (ss : List Step) → AllItems (map step ss) → AllLow ss
items_steps [] a = tt
items_steps (s ∷ ss) (h, a) = (h, items_steps ss a)

all_ranged : (m : ℕ) (ps : List Procedure) (root : Expr) → AllItems (listing ps root) → AllUsedInside m ps root → AllRanged m ps root
unfolding listing items_of AllUsedInside
all_ranged m [] root a u = ranged m root [] (items_steps (prefix root) a) u
all_ranged m (p ∷ ps) root (h, a) (u, us) =
    (ranged m p.body (p.parameter ∷ []) (items_left (prefix p.body) (listing ps root) a) u, all_ranged m ps root (items_right (prefix p.body) (listing ps root) a) us)

-- the variables of procedures
abbrev pub ParametersLow : List Procedure → Type 0
ParametersLow [] = Unit {0}
ParametersLow (p ∷ ps) = (p.parameter < 256) × ParametersLow ps

parameters_low : (ps : List Procedure) (root : Expr) → AllItems (listing ps root) → ParametersLow ps
unfolding listing items_of
parameters_low [] root a = tt
parameters_low (p ∷ ps) root (h, a) = (h, parameters_low ps root (items_right (prefix p.body) (listing ps root) a))

module _ (text : List ℕ) (P : Program) (W : WellFormedProgram text P) where
  items : AllItems (listing P.procedures P.root)
  items = lines_low W.heading (length P.steps + length P.procedures) first_item_line W.others (listing P.procedures P.root) [] W.listed

  pub well_formed_ranged : AllRanged (length P.procedures) P.procedures P.root
  well_formed_ranged = all_ranged (length P.procedures) P.procedures P.root items W.used_inside

  pub well_formed_parameters : ParametersLow P.procedures
  well_formed_parameters = parameters_low P.procedures P.root items
