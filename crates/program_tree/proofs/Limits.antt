-- Laws of steps of which no number is larger than its word allows: one step more, the first, those behind it, and two parts; and
-- one `proc` line more.
use mathlib.Core.List.{List, [], ◌∷◌, ◌++◌}
use Prim.Native.Nat.{◌≤◌}
use Rattle.spec.specs.Words.{largest_value}
use Rattle.spec.specs.Expression.{Step}
use Rattle.program_tree.specs.Items.{ProcRow, Variables, no_variables, more_variables, Limited, none_limited, more_limited}

pub limited_snoc : {ss : List Step} (s : Step) → Limited ss → s.value ≤ largest_value s.word → Limited (ss ++ (s ∷ []))
limited_snoc s none_limited h = more_limited h none_limited
limited_snoc s (more_limited l r) h = more_limited l (limited_snoc s r h)

pub limited_first : {s : Step} {ss : List Step} → Limited (s ∷ ss) → s.value ≤ largest_value s.word
limited_first (more_limited l r) = l

pub limited_behind : {s : Step} {ss : List Step} → Limited (s ∷ ss) → Limited ss
limited_behind (more_limited l r) = r

pub limited_parts : (ss ts : List Step) → Limited (ss ++ ts) → Limited ss × Limited ts
limited_parts [] ts r = (none_limited, r)
limited_parts (s ∷ ss) ts (more_limited l r) = let p = limited_parts ss ts r in (more_limited l p.0, p.1)

pub variables_snoc : {rs : List ProcRow} (r : ProcRow) → Variables rs → r.variable ≤ 255 → Variables (rs ++ (r ∷ []))
variables_snoc r no_variables h = more_variables h no_variables
variables_snoc r (more_variables l v) h = more_variables l (variables_snoc r v h)
