-- The conditions of each word, spec's table read over what the work space shows of a step, and those of a `proc` line.
-- proofs/TableRows.antt shows that these are the documents' for the sheets that the work space holds.
use Rattle.std.specs.Prelude.{List, [], ◌∷◌, map, ℕ}
use Rattle.spec.specs.Kinds.{is, ref_location, first_map, second_map}
use Rattle.spec.specs.Table as entry
use Rattle.spec.specs.Table.{Node, step, e1, e2, TypeTerm, type_of, type_of_its_let, result, argument, MapTerm, pre, post_of, K, «in», out, before, after, Entry, table}
use Rattle.spec.specs.Conditions.{Condition, T, F, contains}
use Rattle.spec.specs.declared.MapNumber.{MapNumber}
use Rattle.spec.specs.declared.TypeNumber.{TypeNumber}
use Rattle.spec.specs.declared.TypeLine.{TypeLine}
use Rattle.spec.specs.declared.Word.{Word}
use Rattle.spec.specs.declared.Word.TheVariants.{Leaf, Unary, Binary}
use Rattle.workspace.specs.Layout.{word_by, type_at}
use Rattle.workspace.specs.declared.Rule.{Rule}
use Rattle.conditions.specs.Relation.{fails, has_at_least}
use Rattle.conditions.specs.Agreement.{agree_in, may_show_in}
use Rattle.conditions.specs.declared.Relation.{Relation}
use Rattle.conditions.specs.declared.Relation.TheVariants.{Equal, AtLeast, Covers, Sum}
use Rattle.spec.specs.declared.Signature.{Signature}
use Rattle.rule_rows.specs.declared.StepView.{StepView}

-- a relation at every location of the sheet
abbrev pub flows : (w : List ℕ) → StepView → Relation → Condition
flows w s r = F (fails w s.locations r)

-- ------------------------------------------------------------------ spec's table over a view

-- what a node of the table is over a view: its type by number, that type's line, its post
abbrev pub type_in : StepView → Node → TypeNumber
type_in s step = s.typed
type_in s e1 = s.type1
type_in s e2 = s.type2

abbrev pub kind_in : (w : List ℕ) → StepView → Node → TypeLine
kind_in w s n = type_at w (type_in s n)

abbrev pub post_in : StepView → Node → MapNumber
post_in s step = s.post
post_in s e1 = s.post1
post_in s e2 = s.post2

-- whose type has K, in, out, r, w and p: the step's own if it has no parts, else that of e1
abbrev pub holder : Word → Node
holder (Leaf x) = step
holder (Unary x) = e1
holder (Binary x) = e1

abbrev pub type_term_in : StepView → TypeTerm → TypeNumber
type_term_in s (type_of n) = type_in s n
type_term_in s type_of_its_let = s.bound
type_term_in s result = s.signature.result
type_term_in s argument = s.signature.argument

abbrev pub map_term_in : StepView → (x : TypeLine) → MapTerm → MapNumber
map_term_in s x pre = s.pre
map_term_in s x entry.s = s.start
map_term_in s x (post_of n) = post_in s n
map_term_in s x K = first_map x
map_term_in s x «in» = first_map x
map_term_in s x out = second_map x
map_term_in s x entry.r = first_map x
map_term_in s x entry.w = second_map x
map_term_in s x before = s.signature.before
map_term_in s x after = s.signature.after

-- what an entry says, where x is the holder's type line
abbrev pub says_in : (w : List ℕ) → StepView → (x : TypeLine) → Entry → Condition
says_in w s x (entry.◌a◌ n k) = T (is k (kind_in w s n))
says_in w s x (entry.◌is◌ n t) = T (agree_in w s.locations (type_in s n) (type_term_in s t))
says_in w s x (entry.◌shows◌ n t) = T (may_show_in w s.locations (type_in s n) (type_term_in s t))
says_in w s x (entry.◌is_c_of◌ n m) = T (contains (agree_in w s.locations) (kind_in w s m) (type_in s n))
says_in w s x (entry.◌＝◌ l m) = flows w s (Equal (map_term_in s x l) (map_term_in s x m))
says_in w s x (entry.◌≧◌ l m) = flows w s (AtLeast (map_term_in s x l) (map_term_in s x m))
says_in w s x (entry.N×◌≦◌ l m) = flows w s (Covers (map_term_in s x m) s.value (map_term_in s x l))
says_in w s x (entry.◌⊕◌＝◌ l m n) = flows w s (Sum (map_term_in s x l) (map_term_in s x m) (map_term_in s x n))
says_in w s x (entry.◌＝◌⊕◌ l m n) = flows w s (Sum (map_term_in s x m) (map_term_in s x n) (map_term_in s x l))
says_in w s x entry.post_at_p＞0 = has_at_least w s.post (ref_location x) 1
says_in w s x entry.post_at_p≧D = has_at_least w s.post (ref_location x) s.denominator

abbrev pub row_in : Word → (w : List ℕ) → StepView → List Condition
row_in x w s = map (says_in w s (kind_in w s (holder x))) (table x)

unfoldable pub rule_row : Rule → (w : List ℕ) → StepView → List Condition
rule_row rule = row_in (word_by rule)

-- ------------------------------------------------------------------ a `proc` line

-- a procedure with the signature g, whose body has this type and this post
abbrev pub procedure_row : (w : List ℕ) → (locations : ℕ) → (g : Signature) → (body : TypeNumber) → (post : MapNumber) → List Condition
procedure_row w locations g body post =
    T (agree_in w locations body g.result)
    ∷ F (fails w locations (AtLeast post g.after))
    ∷ []
