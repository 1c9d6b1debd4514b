-- Document 01's table of the conditions, with what document 02 changes: a line a word, in the order of Figure 5, and behind it the words
-- of semaphores, of read-write locks and of calls.
--
-- How a line is read: its conditions stand in their order, the first is number 1; `∷` parts two of them and `[]` closes the line. What is
-- said without a name of e1, e2 or the part is said of the step itself. `＝`, `≧`, `≦`, `⊕` and `N×` compare, add and multiply maps number
-- by number; they are the table's own, as all its words are, and Conditions.antt says what each entry means at a step.
use Rattle.std.specs.Prelude.{List, [], ◌∷◌}
use Rattle.spec.specs.Kinds.{Kind, int, ref, lock, tid, sem, rwlock}
use Rattle.spec.specs.declared.Word.{Word}
use Rattle.spec.specs.declared.Word.TheVariants.{Leaf, Unary, Binary}
use Rattle.spec.specs.declared.LeafWord.TheVariants.{Var, Int, Newtid, Newlock, Newsem, Newrwlock}
use Rattle.spec.specs.declared.UnaryWord.TheVariants.{While, Join, Ref, Read, Lock, Unlock, Post, Wait, Rdlock, Rdunlock, Wrlock, Wrunlock, Call}
use Rattle.spec.specs.declared.BinaryWord.TheVariants.{Let, If, Spawn, Write}

-- whose type or post an entry names: the step's, or that of a part
pub data Node : Type 0 where
  step e1 e2 : Node

-- of a word with one part
abbrev pub part : Node
part = e1

-- a type: that of a step or a part; of a variable, that of its let's e1; of a call, those of its procedure
pub data TypeTerm : Type 0 where
  type_of : Node → TypeTerm
  type_of_its_let result argument : TypeTerm

-- a map: the step's pre, the post of the step or a part, the row's s; K of a tid or sem type, in and out of a lock type, r and w of a
-- rwlock type; those of a call's procedure
pub data MapTerm : Type 0 where
  pre s : MapTerm
  post_of : Node → MapTerm
  K «in» out r w : MapTerm
  before after : MapTerm

abbrev pub post : MapTerm
post = post_of step

-- on types (T), on flow (F), on access (A)
infix 70 type_is◌ type_shows◌ ◌a◌ ◌is◌ ◌shows◌ ◌is_c_of◌ ◌＝◌ ◌≧◌ ◌⊕◌＝◌ ◌＝◌⊕◌ N×◌≦◌
pub data Entry : Type 0 where
  ◌a◌ : Node → Kind → Entry
  ◌is◌ ◌shows◌ : Node → TypeTerm → Entry
  ◌is_c_of◌ : (value cell : Node) → Entry
  ◌＝◌ ◌≧◌ N×◌≦◌ : MapTerm → MapTerm → Entry
  ◌⊕◌＝◌ ◌＝◌⊕◌ : MapTerm → MapTerm → MapTerm → Entry
  post_at_p＞0 post_at_p≧D : Entry

-- of the step's own type
abbrev pub type_is_a : Kind → Entry
type_is_a k = step a k

abbrev pub type_is◌ : TypeTerm → Entry
type_is◌ t = step is t

abbrev pub type_shows◌ : TypeTerm → Entry
type_shows◌ t = step shows t

abbrev pub table : Word → List Entry
table (Leaf Var) = type_shows type_of_its_let ∷ post ＝ pre ∷ []
table (Leaf Int) = type_is_a int ∷ post ＝ pre ∷ []
table (Binary Let) = type_is type_of e2 ∷ post ＝ post_of e2 ∷ []
table (Binary If) = type_is type_of e1 ∷ type_is type_of e2 ∷ post_of e1 ≧ post ∷ post_of e2 ≧ post ∷ []
table (Unary While) = type_is_a int ∷ pre ≧ post ∷ post_of part ≧ post ∷ []
table (Leaf Newtid) = type_is_a tid ∷ post ＝ pre ∷ []
table (Binary Spawn) = type_is_a int ∷ e1 a tid ∷ post_of e2 ≧ K ∷ post ⊕ s ＝ post_of e1 ∷ []
table (Unary Join) = type_is_a int ∷ part a tid ∷ post ＝ post_of part ⊕ K ∷ []
table (Unary Ref) = part is_c_of step ∷ post ＝ post_of part ∷ []
table (Binary Write) = type_is_a int ∷ e1 a ref ∷ e2 is_c_of e1 ∷ post ＝ post_of e2 ∷ post_at_p≧D ∷ []
table (Unary Read) = part a ref ∷ step is_c_of part ∷ post ＝ post_of part ∷ post_at_p＞0 ∷ []
table (Leaf Newlock) = type_is_a lock ∷ post ⊕ out ＝ pre ∷ []
table (Unary Lock) = type_is_a int ∷ part a lock ∷ post ＝ post_of part ⊕ «in» ∷ []
table (Unary Unlock) = type_is_a int ∷ part a lock ∷ post ⊕ out ＝ post_of part ∷ []
table (Leaf Newsem) = type_is_a sem ∷ post ＝ pre ∷ []
table (Unary Post) = type_is_a int ∷ part a sem ∷ post ⊕ K ＝ post_of part ∷ []
table (Unary Wait) = type_is_a int ∷ part a sem ∷ post ＝ post_of part ⊕ K ∷ []
table (Leaf Newrwlock) = type_is_a rwlock ∷ N× r ≦ w ∷ post ⊕ w ＝ pre ∷ []
table (Unary Rdlock) = type_is_a int ∷ part a rwlock ∷ post ＝ post_of part ⊕ r ∷ []
table (Unary Rdunlock) = type_is_a int ∷ part a rwlock ∷ post ⊕ r ＝ post_of part ∷ []
table (Unary Wrlock) = type_is_a int ∷ part a rwlock ∷ post ＝ post_of part ⊕ w ∷ []
table (Unary Wrunlock) = type_is_a int ∷ part a rwlock ∷ post ⊕ w ＝ post_of part ∷ []
table (Unary Call) = type_is result ∷ part is argument ∷ post_of part ＝ before ⊕ s ∷ post ＝ after ⊕ s ∷ []
