-- What stands where in the work space, and the numbers that stand for words and types.
use Rattle.std.specs.Prelude.{List, [], ◌∷◌, ℕ, zero, suc, ◌+◌, ◌*◌, eqb, get_or}
use Rattle.spec.specs.Choice.{when◌then◌else◌}
use Rattle.spec.specs.Split.{Map}
use Rattle.spec.specs.Kinds.{ref, lock, tid, sem, rwlock, code, kind_of}
use Rattle.spec.specs.declared.TypeNumber.{TypeNumber}
use Rattle.spec.specs.declared.MapNumber.{MapNumber}
use Rattle.spec.specs.declared.TypeLine.{TypeLine}
use Rattle.spec.specs.declared.TypeLine.TheVariants as declared_type
use Rattle.spec.specs.declared.Word.{Word}
use Rattle.spec.specs.declared.Word.TheVariants.{Leaf, Unary, Binary}
use Rattle.spec.specs.declared.LeafWord.{LeafWord}
use Rattle.spec.specs.declared.LeafWord.TheVariants.{Var, Int, Newtid, Newlock, Newsem, Newrwlock}
use Rattle.spec.specs.declared.UnaryWord.{UnaryWord}
use Rattle.spec.specs.declared.UnaryWord.TheVariants.{While, Join, Ref, Read, Lock, Unlock, Post, Wait, Rdlock, Rdunlock, Wrlock, Wrunlock, Call}
use Rattle.spec.specs.declared.BinaryWord.{BinaryWord}
use Rattle.spec.specs.declared.BinaryWord.TheVariants.{Let, If, Spawn, Write}
use Rattle.workspace.specs.declared.Rule.{Rule}
use Rattle.workspace.specs.declared.Rule.TheVariants.{VAR, INT, LET, IF, WHILE, NEWT, SPAWN, JOIN, REF, WRITE, READ, NEWL, LCK, ULCK, NEWSEM, POST, WAIT, NEWRWLOCK, RDLOCK, RDUNLOCK, WRLOCK, WRUNLOCK, CALL}
use Rattle.workspace.specs.declared.Traits.{Traits}
use Rattle.workspace.specs.declared.Shape.{Shape}
use Rattle.workspace.specs.declared.Shape.TheVariants as shape
use Rattle.workspace.specs.declared.Touch.{Touch}
use Rattle.workspace.specs.declared.Touch.TheVariants.{Nothing, Reads, Writes}

-- ------------------------------------------------------------------ offsets

-- how many numbers a check works in
abbrev pub work_size : ℕ
work_size = 16384

-- the offsets of src/lib.rt, by their names there
abbrev pub words_at : ℕ
words_at = 0

abbrev pub values_at : ℕ
values_at = 272

abbrev pub ends_at : ℕ
ends_at = 544

abbrev pub lets_at : ℕ
lets_at = 816

abbrev pub lines_at : ℕ
lines_at = 1088

abbrev pub proc_lines_at : ℕ
proc_lines_at = 1360

abbrev pub proc_vars_at : ℕ
proc_vars_at = 1632

abbrev pub proc_firsts_at : ℕ
proc_firsts_at = 1904

-- how many steps there is room for, and as many `proc` lines: those of the longest program with the most procedures
abbrev pub step_room : ℕ
step_room = 272

-- the mark of procedure 0, which no index of a let is
abbrev pub proc_mark : ℕ
proc_mark = 256

abbrev pub row_types_at : ℕ
row_types_at = 2176

abbrev pub posts_at : ℕ
posts_at = 2432

abbrev pub starts_at : ℕ
starts_at = 2688

abbrev pub pres_at : ℕ
pres_at = 2944

abbrev pub kinds_at : ℕ
kinds_at = 3200

abbrev pub firsts_at : ℕ
firsts_at = 3264

abbrev pub seconds_at : ℕ
seconds_at = 3328

-- the end of the types; the 16 numbers from here on are not used
abbrev pub types_end : ℕ
types_end = 3392

abbrev pub sig_befores_at : ℕ
sig_befores_at = 3408

abbrev pub sig_arguments_at : ℕ
sig_arguments_at = 3424

abbrev pub sig_afters_at : ℕ
sig_afters_at = 3440

abbrev pub sig_results_at : ℕ
sig_results_at = 3456

abbrev pub maps_at : ℕ
maps_at = 4096

abbrev pub stride : ℕ
stride = 16

abbrev pub empty_map : ℕ
empty_map = 512

abbrev pub empty_row_at : ℕ
empty_row_at = 12288

-- ------------------------------------------------------------------ words

-- the rules, one a word: those of Figure 5 in the printed order, then those of section 3.1.4, those of read-write locks and
-- that of calls; CALL is the last
unfoldable pub printed : List Rule
printed =
    VAR ∷ INT ∷ LET ∷ IF ∷ WHILE ∷ NEWT ∷ SPAWN ∷ JOIN ∷ REF ∷ WRITE ∷ READ ∷ NEWL ∷ LCK ∷ ULCK ∷ NEWSEM ∷ POST ∷ WAIT ∷ NEWRWLOCK ∷ RDLOCK
    ∷ RDUNLOCK ∷ WRLOCK ∷ WRUNLOCK ∷ []

unfoldable pub rule_of : ℕ → Rule
rule_of k = get_or printed k CALL

-- what is known of a rule: the word that it is for, how that is evaluated, and what it does with a cell
abbrev pub touching : Word → Shape → Touch → Traits
touching x s u = record { word = x; shape = s; touch = u }

-- of a word that touches no cell
abbrev pub known : Word → Shape → Traits
known x s = touching x s Nothing

abbrev pub traits_of : Rule → Traits
traits_of VAR = known (Leaf Var) shape.Variable
traits_of INT = known (Leaf Int) shape.Constant
traits_of LET = known (Binary Let) shape.Let
traits_of IF = known (Binary If) shape.If
traits_of WHILE = known (Unary While) shape.While
traits_of NEWT = known (Leaf Newtid) shape.NoPart
traits_of SPAWN = known (Binary Spawn) shape.Spawn
traits_of JOIN = known (Unary Join) shape.OnePart
traits_of REF = known (Unary Ref) shape.OnePart
traits_of WRITE = touching (Binary Write) shape.Write Writes
traits_of READ = touching (Unary Read) shape.OnePart Reads
traits_of NEWL = known (Leaf Newlock) shape.NoPart
traits_of LCK = known (Unary Lock) shape.OnePart
traits_of ULCK = known (Unary Unlock) shape.OnePart
traits_of NEWSEM = known (Leaf Newsem) shape.NoPart
traits_of POST = known (Unary Post) shape.OnePart
traits_of WAIT = known (Unary Wait) shape.OnePart
traits_of NEWRWLOCK = known (Leaf Newrwlock) shape.NoPart
traits_of RDLOCK = known (Unary Rdlock) shape.OnePart
traits_of RDUNLOCK = known (Unary Rdunlock) shape.OnePart
traits_of WRLOCK = known (Unary Wrlock) shape.OnePart
traits_of WRUNLOCK = known (Unary Wrunlock) shape.OnePart
traits_of CALL = known (Unary Call) shape.Call

abbrev pub word_by : Rule → Word
word_by r = (traits_of r).word

abbrev pub shape_of : Rule → Shape
shape_of r = (traits_of r).shape

abbrev pub touch_of : Rule → Touch
touch_of r = (traits_of r).touch

unfoldable pub word_of : ℕ → Word
word_of k = word_by (rule_of k)

-- the code of a word is the place of its rule
abbrev pub leaf_code : LeafWord → ℕ
leaf_code Var = 0
leaf_code Int = 1
leaf_code Newtid = 5
leaf_code Newlock = 11
leaf_code Newsem = 14
leaf_code Newrwlock = 17

abbrev pub unary_code : UnaryWord → ℕ
unary_code While = 4
unary_code Join = 7
unary_code Ref = 8
unary_code Read = 10
unary_code Lock = 12
unary_code Unlock = 13
unary_code Post = 15
unary_code Wait = 16
unary_code Rdlock = 18
unary_code Rdunlock = 19
unary_code Wrlock = 20
unary_code Wrunlock = 21
unary_code Call = 22

abbrev pub binary_code : BinaryWord → ℕ
binary_code Let = 2
binary_code If = 3
binary_code Spawn = 6
binary_code Write = 9

abbrev pub code_of : Word → ℕ
code_of (Leaf w) = leaf_code w
code_of (Unary w) = unary_code w
code_of (Binary w) = binary_code w

-- ------------------------------------------------------------------ types

-- the code of a type line's kind, and the two numbers of the line
abbrev pub kind_code : TypeLine → ℕ
kind_code t = code (kind_of t)

abbrev pub first_of : TypeLine → ℕ
first_of declared_type.Int = 0
first_of (declared_type.Ref p c) = p.0
first_of (declared_type.Lock i o) = i.0
first_of (declared_type.Tid k) = k.0
first_of (declared_type.Sem k) = k.0
first_of (declared_type.Rwlock r w) = r.0

abbrev pub second_of : TypeLine → ℕ
second_of declared_type.Int = 0
second_of (declared_type.Ref p c) = c.0
second_of (declared_type.Lock i o) = o.0
second_of (declared_type.Tid k) = 0
second_of (declared_type.Sem k) = 0
second_of (declared_type.Rwlock r w) = w.0

unfoldable pub type_of : (kind first second : ℕ) → TypeLine
type_of kind first second =
    when eqb kind (code ref) then declared_type.Ref (record { 0 = first }) (record { 0 = second })
    else when eqb kind (code lock) then declared_type.Lock (record { 0 = first }) (record { 0 = second })
    else when eqb kind (code tid) then declared_type.Tid (record { 0 = first })
    else when eqb kind (code sem) then declared_type.Sem (record { 0 = first })
    else when eqb kind (code rwlock) then declared_type.Rwlock (record { 0 = first }) (record { 0 = second })
    else declared_type.Int

unfoldable pub type_at : List ℕ → TypeNumber → TypeLine
type_at w t = type_of (get_or w (kinds_at + t.0) 0) (get_or w (firsts_at + t.0) 0) (get_or w (seconds_at + t.0) 0)

-- ------------------------------------------------------------------ maps

unfoldable pub map_cell : List ℕ → MapNumber → (l : ℕ) → ℕ
map_cell w m l = get_or w (maps_at + stride * m.0 + l) 0

-- what a map has at n locations from l on
unfoldable pub map_from : (w : List ℕ) → MapNumber → (l n : ℕ) → Map
map_from w m l zero = []
map_from w m l (suc n) = map_cell w m l ∷ map_from w m (l + 1) n

-- the map that a number stands for, in a sheet of n locations: what the work space holds at its place
unfoldable pub map_in : (w : List ℕ) (n : ℕ) → MapNumber → Map
map_in w n m = map_from w m 0 n
