-- The words by role: how each is spelled, the range of its number v, what a step does with v, which row has a start, and the maps
-- before its parts. A new word has its rows here; beside it only the table of conditions and Figure 5 go word by word.
use Rattle.std.specs.Prelude.{List, [], ◌∷◌, ◌++◌, Bool, true, false, ℕ}
use Rattle.spec.specs.Choice.{when◌then◌else◌}
use Rattle.spec.specs.Text.{bytes}
use Rattle.spec.specs.Reading.{Range, ◌to◌}
use Rattle.spec.specs.declared.Role.{Role}
use Rattle.spec.specs.declared.ProgramHeading.{ProgramHeading}
use Rattle.spec.specs.declared.ProgramHeading.TheVariants.{P, P2}
use Rattle.spec.specs.declared.Role.TheVariants.{Binds, Uses, Calls, Neither}
use Rattle.spec.specs.declared.Word.{Word}
use Rattle.spec.specs.declared.Word.TheVariants.{Leaf, Unary, Binary}
use Rattle.spec.specs.declared.LeafWord.TheVariants.{Var, Int, Newtid, Newlock, Newsem, Newrwlock}
use Rattle.spec.specs.declared.UnaryWord.{UnaryWord}
use Rattle.spec.specs.declared.UnaryWord.TheVariants.{While, Join, Ref, Read, Lock, Unlock, Post, Wait, Rdlock, Rdunlock, Wrlock, Wrunlock, Call}
use Rattle.spec.specs.declared.BinaryWord.{BinaryWord}
use Rattle.spec.specs.declared.BinaryWord.TheVariants.{Let, If, Spawn, Write}

-- ------------------------------------------------------------------ spelling

-- "No parts"
unfoldable pub leaf_words : List (List ℕ × Word)
leaf_words =
    (bytes "var", Leaf Var)
    ∷ (bytes "int", Leaf Int)
    ∷ (bytes "newtid", Leaf Newtid)
    ∷ (bytes "newlock", Leaf Newlock)
    ∷ (bytes "newsem", Leaf Newsem)
    ∷ (bytes "newrwlock", Leaf Newrwlock)
    ∷ []

-- "One part e": loops, threads and cells; locks and semaphores; read-write locks
unfoldable pub cell_words : List (List ℕ × Word)
cell_words =
    (bytes "while", Unary While)
    ∷ (bytes "join", Unary Join)
    ∷ (bytes "ref", Unary Ref)
    ∷ (bytes "read", Unary Read)
    ∷ []

unfoldable pub lock_words : List (List ℕ × Word)
lock_words =
    (bytes "lock", Unary Lock)
    ∷ (bytes "unlock", Unary Unlock)
    ∷ (bytes "post", Unary Post)
    ∷ (bytes "wait", Unary Wait)
    ∷ []

unfoldable pub hold_words : List (List ℕ × Word)
hold_words =
    (bytes "rdlock", Unary Rdlock)
    ∷ (bytes "rdunlock", Unary Rdunlock)
    ∷ (bytes "wrlock", Unary Wrlock)
    ∷ (bytes "wrunlock", Unary Wrunlock)
    ∷ []

unfoldable pub unary_words : List (List ℕ × Word)
unary_words = cell_words ++ (lock_words ++ hold_words)

-- "Two parts e1, e2"
unfoldable pub binary_words : List (List ℕ × Word)
binary_words =
    (bytes "let", Binary Let)
    ∷ (bytes "if", Binary If)
    ∷ (bytes "spawn", Binary Spawn)
    ∷ (bytes "write", Binary Write)
    ∷ []

unfoldable pub words : List (List ℕ × Word)
words = leaf_words ++ (unary_words ++ binary_words)

-- the words under a heading: `call` too in a `P2` sheet. "In a `P` sheet both new words are 11"; `proc` is no step.
unfoldable pub words_under : ProgramHeading → List (List ℕ × Word)
words_under P = words
words_under P2 = (bytes "call", Unary Call) ∷ words

-- ------------------------------------------------------------------ the number v

-- the word whose number v is that of a procedure
unfoldable pub calls : UnaryWord → Bool
calls While = false
calls Join = false
calls Ref = false
calls Read = false
calls Lock = false
calls Unlock = false
calls Post = false
calls Wait = false
calls Rdlock = false
calls Rdunlock = false
calls Wrlock = false
calls Wrunlock = false
calls Call = true

-- "v is the variable, 0 to 255"; "v is the constant, 0 to 65,535"; on `newrwlock` the number of reading places, 1 to 64; "`call,f`, f
-- from 0 to 15"; "v is 0 on all other words, else out of range"
unfoldable pub least_value : Word → ℕ
least_value (Leaf Var) = 0
least_value (Leaf Int) = 0
least_value (Leaf Newtid) = 0
least_value (Leaf Newlock) = 0
least_value (Leaf Newsem) = 0
least_value (Leaf Newrwlock) = 1
least_value (Unary w) = 0
least_value (Binary w) = 0

unfoldable pub largest_value : Word → ℕ
largest_value (Leaf Var) = 255
largest_value (Leaf Int) = 65535
largest_value (Leaf Newtid) = 0
largest_value (Leaf Newlock) = 0
largest_value (Leaf Newsem) = 0
largest_value (Leaf Newrwlock) = 64
largest_value (Unary w) = when calls w then 15 else 0
largest_value (Binary Let) = 255
largest_value (Binary If) = 0
largest_value (Binary Spawn) = 0
largest_value (Binary Write) = 0

unfoldable pub value_range : Word → Range
value_range w = least_value w to largest_value w

-- "A variable is bound by at most one `let` and used [..]", by `var`; a `proc` line binds too
unfoldable pub role : Word → Role
role (Leaf Var) = Uses
role (Leaf Int) = Neither
role (Leaf Newtid) = Neither
role (Leaf Newlock) = Neither
role (Leaf Newsem) = Neither
role (Leaf Newrwlock) = Neither
role (Unary w) = when calls w then Calls else Neither
role (Binary Let) = Binds
role (Binary If) = Neither
role (Binary Spawn) = Neither
role (Binary Write) = Neither

-- what is in scope of a step's e2: what its variable stands for, if it binds one, in front of what is in scope of the step
unfoldable pub binding : {A : Type 0} → Role → A → List A → List A
binding Binds x xs = x ∷ xs
binding Uses x xs = xs
binding Calls x xs = xs
binding Neither x xs = xs

-- ------------------------------------------------------------------ the row

-- which rows have an s, the third field that a row calls its start: "for `spawn` the map its body starts with [..]. On any other word s
-- is empty"; "A call's s is the map kept back"
unfoldable pub takes_start : Word → Bool
takes_start (Leaf w) = false
takes_start (Unary w) = calls w
takes_start (Binary Let) = false
takes_start (Binary If) = false
takes_start (Binary Spawn) = true
takes_start (Binary Write) = false

-- which of them keep it back, and so cannot do without
unfoldable pub keeps_back : Word → Bool
keeps_back (Leaf w) = false
keeps_back (Unary w) = calls w
keeps_back (Binary w) = false

-- ------------------------------------------------------------------ the map before a part

-- of maps, and of whatever stands for them: "the part of `while` has the `while`'s own post; [..] any other part has its step's pre"
unfoldable pub pre_of_part : {A : Type 0} → UnaryWord → (pre post : A) → A
pre_of_part While pre post = post
pre_of_part Join pre post = pre
pre_of_part Ref pre post = pre
pre_of_part Read pre post = pre
pre_of_part Lock pre post = pre
pre_of_part Unlock pre post = pre
pre_of_part Post pre post = pre
pre_of_part Wait pre post = pre
pre_of_part Rdlock pre post = pre
pre_of_part Rdunlock pre post = pre
pre_of_part Wrlock pre post = pre
pre_of_part Wrunlock pre post = pre
pre_of_part Call pre post = pre

-- "for `let` and `write`, [..] e2 has e1's post; both parts of `if` have its pre; [..] in `spawn`, [..] e2 has s";
-- e1 has the step's pre on each of these words
unfoldable pub pre_of_second : {A : Type 0} → BinaryWord → (pre post₁ start : A) → A
pre_of_second Let pre post₁ start = post₁
pre_of_second If pre post₁ start = pre
pre_of_second Spawn pre post₁ start = start
pre_of_second Write pre post₁ start = post₁
