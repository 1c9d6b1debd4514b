-- What the program's columns p and the lent space s hold of a thread of the machine: of its variables and frames, row by row.
use Rattle.std.proofs.Common.{Some, slice_get}
use Prim.Native.Nat.{ℕ, suc, ◌+◌, ◌*◌, ◌-◌, ◌<◌, ◌≤◌}
use mathlib.Core.Path.{◌≡◌}
use mathlib.Core.List.{List, [], ◌∷◌}
use lib.ListN.{length, get_or}
use Rattle.spec.specs.Expression.{Position, Expr, leaf, unary, binary, size, Procedure}
use Rattle.spec.specs.Words.{largest_value, role}
use Rattle.spec.specs.declared.Role.{Role}
use Rattle.spec.specs.declared.Role.TheVariants.{Binds, Uses, Calls, Neither}
use Rattle.spec.specs.declared.Word.{Word}
use Rattle.spec.specs.declared.Word.TheVariants.{Leaf, Unary, Binary}
use Rattle.spec.specs.declared.LeafWord.{LeafWord}
use Rattle.spec.specs.declared.LeafWord.TheVariants as leaf_word
use Rattle.spec.specs.declared.UnaryWord.{UnaryWord}
use Rattle.spec.specs.declared.UnaryWord.TheVariants as unary_word
use Rattle.spec.specs.declared.BinaryWord.{BinaryWord}
use Rattle.spec.specs.declared.BinaryWord.TheVariants.{Let, If, Spawn, Write}
use Rattle.calculus.specs.Expression as calculus
use Rattle.calculus.specs.Expression.{Value, int, name}
use Rattle.workspace.specs.Layout.{words_at, values_at, proc_vars_at, code_of}
use Rattle.replay_control.specs.Layout.{second_part, finish, leave, procedures_at}
use Rattle.replay_control.specs.declared.ControlPoint.{ControlPoint}
use Rattle.replay_control.specs.Control.{variable, kept, called_from, continuation, second, first_of, stopped_at, ready_at, unrolled_at, done_with}
use Rattle.replay_machine.specs.Environment.{Env}
use Rattle.replay_machine.specs.Control as machine
use Rattle.replay_machine.specs.Control.{FrameForm, let_part, spawn_part, write_first, write_second, unary_part, again_part, Frame, step_frame, mark_frame, Control, done, at}

-- ------------------------------------------------------------------ numbers

-- a value: no step asks which constant it is
abbrev pub code_value : Value → ℕ
code_value (int k) = 0
code_value (name n) = suc n

-- the words of the calculus, as the sheet has them
abbrev pub part_word : calculus.Unary → UnaryWord
part_word calculus.join = unary_word.Join
part_word calculus.ref = unary_word.Ref
part_word calculus.read = unary_word.Read
part_word calculus.lock = unary_word.Lock
part_word calculus.unlock = unary_word.Unlock
part_word calculus.post = unary_word.Post
part_word calculus.wait = unary_word.Wait
part_word (calculus.hold calculus.rdlock) = unary_word.Rdlock
part_word (calculus.hold calculus.rdunlock) = unary_word.Rdunlock
part_word (calculus.hold calculus.wrlock) = unary_word.Wrlock
part_word (calculus.hold calculus.wrunlock) = unary_word.Wrunlock
part_word (calculus.call f) = unary_word.Call

-- the number of a word with one part: of a call its procedure
abbrev pub PartNumber : calculus.Unary → ℕ → Type 0
PartNumber calculus.join v = Unit {0}
PartNumber calculus.ref v = Unit {0}
PartNumber calculus.read v = Unit {0}
PartNumber calculus.lock v = Unit {0}
PartNumber calculus.unlock v = Unit {0}
PartNumber calculus.post v = Unit {0}
PartNumber calculus.wait v = Unit {0}
PartNumber (calculus.hold w) v = Unit {0}
PartNumber (calculus.call f) v = v ≡ f

abbrev pub no_part_word : calculus.Nullary → LeafWord
no_part_word calculus.newtid = leaf_word.Newtid
no_part_word calculus.newlock = leaf_word.Newlock
no_part_word calculus.newsem = leaf_word.Newsem
no_part_word (calculus.newrwlock N) = leaf_word.Newrwlock

-- the number of a maker's step: of a read-write lock its reading places
abbrev pub NoPartNumber : calculus.Nullary → ℕ → Type 0
NoPartNumber calculus.newtid v = Unit {0}
NoPartNumber calculus.newlock v = Unit {0}
NoPartNumber calculus.newsem v = Unit {0}
NoPartNumber (calculus.newrwlock N) v = v ≡ N

-- a call's procedure is one of so many
abbrev pub Called : (procedures : ℕ) → Role → (v : ℕ) → Type 0
Called m Binds v = Unit {0}
Called m Uses v = Unit {0}
Called m Calls v = v < m
Called m Neither v = Unit {0}

-- a number is in the range of its word
abbrev pub Small : (procedures : ℕ) → Word → (v : ℕ) → Type 0
Small m w v = (v ≤ largest_value w) × Called m (role w) v

-- what follows the first and the second part of step k, which has continuation c
abbrev pub after_first : BinaryWord → (k c : ℕ) → ℕ
after_first Let k c = k
after_first If k c = c
after_first Spawn k c = k
after_first Write k c = k

abbrev pub after_second : BinaryWord → (k c : ℕ) → ℕ
after_second Let k c = c
after_second If k c = c
after_second Spawn k c = finish
after_second Write k c = second_part + k

-- ------------------------------------------------------------------ the program

module _ (p : List ℕ) where
  -- a second part stands behind its step
  abbrev pub Far : Word → (k : ℕ) → Type 0
  Far (Leaf w) k = Unit {0}
  Far (Unary w) k = Unit {0}
  Far (Binary w) k = k < second p k

  -- step k stands at that position, with this word, number and continuation
  pub record Row (k : ℕ) (q : Position) (w : Word) (v c : ℕ) : Type 0 where
    pub below : k < 256
    pub index : q.index ≡ k
    pub code : get_or p (words_at + k) 0 ≡ code_of w
    pub number : get_or p (values_at + k) 0 ≡ v
    pub next : continuation p k ≡ c
    pub small : Small (get_or p procedures_at 0) w v
    pub far : Far w k

  -- an expression stands at step k, and c follows it
  abbrev pub Stands : (c k : ℕ) → Expr → Type 0
  Stands c k (leaf w q v) = Row k q (Leaf w) v c
  Stands c k (unary w q v e) = Row k q (Unary w) v c × Stands k (k + 1) e
  Stands c k (binary w q v e₁ e₂) =
      Row k q (Binary w) v c × Stands (after_first w k c) (k + 1) e₁ × (second p k ≡ k + 1 + size e₁) × Stands (after_second w k c) (second p k) e₂

  -- a step by its position alone
  abbrev pub RowOf : Position → Word → (v : ℕ) → Type 0
  RowOf q w v = Row q.index q w v (continuation p q.index)

  -- the body of procedure f stands there, and its variable is stored
  pub record BodyStands (f : ℕ) (procedure : Procedure) : Type 0 where
    pub stands : Stands leave (first_of p f) procedure.body
    pub parameter : get_or p (proc_vars_at + f) 0 ≡ procedure.parameter
    pub low : procedure.parameter < 256

  -- so do those of all procedures
  pub record BodiesStand (procedures : List Procedure) : Type 0 where
    pub counted : get_or p procedures_at 0 ≡ length procedures
    pub each : (f : ℕ) (procedure : Procedure) → slice_get procedures f ≡ Some procedure → BodyStands f procedure

  -- ---------------------------------------------------------------- a thread

  module _ (s : List ℕ) where
    -- in row r: the values of the sheet's variables
    abbrev pub Values : (r : ℕ) → Env → Type 0
    Values r σ = (x : ℕ) → x < 256 → variable s r x ≡ code_value (σ x)

    -- in row r: the step at q waits for a part that has continuation c
    abbrev pub PartAt : (r c : ℕ) → Position → FrameForm → Type 0
    PartAt r c q (let_part x e) = (c ≡ q.index) × RowOf q (Binary Let) x × Stands (continuation p q.index) (second p q.index) e
    PartAt r c q (spawn_part e) = (c ≡ q.index) × (v : ℕ) × RowOf q (Binary Spawn) v × Stands finish (second p q.index) e
    PartAt r c q (write_first e) = (c ≡ q.index) × (v : ℕ) × RowOf q (Binary Write) v × Stands (second_part + q.index) (second p q.index) e
    PartAt r c q (write_second v) = (c ≡ second_part + q.index) × (n : ℕ) × RowOf q (Binary Write) n × (kept s r q.index ≡ code_value v)
    PartAt r c q (unary_part o) = (c ≡ q.index) × (v : ℕ) × RowOf q (Unary (part_word o)) v × PartNumber o v
    PartAt r c q (again_part e) = (c ≡ q.index) × (v : ℕ) × RowOf q (Unary unary_word.While) v × Stands q.index (q.index + 1) e

    -- a frame of thread t whose part has continuation c; its step is below b. The body of an open call has its row, and the caller's
    -- variables stand in the row before.
    abbrev pub FrameAt : (t r b c : ℕ) → Frame → Type 0
    FrameAt t r b c (step_frame q f) = (q.index < b) × PartAt r c q f
    FrameAt t r b c (mark_frame σ) = (66 * t < r) × (c ≡ leave) × (called_from s r < 256) × Values (r - 1) σ

    -- the step of a frame in row r; of an open call, that of the call
    abbrev pub step_of : (r : ℕ) → Frame → ℕ
    step_of r (step_frame q f) = q.index
    step_of r (mark_frame σ) = called_from s r

    -- the row of the frames behind a frame
    abbrev pub row_behind : (r : ℕ) → Frame → ℕ
    row_behind r (step_frame q f) = r
    row_behind r (mark_frame σ) = r - 1

    -- the frames of thread t around what has continuation c, in row r; in a row each is outside the one before
    abbrev pub Frames : (t r b c : ℕ) → List Frame → Type 0
    Frames t r b c [] = (r ≡ 66 * t) × (c ≡ finish)
    Frames t r b c (f ∷ K) = FrameAt t r b c f × Frames t (row_behind r f) (step_of r f) (continuation p (step_of r f)) K

    -- the word that the thread is at, in row r
    abbrev pub WordAt : (r : ℕ) → ControlPoint → machine.Word → Type 0
    WordAt r f (machine.let_word q x v e) =
        (f ≡ ready_at r q.index (code_value v)) × RowOf q (Binary Let) x × Stands (continuation p q.index) (second p q.index) e
    WordAt r f (machine.if_word q e₁ e₂) =
        (f ≡ stopped_at r q.index) × (v : ℕ) × RowOf q (Binary If) v × Stands (continuation p q.index) (q.index + 1) e₁
        × Stands (continuation p q.index) (second p q.index) e₂
    WordAt r f (machine.while_word q e) = (f ≡ stopped_at r q.index) × (v : ℕ) × RowOf q (Unary unary_word.While) v × Stands q.index (q.index + 1) e
    WordAt r f (machine.spawn_word q v e) =
        (f ≡ ready_at r q.index (code_value v)) × (n : ℕ) × RowOf q (Binary Spawn) n × Stands finish (second p q.index) e
    WordAt r f (machine.write_word q v w) =
        (f ≡ ready_at r q.index (code_value w)) × (n : ℕ) × RowOf q (Binary Write) n × (kept s r q.index ≡ code_value v)
    WordAt r f (machine.unary_word q o v) = (f ≡ ready_at r q.index (code_value v)) × (n : ℕ) × RowOf q (Unary (part_word o)) n × PartNumber o n
    WordAt r f (machine.nullary_word q o) = (f ≡ stopped_at r q.index) × (v : ℕ) × RowOf q (Leaf (no_part_word o)) v × NoPartNumber o v
    WordAt r f (machine.unrolled_word q e) = (f ≡ unrolled_at r q.index) × (v : ℕ) × RowOf q (Unary unary_word.While) v × Stands q.index (q.index + 1) e
    WordAt r f (machine.again_word q v e) =
        (f ≡ ready_at r q.index (code_value v)) × (n : ℕ) × RowOf q (Unary unary_word.While) n × Stands q.index (q.index + 1) e

    abbrev pub place_of : machine.Word → ℕ
    place_of (machine.let_word q x v e) = q.index
    place_of (machine.if_word q e₁ e₂) = q.index
    place_of (machine.while_word q e) = q.index
    place_of (machine.spawn_word q v e) = q.index
    place_of (machine.write_word q v w) = q.index
    place_of (machine.unary_word q o v) = q.index
    place_of (machine.nullary_word q o) = q.index
    place_of (machine.unrolled_word q e) = q.index
    place_of (machine.again_word q v e) = q.index

    -- thread t stands at f
    abbrev pub ControlAt : (t : ℕ) → ControlPoint → Control → Type 0
    ControlAt t f (done v) = f ≡ done_with (66 * t) (code_value v)
    ControlAt t f (at σ w K) = Values f.row σ × WordAt f.row f w × Frames t f.row (place_of w) (continuation p (place_of w)) K
