-- The flow of an expression at a location: what the entries on flow (F) and access (A) of its word's line in document 01's table say there;
-- and the flows of a program, its procedures' bodies and its root.
use Rattle.std.specs.Prelude.{Bool, true, false, List, [], ◌∷◌, ℕ, ◌+◌, ◌*◌, eqb}
use Rattle.spec.specs.Choice.{when◌then◌else◌}
use Rattle.spec.specs.Words.{calls}
use Rattle.spec.specs.Expression.{Expr, leaf, unary, binary, Procedure}
use Rattle.spec.specs.Program.{Program}
use Rattle.spec.specs.Split.{Split, map_at}
use Rattle.spec.specs.Maps.{share}
use Rattle.spec.specs.Kinds.{ref_location, first_map, second_map}
use Rattle.spec.specs.Table.{MapTerm, pre, s, post_of, K, «in», out, r, w, before, after, Entry, ◌a◌, ◌is◌, ◌shows◌, ◌is_c_of◌, ◌＝◌, ◌≧◌, N×◌≦◌, ◌⊕◌＝◌, ◌＝◌⊕◌, post_at_p＞0, post_at_p≧D, table}
use Rattle.spec.specs.Conditions.{step_number, kind, start_map, body_start, kept_back, signature}
use Rattle.spec.specs.declared.Location.{Location}
use Rattle.spec.specs.declared.Word.TheVariants.{Leaf, Unary, Binary}
use Rattle.spec.specs.declared.UnaryWord.{UnaryWord}
use Rattle.spec.specs.declared.UnaryWord.TheVariants.{While, Join, Ref, Read, Lock, Unlock, Post, Wait, Rdlock, Rdunlock, Wrlock, Wrunlock, Call}
use Rattle.spec.specs.declared.BinaryWord.{BinaryWord}
use Rattle.spec.specs.declared.BinaryWord.TheVariants.{Let, If, Spawn, Write}
use Rattle.fill_theory.specs.declared.Effect.{Effect}
use Rattle.fill_theory.specs.declared.UnaryTransfer.{UnaryTransfer}
use Rattle.fill_theory.specs.declared.UnaryTransfer.TheVariants as transfer
use Rattle.fill_theory.specs.declared.BinaryTransfer.{BinaryTransfer}
use Rattle.fill_theory.specs.declared.BinaryTransfer.TheVariants.{InTurn, Branch, Fork}
use Rattle.fill_theory.specs.Flow.{unchanged, Flow, alone, unary_flow, binary_flow, Root}

-- an access to the location p that needs d there needs nothing elsewhere
unfoldable pub asks : (here p : Location) → (d : ℕ) → ℕ
asks here p d = when eqb p.0 here.0 then d else 0

-- ------------------------------------------------------------------ a line of the table

-- what a sheet gives a step at a location: its number and the denominator; what the maps have there that its line names; and what an access
-- needs there that needs d at p
pub record Given : Type 0 where
  pub number : ℕ
  pub denominator : ℕ
  pub has : MapTerm → ℕ
  pub needs : (d : ℕ) → ℕ

-- the part of `while` runs again and again
unfoldable pub loops : UnaryWord → Bool
loops While = true
loops Join = false
loops Ref = false
loops Read = false
loops Lock = false
loops Unlock = false
loops Post = false
loops Wait = false
loops Rdlock = false
loops Rdunlock = false
loops Wrlock = false
loops Wrunlock = false
loops Call = false

module _ (g : Given) where
  -- what an entry takes, gives, needs or lends, beside what the entries behind it do
  unfoldable pub moving : Entry → Effect → Effect
  moving (n a k) E = E
  moving (n is t) E = E
  moving (n shows t) E = E
  moving (n is_c_of m) E = E
  moving (l ＝ m) E = E
  moving (l ≧ m) E = E
  moving (N× l ≦ m) E = record { takes = E.takes; gives = E.gives; needs = E.needs; lends = g.number * g.has l }
  moving (l ⊕ m ＝ n) E = record { takes = g.has m; gives = E.gives; needs = E.needs; lends = E.lends }
  moving (l ＝ m ⊕ n) E = record { takes = E.takes; gives = g.has n; needs = E.needs; lends = E.lends }
  moving post_at_p＞0 E = record { takes = E.takes; gives = E.gives; needs = g.needs 1; lends = E.lends }
  moving post_at_p≧D E = record { takes = E.takes; gives = E.gives; needs = g.needs g.denominator; lends = E.lends }

  unfoldable pub effect_of : List Entry → Effect
  effect_of [] = unchanged
  effect_of (x ∷ line) = moving x (effect_of line)

  -- the way of a step with one part that calls no procedure, and of one with two parts
  unfoldable pub part_transfer : UnaryWord → UnaryTransfer
  part_transfer x = when loops x then transfer.Loop else transfer.After (effect_of (table (Unary x)))

  unfoldable pub binary_transfer : BinaryWord → BinaryTransfer
  binary_transfer Let = InTurn (effect_of (table (Binary Let)))
  binary_transfer If = Branch
  binary_transfer Spawn = Fork (g.has s) (g.has K)
  binary_transfer Write = InTurn (effect_of (table (Binary Write)))

-- ------------------------------------------------------------------ the flow of an expression

module _ (S : Split) (here : Location) where
  -- what procedure f starts and ends with
  unfoldable pub before_here : (f : ℕ) → ℕ
  before_here f = share (map_at S (signature S f).before) here

  unfoldable pub after_here : (f : ℕ) → ℕ
  after_here f = share (map_at S (signature S f).after) here

  -- what a step e is given, whose K, in, out, r, w and p are those of the type of `holder`; nothing of the maps before and after steps,
  -- which are looked for, nor of a procedure's
  unfoldable pub has_here : (e holder : Expr) → MapTerm → ℕ
  has_here e h pre = 0
  has_here e h (post_of n) = 0
  has_here e h s = share (body_start S e) here
  has_here e h K = share (map_at S (first_map (kind S h))) here
  has_here e h «in» = share (map_at S (first_map (kind S h))) here
  has_here e h out = share (map_at S (second_map (kind S h))) here
  has_here e h r = share (map_at S (first_map (kind S h))) here
  has_here e h w = share (map_at S (second_map (kind S h))) here
  has_here e h before = 0
  has_here e h after = 0

  unfoldable pub given_here : (e holder : Expr) → Given
  given_here e h = record {
    number = step_number e;
    denominator = S.header.denominator;
    has = has_here e h;
    needs = asks here (ref_location (kind S h));
  }

  -- what a call wants and leaves: the numbers of its procedure, each with what is kept back
  unfoldable pub call_here : Expr → UnaryTransfer
  call_here e = let kept = share (kept_back S e) here in transfer.Call (before_here (step_number e) + kept) (after_here (step_number e) + kept)

  unfoldable pub flow_of : Expr → Flow
  flow_of (leaf x k v) = alone (effect_of (given_here (leaf x k v) (leaf x k v)) (table (Leaf x)))
  flow_of (unary x k v e₁) = let e = unary x k v e₁ in unary_flow (when calls x then call_here e else part_transfer (given_here e e₁) x) (flow_of e₁)
  flow_of (binary x k v e₁ e₂) = binary_flow (binary_transfer (given_here (binary x k v e₁ e₂) e₁) x) (flow_of e₁) (flow_of e₂)

  -- the procedures from number f on, each from its before to at least its after; then the root, from the start
  unfoldable pub roots_from : (f : ℕ) → List Procedure → (root : Expr) → List Root
  roots_from f [] root = record { pre = share (start_map S) here; due = 0; flow = flow_of root } ∷ []
  roots_from f (p ∷ ps) root = record { pre = before_here f; due = after_here f; flow = flow_of p.body } ∷ roots_from (f + 1) ps root

  unfoldable pub roots_of : Program → List Root
  roots_of P = roots_from 0 P.procedures P.root
