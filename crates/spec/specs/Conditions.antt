-- The conditions, from Figure 5.
use Rattle.std.specs.Prelude.{List, [], ◌∷◌, map, Bool, ◌&&◌, ℕ, eqb, leb, ltb, get_or, replicate, Option, None, Some}
use Rattle.spec.specs.Choice.{when◌then◌else◌}
use Rattle.spec.specs.Expression.{Expr, leaf, unary, binary, index_of, Procedure}
use Rattle.spec.specs.Split.{Map, Row, no_row, no_signature, Split}
use Rattle.spec.specs.declared.Signature.{Signature}
unfoldable pub use Rattle.spec.specs.Split.{type_at, map_at}
use Rattle.spec.specs.Kinds.{ref, lock, is as is_of, ref_location, content, first_map, second_map}
use Rattle.spec.specs.Agreement.{agree}
use Rattle.spec.specs.Maps.{◌=ᵐ◌, ◌≥ᵐ◌, holds_everywhere, ◌+ᵐ◌, ◌×ᵐ◌, share}
use Rattle.spec.specs.declared.TypeNumber.{TypeNumber}
use Rattle.spec.specs.declared.MapNumber.{MapNumber}
use Rattle.spec.specs.declared.Location.{Location}
use Rattle.spec.specs.declared.TypeLine.{TypeLine}
use Rattle.spec.specs.declared.Word.{Word}
use Rattle.spec.specs.declared.Word.TheVariants.{Leaf, Unary, Binary}
use Rattle.spec.specs.Table as entry
use Rattle.spec.specs.Table.{Node, step, e1, e2, TypeTerm, type_of, type_of_its_let, result, argument, MapTerm, s, post_of, K, «in», out, r, before, after, Entry, ◌a◌, ◌is◌, ◌shows◌, ◌is_c_of◌, ◌＝◌, ◌≧◌, N×◌≦◌, ◌⊕◌＝◌, ◌＝◌⊕◌, post_at_p＞0, post_at_p≧D, table}

-- a condition: on types (T); on flow (F), with the lowest location at which it fails; on access (A) to a location
pub data Condition : Type 0 where
  T : Bool → Condition
  F : Option ℕ → Condition
  A : Bool → (p : Location) → Condition

-- the types of the variables in scope
abbrev pub Env : Type 0
Env = List (ℕ × TypeNumber)

-- the type of the variable v's let's e1; type 0 for an unbound variable is never seen, since 14 refuses that
unfoldable pub type_in : Env → (v : ℕ) → TypeNumber
type_in [] v = record { 0 = 0 }
type_in (b ∷ Γ) v = when eqb b.0 v then b.1 else type_in Γ v

-- a ref type whose c agrees with the type t
unfoldable pub contains : (agrees : TypeNumber → TypeNumber → Bool) → TypeLine → TypeNumber → Bool
contains agrees x t = is_of ref x && agrees (content x) t

-- of a step: its word, its number v, and the step or part that an entry names. For e1 a step without parts is taken itself, since its K, in,
-- out, r and w are those of its own type; no line of the table names another part that its word has not.
abbrev pub step_word : Expr → Word
step_word (leaf w k v) = Leaf w
step_word (unary w k v e₁) = Unary w
step_word (binary w k v e₁ e₂) = Binary w

abbrev pub step_number : Expr → ℕ
step_number (leaf w k v) = v
step_number (unary w k v e₁) = v
step_number (binary w k v e₁ e₂) = v

abbrev pub node_of : Expr → Node → Expr
node_of e step = e
node_of (leaf w k v) e1 = leaf w k v
node_of (leaf w k v) e2 = leaf w k v
node_of (unary w k v e₁) e1 = e₁
node_of (unary w k v e₁) e2 = e₁
node_of (binary w k v e₁ e₂) e1 = e₁
node_of (binary w k v e₁ e₂) e2 = e₂

module _ (S : Split) where
  -- the start, which a program's first step has for its pre
  unfoldable pub start_map : Map
  start_map = map_at S S.header.start

  -- of two lock types: the in of the first is nowhere above that of the second, its out nowhere below
  unfoldable pub looser_lock : (shown own : TypeLine) → Bool
  looser_lock x y = holds_everywhere (map_at S (first_map y) ≥ᵐ map_at S (first_map x)) && holds_everywhere (map_at S (second_map x) ≥ᵐ map_at S (second_map y))

  -- "A var line may show a lock type whose in is nowhere above and whose out is nowhere below those of its let's value; other
  -- agreement is unchanged, including inside refs."
  unfoldable pub may_show : (shown own : TypeNumber) → Bool
  may_show t u =
      when is_of lock (type_at S t) && is_of lock (type_at S u)
      then looser_lock (type_at S t) (type_at S u)
      else agree S t u

  -- the split's row of an expression's first step
  unfoldable pub row : Expr → Row
  row e = get_or S.rows (index_of e) no_row

  -- of an expression: its type by number, that type's line, its post
  unfoldable pub type : Expr → TypeNumber
  type e = (row e).type

  unfoldable pub kind : Expr → TypeLine
  kind e = type_at S (type e)

  unfoldable pub post : Expr → Map
  post e = map_at S (row e).post

  -- "an empty start now means nothing of any location"
  unfoldable pub start_or : Option MapNumber → Map
  start_or None = replicate S.header.locations 0
  start_or (Some m) = map_at S m

  -- the map that a spawned body starts with
  unfoldable pub body_start : Expr → Map
  body_start e = start_or (row e).start

  -- "A call's s is the map kept back"; it is never empty, since 50 refuses that under every heading
  unfoldable pub kept_back : Expr → Map
  kept_back e = body_start e

  -- the signature of procedure f
  unfoldable pub signature : (f : ℕ) → Signature
  signature f = get_or S.signatures f no_signature

  -- ------------------------------------------------------------------ the table at a step

  -- at the step e, with the types of the variables there and its pre
  module _ (Γ : Env) (pre : Map) (e : Expr) where
    abbrev pub type_term : TypeTerm → TypeNumber
    type_term (type_of p) = type (node_of e p)
    type_term type_of_its_let = type_in Γ (step_number e)
    type_term result = (signature (step_number e)).result
    type_term argument = (signature (step_number e)).argument

    abbrev pub map_term : MapTerm → Map
    map_term entry.pre = pre
    map_term s = body_start e
    map_term (post_of p) = post (node_of e p)
    map_term K = map_at S (first_map (kind (node_of e e1)))
    map_term «in» = map_at S (first_map (kind (node_of e e1)))
    map_term out = map_at S (second_map (kind (node_of e e1)))
    map_term r = map_at S (first_map (kind (node_of e e1)))
    map_term entry.w = map_at S (second_map (kind (node_of e e1)))
    map_term before = map_at S (signature (step_number e)).before
    map_term after = map_at S (signature (step_number e)).after

    -- `agrees` says which types agree, `shown` which type a var line may show for its let's value; p is the location in the type of e1
    module _ (agrees shown : TypeNumber → TypeNumber → Bool) where
      abbrev pub says : Entry → Condition
      says (p a k) = T (is_of k (kind (node_of e p)))
      says (p is t) = T (agrees (type (node_of e p)) (type_term t))
      says (p shows t) = T (shown (type (node_of e p)) (type_term t))
      says (p is_c_of q) = T (contains agrees (kind (node_of e q)) (type (node_of e p)))
      says (l ＝ m) = F (map_term l =ᵐ map_term m)
      says (l ≧ m) = F (map_term l ≥ᵐ map_term m)
      says (N× l ≦ m) = F (map_term m ≥ᵐ step_number e ×ᵐ map_term l)
      says (l ⊕ m ＝ n) = F (map_term l +ᵐ map_term m =ᵐ map_term n)
      says (l ＝ m ⊕ n) = F (map_term l =ᵐ map_term m +ᵐ map_term n)
      says post_at_p＞0 = let p = ref_location (kind (node_of e e1)) in A (ltb 0 (share (post e) p)) p
      says post_at_p≧D = let p = ref_location (kind (node_of e e1)) in A (leb S.header.denominator (share (post e) p)) p

      unfoldable pub conditions_by : List Condition
      conditions_by = map says (table (step_word e))

  -- the conditions of a step, by document 02's agreement and what it lets a var line show
  unfoldable pub conditions_of : Env → (pre : Map) → Expr → List Condition
  conditions_of Γ pre e = conditions_by Γ pre e (agree S) may_show

  -- "At a `proc` line: 1 the body's type is result (T); 2 the body's post ≥ after (F)"
  unfoldable pub procedure_conditions : Signature → Procedure → List Condition
  procedure_conditions g p = T (agree S (type p.body) g.result) ∷ F (post p.body ≥ᵐ map_at S g.after) ∷ []
