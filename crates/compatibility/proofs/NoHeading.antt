-- 44 and 30 to 33 do not look at the heading: two splits that differ in nothing else get the same outcome.
use Rattle.std.proofs.Common.{Option, None, Some, Result}
use mathlib.Core.Path.{◌≡◌, refl, ap, ◌∙◌}
use mathlib.Core.List.{List, [], ◌∷◌, ◌++◌, map}
use mathlib.Core.Bool.{Bool, ◌&&◌}
use Prim.Native.Nat.{ℕ, ◌+◌}
use lib.ListN.{get_or}
use Rattle.spec.specs.declared.Refusal.{Refusal}
use Rattle.spec.specs.Choice.{when◌then◌else◌}
use Rattle.spec.specs.Reading.{◌>>=◌, require}
use Rattle.spec.specs.Words.{role, binding, pre_of_part, pre_of_second}
use Rattle.spec.specs.Expression.{Expr, leaf, unary, binary, Procedure}
use Rattle.spec.specs.Program.{Program}
use Rattle.spec.specs.Split.{Map, Split}
use Rattle.spec.specs.declared.Signature.{Signature}
use Rattle.spec.specs.declared.Header.{Header}
use Rattle.spec.specs.Kinds.{int, lock, is, content}
use Rattle.spec.specs.Agreement.{Tree, plain, same_tree, tree_of, trees, tree, agree}
use Rattle.spec.specs.Table as entry
use Rattle.spec.specs.Table.{TypeTerm, MapTerm, Entry, table}
use Rattle.spec.specs.Conditions.{Condition, T, Env, type_at, map_at, start_map, contains, looser_lock, may_show, row, type, kind, post, start_or, body_start, signature, step_word, type_term, map_term, says, conditions_by, conditions_of, procedure_conditions}
use Rattle.spec.specs.StepContexts.{StepContext, step_contexts, claims_at, claims, body_step_contexts, claims_of_procedure, claims_of_procedures, claims_of}
use Rattle.spec.specs.Verdict.{takes_enough, all_take_enough, locks_take_enough, start_at_most_one, conditions_hold}
use Rattle.spec.specs.declared.Heading.{Heading}
use Rattle.spec.specs.declared.MapNumber.{MapNumber}
use Rattle.spec.specs.declared.TypeNumber.{TypeNumber}
use Rattle.spec.specs.declared.TypeLine.{TypeLine}
use Rattle.spec.specs.declared.Refusal.TheVariants.{LockTakesLess}
use Rattle.spec.specs.declared.Word.TheVariants.{Binary}

-- a header, and a split, under another heading
unfoldable pub headed_as : Heading → Header → Header
headed_as h H = record {
  heading = h;
  denominator = H.denominator;
  locations = H.locations;
  types = H.types;
  maps = H.maps;
  start = H.start;
}

unfoldable pub under : Heading → Split → Split
under h S = record { header = headed_as h S.header; types = S.types; maps = S.maps; signatures = S.signatures; rows = S.rows }

-- 44, 30 and 31 to 33
unfoldable pub ruling : Program → Split → Result (Unit {0}) Refusal
ruling P S = locks_take_enough S >>= λ locks. start_at_most_one P S >>= λ whole. conditions_hold P S

module _ (h : Heading) (S : Split) where
  -- ---------------------------------------------------------------- types

  same_tree_of : (before : List Tree) (x : TypeLine) → tree_of (under h S) before x ≡ tree_of S before x
  unfolding tree_of map_at under
  same_tree_of before x = refl

  same_trees : (before : List Tree) (xs : List TypeLine) → trees (under h S) before xs ≡ trees S before xs
  unfolding trees
  same_trees before [] = refl
  same_trees before (x ∷ xs) =
      same_trees (before ++ tree_of (under h S) before x ∷ []) xs
      ∙ ap (λ (y : Tree). trees S (before ++ y ∷ []) xs) (same_tree_of before x)

  same_agree : (t u : TypeNumber) → agree (under h S) t u ≡ agree S t u
  unfolding agree tree under
  same_agree t u =
      ap (λ (l : List Tree). same_tree (get_or l t.0 (plain int [])) (get_or l u.0 (plain int []))) (same_trees [] S.types)

  same_contains : (x : TypeLine) (t : TypeNumber) → contains (agree (under h S)) x t ≡ contains (agree S) x t
  unfolding contains
  same_contains x t = rw (same_agree (content x) t)

  same_may_show : (t u : TypeNumber) → may_show (under h S) t u ≡ may_show S t u
  unfolding may_show looser_lock type_at map_at under
  same_may_show t u =
      ap (λ (x : Bool). when is lock (type_at S t) && is lock (type_at S u) then looser_lock S (type_at S t) (type_at S u) else x) (same_agree t u)

  same_enough : (x : TypeLine) → takes_enough (under h S) x ≡ takes_enough S x
  unfolding takes_enough map_at under
  same_enough x = refl

  same_all_enough : (k : ℕ) (xs : List TypeLine) → all_take_enough (under h S) k xs ≡ all_take_enough S k xs
  unfolding all_take_enough
  same_all_enough k [] = refl
  same_all_enough k (x ∷ xs) =
      ap (λ (b : Bool). require b (LockTakesLess k) >>= λ enough. all_take_enough (under h S) (k + 1) xs) (same_enough x)
      ∙ ap (λ (o : Result (Unit {0}) Refusal). require (takes_enough S x) (LockTakesLess k) >>= λ enough. o) (same_all_enough (k + 1) xs)

  same_locks : locks_take_enough (under h S) ≡ locks_take_enough S
  unfolding locks_take_enough under
  same_locks = same_all_enough 2 S.types

  -- ---------------------------------------------------------------- conditions

  -- lists of conditions that differ in how two types are compared at the first
  at_first : {a b : Bool} (cs : List Condition) → a ≡ b → ◌≡◌ {A = List Condition} (T a ∷ cs) (T b ∷ cs)
  at_first cs e = ap (λ (x : Bool). T x ∷ cs) e

  same_start_in : (o : Option MapNumber) → start_or (under h S) o ≡ start_or S o
  unfolding start_or map_at under headed_as
  same_start_in None = refl
  same_start_in (Some m) = refl

  module _ (Γ : Env) (pre : Map) (e : Expr) where
    same_type : (t : TypeTerm) → type_term (under h S) Γ pre e t ≡ type_term S Γ pre e t
    unfolding row type signature under
    same_type (entry.type_of p) = refl
    same_type entry.type_of_its_let = refl
    same_type entry.result = refl
    same_type entry.argument = refl

    same_map : (m : MapTerm) → map_term (under h S) Γ pre e m ≡ map_term S Γ pre e m
    unfolding row type kind post body_start signature type_at map_at under
    same_map entry.pre = refl
    same_map entry.s = same_start_in (row S e).start
    same_map (entry.post_of p) = refl
    same_map entry.K = refl
    same_map entry.«in» = refl
    same_map entry.out = refl
    same_map entry.r = refl
    same_map entry.w = refl
    same_map entry.before = refl
    same_map entry.after = refl

    same_says : (x : Entry) → says (under h S) Γ pre e (agree (under h S)) (may_show (under h S)) x ≡ says S Γ pre e (agree S) (may_show S) x
    unfolding row type kind post type_at map_at under headed_as
    same_says (entry.◌a◌ p k) = refl
    same_says (entry.◌is◌ p t) = rw (same_type t) (ap T (same_agree _ _))
    same_says (entry.◌shows◌ p t) = rw (same_type t) (ap T (same_may_show _ _))
    same_says (entry.◌is_c_of◌ p q) = ap T (same_contains _ _)
    same_says (entry.◌＝◌ l m) = rw (same_map l, same_map m)
    same_says (entry.◌≧◌ l m) = rw (same_map l, same_map m)
    same_says (entry.N×◌≦◌ l m) = rw (same_map l, same_map m)
    same_says (entry.◌⊕◌＝◌ l m n) = rw (same_map l, same_map m, same_map n)
    same_says (entry.◌＝◌⊕◌ l m n) = rw (same_map l, same_map m, same_map n)
    same_says entry.post_at_p＞0 = refl
    same_says entry.post_at_p≧D = refl

    same_all : (xs : List Entry)
        → map (says (under h S) Γ pre e (agree (under h S)) (may_show (under h S))) xs ≡ map (says S Γ pre e (agree S) (may_show S)) xs
    same_all [] = refl
    same_all (x ∷ xs) = rw (same_says x, same_all xs)

    conditions_same : conditions_of (under h S) Γ pre e ≡ conditions_of S Γ pre e
    unfolding conditions_of conditions_by
    conditions_same = same_all (table (step_word e))

  -- ---------------------------------------------------------------- all of them

  same_step_contexts : (Γ : Env) (pre : Map) (e : Expr) → step_contexts (under h S) Γ pre e ≡ step_contexts S Γ pre e
  unfolding step_contexts row type post body_start map_at under
  same_step_contexts Γ pre (leaf w k v) = refl
  same_step_contexts Γ pre (unary w k v e₁) = rw (same_step_contexts Γ (pre_of_part w pre (post S (unary w k v e₁))) e₁)
  same_step_contexts Γ pre (binary w k v e₁ e₂) =
      rw (
        same_start_in (row S (binary w k v e₁ e₂)).start,
        same_step_contexts Γ pre e₁,
        same_step_contexts (binding (role (Binary w)) (v, type S e₁) Γ) (pre_of_second w pre (post S e₁) (body_start S (binary w k v e₁ e₂))) e₂,
      )

  same_claims : (ss : List StepContext) → claims (under h S) ss ≡ claims S ss
  unfolding claims claims_at
  same_claims [] = refl
  same_claims (s ∷ ss) = rw (conditions_same s.Γ s.pre s.step, same_claims ss)

  same_start : (P : Program) → start_at_most_one P (under h S) ≡ start_at_most_one P S
  unfolding start_at_most_one start_map map_at under headed_as
  same_start P = refl

  -- of an expression's step contexts, and of a procedure's conditions
  same_expression : (Γ : Env) (pre : Map) (e : Expr) → claims (under h S) (step_contexts (under h S) Γ pre e) ≡ claims S (step_contexts S Γ pre e)
  same_expression Γ pre e = ap (claims (under h S)) (same_step_contexts Γ pre e) ∙ same_claims (step_contexts S Γ pre e)

  same_at_procedure : (g : Signature) (p : Procedure) → procedure_conditions (under h S) g p ≡ procedure_conditions S g p
  unfolding procedure_conditions row type post map_at under
  same_at_procedure g p = at_first _ (same_agree _ _)

  same_procedure : (g : Signature) (p : Procedure) → claims_of_procedure (under h S) g p ≡ claims_of_procedure S g p
  unfolding claims_of_procedure body_step_contexts map_at under
  same_procedure g p =
      rw (same_at_procedure g p, same_expression ((p.parameter, g.argument) ∷ []) (map_at S g.before) p.body)

  same_procedures_lem : (f : ℕ) (ps : List Procedure) → claims_of_procedures (under h S) f ps ≡ claims_of_procedures S f ps
  unfolding claims_of_procedures signature under
  same_procedures_lem f [] = refl
  same_procedures_lem f (p ∷ ps) = rw (same_procedure (signature S f) p, same_procedures_lem (f + 1) ps)

  same_ruled : (P : Program) → conditions_hold P (under h S) ≡ conditions_hold P S
  unfolding conditions_hold claims_of start_map map_at under headed_as
  same_ruled P = rw (same_procedures_lem 0 P.procedures, same_expression [] (start_map S) P.root)

  pub same_ruling : (P : Program) → ruling P (under h S) ≡ ruling P S
  unfolding ruling
  same_ruling P = rw (same_locks, same_start P, same_ruled P)
