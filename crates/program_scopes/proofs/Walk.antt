-- Judging the steps of an expression in line order, with a table, comes to the scopes of the expression.
-- One induction on the expression: the table that agrees with the scopes in front of it agrees behind it.
use Rattle.std.proofs.Common.{Option, None, Some, IfSome, Result, Ok, Err}
use Rattle.std.proofs.lemmas.Option.{IfSome_then}
use Rattle.std.proofs.Math.Bool.{and-false}
use mathlib.Core.Path.{◌≡◌, refl, sym, ap, subst, ◌∙◌}
use mathlib.Core.Logic.{◌⊎◌, inl, inr, ⊎_elim}
use mathlib.Core.List.{List, [], ◌∷◌, ◌++◌}
use mathlib.Core.Bool.{Bool, true, false}
use Prim.Native.Nat.{ℕ, suc, ◌+◌, ◌<◌, ◌≤◌}
use native.Mathlib.Omega.{arith}
use lib.Dec.{leb, ltb}
use lib.ListN.{length, get_or, set}
use borrow.Author.Tests.{le-leb, lt-leb, lt-ltb, le-ltb}
use Rattle.spec.specs.declared.Refusal.{Refusal}
use Rattle.spec.specs.Choice.{when◌then◌else◌}
use Rattle.spec.specs.Reading.{◌>>=◌}
use Rattle.spec.specs.Expression.{Position, Expr, leaf, unary, binary, size, among, scope_step, scope}
use Rattle.spec.specs.Words.{calls, role, binding, largest_value}
use Rattle.spec.specs.declared.Refusal.TheVariants.{Unbound, Rebound, NoProcedure}
use Rattle.spec.specs.declared.Word.{Word}
use Rattle.spec.specs.declared.Word.TheVariants.{Unary, Binary}
use Rattle.spec.specs.declared.LeafWord.TheVariants.{Var, Int, Newtid, Newlock, Newsem, Newrwlock}
use Rattle.spec.specs.declared.UnaryWord.{UnaryWord}
use Rattle.spec.specs.declared.BinaryWord.TheVariants.{Let, If, Spawn, Write}
use Rattle.spec.specs.WellFormed.{prefix}
use Rattle.workspace.specs.Steps.{word_at, value_at, step_line_at}
use Rattle.workspace.specs.Holds.{let_in, let_of, lets}
use Rattle.workspace.proofs.Codes.{word_of_code}
use Rattle.workspace.proofs.Expression.{Standing, Head, leaf_head, unary_head, binary_head, standing_end, standing_part, standing_first, standing_second}
use Rattle.program_tree.specs.Items.{Limited}
use Rattle.program_scopes.specs.Judging.{scope_from, scope_till, judge_let, judge_var, judge_call, judge_by, judge_of}
use Rattle.program_scopes.specs.Scopes.{Table, Passing, storing, continued, scopes_from}
use Rattle.spec.specs.declared.Role.TheVariants.{Uses, Calls, Neither}
use Rattle.program_tree.proofs.Limits.{limited_first, limited_behind, limited_parts}
use Rattle.program_scopes.proofs.JudgingLaws.{from_let, till_let}
use Rattle.program_scopes.proofs.ScopeLaws.{after, after_append, after_stop}
use Rattle.program_scopes.proofs.Tables.{end_at, names, Right, Bound, Extends, Agrees, extends_same, extends_then, agrees_narrow, agrees_onward, Binds, let_extends, let_first, let_second}

-- of a sheet with `count` procedures
module _ (count : ℕ) where
  joined : (xs ys : List ℕ) (o : Result Passing Refusal) → storing 0 (after xs (after ys o)) ≡ after (0 ∷ (xs ++ ys)) o
  unfolding after
  joined xs ys o = ap (storing 0) (after_append xs ys o)

  -- ------------------------------------------------------------------ what walking over some steps comes to

  -- s steps from index k on, for which ls are stored, and the m steps behind them with the table that is left
  pub record Gone (w : List ℕ) (m k s : ℕ) (ls : List ℕ) (t : Table) (bound : List ℕ) : Type 0 where
    pub table : Table
    pub long : length table ≡ 256
    pub extends : Extends w (k + s) t table
    pub bind : Bound table bound
    pub goes : scopes_from w count (s + m) k t ≡ after ls (scopes_from w count m (k + s) table)

  abbrev pub Walked : List ℕ → (m k s : ℕ) → (ls : List ℕ) → Table → Result (List ℕ) Refusal → Type 0
  Walked w m k s ls t (Err r) = scopes_from w count (s + m) k t ≡ Err r
  Walked w m k s ls t (Ok bound) = Gone w m k s ls t bound

  -- ------------------------------------------------------------------ one step

  var_refused : (w : List ℕ) (k : ℕ) (o : Option ℕ) → IfSome o (λ b. (k < scope_from w b) ⊎ (scope_till w b ≤ k)) → judge_var w k o ≡ Err (Unbound (step_line_at w k))
  unfolding judge_var
  var_refused w k None r = refl
  var_refused w k (Some b) r =
      ⊎_elim
      (λ h. rw (lt-leb (scope_from w b) k h) refl)
      (λ h. rw (le-ltb k (scope_till w b) h, and-false (leb (scope_from w b) k)) refl)
      r

  module _ (w : List ℕ) (m k : ℕ) (t : Table) {x : Word} {l : Position} {v : ℕ} (h : Head w k x l v) where
    step : scopes_from w count (suc m) k t ≡ continued (λ u. scopes_from w count m (k + 1) u) k t v (judge_by w count k (get_or t v None) (role x))
    unfolding scopes_from judge_of word_at value_at
    step = rw (h.code, h.value, word_of_code x) refl

    step_other : role x ≡ Neither → scopes_from w count (suc m) k t ≡ storing 0 (scopes_from w count m (k + 1) t)
    unfolding continued judge_by
    step_other e = step ∙ ap (λ r. continued (λ u. scopes_from w count m (k + 1) u) k t v (judge_by w count k (get_or t v None) r)) e

    -- a step that neither binds nor uses a variable, alone
    walk_other : (bound : List ℕ) → role x ≡ Neither → length t ≡ 256 → Bound t bound → Gone w m k 1 (0 ∷ []) t bound
    unfolding after
    walk_other bound e long b = record {
      table = t;
      long = long;
      extends = extends_same w (k + 1) t;
      bind = b;
      goes = let q : 1 + m ≡ suc m = omega arith in rw q (step_other e);
    }

    -- a use of a variable
    module _ (hi : ℕ) (ins : List (ℕ × ℕ)) (bound : List ℕ) (e : role x ≡ Uses) (hh : k + 1 ≤ hi) (a : Agrees w k hi t ins bound) where
      step_use : scopes_from w count (suc m) k t ≡ continued (λ u. scopes_from w count m (k + 1) u) k t v (judge_var w k (get_or t v None))
      unfolding judge_by
      step_use = step ∙ ap (λ r. continued (λ u. scopes_from w count m (k + 1) u) k t v (judge_by w count k (get_or t v None) r)) e

      inside : (i : ℕ) → Right w k hi true i (get_or t v None) → scopes_from w count (suc m) k t ≡ storing i (scopes_from w count m (k + 1) t)
      unfolding judge_var continued
      inside i r =
          let from : scope_from w i ≤ k = r.1 in
          let till : k < scope_till w i = omega (arith, r.2) in
          step_use ∙ rw (r.0, le-leb (scope_from w i) k from, lt-ltb k (scope_till w i) till) refl

      outside : (i : ℕ) → Right w k hi false i (get_or t v None) → scopes_from w count (suc m) k t ≡ Err (Unbound l.line)
      unfolding continued step_line_at
      outside i r =
          let o : IfSome (get_or t v None) (λ b. (k < scope_from w b) ⊎ (scope_till w b ≤ k)) =
          IfSome_then (get_or t v None) r (λ b p. ⊎_elim (λ f. inl (omega arith)) (λ f. inr f) p) in
          step_use
          ∙ ap (continued (λ u. scopes_from w count m (k + 1) u) k t v)
          (var_refused w k (get_or t v None) o ∙ ap (λ i. Err (Unbound i)) h.line)

      walk_use : (y : Bool) → Right w k hi y (let_in ins v) (get_or t v None)
          → Walked w m k 1 (let_in ins v ∷ []) t (when y then Ok bound else Err (Unbound l.line))
      unfolding after
      walk_use true r = record {
        table = t;
        long = a.long;
        extends = extends_same w (k + 1) t;
        bind = a.bind;
        goes = let q : 1 + m ≡ suc m = omega arith in rw q (inside (let_in ins v) r);
      }
      walk_use false r = let q : 1 + m ≡ suc m = omega arith in rw q (outside (let_in ins v) r)

  -- ------------------------------------------------------------------ a step and its parts

  -- a step for which 0 is stored, and then its one part
  walk_one : (w : List ℕ) (m k s : ℕ) (ls : List ℕ) (t : Table) (o : Result (List ℕ) Refusal) → scopes_from w count (suc s + m) k t ≡ storing 0 (scopes_from w count (s + m) (k + 1) t)
      → Walked w m (k + 1) s ls t o → Walked w m k (suc s) (0 ∷ ls) t o
  unfolding storing after
  walk_one w m k s ls t (Err r) p x = p ∙ ap (storing 0) x
  walk_one w m k s ls t (Ok bound) p x =
      let q : k + 1 + s ≡ k + suc s = omega arith in
      record {
        table = x.table;
        long = x.long;
        extends = subst (λ i. Extends w i t x.table) q x.extends;
        bind = x.bind;
        goes = p ∙ ap (storing 0) x.goes ∙ ap (λ i. storing 0 (after ls (scopes_from w count m i x.table))) q;
      }

  -- a step for which 0 is stored and that leaves the table t₀, and then its two parts
  module _ (w : List ℕ) (m k s₁ s₂ : ℕ) (ls₁ ls₂ : List ℕ) (t t₀ : Table)
      (p : scopes_from w count (suc (s₁ + s₂) + m) k t ≡ storing 0 (scopes_from w count (s₁ + (s₂ + m)) (k + 1) t₀))
      (x₀ : Extends w (k + suc (s₁ + s₂)) t t₀) where
    behind : (b₁ : List ℕ) (x₁ : Gone w (s₂ + m) (k + 1) s₁ ls₁ t₀ b₁) (o : Result (List ℕ) Refusal) → Walked w m (k + 1 + s₁) s₂ ls₂ x₁.table o
        → Walked w m k (suc (s₁ + s₂)) (0 ∷ (ls₁ ++ ls₂)) t o
    unfolding storing
    behind b₁ x₁ (Err r) x₂ = p ∙ ap (storing 0) (x₁.goes ∙ ap (after ls₁) x₂ ∙ after_stop ls₁ r)
    behind b₁ x₁ (Ok b₂) x₂ =
        let q : k + 1 + s₁ + s₂ ≡ k + suc (s₁ + s₂) = omega arith in
        let y₂ : Extends w (k + suc (s₁ + s₂)) x₁.table x₂.table = subst (λ i. Extends w i x₁.table x₂.table) q x₂.extends in
        let y₁ : Extends w (k + suc (s₁ + s₂)) t₀ x₂.table =
        extends_then w (k + 1 + s₁) (k + suc (s₁ + s₂)) t₀ x₁.table x₂.table (omega arith) x₁.extends y₂ in
        record {
          table = x₂.table;
          long = x₂.long;
          extends = extends_then w (k + suc (s₁ + s₂)) (k + suc (s₁ + s₂)) t t₀ x₂.table (omega arith) x₀ y₁;
          bind = x₂.bind;
          goes = p ∙ ap (storing 0) (x₁.goes ∙ ap (after ls₁) x₂.goes) ∙ joined ls₁ ls₂ (scopes_from w count m (k + 1 + s₁ + s₂) x₂.table)
              ∙ ap (λ i. after (0 ∷ (ls₁ ++ ls₂)) (scopes_from w count m i x₂.table)) q;
        }

    walk_two : (o₁ : Result (List ℕ) Refusal) (more : List ℕ → Result (List ℕ) Refusal) → Walked w (s₂ + m) (k + 1) s₁ ls₁ t₀ o₁
        → ((b₁ : List ℕ) (x₁ : Gone w (s₂ + m) (k + 1) s₁ ls₁ t₀ b₁) → Walked w m (k + 1 + s₁) s₂ ls₂ x₁.table (more b₁))
        → Walked w m k (suc (s₁ + s₂)) (0 ∷ (ls₁ ++ ls₂)) t (o₁ >>= more)
    unfolding storing ◌>>=◌
    walk_two (Err r) more x₁ x₂ = p ∙ ap (storing 0) x₁
    walk_two (Ok b₁) more x₁ x₂ = behind b₁ x₁ (more b₁) (x₂ b₁ x₁)

  -- a let, and then its two parts
  module _ (w : List ℕ) (m k s₁ s₂ : ℕ) (ls₁ ls₂ : List ℕ) (t : Table) {l : Position} {v : ℕ} (h : Head w k (Binary Let) l v) (bound : List ℕ)
      (end : end_at w k ≡ k + suc (s₁ + s₂)) (small : v < 256) (long : length t ≡ 256) (bind : Bound t bound) where
    step_let : scopes_from w count (suc (s₁ + s₂) + m) k t ≡ continued (λ u. scopes_from w count (s₁ + (s₂ + m)) (k + 1) u) k t v (judge_let (step_line_at w k) (get_or t v None))
    unfolding judge_by role
    step_let = let q : suc (s₁ + s₂) + m ≡ suc (s₁ + (s₂ + m)) = omega arith in rw q (step w (s₁ + (s₂ + m)) k t h)

    walk_let : (x₀ : among v bound ≡ false → Extends w (k + suc (s₁ + s₂)) t (set t v (Some k)))
        → (o₁ : List ℕ → Result (List ℕ) Refusal) (more : List ℕ → Result (List ℕ) Refusal)
        → (among v bound ≡ false → Walked w (s₂ + m) (k + 1) s₁ ls₁ (set t v (Some k)) (o₁ (v ∷ bound)))
        → (among v bound ≡ false → (b₁ : List ℕ) (x₁ : Gone w (s₂ + m) (k + 1) s₁ ls₁ (set t v (Some k)) b₁) → Walked w m (k + 1 + s₁) s₂ ls₂ x₁.table (more b₁))
        → (y : Bool) → among v bound ≡ y
        → Walked w m k (suc (s₁ + s₂)) (0 ∷ (ls₁ ++ ls₂)) t ((when y then Err (Rebound l.line) else Ok (v ∷ bound)) >>= λ b. o₁ b >>= more)
    unfolding continued judge_let step_line_at ◌>>=◌
    walk_let x₀ o₁ more x₁ x₂ true e =
        step_let ∙ rw (sym (bind v small) ∙ e, h.line) refl
    walk_let x₀ o₁ more x₁ x₂ false e =
        walk_two w m k s₁ s₂ ls₁ ls₂ t (set t v (Some k)) (step_let ∙ rw (sym (bind v small) ∙ e) refl) (x₀ e) (o₁ (v ∷ bound)) more (x₁ e) (x₂ e)

  -- ------------------------------------------------------------------ an expression

  step_first : (w : List ℕ) (m k s : ℕ) (t : Table) {x : Word} {l : Position} {v : ℕ} → Head w k x l v → role x ≡ Neither
      → scopes_from w count (suc s + m) k t ≡ storing 0 (scopes_from w count (s + m) (k + 1) t)
  step_first w m k s t h e = let q : suc s + m ≡ suc (s + m) = omega arith in rw q (step_other w (s + m) k t h e)

  step_pair : (w : List ℕ) (m k s₁ s₂ : ℕ) (t : Table) {x : Word} {l : Position} {v : ℕ} → Head w k x l v → role x ≡ Neither
      → scopes_from w count (suc (s₁ + s₂) + m) k t ≡ storing 0 (scopes_from w count (s₁ + (s₂ + m)) (k + 1) t)
  step_pair w m k s₁ s₂ t h e = let q : s₁ + s₂ + m ≡ s₁ + (s₂ + m) = omega arith in step_first w m k (s₁ + s₂) t h e ∙ rw q refl

  -- a step of two parts that binds nothing, from its parts
  walk_pair : (w : List ℕ) (m k hi : ℕ) (t : Table) (ins : List (ℕ × ℕ)) (bound : List ℕ) (e₁ e₂ : Expr) {x : Word} {l : Position} {v : ℕ}
      → Head w k x l v → role x ≡ Neither → Agrees w k hi t ins bound
      → (Agrees w (k + 1) hi t ins bound → Walked w (size e₂ + m) (k + 1) (size e₁) (lets (k + 1) ins e₁) t (scope count e₁ (names ins) bound))
      → ((b : List ℕ) (u : Table) → Agrees w (k + 1 + size e₁) hi u ins b → Walked w m (k + 1 + size e₁) (size e₂) (lets (k + 1 + size e₁) ins e₂) u (scope count e₂ (names ins) b))
      → Walked w m k (suc (size e₁ + size e₂)) (0 ∷ (lets (k + 1) ins e₁ ++ lets (k + 1 + size e₁) ins e₂)) t
      (scope count e₁ (names ins) bound >>= λ b. scope count e₂ (names ins) b)
  walk_pair w m k hi t ins bound e₁ e₂ h role a x₁ x₂ =
      walk_two w m k (size e₁) (size e₂) (lets (k + 1) ins e₁) (lets (k + 1 + size e₁) ins e₂) t t
      (step_pair w m k (size e₁) (size e₂) t h role)
      (extends_same w (k + suc (size e₁ + size e₂)) t)
      (scope count e₁ (names ins) bound)
      (λ b. scope count e₂ (names ins) b)
      (x₁ (agrees_narrow (k + 1) hi (omega arith) (omega arith) a))
      (λ b y.
      x₂ b y.table
      (agrees_onward w k hi (k + 1 + size e₁) t y.table ins bound b (omega arith) a y.long y.extends y.bind))

  -- a step of one part, which calls a procedure or not, and then its part
  module _ (w : List ℕ) (m k s : ℕ) (ls : List ℕ) (t : Table) (ins : List (ℕ × ℕ)) (bound : List ℕ) (x : UnaryWord) {l : Position} {v : ℕ} (h : Head w k (Unary x) l v)
      (more : List ℕ → Result (List ℕ) Refusal) where
    step_calls : role (Unary x) ≡ Calls → scopes_from w count (suc s + m) k t ≡ continued (λ u. scopes_from w count (s + m) (k + 1) u) k t v (judge_call w count k)
    unfolding judge_by
    step_calls e =
        let q : suc s + m ≡ suc (s + m) = omega arith in
        rw q (step w (s + m) k t h ∙ ap (λ r. continued (λ u. scopes_from w count (s + m) (k + 1) u) k t v (judge_by w count k (get_or t v None) r)) e)

    walk_call : role (Unary x) ≡ Calls → Walked w m (k + 1) s ls t (more bound) → (y : Bool) → ltb v count ≡ y
        → Walked w m k (suc s) (0 ∷ ls) t ((when y then Ok bound else Err (NoProcedure l.line)) >>= more)
    unfolding continued judge_call value_at step_line_at ◌>>=◌
    walk_call e x₁ true q = walk_one w m k s ls t (more bound) (step_calls e ∙ rw (h.value, q) refl) x₁
    walk_call e x₁ false q = step_calls e ∙ rw (h.value, q, h.line) refl

    walk_unary : (c : Bool) → calls x ≡ c → Walked w m (k + 1) s ls t (more bound)
        → Walked w m k (suc s) (let_of (role (Unary x)) ins v ∷ ls) t (scope_step count (role (Unary x)) l.line v (names ins) bound >>= more)
    unfolding role scope_step let_of ◌>>=◌
    walk_unary true e x₁ = rw e (walk_call (rw e refl) x₁ (ltb v count) refl)
    walk_unary false e x₁ = rw e (walk_one w m k s ls t (more bound) (step_first w m k s t h (rw e refl)) x₁)

  pub walk : (w : List ℕ) (e : Expr) (k m hi : ℕ) (t : Table) (ins : List (ℕ × ℕ)) (bound : List ℕ) → Standing w k e → Limited (prefix e)
      → k + size e ≤ hi → hi ≤ 256 → Agrees w k hi t ins bound → Walked w m k (size e) (lets k ins e) t (scope count e (names ins) bound)
  unfolding scope scope_step ◌>>=◌ role binding largest_value let_of lets size names prefix
  walk w (leaf Var l v) k m hi t ins bound s r hh top a =
      walk_use w m k t (leaf_head Var l v s) hi ins bound refl hh a (among v (names ins)) (a.at v (omega (arith, limited_first r)))
  walk w (leaf Int l v) k m hi t ins bound s r hh top a = walk_other w m k t (leaf_head Int l v s) bound refl a.long a.bind
  walk w (leaf Newtid l v) k m hi t ins bound s r hh top a = walk_other w m k t (leaf_head Newtid l v s) bound refl a.long a.bind
  walk w (leaf Newlock l v) k m hi t ins bound s r hh top a = walk_other w m k t (leaf_head Newlock l v s) bound refl a.long a.bind
  walk w (leaf Newsem l v) k m hi t ins bound s r hh top a = walk_other w m k t (leaf_head Newsem l v s) bound refl a.long a.bind
  walk w (leaf Newrwlock l v) k m hi t ins bound s r hh top a = walk_other w m k t (leaf_head Newrwlock l v s) bound refl a.long a.bind
  walk w (unary x l v e) k m hi t ins bound s r hh top a =
      walk_unary w m k (size e) (lets (k + 1) ins e) t ins bound x (unary_head x l v e s) (λ b. scope count e (names ins) b) (calls x) refl
      (walk w e (k + 1) m hi t ins bound (standing_part x l v e s) (limited_behind r) (omega arith) top
      (agrees_narrow (k + 1) hi (omega arith) (omega arith) a))
  walk w (binary Let l v e₁ e₂) k m hi t ins bound s r hh top a =
      let mid = k + 1 + size e₁ in
      let end = k + suc (size e₁ + size e₂) in
      let first = standing_first Let l v e₁ e₂ s in
      let ended : end_at w k ≡ end = standing_end (binary Let l v e₁ e₂) s in
      let divided : end_at w (k + 1) ≡ mid = standing_end e₁ first in
      let parts = limited_parts (prefix e₁) (prefix e₂) (limited_behind r) in
      let begins : scope_from w k ≡ mid = from_let w k (omega arith) ∙ divided in
      let stops : scope_till w k ≡ end = till_let w k (omega arith) ∙ ended in
      let variable : v < 256 = omega (arith, limited_first r) in
      let B : Binds w k k mid end v t ins bound = record {
        variable = variable;
        begins = begins;
        ends = stops;
        order = (omega arith, omega arith);
        agrees = agrees_narrow k end (omega arith) hh a;
      } in
      walk_let w m k (size e₁) (size e₂) (lets (k + 1) ins e₁) (lets mid ((v, k) ∷ ins) e₂) t (binary_head Let l v e₁ e₂ s) bound ended variable
      a.long
      a.bind
      (let_extends B)
      (λ b. scope count e₁ (names ins) b)
      (λ b. scope count e₂ (v ∷ names ins) b)
      (λ free.
      walk w e₁ (k + 1) (size e₂ + m) mid (set t v (Some k)) ins (v ∷ bound) first parts.0 (omega arith) (omega arith)
      (let_first B free))
      (λ free b₁ x₁.
      walk w e₂ mid m end x₁.table ((v, k) ∷ ins) b₁ (standing_second Let l v e₁ e₂ s) parts.1 (omega arith) (omega arith)
      (let_second B free x₁.table b₁ x₁.long x₁.extends x₁.bind))
      (among v bound)
      refl
  walk w (binary If l v e₁ e₂) k m hi t ins bound s r hh top a =
      let parts = limited_parts (prefix e₁) (prefix e₂) (limited_behind r) in
      walk_pair w m k hi t ins bound e₁ e₂ (binary_head If l v e₁ e₂ s) refl a
      (walk w e₁ (k + 1) (size e₂ + m) hi t ins bound (standing_first If l v e₁ e₂ s) parts.0 (omega arith) top)
      (λ b u. walk w e₂ (k + 1 + size e₁) m hi u ins b (standing_second If l v e₁ e₂ s) parts.1 (omega arith) top)
  walk w (binary Spawn l v e₁ e₂) k m hi t ins bound s r hh top a =
      let parts = limited_parts (prefix e₁) (prefix e₂) (limited_behind r) in
      walk_pair w m k hi t ins bound e₁ e₂ (binary_head Spawn l v e₁ e₂ s) refl a
      (walk w e₁ (k + 1) (size e₂ + m) hi t ins bound (standing_first Spawn l v e₁ e₂ s) parts.0 (omega arith) top)
      (λ b u. walk w e₂ (k + 1 + size e₁) m hi u ins b (standing_second Spawn l v e₁ e₂ s) parts.1 (omega arith) top)
  walk w (binary Write l v e₁ e₂) k m hi t ins bound s r hh top a =
      let parts = limited_parts (prefix e₁) (prefix e₂) (limited_behind r) in
      walk_pair w m k hi t ins bound e₁ e₂ (binary_head Write l v e₁ e₂ s) refl a
      (walk w e₁ (k + 1) (size e₂ + m) hi t ins bound (standing_first Write l v e₁ e₂ s) parts.0 (omega arith) top)
      (λ b u. walk w e₂ (k + 1 + size e₁) m hi u ins b (standing_second Write l v e₁ e₂ s) parts.1 (omega arith) top)
