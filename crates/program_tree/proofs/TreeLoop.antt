-- The loop over the procedures. From each `proc` line on the walk comes to what it comes to from the top, with the bodies passed in
-- front: that is said of every answer and every work space that the rest of the walk may leave.
use Rattle.std.proofs.Common.{Result, Ok, Err}
use mathlib.Core.Path.{◌≡◌, refl, sym, ap, subst, ◌∙◌}
use mathlib.Core.Logic.{inl}
use mathlib.Core.List.{List, [], ◌∷◌}
use Prim.Native.Nat.{ℕ, suc, ◌+◌, ◌-◌, ◌<◌, ◌≤◌}
use native.Mathlib.Omega.{arith}
use native.Mathlib.Nat.{sub-zero}
use Rattle.spec.specs.Reading.{◌>>=◌}
use Rattle.spec.specs.Expression.{Expr, size, Step, Item, step, proc, line_of_item, expression, no_line_left, Procedure, structure}
use Rattle.spec.specs.declared.Refusal.{Refusal}
use Rattle.spec.specs.declared.Refusal.TheVariants.{ProgramLines}
use Rattle.workspace.specs.Layout.{ends_at, step_room}
use Rattle.workspace.specs.Region.{Region, ChangedWithin}
use Rattle.workspace.specs.Holds.{ends, all_ends}
use Rattle.workspace.specs.Steps.{step_line_at}
use Rattle.workspace.proofs.Region.{region_moved, region_append, region_kept, changed_nothing, changed_then, changed_wider}
use Rattle.workspace.proofs.Held.{ends_length}
use Rattle.program_tree.specs.Items.{ItemsStored}
use Rattle.program_tree.specs.declared.Stored.{Stored}
use Rattle.program_tree.specs.Trees.{left_at, ExpressionDue, ExpressionFound, StoredFrom, LinesLeft, body_due, BodyAnswer, BodyFound, root_first, TreeAnswer, Structured}
use Rattle.program_tree.proofs.Outcomes.{same_refusal, refused, found}
use Rattle.program_tree.proofs.TreeLaws.{next_by, next_by_lem, items_stored, expression_answers, expression_due, steps_left}

-- ------------------------------------------------------------------ one procedure of the walk

-- what is found, with a procedure in front
abbrev behind_procedure : Procedure → Result (List Procedure × Expr) Refusal → Result (List Procedure × Expr) Refusal
behind_procedure p o = o >>= λ t. Ok (p ∷ t.0, t.1)

front_answers : {w w' : List ℕ} (i : ℕ) (p : Procedure) (r : Result ℕ Refusal) → Region w (ends_at + i) (ends i p.body)
    → ChangedWithin (ends_at + (i + size p.body)) (ends_at + step_room) w w'
    → (o : Result (List Procedure × Expr) Refusal) → TreeAnswer w' (i + size p.body) r o → TreeAnswer w' i r (behind_procedure p o)
unfolding root_first all_ends ◌>>=◌
front_answers i p r m c (Err x) a = a
front_answers i p r m c (Ok (ps, root)) a = (
  a.0,
  region_append (ends i p.body) (all_ends (i + size p.body) ps root)
      (region_kept c (inl (omega (arith, ends_length i p.body))) m)
      (region_moved _ _ (omega (arith, ends_length i p.body)) a.1),
)

-- a procedure was read: its body, and the lines behind it
record BodyOn (s : Stored) (i j e : ℕ) (w' : List ℕ) (items : List Item) : Type 0 where
  procedure : Procedure
  behind : List Item
  ended : e ≡ i + size procedure.body
  marks : Region w' (ends_at + i) (ends i procedure.body)
  stored : StoredFrom w' s e j behind
  walked : (k : ℕ) → structure s.last (suc k) i items ≡ behind_procedure procedure (structure s.last k (i + size procedure.body) behind)

walked_by : (last k i x line : ℕ) (b : Expr) (items behind : List Item) → expression last i items ≡ Ok (b, behind)
    → structure last (suc k) i (proc x line ∷ items) ≡ behind_procedure (record { line = line; parameter = x; body = b }) (structure last k (i + size b) behind)
unfolding structure ◌>>=◌
walked_by last k i x line b items behind p = rw p refl

module _ (s : Stored) (i j : ℕ) (w' : List ℕ) where
  body_on : (e : ℕ) (items : List Item) → BodyAnswer s i j w' (Ok e) (body_due s.last i items) → BodyOn s i j e w' items
  unfolding body_due
  body_on e [] a = absurd (grind arith)
  body_on e (step x ∷ items) a = absurd (grind arith)
  body_on e (proc x line ∷ items) a =
      let b = found _ _ (expression s.last i items) a in
      record {
        procedure = record { line = line; parameter = x; body = b.value.0 };
        behind = b.value.1;
        ended = b.same;
        marks = b.holds.0;
        stored = subst (λ n. StoredFrom w' s n j b.value.1) (sym b.same) b.holds.1;
        walked = λ k. walked_by s.last k i x line b.value.0 items b.value.1 b.is;
      }

  body_off : (x : Refusal) (items : List Item) → BodyAnswer s i j w' (Err x) (body_due s.last i items)
      → (k : ℕ) → structure s.last (suc k) i items ≡ Err x
  unfolding body_due structure ◌>>=◌
  body_off x [] a k = same_refusal a
  body_off x (step y ∷ items) a k = same_refusal a
  body_off x (proc y line ∷ items) a k = rw (refused _ _ (expression s.last i items) a) refl

-- ------------------------------------------------------------------ the loop

-- the lines that are left of some lines
pub record Rest (s : Stored) (count : ℕ) (w : List ℕ) (i f : ℕ) (items : List Item) : Type 0 where
  pub rest : List Item
  pub stored : StoredFrom w s i f rest
  pub answers : (w' : List ℕ) (r : Result ℕ Refusal) → ChangedWithin (ends_at + i) (ends_at + step_room) w w'
      → TreeAnswer w' i r (structure s.last (count - f) i rest) → TreeAnswer w' 0 r (structure s.last count 0 items)

-- the loop at index i, behind f procedures
pub record Walked (s : Stored) (count : ℕ) (w₀ w : List ℕ) (i f : ℕ) : Type 0 where
  pub changed : ChangedWithin ends_at (ends_at + step_room) w₀ w
  pub left : LinesLeft s i f w
  pub rests : (items : List Item) → StoredFrom w₀ s 0 0 items → Rest s count w i f items

pub walk_start : {s : Stored} (count : ℕ) {w : List ℕ} → ItemsStored s.steps s.procs w → Walked s count w w 0 0
walk_start {s} count {w} st = record {
  changed = changed_nothing ends_at (ends_at + step_room) w;
  left = record { items = st.items; stored = items_stored s st.items st.held st.steps_counted st.procs_counted };
  rests = λ items h. record {
    rest = items;
    stored = h;
    answers = λ w' r c a. rw sub-zero at a;
  };
}

module _ {s : Stored} {count : ℕ} {w₀ w : List ℕ} {i f : ℕ} (v : Walked s count w₀ w i f) where
  -- any answer from here on
  answered : (w' : List ℕ) (r : Result ℕ Refusal) → ChangedWithin (ends_at + i) (ends_at + step_room) w w'
      → ((items : List Item) → StoredFrom w s i f items → TreeAnswer w' i r (structure s.last (count - f) i items))
      → Structured s count w₀ w' r
  answered w' r c a = record {
    found = λ items h es ep. let R = v.rests items (items_stored s items h es ep) in R.answers w' r c (a R.rest R.stored);
    changed = changed_then ends_at (ends_at + step_room) v.changed (changed_wider ends_at (ends_at + step_room) (omega arith) (omega arith) c);
  }

  module _ (l : f < count) where
    fewer : count - f ≡ suc (count - (f + 1))
    fewer = omega arith

    pub walk_refuses : {w₁ : List ℕ} {y : Refusal} → BodyFound s i f w w₁ (Err y) → Structured s count w₀ w₁ (Err y)
    walk_refuses {w₁} {y} x = answered w₁ (Err y) x.changed
        (λ items h. rw (fewer, body_off s i (f + 1) w₁ y items (x.found items h) (count - (f + 1))) refl)

    module _ {w₁ : List ℕ} {e : ℕ} (x : BodyFound s i f w w₁ (Ok e)) where
      on_at : (items : List Item) → StoredFrom w s i f items → BodyOn s i (f + 1) e w₁ items
      on_at items h = body_on s i (f + 1) w₁ e items (x.found items h)

      further : (items : List Item) (o : BodyOn s i (f + 1) e w₁ items) (w' : List ℕ) (r : Result ℕ Refusal)
          → ChangedWithin (ends_at + e) (ends_at + step_room) w₁ w'
          → TreeAnswer w' e r (structure s.last (count - (f + 1)) e o.behind) → TreeAnswer w' i r (structure s.last (count - f) i items)
      further items o w' r c a =
          rw (fewer, o.walked (count - (f + 1)))
          (front_answers i o.procedure r o.marks (rw o.ended at c) (structure s.last (count - (f + 1)) (i + size o.procedure.body) o.behind) (rw o.ended at a))

      pub walk_on : Walked s count w₀ w₁ e (f + 1)
      walk_on = record {
        changed = changed_then ends_at (ends_at + step_room) v.changed (changed_wider ends_at (ends_at + step_room) (omega arith) (omega arith) x.changed);
        left = record {
          items = (on_at v.left.items v.left.stored).behind;
          stored = (on_at v.left.items v.left.stored).stored;
        };
        rests = λ items h.
            let R = v.rests items h in
            let o = on_at R.rest R.stored in
            record {
              rest = o.behind;
              stored = o.stored;
              answers = λ w' r c a. R.answers w' r
                  (changed_then (ends_at + i) (ends_at + step_room) x.changed
                  (changed_wider (ends_at + i) (ends_at + step_room) (omega (arith, o.ended)) (omega arith) c))
                  (further R.rest o w' r c a);
            };
      }

-- ------------------------------------------------------------------ the root

-- what is left behind it
left_answer : (s : Stored) (e j : ℕ) (w : List ℕ) (items : List Item) → StoredFrom w s e j items → left_at w s e j ≡ no_line_left items
unfolding left_at StoredFrom next_by no_line_left line_of_item step_line_at
left_answer s e j w [] h = rw (next_by_lem w s e j [] h) refl
left_answer s e j w (step x ∷ items) h = rw (next_by_lem w s e j (step x ∷ items) h) (ap (λ (t : Step). Err (ProgramLines t.line)) h.1)
left_answer s e j w (proc x k ∷ items) h = rw (next_by_lem w s e j (proc x k ∷ items) h) (ap (λ k. Err (ProgramLines k)) h.2)

root_by : (last i : ℕ) (b : Expr) (items behind : List Item) (t : Result (Unit {0}) Refusal) → expression last i items ≡ Ok (b, behind) → no_line_left behind ≡ t
    → structure last 0 i items ≡ (t >>= λ u. Ok ([], b))
unfolding structure ◌>>=◌
root_by last i b items behind t p q = rw (p, q) refl

module _ {s : Stored} {count : ℕ} {w₀ w : List ℕ} {i f : ℕ} (v : Walked s count w₀ w i f) (few : f ≤ count) (all : count ≤ f) where
  here : (items : List Item) → StoredFrom w s i f items → StoredFrom w s i count items
  here items h = let e : f ≡ count = omega arith in rw e at h

  pub root_due : ExpressionDue s i count w
  root_due = expression_due v.left.items (here v.left.items v.left.stored)

  rooted : {w₁ : List ℕ} {r : Result ℕ Refusal} → ExpressionFound s i count w w₁ r → (r' : Result ℕ Refusal)
      → ((items : List Item) → BodyAnswer s i count w₁ r (expression s.last i items) → TreeAnswer w₁ i r' (structure s.last 0 i items))
      → Structured s count w₀ w₁ r'
  rooted {w₁} x r' a =
      let none : count - f ≡ 0 = omega arith in
      answered v w₁ r' x.changed (λ items h. rw none (a items (expression_answers x items (here items h))))

  pub root_refused : {w₁ : List ℕ} {y : Refusal} → ExpressionFound s i count w w₁ (Err y) → Structured s count w₀ w₁ (Err y)
  unfolding structure ◌>>=◌
  root_refused {w₁} {y} x = rooted x (Err y) (λ items a. rw (refused _ _ (expression s.last i items) a) refl)

  module _ {w₁ : List ℕ} {e : ℕ} (x : ExpressionFound s i count w w₁ (Ok e)) where
    pub root_within : e ≤ s.steps
    root_within =
        let a = expression_answers x v.left.items (here v.left.items v.left.stored) in
        let b = found _ _ (expression s.last i v.left.items) a in
        omega (arith, b.same, steps_left w₁ s (i + size b.value.0) count b.value.1 b.holds.1)

    -- the root is read, and then what is left is judged
    left : (t : Result (Unit {0}) Refusal) (r' : Result ℕ Refusal) → t ≡ left_at w₁ s e count
        → ((b : Expr) → Region w₁ (ends_at + i) (ends i b) → TreeAnswer w₁ i r' (t >>= λ u. Ok ([], b))) → Structured s count w₀ w₁ r'
    left t r' is answer = rooted x r' (λ items a.
        let b = found _ _ (expression s.last i items) a in
        let behind = subst (λ n. StoredFrom w₁ s n count b.value.1) (sym b.same) b.holds.1 in
        rw (root_by s.last i b.value.0 items b.value.1 t b.is (sym (is ∙ left_answer s e count w₁ b.value.1 behind))) (answer b.value.0 b.holds.0))

    pub root_passed : Ok tt ≡ left_at w₁ s e count → Structured s count w₀ w₁ (Ok i)
    unfolding ◌>>=◌ root_first all_ends
    root_passed is = left (Ok tt) (Ok i) is (λ b m. (refl, m))

    pub root_failed : {y : Refusal} → Err y ≡ left_at w₁ s e count → Structured s count w₀ w₁ (Err y)
    unfolding ◌>>=◌
    root_failed {y} is = left (Err y) (Err y) is (λ b m. refl)
