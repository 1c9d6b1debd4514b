-- Laws of the walk over the lines stored. What stands at an index tells the next line; the steps in front of the next `proc` line are
-- those up to its limit; and behind an expression the lines stand as the walk goes on.
use Rattle.std.proofs.Common.{Result, Err}
use mathlib.Core.Path.{◌≡◌, refl, sym, ap, subst, ◌∙◌}
use mathlib.Core.Logic.{inl, inr}
use mathlib.Core.Bool.{true, false}
use mathlib.Core.List.{List, [], ◌∷◌, map}
use Prim.Native.Nat.{ℕ, suc, zero, ◌+◌, ◌-◌, ◌<◌, ◌≤◌}
use native.Mathlib.Omega.{arith}
use native.Mathlib.Nat.{add-zero}
use native.Mathlib.Decide.{dec_lt}
use lib.ListN.{length, get_or, drop}
use borrow.Author.Tests.{lt-ltb, le-ltb, eq-eqb, ne_eqb}
use Rattle.spec.specs.Expression.{Expr, size, Step, Item, step, proc, steps_among, leading, breaks_off, first_listed, expression, listed}
use Rattle.spec.specs.declared.Refusal.{Refusal}
use Rattle.spec.specs.declared.Refusal.TheVariants.{ProgramLines}
use Rattle.workspace.specs.Layout.{words_at, values_at, ends_at, lines_at, proc_lines_at, proc_firsts_at, step_room}
use Rattle.workspace.specs.Region.{Region, ChangedWithin}
use Rattle.workspace.specs.Steps.{word_at, value_at, step_line_at, step_at, steps_from}
use Rattle.workspace.proofs.Region.{region_moved, region_first, region_behind}
use Rattle.workspace.proofs.Steps.{steps_held}
use Rattle.program_tree.specs.Items.{ProcRow, proc_rows, HoldsItems}
use Rattle.program_tree.specs.Trees.{proc_next, next_of, limit_at, break_line, ExpressionDue, ExpressionAnswer, ExpressionFound, StoredFrom, LinesLeft, body_due, BodyAnswer, BodyFound}
use Rattle.program_tree.specs.declared.Next.{Next}
use Rattle.program_tree.specs.declared.Next.TheVariants.{Proc, Step as StepNext, End}
use Rattle.program_tree.specs.declared.Stored.{Stored}
use Rattle.program_tree.proofs.Listed.{total, total_listed}

-- the next line
unfoldable pub next_by : List Item → Next
next_by [] = End
next_by (step s ∷ items) = StepNext
next_by (proc x k ∷ items) = Proc

heads : {a b : Step} {ss ts : List Step} → a ∷ ss ≡ b ∷ ts → a ≡ b
heads p = cc

tails : {a b : Step} {ss ts : List Step} → a ∷ ss ≡ b ∷ ts → ss ≡ ts
tails p = cc

-- ------------------------------------------------------------------ limits

module _ (w : List ℕ) (s : Stored) where
  limit_none : (j : ℕ) → s.procs ≤ j → limit_at w s j ≡ s.steps
  unfolding limit_at
  limit_none j h = rw (le-ltb j s.procs h) refl

  limit_proc : (j : ℕ) → j < s.procs → limit_at w s j ≡ get_or w (proc_firsts_at + j) 0
  unfolding limit_at
  limit_proc j h = rw (lt-ltb j s.procs h) refl

  break_none : (j : ℕ) → s.procs ≤ j → break_line w s j ≡ s.last
  unfolding break_line
  break_none j h = rw (le-ltb j s.procs h) refl

  break_proc : (j : ℕ) → j < s.procs → break_line w s j ≡ get_or w (proc_lines_at + j) 0
  unfolding break_line
  break_proc j h = rw (lt-ltb j s.procs h) refl

  -- ------------------------------------------------------------------ lines stored

  pub steps_left : (i j : ℕ) (items : List Item) → StoredFrom w s i j items → i + length (leading items) ≤ s.steps
  unfolding StoredFrom leading
  steps_left i j [] h = omega (arith, h.0)
  steps_left i j (step x ∷ items) h = omega (arith, steps_left (i + 1) j items h.2)
  steps_left i j (proc x k ∷ items) h = omega (arith, steps_left i (j + 1) items h.3)

  pub procs_left : (i j : ℕ) (items : List Item) → StoredFrom w s i j items → j ≤ s.procs
  unfolding StoredFrom
  procs_left i j [] h = omega (arith, h.1)
  procs_left i j (step x ∷ items) h = procs_left (i + 1) j items h.2
  procs_left i j (proc x k ∷ items) h = omega (arith, h.0)

  first_ahead : (i j : ℕ) (items : List Item) → StoredFrom w s i j items → j < s.procs → i ≤ get_or w (proc_firsts_at + j) 0
  unfolding StoredFrom
  first_ahead i j [] h l = absurd (omega (arith, h.1))
  first_ahead i j (step x ∷ items) h l = omega (arith, first_ahead (i + 1) j items h.2 l)
  first_ahead i j (proc x k ∷ items) h l = omega (arith, h.1)

  pub limit_leading : (i j : ℕ) (items : List Item) → StoredFrom w s i j items → limit_at w s j ≡ i + length (leading items)
  unfolding StoredFrom leading
  limit_leading i j [] h = omega (arith, limit_none j (omega (arith, h.1)), h.0)
  limit_leading i j (step x ∷ items) h = omega (arith, limit_leading (i + 1) j items h.2)
  limit_leading i j (proc x k ∷ items) h = omega (arith, limit_proc j h.0, h.1)

  steps_leading : (i j : ℕ) (items : List Item) → StoredFrom w s i j items → steps_from w i (length (leading items)) ≡ leading items
  unfolding StoredFrom leading steps_from
  steps_leading i j [] h = refl
  steps_leading i j (step x ∷ items) h =
      ap (λ y. y ∷ steps_from w (i + 1) (length (leading items))) h.1 ∙ ap (λ l. x ∷ l) (steps_leading (i + 1) j items h.2)
  steps_leading i j (proc x k ∷ items) h = refl

  break_leading : (i j : ℕ) (items : List Item) → StoredFrom w s i j items → break_line w s j ≡ breaks_off s.last items
  unfolding StoredFrom breaks_off
  break_leading i j [] h = break_none j (omega (arith, h.1))
  break_leading i j (step x ∷ items) h = break_leading (i + 1) j items h.2
  break_leading i j (proc x k ∷ items) h = break_proc j h.0 ∙ h.2

  stored_behind : (i j : ℕ) (items : List Item) (n : ℕ) → n ≤ length (leading items) → StoredFrom w s i j items
      → StoredFrom w s (i + n) j (drop n items)
  unfolding StoredFrom leading
  stored_behind i j [] zero l h = rw add-zero h
  stored_behind i j (step x ∷ items) zero l h = rw add-zero h
  stored_behind i j (proc x k ∷ items) zero l h = rw add-zero h
  stored_behind i j [] (suc n) l h = absurd (omega arith)
  stored_behind i j (step x ∷ items) (suc n) l h =
      let e : i + suc n ≡ i + 1 + n = omega arith in
      rw e (stored_behind (i + 1) j items n (omega arith) h.2)
  stored_behind i j (proc x k ∷ items) (suc n) l h = absurd (omega arith)

  -- ------------------------------------------------------------------ what stands next

  no_proc_by : (i j : ℕ) → (j < s.procs → i < get_or w (proc_firsts_at + j) 0) → Dec (j < s.procs) → proc_next w s i j ≡ false
  unfolding proc_next
  no_proc_by i j h (yes l) = rw (lt-ltb j s.procs l, ne_eqb (get_or w (proc_firsts_at + j) 0) i (λ e. omega (arith, e, h l))) refl
  no_proc_by i j h (no l) = rw (le-ltb j s.procs (omega (arith, l))) refl

  no_proc : (i j : ℕ) → (j < s.procs → i < get_or w (proc_firsts_at + j) 0) → proc_next w s i j ≡ false
  no_proc i j h = no_proc_by i j h (dec_lt j s.procs)

  at_proc : (i j : ℕ) → j < s.procs → get_or w (proc_firsts_at + j) 0 ≡ i → proc_next w s i j ≡ true
  unfolding proc_next
  at_proc i j l e = rw (lt-ltb j s.procs l, eq-eqb (get_or w (proc_firsts_at + j) 0) i e) refl

  pub next_by_lem : (i j : ℕ) (items : List Item) → StoredFrom w s i j items → next_of w s i j ≡ next_by items
  unfolding StoredFrom next_of next_by
  next_by_lem i j [] h = rw (no_proc i j (λ l. absurd (omega (arith, h.1, l))), le-ltb i s.steps (omega (arith, h.0))) refl
  next_by_lem i j (step x ∷ items) h =
      rw (no_proc i j (λ l. omega (arith, first_ahead (i + 1) j items h.2 l)), lt-ltb i s.steps h.0) refl
  next_by_lem i j (proc x k ∷ items) h = rw (at_proc i j h.0 h.1) refl

-- ------------------------------------------------------------------ lines stay

step_kept : {w w' : List ℕ} (a i : ℕ) → i < step_room → ChangedWithin (ends_at + a) (ends_at + step_room) w w' → step_at w' i ≡ step_at w i
unfolding word_at value_at step_line_at
step_kept a i l c =
    rw (c.kept (words_at + i) (inl (omega arith)), c.kept (values_at + i) (inl (omega arith)), c.kept (lines_at + i) (inr (omega arith)))
    refl

-- while ends are stored
pub stored_kept : {w w' : List ℕ} (s : Stored) (a : ℕ) → ChangedWithin (ends_at + a) (ends_at + step_room) w w' → (i j : ℕ) (items : List Item)
    → StoredFrom w s i j items → StoredFrom w' s i j items
unfolding StoredFrom
stored_kept s a c i j [] h = h
stored_kept s a c i j (step x ∷ items) h =
    (h.0, step_kept a i (omega (arith, h.0, s.in_room.0)) c ∙ h.1, stored_kept s a c (i + 1) j items h.2)
stored_kept s a c i j (proc x k ∷ items) h = (
  h.0,
  c.kept (proc_firsts_at + j) (inr (omega arith)) ∙ h.1,
  c.kept (proc_lines_at + j) (inr (omega (arith, h.0, s.in_room.1))) ∙ h.2,
  stored_kept s a c i (j + 1) items h.3,
)

-- ------------------------------------------------------------------ from the columns

from_columns : (w : List ℕ) (s : Stored) (i j : ℕ) (items : List Item)
    → steps_from w i (length (steps_among items)) ≡ steps_among items
    → Region w (proc_lines_at + j) (map (λ (r : ProcRow). r.line) (proc_rows i items))
    → Region w (proc_firsts_at + j) (map (λ (r : ProcRow). r.first) (proc_rows i items))
    → i + length (steps_among items) ≡ s.steps → j + length (proc_rows i items) ≡ s.procs → StoredFrom w s i j items
unfolding StoredFrom steps_among proc_rows steps_from
from_columns w s i j [] q l f es ep = (omega (arith, es), omega (arith, ep))
from_columns w s i j (step x ∷ items) q l f es ep = (
  omega (arith, es),
  heads q,
  from_columns w s (i + 1) j items (tails q) l f (omega (arith, es)) ep,
)
from_columns w s i j (proc x k ∷ items) q l f es ep = (
  omega (arith, ep),
  region_first f,
  region_first l,
  from_columns w s i (j + 1) items q (region_moved _ _ (omega arith) (region_behind l)) (region_moved _ _ (omega arith) (region_behind f))
      es
      (omega (arith, ep)),
)

pub items_stored : {w : List ℕ} (s : Stored) (items : List Item) → HoldsItems w items → length (steps_among items) ≡ s.steps
    → length (proc_rows 0 items) ≡ s.procs → StoredFrom w s 0 0 items
items_stored {w} s items h es ep =
    from_columns w s 0 0 items (steps_held w (steps_among items) (length (steps_among items)) h.steps refl)
    h.procs.lines h.procs.firsts (omega (arith, es)) (omega (arith, ep))

-- ------------------------------------------------------------------ one expression

module _ {s : Stored} {i j : ℕ} {w w' : List ℕ} {r : Result ℕ Refusal} (x : ExpressionFound s i j w w' r)
    (items : List Item) (h : StoredFrom w s i j items) where
  found_by : (es : List Expr) → listed i (leading items) ≡ es → ExpressionAnswer w' i (break_line w s j) r es
      → BodyAnswer s i j w' r (first_listed s.last items es)
  unfolding first_listed total
  found_by [] q a = a ∙ ap (λ k. Err (ProgramLines k)) (break_leading w s i j items h)
  found_by (e ∷ es) q a =
      let t : total 1 (e ∷ es) ≤ length (leading items) = subst (λ l. total 1 l ≤ length (leading items)) q (total_listed i (leading items) 1) in (
        a.0,
        (a.1, stored_kept s i x.changed (i + size e) j (drop (size e) items) (stored_behind w s i j items (size e) (omega (arith, t)) h)),
      )

  pub expression_answers : BodyAnswer s i j w' r (expression s.last i items)
  unfolding expression
  expression_answers =
      let m : limit_at w s j - i ≡ length (leading items) = omega (arith, limit_leading w s i j items h) in
      let q : steps_from w i (limit_at w s j - i) ≡ leading items = ap (steps_from w i) m ∙ steps_leading w s i j items h in
      found_by (listed i (leading items)) refl (rw q at x.found)

pub expression_due : {s : Stored} {i j : ℕ} {w : List ℕ} → (items : List Item) → StoredFrom w s i j items → ExpressionDue s i j w
expression_due {s} {i} {j} {w} items h = record {
  before = omega (arith, limit_leading w s i j items h);
  within = omega (arith, limit_leading w s i j items h, steps_left w s i j items h, s.in_room.0);
}

-- ------------------------------------------------------------------ one procedure

module _ (s : Stored) (i j : ℕ) (w : List ℕ) where
  due_by : (items : List Item) → StoredFrom w s i j items → next_by items ≡ Proc → ExpressionDue s i (j + 1) w
  unfolding StoredFrom next_by
  due_by [] h e = absurd (grind arith)
  due_by (step x ∷ items) h e = absurd (grind arith)
  due_by (proc x k ∷ items) h e = expression_due items h.3

  pub procedure_due : LinesLeft s i j w → next_of w s i j ≡ Proc → ExpressionDue s i (j + 1) w
  procedure_due l n = due_by l.items l.stored (sym (next_by_lem w s i j l.items l.stored) ∙ n)

  -- what reading it comes to, by what stands next
  abbrev Came : (w' : List ℕ) → Result ℕ Refusal → Next → Type 0
  Came w' r Proc = ExpressionFound s i (j + 1) w w' r
  Came w' r StepNext = r ≡ Err (ProgramLines (get_or w (lines_at + i) 0))
  Came w' r End = r ≡ Err (ProgramLines s.last)

  body_by : (w' : List ℕ) (r : Result ℕ Refusal) → (items : List Item) → StoredFrom w s i j items → Came w' r (next_by items)
      → BodyAnswer s i (j + 1) w' r (body_due s.last i items)
  unfolding StoredFrom next_by body_due step_line_at
  body_by w' r [] h a = a
  body_by w' r (step x ∷ items) h a = a ∙ ap (λ (t : Step). Err (ProgramLines t.line)) h.1
  body_by w' r (proc x k ∷ items) h a = expression_answers a items h.3

  pub body_found : {w' : List ℕ} {r : Result ℕ Refusal} (n : Next) → next_of w s i j ≡ n → Came w' r n
      → ChangedWithin (ends_at + i) (ends_at + step_room) w w' → BodyFound s i j w w' r
  body_found {w'} {r} n e a c = record {
    found = λ items h. body_by w' r items h (rw (sym (next_by_lem w s i j items h) ∙ e) a);
    changed = c;
  }
