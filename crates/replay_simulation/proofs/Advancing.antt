-- One turn of the loop that finds the next word, from a step and from a value, where the program's columns hold the step.
use Prim.Native.Nat.{ℕ, suc, ◌+◌, ◌*◌, ◌-◌, ◌<◌, ◌≤◌}
use mathlib.Core.Path.{◌≡◌, refl, sym, ◌∙◌, subst}
use mathlib.Core.Bool.{false}
use mathlib.Core.List.{List}
use mathlib.Core.Logic.{◌⊎◌, inl, inr}
use native.Mathlib.Omega.{arith}
use borrow.Author.Tests.{lt-ltb, le-ltb}
use lib.ListN.{set, length-set}
use lib.Seq.{get_or-set_other}
use Rattle.spec.specs.Expression.{Position}
use Rattle.spec.specs.declared.Word.{Word}
use Rattle.spec.specs.declared.Word.TheVariants.{Binary}
use Rattle.spec.specs.declared.BinaryWord.TheVariants.{Write}
use Rattle.workspace.specs.Layout.{rule_of, code_of, printed, shape_of}
use Rattle.workspace.specs.Region.{ChangedWithin}
use Rattle.replay_control.specs.Layout.{second_part, finish, leave, kept_values_at}
use Rattle.replay_control.specs.declared.ControlPoint.{ControlPoint}
use Rattle.replay_control.specs.Shapes.{shape_at, is_write}
use Rattle.replay_control.specs.Control.{variable, called_from, continuation, second, behind, entering, returning, ready_at, done_with, entered_by, entered, half_written, left, returned, returned_space, advanced, advanced_space, found}
use Rattle.replay_control.proofs.Advances.{found_stop, found_advance}
use Rattle.replay_simulation.proofs.Held.{Row, RowOf}

-- ------------------------------------------------------------------ rows by position

module _ {p : List ℕ} {k : ℕ} {q : Position} {w : Word} {v c : ℕ} (r : Row p k q w v c) where
  pub row_of : RowOf p q w v
  row_of = record {
    below = rw r.index r.below;
    index = refl;
    code = rw r.index r.code;
    number = rw r.index r.number;
    next = refl;
    small = r.small;
    far = rw r.index r.far;
  }

  -- what is said of the step and what follows it, by its position
  pub by_position : (P : (c k : ℕ) → Type 0) → P c k → P (continuation p q.index) q.index
  by_position P x = subst (λ (j : ℕ). P (continuation p j) j) (sym r.index) (subst (λ (d : ℕ). P d k) (sym r.next) x)

-- ------------------------------------------------------------------ turns

pub behind_is : (k : ℕ) → k < 256 → behind k ≡ k + 1
unfolding behind
behind_is k h = rw (lt-ltb k 512 (omega (arith, h)))

module _ (p : List ℕ) (r : ℕ) where
  abbrev pub go : ℕ → List ℕ → ControlPoint → ControlPoint × List ℕ
  go n s f = found n p s f

  -- from a step
  pub enters : (n k : ℕ) {q : Position} {w : Word} {v c : ℕ} (s : List ℕ) → Row p k q w v c →
      go (suc n) s (entering r k) ≡ go n s (entered_by (shape_of (rule_of (code_of w))) r k c (variable s r v))
  unfolding advanced advanced_space entered shape_at
  enters n k s d = found_advance p s (entering r k) n refl ∙ rw (d.code, d.number, d.next)

  -- from the value of a first part, not of a `write`
  pub to_first : (n j x : ℕ) {q : Position} {w : Word} {v c : ℕ} (s : List ℕ) → Row p j q w v c → is_write (shape_of (rule_of (code_of w))) ≡ false →
      go (suc n) s (returning r j x) ≡ (ready_at r j x, s)
  unfolding advanced advanced_space returned returned_space half_written shape_at
  to_first n j x s d h =
      found_advance p s (returning r j x) n refl ∙ rw (lt-ltb j 256 d.below, d.code, h) (found_stop p s (ready_at r j x) n refl)

  -- from the value of the second part of a `write`
  pub to_second : (n j x : ℕ) (s : List ℕ) → j < 256 → go (suc n) s (returning r (second_part + j) x) ≡ (ready_at r j x, s)
  unfolding advanced advanced_space returned returned_space half_written
  to_second n j x s h =
      let back : second_part + j - second_part ≡ j = omega arith in
      found_advance p s (returning r (second_part + j) x) n refl
      ∙ rw (le-ltb (second_part + j) 256 (omega arith), lt-ltb (second_part + j) 512 (omega (arith, h)), back) (found_stop p s (ready_at r j x) n refl)

  -- from the value of the first part of a `write`
  pub to_other : (n j x : ℕ) {q : Position} {v c : ℕ} (s : List ℕ) → Row p j q (Binary Write) v c →
      go (suc n) s (returning r j x) ≡ go n (set s (kept_values_at + 256 * r + j) x) (entering r (second p j))
  unfolding advanced advanced_space returned returned_space half_written shape_at rule_of printed is_write
  to_other n j x s d = found_advance p s (returning r j x) n refl ∙ rw (lt-ltb j 256 d.below, d.code)

  -- from the value of the whole
  pub to_end : (n x : ℕ) (s : List ℕ) → go (suc n) s (returning r finish x) ≡ (done_with r x, s)
  unfolding advanced advanced_space returned returned_space half_written
  to_end n x s = found_advance p s (returning r finish x) n refl ∙ found_stop p s (done_with r x) n refl

  -- from the value of a body
  pub to_caller : (n x : ℕ) (s : List ℕ) → go (suc n) s (returning r leave x) ≡ go n s (returning (r - 1) (continuation p (called_from s r)) x)
  unfolding advanced advanced_space returned returned_space half_written left
  to_caller n x s = found_advance p s (returning r leave x) n refl

-- ------------------------------------------------------------------ what a turn may change

-- the values kept for thread t's writes, in all its rows
abbrev pub SameBut : (t : ℕ) → (s s' : List ℕ) → Type 0
SameBut t s s' = ChangedWithin (kept_values_at + 16896 * t) (kept_values_at + 16896 * t + 16896) s s'

pub same_all : (t : ℕ) (s : List ℕ) → SameBut t s s
same_all t s = record { long = refl; kept = λ i o. refl }

-- row r is one of thread t's
abbrev pub RowIn : (t r : ℕ) → Type 0
RowIn t r = (66 * t ≤ r) × (r ≤ 66 * t + 65)

pub same_but_one : (t r k x : ℕ) (s s' : List ℕ) → RowIn t r → k < 256 → SameBut t s s' → SameBut t s (set s' (kept_values_at + 256 * r + k) x)
same_but_one t r k x s s' (lo, hi) h c = record {
  long = length-set s' (kept_values_at + 256 * r + k) x ∙ c.long;
  kept = λ i o. get_or-set_other s' (kept_values_at + 256 * r + k) i x 0 (λ e. apart i o e) ∙ c.kept i o;
}
  where
    apart : (i : ℕ) → (i < kept_values_at + 16896 * t) ⊎ (kept_values_at + 16896 * t + 16896 ≤ i) → i ≡ kept_values_at + 256 * r + k → ⊥
    apart i (inl l) e = omega (arith, l, e, lo)
    apart i (inr l) e = omega (arith, l, e, h, hi)
