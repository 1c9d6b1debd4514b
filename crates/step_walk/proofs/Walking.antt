-- The walk over the steps, one step at a time, and which part of the work space it changes.
use Rattle.std.proofs.Common.{Ok}
use mathlib.Core.Path.{◌≡◌, refl}
use mathlib.Core.Bool.{Bool, true, false}
use mathlib.Core.List.{List}
use Prim.Native.Nat.{ℕ, suc, ◌+◌, ◌-◌, ◌<◌, ◌≤◌}
use native.Mathlib.Omega.{arith}
use lib.Dec.{ltb}
use lib.ListN.{length, set}
use lib.Seq.{get_or-set_same, get_or-set_other}
use borrow.Author.Tests.{lt-ltb, ltb-true}
use Rattle.spec.specs.Choice.{when◌then◌else◌}
use Rattle.spec.specs.Words.{pre_of_part, pre_of_second}
use Rattle.spec.specs.declared.MapNumber.{MapNumber}
use Rattle.spec.specs.declared.Word.{Word}
use Rattle.spec.specs.declared.Word.TheVariants.{Leaf, Unary, Binary}
use Rattle.workspace.specs.Layout.{words_at, pres_at, word_of}
use Rattle.workspace.specs.Region.{ChangedWithin}
use Rattle.workspace.proofs.Region.{changed_nothing, changed_store, changed_then}
use Rattle.conditions.specs.Outcome.{both}
use Rattle.rule_rows.specs.StepView.{cell}
use Rattle.rule_table.specs.Outcome.{step_outcome}
use Rattle.step_walk.specs.declared.Judging.{Judging}
use Rattle.step_walk.specs.Walk.{counted, put_pre, pass_word, pass_on, walk}

module _ (how : Judging) (w : List ℕ) (k n : ℕ) where
  pub walk_more : k < n
      → walk how w k (n - k) ≡ both (counted how.purpose (step_outcome w how.locations how.denominator k)) (walk how (pass_on w k) (k + 1) (n - (k + 1)))
  unfolding walk
  walk_more h =
      let e : n - k ≡ suc (n - (k + 1)) = omega arith in
      rw e

  pub walk_end : n ≤ k → walk how w k (n - k) ≡ Ok tt
  unfolding walk
  walk_end h =
      let e : n - k ≡ 0 = omega arith in
      rw e

-- the map before a step, for one of the steps before b
pub put_before : (w : List ℕ) (i b : ℕ) (m : MapNumber) → i < b → ChangedWithin pres_at (pres_at + b) w (put_pre w i m)
unfolding put_pre
put_before w i b m h = either (ltb i 256)
  where
    either : (t : Bool) → ChangedWithin pres_at (pres_at + b) w (when t then set w (pres_at + i) m.0 else w)
    either true = changed_store pres_at (pres_at + b) w (pres_at + i) m.0 (omega arith) (omega arith)
    either false = changed_nothing pres_at (pres_at + b) w

-- for any step
pub put_within : (w : List ℕ) (i : ℕ) (m : MapNumber) → ChangedWithin pres_at (pres_at + 256) w (put_pre w i m)
unfolding put_pre
put_within w i m = either (ltb i 256) refl
  where
    either : (t : Bool) → ltb i 256 ≡ t → ChangedWithin pres_at (pres_at + 256) w (when t then set w (pres_at + i) m.0 else w)
    either true e = changed_store pres_at (pres_at + 256) w (pres_at + i) m.0 (omega arith) (omega (arith, ltb-true i 256 e))
    either false e = changed_nothing pres_at (pres_at + 256) w

-- the maps before the parts of a step
pub pass_within : (w : List ℕ) (k : ℕ) → ChangedWithin pres_at (pres_at + 256) w (pass_on w k)
unfolding pass_on pass_word
pass_within w k = word (word_of (cell w words_at k)) _ _ _ _ _
  where
    word : (x : Word) (pre post post₁ start : MapNumber) (second : ℕ)
        → ChangedWithin pres_at (pres_at + 256) w (pass_word x w k pre post post₁ start second)
    word (Leaf l) pre post post₁ start second = changed_nothing pres_at (pres_at + 256) w
    word (Unary u) pre post post₁ start second = put_within w (k + 1) (pre_of_part u pre post)
    word (Binary b) pre post post₁ start second =
        changed_then pres_at (pres_at + 256) (put_within w (k + 1) pre) (put_within _ second (pre_of_second b pre post₁ start))

-- a map before a step, once it is put there, and another step's
pub put_at : (w : List ℕ) (i : ℕ) (m : MapNumber) → i < 256 → pres_at + 256 ≤ length w → cell (put_pre w i m) pres_at i ≡ m.0
unfolding put_pre
put_at w i m h l = rw (lt-ltb i 256 h) (get_or-set_same w (pres_at + i) m.0 0 (omega arith))

pub put_other : (w : List ℕ) (i j : ℕ) (m : MapNumber) → (j ≡ i → ⊥) → cell (put_pre w i m) pres_at j ≡ cell w pres_at j
unfolding put_pre
put_other w i j m h = either (ltb i 256)
  where
    either : (t : Bool) → cell (when t then set w (pres_at + i) m.0 else w) pres_at j ≡ cell w pres_at j
    either true = get_or-set_other w (pres_at + i) (pres_at + j) m.0 0 (λ e. h (omega arith))
    either false = refl
