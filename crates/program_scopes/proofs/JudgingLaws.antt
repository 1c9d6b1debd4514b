-- Laws of judging one step: the scopes of lets and procedures, and that what is stored of lets does not count.
use Rattle.std.proofs.Common.{Option, None, Some, Ok}
use mathlib.Core.Path.{◌≡◌, refl, ap}
use mathlib.Core.Logic.{inl, inr}
use mathlib.Core.List.{List}
use Prim.Native.Nat.{ℕ, ◌+◌, ◌-◌, ◌<◌, ◌≤◌}
use native.Mathlib.Omega.{arith}
use native.Mathlib.Decide.{dec_lt}
use lib.ListN.{get_or}
use borrow.Author.Tests.{le-leb, le-ltb, lt-ltb}
use Rattle.spec.specs.Words.{role}
use Rattle.spec.specs.declared.Role.{Role}
use Rattle.spec.specs.declared.Role.TheVariants.{Binds, Uses, Calls, Neither}
use Rattle.workspace.specs.Layout.{words_at, values_at, ends_at, lets_at, lines_at, proc_firsts_at, proc_mark, word_of}
use Rattle.workspace.specs.Region.{ChangedWithin}
use Rattle.workspace.specs.Steps.{word_at, value_at, step_line_at}
use Rattle.program_scopes.specs.Scopes.{first_at}
use Rattle.program_scopes.specs.declared.binders.Judged.TheVariants.{Store}
use Rattle.program_scopes.specs.Judging.{judge_let, scope_from, scope_till, judge_var, judge_call, judge_by, judge_of}

-- the scope of a let, by its index, and of a procedure, by its number
module _ (w : List ℕ) where
  pub from_let : (k : ℕ) → k < 256 → scope_from w k ≡ get_or w (ends_at + (k + 1)) 0
  unfolding scope_from
  from_let k l = rw (lt-ltb k 256 l) refl

  pub till_let : (k : ℕ) → k < 256 → scope_till w k ≡ get_or w (ends_at + k) 0
  unfolding scope_till
  till_let k l = rw (lt-ltb k 256 l) refl

  pub from_proc : (f : ℕ) → scope_from w (proc_mark + f) ≡ first_at w f
  unfolding scope_from
  from_proc f = let e : proc_mark + f - proc_mark ≡ f = omega arith in rw (le-ltb (proc_mark + f) 256 (omega arith), e) refl

  pub till_proc : (f : ℕ) → scope_till w (proc_mark + f) ≡ first_at w (f + 1)
  unfolding scope_till
  till_proc f = let e : proc_mark + f - proc_mark + 1 ≡ f + 1 = omega arith in rw (le-ltb (proc_mark + f) 256 (omega arith), e) refl

-- a use within the scope of what is bound at b
pub used_inside : (w : List ℕ) (k b : ℕ) {from till : ℕ} → from ≡ scope_from w b → till ≡ scope_till w b → from ≤ k → k < till → Ok (Store b) ≡ judge_var w k (Some b)
unfolding judge_var
used_inside w k b begins ends l h = rw (← begins, ← ends, le-leb _ _ l, lt-ltb _ _ h) refl

-- what is judged does not depend on what is stored of lets
module _ (w w' : List ℕ) (a z : ℕ) (few : z ≤ 256) (x : ChangedWithin (lets_at + a) (lets_at + z) w w') where
  from_kept_by : (b : ℕ) → Dec (b < 256) → scope_from w' b ≡ scope_from w b
  unfolding scope_from
  from_kept_by b (yes l) = rw (lt-ltb b 256 l) (x.kept (ends_at + (b + 1)) (inl (omega (arith, l))))
  from_kept_by b (no l) = rw (le-ltb b 256 (omega (arith, l))) (x.kept (proc_firsts_at + (b - proc_mark)) (inr (omega arith)))

  till_kept_by : (b : ℕ) → Dec (b < 256) → scope_till w' b ≡ scope_till w b
  unfolding scope_till
  till_kept_by b (yes l) = rw (lt-ltb b 256 l) (x.kept (ends_at + b) (inl (omega (arith, l))))
  till_kept_by b (no l) = rw (le-ltb b 256 (omega (arith, l))) (x.kept (proc_firsts_at + (b - proc_mark + 1)) (inr (omega arith)))

  pub scope_from_kept : (b : ℕ) → scope_from w' b ≡ scope_from w b
  scope_from_kept b = from_kept_by b (dec_lt b 256)

  pub scope_till_kept : (b : ℕ) → scope_till w' b ≡ scope_till w b
  scope_till_kept b = till_kept_by b (dec_lt b 256)

  module _ (count k : ℕ) (h : k < 256) where
    line_kept : step_line_at w' k ≡ step_line_at w k
    unfolding step_line_at
    line_kept = x.kept (lines_at + k) (inr (omega arith))

    judge_var_kept : (b : Option ℕ) → judge_var w' k b ≡ judge_var w k b
    unfolding judge_var
    judge_var_kept None = rw line_kept refl
    judge_var_kept (Some b) = rw (line_kept, scope_from_kept b, scope_till_kept b) refl

    value_kept : value_at w' k ≡ value_at w k
    unfolding value_at
    value_kept = x.kept (values_at + k) (inl (omega arith))

    judge_call_kept : judge_call w' count k ≡ judge_call w count k
    unfolding judge_call
    judge_call_kept = rw (line_kept, value_kept) refl

    judge_by_kept : (b : Option ℕ) (r : Role) → judge_by w' count k b r ≡ judge_by w count k b r
    unfolding judge_by
    judge_by_kept b Binds = ap (λ i. judge_let i b) line_kept
    judge_by_kept b Uses = judge_var_kept b
    judge_by_kept b Calls = judge_call_kept
    judge_by_kept b Neither = refl

    pub judge_kept : (b : Option ℕ) → judge_of w' count k b ≡ judge_of w count k b
    unfolding judge_of word_at
    judge_kept b = rw (x.kept (words_at + k) (inl (omega arith))) (judge_by_kept b (role (word_of (get_or w (words_at + k) 0))))
