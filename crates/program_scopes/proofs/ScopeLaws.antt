-- Laws of the loop that judges steps in line order, with a table.
use Rattle.std.proofs.Common.{Option, None, Some, Result, Ok, Err}
use mathlib.Core.Path.{◌≡◌, refl, ap, subst, ◌∙◌}
use mathlib.Core.Logic.{inl}
use mathlib.Core.List.{List, [], ◌∷◌, ◌++◌, append-nil}
use Prim.Native.Nat.{ℕ, suc, ◌+◌, ◌-◌, ◌<◌, ◌≤◌}
use native.Mathlib.Omega.{arith}
use lib.ListN.{length, get_or, set, length-append}
use Rattle.spec.specs.declared.Refusal.{Refusal}
use Rattle.workspace.specs.Layout.{values_at, lets_at, work_size}
use Rattle.workspace.specs.Region.{Region, ChangedWithin}
use Rattle.workspace.proofs.Region.{region_empty, region_push, changed_nothing, changed_store, changed_then}
use Rattle.workspace.specs.Steps.{value_at}
use Rattle.program_scopes.specs.Judging.{judge_of}
use Rattle.program_scopes.specs.declared.binders.Judged.{Judged}
use Rattle.program_scopes.specs.declared.binders.Judged.TheVariants.{Bind, Store}
use Rattle.program_scopes.proofs.JudgingLaws.{judge_kept}
use Rattle.program_scopes.specs.Scopes.{Table, Passing, storing, continued, scopes_from, PartScoped}

-- ------------------------------------------------------------------ the steps so far

-- numbers stored for the steps in front
unfoldable pub after : List ℕ → Result Passing Refusal → Result Passing Refusal
after [] o = o
after (x ∷ xs) o = storing x (after xs o)

pub after_append : (xs ys : List ℕ) (o : Result Passing Refusal) → after xs (after ys o) ≡ after (xs ++ ys) o
unfolding after
after_append [] ys o = refl
after_append (x ∷ xs) ys o = ap (storing x) (after_append xs ys o)

pub after_stop : (xs : List ℕ) (r : Refusal) → after xs (Err r) ≡ Err r
unfolding after storing
after_stop [] r = refl
after_stop (y ∷ xs) r = ap (storing y) (after_stop xs r)

pub after_on : (xs ys : List ℕ) (t : Table) → after xs (Ok (ys, t)) ≡ Ok (xs ++ ys, t)
unfolding after storing
after_on [] ys t = refl
after_on (y ∷ xs) ys t = ap (storing y) (after_on xs ys t)

-- the loop at index k, with its table and its work space
pub record ScopesSoFar (count from to : ℕ) (w₀ w : List ℕ) (t₀ t : Table) (k : ℕ) : Type 0 where
  pub stored : List ℕ
  pub counted : from + length stored ≡ k
  pub held : Region w (lets_at + from) stored
  pub changed : ChangedWithin (lets_at + from) (lets_at + to) w₀ w
  pub rest : scopes_from w₀ count (to - from) from t₀ ≡ after stored (scopes_from w₀ count (to - k) k t)

pub start : (count from to : ℕ) (w : List ℕ) (t : Table) → length w ≡ work_size → from ≤ to → to ≤ 256 → ScopesSoFar count from to w w t t from
unfolding after
start count from to w t h l m = record {
  stored = [];
  counted = omega arith;
  held = region_empty w (lets_at + from) (omega arith);
  changed = changed_nothing (lets_at + from) (lets_at + to) w;
  rest = refl;
}

module _ {count from to : ℕ} {w₀ w : List ℕ} {t₀ t : Table} {k : ℕ} (s : ScopesSoFar count from to w₀ w t₀ t k) where
  pub finish : to ≤ k → PartScoped count from to w₀ w t₀ t (Ok tt)
  unfolding scopes_from
  finish h =
      let e : to - k ≡ 0 = omega arith in
      let f : scopes_from w₀ count (to - from) from t₀ ≡ Ok (s.stored, t) =
      s.rest
      ∙ ap (λ m. after s.stored (scopes_from w₀ count m k t)) e
      ∙ after_on s.stored [] t
      ∙ ap (λ l. Ok (l, t)) (append-nil s.stored) in
      record { found = rw f (refl, (s.held, refl)); changed = s.changed }

  module _ {v : ℕ} {b : Option ℕ} {j : Result Judged Refusal} (hw : length w₀ ≡ work_size) (hn : to ≤ 256) (h : k < to) (hv : v ≡ get_or w (values_at + k) 0)
      (hb : b ≡ get_or t v None) (hj : j ≡ judge_of w count k b) where
    step : scopes_from w₀ count (to - k) k t ≡ continued (λ u. scopes_from w₀ count (to - (k + 1)) (k + 1) u) k t v j
    unfolding scopes_from value_at
    step =
        let e : to - k ≡ suc (to - (k + 1)) = omega arith in
        let hv' : v ≡ get_or w₀ (values_at + k) 0 = hv ∙ s.changed.kept (values_at + k) (inl (omega arith)) in
        rw (e, hj, judge_kept w₀ w from to hn s.changed count k (omega arith) b, hb, hv') refl

    pub refuses : {x : Refusal} → j ≡ Err x → PartScoped count from to w₀ w t₀ t (Err x)
    unfolding continued
    refuses {x} p =
        let f : scopes_from w₀ count (to - from) from t₀ ≡ Err x =
        s.rest
        ∙ ap (after s.stored) (step ∙ ap (continued (λ u. scopes_from w₀ count (to - (k + 1)) (k + 1) u) k t v) p)
        ∙ after_stop s.stored x in
        record { found = rw f refl; changed = s.changed }

    -- the loop goes on with the table and the number that a step leaves
    more : (x : ℕ) (t' : Table) → scopes_from w₀ count (to - k) k t ≡ storing x (scopes_from w₀ count (to - (k + 1)) (k + 1) t')
        → ScopesSoFar count from to w₀ (set w (lets_at + k) x) t₀ t' (k + 1)
    unfolding after
    more x t' p = record {
      stored = s.stored ++ (x ∷ []);
      counted = omega (arith, length-append s.stored (x ∷ []), s.counted);
      held =
          let at : lets_at + from + length s.stored ≡ lets_at + k = omega (arith, s.counted) in
          subst (λ i. Region (set w i x) (lets_at + from) (s.stored ++ (x ∷ []))) at
          (region_push w (lets_at + from) s.stored x (omega (arith, s.counted, s.changed.long)) s.held);
      changed = changed_then (lets_at + from) (lets_at + to) s.changed
          (changed_store (lets_at + from) (lets_at + to) w (lets_at + k) x (omega (arith, s.counted)) (omega arith));
      rest = s.rest ∙ ap (after s.stored) p ∙ after_append s.stored (x ∷ []) (scopes_from w₀ count (to - (k + 1)) (k + 1) t');
    }

    pub binds : (x : ℕ) (t' : Table) → x ≡ 0 → t' ≡ set t v (Some k) → j ≡ Ok Bind → ScopesSoFar count from to w₀ (set w (lets_at + k) x) t₀ t' (k + 1)
    unfolding continued
    binds x t' e f p =
        rw (e, f) (more 0 (set t v (Some k)) (step ∙ ap (continued (λ u. scopes_from w₀ count (to - (k + 1)) (k + 1) u) k t v) p))

    pub stores : (x y : ℕ) (t' : Table) → x ≡ y → t' ≡ t → j ≡ Ok (Store y) → ScopesSoFar count from to w₀ (set w (lets_at + k) x) t₀ t' (k + 1)
    unfolding continued
    stores x y t' e f p =
        rw (e, f) (more y t (step ∙ ap (continued (λ u. scopes_from w₀ count (to - (k + 1)) (k + 1) u) k t v) p))
