-- Laws of judging the scopes of bodies and root, one after the other: the table runs on, and so does what is stored.
use Rattle.std.proofs.Common.{Option, None, Some, is_some, Result, Ok, Err, IfOk}
use Rattle.std.proofs.lemmas.Result.{IfOk-at_ok}
use mathlib.Core.Path.{◌≡◌, refl, sym, ap, subst, ◌∙◌}
use mathlib.Core.Logic.{inl, inr}
use mathlib.Core.Bool.{Bool, true, false}
use mathlib.Core.List.{List, [], ◌++◌, append-nil, append_assoc}
use Prim.Native.Nat.{ℕ, suc, zero, ◌+◌, ◌-◌, ◌<◌, ◌≤◌}
use native.Mathlib.Omega.{arith}
use native.Mathlib.Nat.{sub-zero}
use lib.ListN.{length, get_or, set, length-append}
use Rattle.spec.specs.Choice.{when◌then◌else◌}
use Rattle.spec.specs.declared.Refusal.{Refusal}
use Rattle.spec.specs.declared.Refusal.TheVariants.{Rebound}
use Rattle.workspace.specs.Layout.{values_at, lets_at, proc_lines_at, proc_vars_at, proc_firsts_at, proc_mark, work_size}
use Rattle.workspace.specs.Region.{Region, ChangedWithin}
use Rattle.workspace.proofs.Region.{region_empty, region_append, region_kept, region_moved, changed_nothing, changed_then, changed_wider}
use Rattle.workspace.specs.Steps.{value_at}
use Rattle.program_tree.specs.Outcomes.{Passes}
use Rattle.program_tree.proofs.Outcomes.{found, refused}
use Rattle.program_scopes.specs.Judging.{judge_of}
use Rattle.program_scopes.specs.Scopes.{Table, unbound, Passing, storing, continued, scopes_from, PartScoped, first_at, with_front, followed, body_scopes, BodyScopable, BodyScoped, scopes_behind, Scopable, Scoped}
use Rattle.program_scopes.specs.declared.binders.Judged.{Judged}
use Rattle.program_scopes.specs.declared.binders.Judged.TheVariants.{Bind, Store}
use Rattle.program_scopes.proofs.JudgingLaws.{judge_kept}

-- ------------------------------------------------------------------ one body

module _ {count f : ℕ} {w : List ℕ} {t : Table} {v : ℕ} {b : Option ℕ} (hv : v ≡ get_or w (proc_vars_at + f) 0) (hb : b ≡ get_or t v None) where
  pub body_rebound : is_some b ≡ true → BodyScoped count f w w t t (Err (Rebound (get_or w (proc_lines_at + f) 0)))
  unfolding body_scopes
  body_rebound bound = record {
    found = rw (← hv, ← hb, bound) refl;
    changed = changed_nothing (lets_at + first_at w f) (lets_at + first_at w (f + 1)) w;
  }

  pub body_scoped : is_some b ≡ false → {from to : ℕ} → from ≡ first_at w f → to ≡ first_at w (f + 1) → {w' : List ℕ} {t₁ t' : Table} {r : Result (Unit {0}) Refusal}
      → t₁ ≡ set t v (Some (proc_mark + f)) → PartScoped count from to w w' t₁ t' r → BodyScoped count f w w' t t' r
  unfolding body_scopes
  body_scoped free ef et e x = record {
    found = rw (← hv, ← hb, free, ← ef, ← et, ← e) x.found;
    changed = rw (← ef, ← et) x.changed;
  }

-- ------------------------------------------------------------------ what is judged stays

continued_same : (g h : Table → Result Passing Refusal) → ((u : Table) → g u ≡ h u) → (k : ℕ) (t : Table) (v : ℕ) (j : Result Judged Refusal)
    → continued g k t v j ≡ continued h k t v j
unfolding continued
continued_same g h e k t v (Ok Bind) = ap (storing 0) (e (set t v (Some k)))
continued_same g h e k t v (Ok (Store x)) = ap (storing x) (e t)
continued_same g h e k t v (Err r) = refl

module _ (w w' : List ℕ) (c : ChangedWithin (lets_at + 0) (lets_at + 256) w w') (count : ℕ) where
  scopes_kept : (m k : ℕ) (t : Table) → k + m ≤ 256 → scopes_from w' count m k t ≡ scopes_from w count m k t
  unfolding scopes_from value_at
  scopes_kept zero k t h = refl
  scopes_kept (suc m) k t h =
      rw (c.kept (values_at + k) (inl (omega arith)), judge_kept w w' 0 256 (omega arith) c count k (omega arith) (get_or t (get_or w (values_at + k) 0) None))
      (continued_same (λ u. scopes_from w' count m (k + 1) u) (λ u. scopes_from w count m (k + 1) u) (λ u. scopes_kept m (k + 1) u (omega arith)) k t
      (get_or w (values_at + k) 0)
      (judge_of w count k (get_or t (get_or w (values_at + k) 0) None)))

-- ------------------------------------------------------------------ how much is stored

-- as much as there are steps, if none is refused
abbrev Sized : ℕ → Result Passing Refusal → Type 0
Sized m o = IfOk o (λ p. length p.0 ≡ m)

sized_storing : (m x : ℕ) (o : Result Passing Refusal) → Sized m o → Sized (suc m) (storing x o)
unfolding storing
sized_storing m x (Err r) s = tt
sized_storing m x (Ok p) s = omega (arith, s)

sized_continued : (m : ℕ) (g : Table → Result Passing Refusal) → ((u : Table) → Sized m (g u)) → (k : ℕ) (t : Table) (v : ℕ) (j : Result Judged Refusal)
    → Sized (suc m) (continued g k t v j)
unfolding continued
sized_continued m g s k t v (Ok Bind) = sized_storing m 0 (g (set t v (Some k))) (s (set t v (Some k)))
sized_continued m g s k t v (Ok (Store x)) = sized_storing m x (g t) (s t)
sized_continued m g s k t v (Err r) = tt

scopes_sized : (w : List ℕ) (count m k : ℕ) (t : Table) → Sized m (scopes_from w count m k t)
unfolding scopes_from
scopes_sized w count zero k t = refl
scopes_sized w count (suc m) k t =
    sized_continued m (λ u. scopes_from w count m (k + 1) u) (λ u. scopes_sized w count m (k + 1) u) k t (value_at w k) (judge_of w count k (get_or t (value_at w k) None))

-- ------------------------------------------------------------------ numbers in front

front_none : (o : Result (List ℕ) Refusal) → with_front [] o ≡ o
unfolding with_front
front_none (Err r) = refl
front_none (Ok ys) = refl

front_append : (xs ys : List ℕ) (o : Result (List ℕ) Refusal) → with_front xs (with_front ys o) ≡ with_front (xs ++ ys) o
unfolding with_front
front_append xs ys (Err r) = refl
front_append xs ys (Ok zs) = ap Ok (sym (append_assoc xs ys zs))

-- ------------------------------------------------------------------ the bodies so far

first_kept : {w w' : List ℕ} (f : ℕ) → ChangedWithin (lets_at + 0) (lets_at + 256) w w' → first_at w' f ≡ first_at w f
first_kept f c = c.kept (proc_firsts_at + f) (inr (omega arith))

body_kept : (w w' : List ℕ) → ChangedWithin (lets_at + 0) (lets_at + 256) w w' → (count f : ℕ) (t : Table) → first_at w f ≤ first_at w (f + 1) → first_at w (f + 1) ≤ 256
    → body_scopes w' count f t ≡ body_scopes w count f t
unfolding body_scopes
body_kept w w' c count f t h l =
    rw (
      c.kept (proc_vars_at + f) (inr (omega arith)),
      c.kept (proc_lines_at + f) (inr (omega arith)),
      first_kept f c,
      first_kept (f + 1) c,
      scopes_kept w w' c count (first_at w (f + 1) - first_at w f) (first_at w f) (set t (get_or w (proc_vars_at + f) 0) (Some (proc_mark + f))) (omega arith),
    )
    refl

sized_choice : (m : ℕ) (b : Bool) (r : Refusal) (o : Result Passing Refusal) → Sized m o → Sized m (when b then Err r else o)
sized_choice m true r o s = tt
sized_choice m false r o s = s

body_sized : (w : List ℕ) (count f : ℕ) (t : Table) → Sized (first_at w (f + 1) - first_at w f) (body_scopes w count f t)
unfolding body_scopes
body_sized w count f t =
    sized_choice (first_at w (f + 1) - first_at w f) (is_some (get_or t (get_or w (proc_vars_at + f) 0) None)) (Rebound (get_or w (proc_lines_at + f) 0))
    (scopes_from w count (first_at w (f + 1) - first_at w f) (first_at w f) (set t (get_or w (proc_vars_at + f) 0) (Some (proc_mark + f))))
    (scopes_sized w count (first_at w (f + 1) - first_at w f) (first_at w f) (set t (get_or w (proc_vars_at + f) 0) (Some (proc_mark + f))))

firsts_below : (n count : ℕ) (w : List ℕ) → Scopable n count w → (d f : ℕ) → f + d ≡ count → first_at w f ≤ n
firsts_below n count w s zero f e = let q : f ≡ count = omega arith in rw q s.last
firsts_below n count w s (suc d) f e = omega (arith, s.in_turn f (omega arith), firsts_below n count w s d (f + 1) (omega arith))

pub first_below : (n count : ℕ) (w : List ℕ) → Scopable n count w → (f : ℕ) → f ≤ count → first_at w f ≤ n
first_below n count w s f l = firsts_below n count w s (count - f) f (omega arith)

-- the loop at procedure f, with its table and its work space
pub record BodiesSoFar (n count : ℕ) (w₀ w : List ℕ) (t : Table) (f : ℕ) : Type 0 where
  pub stored : List ℕ
  pub counted : length stored ≡ first_at w₀ f
  pub held : Region w lets_at stored
  pub changed : ChangedWithin (lets_at + 0) (lets_at + 256) w₀ w
  pub rest : scopes_behind w₀ n count count 0 unbound ≡ with_front stored (scopes_behind w₀ n count (count - f) f t)

pub bodies_start : {n count : ℕ} {w : List ℕ} → length w ≡ work_size → Scopable n count w → BodiesSoFar n count w w unbound 0
bodies_start {n} {count} {w} long s = record {
  stored = [];
  counted = sym s.begun;
  held = region_empty w lets_at (omega (arith, long));
  changed = changed_nothing (lets_at + 0) (lets_at + 256) w;
  rest = ap (λ m. scopes_behind w n count m 0 unbound) (sym (sub-zero count)) ∙ sym (front_none (scopes_behind w n count (count - 0) 0 unbound));
}

module _ {n count : ℕ} {w₀ w : List ℕ} {t : Table} {f : ℕ} (d : Scopable n count w₀) (s : BodiesSoFar n count w₀ w t f) where
  kept : (g : ℕ) → first_at w g ≡ first_at w₀ g
  kept g = first_kept g s.changed

  module _ (l : f < count) where
    turn : first_at w₀ f ≤ first_at w₀ (f + 1)
    turn = d.in_turn f l

    near : first_at w₀ (f + 1) ≤ 256
    near = omega (arith, first_below n count w₀ d (f + 1) (omega arith), d.few)

    pub body_due : BodyScopable count f w
    body_due = record {
      there = l;
      few = d.procedures;
      in_turn = omega (arith, kept f, kept (f + 1), turn);
      within = omega (arith, kept (f + 1), near);
    }

    -- what is behind this body
    abbrev behind : Table → Result (List ℕ) Refusal
    behind u = scopes_behind w₀ n count (count - (f + 1)) (f + 1) u

    one_more : scopes_behind w₀ n count (count - f) f t ≡ followed (body_scopes w₀ count f t) behind
    unfolding scopes_behind
    one_more = let e : count - f ≡ suc (count - (f + 1)) = omega arith in rw e refl

    from_here : {o : Result Passing Refusal} → body_scopes w₀ count f t ≡ o → scopes_behind w₀ n count count 0 unbound ≡ with_front s.stored (followed o behind)
    from_here q = s.rest ∙ ap (with_front s.stored) (one_more ∙ ap (λ o. followed o behind) q)

    module _ {w' : List ℕ} {t' : Table} {r : Result (Unit {0}) Refusal} (x : BodyScoped count f w w' t t' r) where
      further : ChangedWithin (lets_at + 0) (lets_at + 256) w₀ w'
      further = changed_then (lets_at + 0) (lets_at + 256) s.changed
          (changed_wider (lets_at + 0) (lets_at + 256) (omega arith) (omega (arith, kept (f + 1), near)) x.changed)

      found_first : Passes (λ (p : Passing). Region w' (lets_at + first_at w f) p.0 × (t' ≡ p.1)) r (body_scopes w₀ count f t)
      found_first = rw (body_kept w₀ w s.changed count f t turn near) at x.found

    pub body_refuses : {w' : List ℕ} {t' : Table} {y : Refusal} → BodyScoped count f w w' t t' (Err y) → Scoped n count w₀ w' (Err y)
    unfolding followed with_front
    body_refuses x = record {
      found = rw (from_here (refused _ _ (body_scopes w₀ count f t) (found_first x))) refl;
      changed = further x;
    }

    pub body_passes : {w' : List ℕ} {t' : Table} → BodyScoped count f w w' t t' (Ok tt) → BodiesSoFar n count w₀ w' t' (f + 1)
    unfolding followed
    body_passes {w'} {t'} x =
        let z = found _ _ (body_scopes w₀ count f t) (found_first x) in
        let p = z.value in
        let sized : length p.0 ≡ first_at w₀ (f + 1) - first_at w₀ f = IfOk-at_ok _ z.is (body_sized w₀ count f t) in
        record {
          stored = s.stored ++ p.0;
          counted = omega (arith, length-append s.stored p.0, s.counted, sized, turn);
          held = region_append s.stored p.0
              (region_kept x.changed (inl (omega (arith, s.counted, kept f))) s.held)
              (region_moved _ _ (omega (arith, s.counted, kept f)) z.holds.0);
          changed = further x;
          rest =
              from_here z.is
              ∙ front_append s.stored p.0 (behind p.1)
              ∙ ap (λ u. with_front (s.stored ++ p.0) (behind u)) (sym z.holds.1);
        }

  module _ (few : f ≤ count) (l : count ≤ f) {root : ℕ} (e : root ≡ first_at w count) where
    all : f ≡ count
    all = omega arith

    root_at : root ≡ first_at w₀ count
    root_at = e ∙ kept count

    pub root_below : root ≤ n
    root_below = omega (arith, root_at, d.last)

    root_rest : scopes_behind w₀ n count (count - f) f t ≡ followed (scopes_from w₀ count (n - root) root t) (λ u. Ok [])
    unfolding scopes_behind
    root_rest = let z : count - f ≡ 0 = omega arith in rw (z, all, root_at) refl

    from_root : {o : Result Passing Refusal} → scopes_from w₀ count (n - root) root t ≡ o
        → scopes_behind w₀ n count count 0 unbound ≡ with_front s.stored (followed o (λ u. Ok []))
    from_root q = s.rest ∙ ap (with_front s.stored) (root_rest ∙ ap (λ o. followed o (λ u. Ok [])) q)

    module _ {w' : List ℕ} {t' : Table} {r : Result (Unit {0}) Refusal} (x : PartScoped count root n w w' t t' r) where
      abbrev RootFound : Result Passing Refusal → Type 0
      RootFound o = Passes (λ (p : Passing). Region w' (lets_at + root) p.0 × (t' ≡ p.1)) r o

      root_found : RootFound (scopes_from w₀ count (n - root) root t)
      root_found = subst RootFound (scopes_kept w₀ w s.changed count (n - root) root t (omega (arith, root_below, d.few))) x.found

      root_by : (o : Result Passing Refusal) → scopes_from w₀ count (n - root) root t ≡ o → RootFound o → Passes (Region w' lets_at) r (scopes_behind w₀ n count count 0 unbound)
      unfolding followed with_front
      root_by (Err z) q a = rw (from_root q) a
      root_by (Ok z) q a =
          rw (from_root q) (
            a.0,
            region_append s.stored (z.0 ++ [])
                (region_kept x.changed (inl (omega (arith, s.counted, root_at, ap (λ g. first_at w₀ g) all))) s.held)
                (rw (append-nil z.0) (region_moved _ _ (omega (arith, s.counted, root_at, ap (λ g. first_at w₀ g) all)) a.1.0)),
          )

      pub root_scoped : Scoped n count w₀ w' r
      root_scoped = record {
        found = root_by (scopes_from w₀ count (n - root) root t) refl root_found;
        changed = changed_then (lets_at + 0) (lets_at + 256) s.changed
            (changed_wider (lets_at + 0) (lets_at + 256) (omega arith) (omega (arith, d.few)) x.changed);
      }
