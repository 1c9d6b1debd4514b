-- When a table of variables agrees with the variables that are in scope and with those bound.
-- `lo` to `hi` is the part of the steps for which it does: the let of a variable in scope has its e2 around that part, the
-- let of any other has it before or behind.
use Rattle.std.proofs.Common.{Option, None, Some, is_some, IfSome}
use Rattle.std.proofs.lemmas.Option.{none-some, IfSome_then}
use mathlib.Core.Path.{◌≡◌, refl, sym, ◌∙◌}
use mathlib.Core.Logic.{◌⊎◌, inl, inr, ⊎_elim}
use mathlib.Core.List.{List, [], ◌∷◌}
use mathlib.Core.Bool.{Bool, true, false, true≢false}
use Prim.Native.Nat.{ℕ, ◌+◌, ◌<◌, ◌≤◌}
use native.Mathlib.Omega.{arith}
use native.Mathlib.Decide.{ℕ_discrete}
use lib.ListN.{length, get_or, set, length-set}
use lib.Seq.{get_or-set_same, get_or-set_other}
use borrow.Author.Tests.{eq-eqb, ne_eqb}
use Rattle.spec.specs.Expression.{among}
use Rattle.workspace.specs.Layout.{ends_at}
use Rattle.workspace.specs.Holds.{let_in}
use Rattle.program_scopes.specs.Judging.{scope_from, scope_till}
use Rattle.program_scopes.specs.Scopes.{Table}

-- the end of the step at an index
abbrev pub end_at : List ℕ → ℕ → ℕ
end_at w k = get_or w (ends_at + k) 0

unfoldable pub names : List (ℕ × ℕ) → List ℕ
names [] = []
names (b ∷ inside) = b.0 ∷ names inside

-- ------------------------------------------------------------------ one variable

-- a variable is in scope, bound at i, or not; the table has o for it
abbrev pub Right : List ℕ → (lo hi : ℕ) → (inside : Bool) → (i : ℕ) → Option ℕ → Type 0
Right w lo hi true i o = (o ≡ Some i) × (scope_from w i ≤ lo) × (hi ≤ scope_till w i)
Right w lo hi false i o = IfSome o (λ b. (hi ≤ scope_from w b) ⊎ (scope_till w b ≤ lo))

-- the table has o' where it had o: the same, or a let that ends before `till` where there was none
abbrev pub Moved : List ℕ → (till : ℕ) → (o o' : Option ℕ) → Type 0
Moved w till o o' = (o' ≡ o) ⊎ ((o ≡ None) × IfSome o' (λ b. scope_till w b ≤ till))

pub right_narrow : (w : List ℕ) (lo hi lo' hi' : ℕ) (x : Bool) (i : ℕ) (o : Option ℕ) → lo ≤ lo' → hi' ≤ hi → Right w lo hi x i o → Right w lo' hi' x i o
right_narrow w lo hi lo' hi' true i o h l r = (r.0, omega (arith, r.1), omega (arith, r.2))
right_narrow w lo hi lo' hi' false i o h l r =
    IfSome_then o r (λ b p. ⊎_elim (λ q. inl (omega arith)) (λ q. inr (omega arith)) p)

pub right_onward : (w : List ℕ) (lo hi lo' : ℕ) (x : Bool) (i : ℕ) (o o' : Option ℕ) → lo ≤ lo' → Moved w lo' o o' → Right w lo hi x i o → Right w lo' hi x i o'
right_onward w lo hi lo' true i o o' h m r =
    ⊎_elim
    (λ e. rw e (right_narrow w lo hi lo' hi true i o h (omega arith) r))
    (λ q. absurd (none-some i (sym q.0 ∙ r.0)))
    m
right_onward w lo hi lo' false i o o' h m r =
    ⊎_elim
    (λ e. rw e (right_narrow w lo hi lo' hi false i o h (omega arith) r))
    (λ q. IfSome_then o' q.1 (λ b l. inr l))
    m

-- ------------------------------------------------------------------ all variables

-- the table says which variables are bound
abbrev pub Bound : Table → List ℕ → Type 0
Bound t bound = (v : ℕ) → v < 256 → among v bound ≡ is_some (get_or t v None)

abbrev pub Extends : List ℕ → (till : ℕ) → (t t' : Table) → Type 0
Extends w till t t' = (v : ℕ) → v < 256 → Moved w till (get_or t v None) (get_or t' v None)

pub record Agrees (w : List ℕ) (lo hi : ℕ) (t : Table) (ins : List (ℕ × ℕ)) (bound : List ℕ) : Type 0 where
  pub long : length t ≡ 256
  pub bind : Bound t bound
  pub at : (v : ℕ) → v < 256 → Right w lo hi (among v (names ins)) (let_in ins v) (get_or t v None)

pub extends_same : (w : List ℕ) (till : ℕ) (t : Table) → Extends w till t t
extends_same w till t v l = inl refl

pub extends_then : (w : List ℕ) (till till' : ℕ) (t t' t'' : Table) → till ≤ till' → Extends w till t t' → Extends w till' t' t'' → Extends w till' t t''
extends_then w till till' t t' t'' h x y v l =
    ⊎_elim
    (λ (e : get_or t' v None ≡ get_or t v None). ⊎_elim (λ f. inl (f ∙ e)) (λ q. inr (sym e ∙ q.0, q.1)) (y v l))
    (λ p. ⊎_elim (λ f. inr (p.0, rw f (IfSome_then (get_or t' v None) p.1 (λ b q. omega arith)))) (λ q. inr (p.0, q.1)) (y v l))
    (x v l)

pub agrees_narrow : {w : List ℕ} {lo hi : ℕ} (lo' hi' : ℕ) {t : Table} {ins : List (ℕ × ℕ)} {bound : List ℕ} → lo ≤ lo' → hi' ≤ hi
    → Agrees w lo hi t ins bound → Agrees w lo' hi' t ins bound
agrees_narrow {w} {lo} {hi} lo' hi' {t} {ins} h l a = record {
  long = a.long;
  bind = a.bind;
  at = λ v p. right_narrow w lo hi lo' hi' (among v (names ins)) (let_in ins v) (get_or t v None) h l (a.at v p);
}

pub agrees_onward : (w : List ℕ) (lo hi lo' : ℕ) (t t' : Table) (ins : List (ℕ × ℕ)) (bound bound' : List ℕ) → lo ≤ lo'
    → Agrees w lo hi t ins bound → length t' ≡ 256 → Extends w lo' t t' → Bound t' bound' → Agrees w lo' hi t' ins bound'
agrees_onward w lo hi lo' t t' ins bound bound' h a long x b = record {
  long = long;
  bind = b;
  at = λ v p.
      right_onward w lo hi lo' (among v (names ins)) (let_in ins v) (get_or t v None) (get_or t' v None) h (x v p) (a.at v p);
}

-- ------------------------------------------------------------------ a variable bound at k, a let's index or a procedure's mark

-- the variable v gets the mark k: from `lo` on its scope begins at `mid` and ends at `hi`
pub record Binds (w : List ℕ) (k lo mid hi v : ℕ) (t : Table) (ins : List (ℕ × ℕ)) (bound : List ℕ) : Type 0 where
  pub variable : v < 256
  pub begins : scope_from w k ≡ mid
  pub ends : scope_till w k ≡ hi
  pub order : (lo ≤ mid) × (mid ≤ hi)
  pub agrees : Agrees w lo hi t ins bound

-- a variable that is not bound
pub unbound_at : (o : Option ℕ) → is_some o ≡ false → o ≡ None
unbound_at None e = refl
unbound_at (Some b) e = absurd (true≢false e)

-- it was not bound
module _ {w : List ℕ} {k lo mid hi v : ℕ} {t : Table} {ins : List (ℕ × ℕ)} {bound : List ℕ} (B : Binds w k lo mid hi v t ins bound) (free : among v bound ≡ false) where
  free_at : get_or t v None ≡ None
  free_at = unbound_at (get_or t v None) (sym (B.agrees.bind v B.variable) ∙ free)

  set_here : get_or (set t v (Some k)) v None ≡ Some k
  set_here = get_or-set_same t v (Some k) None (omega (arith, B.agrees.long, B.variable))

  set_there : (u : ℕ) → (u ≡ v → ⊥) → get_or (set t v (Some k)) u None ≡ get_or t u None
  set_there u n = get_or-set_other t v u (Some k) None n

  -- it was not in scope
  outside : among v (names ins) ≡ false
  outside = from (among v (names ins)) refl (B.agrees.at v B.variable)
    where
      from : (x : Bool) → among v (names ins) ≡ x → Right w lo hi x (let_in ins v) (get_or t v None) → among v (names ins) ≡ false
      from true e r = absurd (none-some (let_in ins v) (sym free_at ∙ r.0))
      from false e r = e

  pub let_extends : Extends w hi t (set t v (Some k))
  let_extends u l = from (ℕ_discrete u v)
    where
      from : Dec (u ≡ v) → Moved w hi (get_or t u None) (get_or (set t v (Some k)) u None)
      from (yes e) = rw (e, set_here) (inr (free_at, omega (arith, B.ends)))
      from (no n) = inl (set_there u n)

  -- in e1 the variable is bound, and not in scope
  pub let_first : Agrees w (lo + 1) mid (set t v (Some k)) ins (v ∷ bound)
  unfolding among
  let_first = record { long = length-set t v (Some k) ∙ B.agrees.long; bind = bind; at = at }
    where
      bind : Bound (set t v (Some k)) (v ∷ bound)
      bind u l = from (ℕ_discrete u v)
        where
          from : Dec (u ≡ v) → among u (v ∷ bound) ≡ is_some (get_or (set t v (Some k)) u None)
          from (yes e) = rw (e, set_here, eq-eqb v v refl) refl
          from (no n) = rw (ne_eqb u v n, set_there u n) (B.agrees.bind u l)

      at : (u : ℕ) → u < 256 → Right w (lo + 1) mid (among u (names ins)) (let_in ins u) (get_or (set t v (Some k)) u None)
      at u l = from (ℕ_discrete u v)
        where
          from : Dec (u ≡ v) → Right w (lo + 1) mid (among u (names ins)) (let_in ins u) (get_or (set t v (Some k)) u None)
          from (yes e) = rw (e, outside, set_here) (inl (omega (arith, B.begins)))
          from (no n) =
              rw (set_there u n)
              (right_narrow w lo hi (lo + 1) mid (among u (names ins)) (let_in ins u) (get_or t u None) (omega arith) B.order.1 (B.agrees.at u l))

  -- in e2 it is in scope
  pub let_second : (t' : Table) (bound' : List ℕ) → length t' ≡ 256 → Extends w mid (set t v (Some k)) t' → Bound t' bound'
      → Agrees w mid hi t' ((v, k) ∷ ins) bound'
  unfolding among names let_in
  let_second t' bound' long x b = record { long = long; bind = b; at = at }
    where
      here : get_or t' v None ≡ Some k
      here = ⊎_elim (λ f. f ∙ set_here) (λ q. absurd (none-some k (sym q.0 ∙ set_here))) (x v B.variable)

      at : (u : ℕ) → u < 256 → Right w mid hi (among u (names ((v, k) ∷ ins))) (let_in ((v, k) ∷ ins) u) (get_or t' u None)
      at u l = from (ℕ_discrete u v)
        where
          from : Dec (u ≡ v) → Right w mid hi (among u (names ((v, k) ∷ ins))) (let_in ((v, k) ∷ ins) u) (get_or t' u None)
          from (yes e) = rw (e, eq-eqb v v refl, here) (refl, omega (arith, B.begins), omega (arith, B.ends))
          from (no n) =
              rw (ne_eqb u v n, ne_eqb v u (λ e. n (sym e)))
              (right_onward w lo hi mid (among u (names ins)) (let_in ins u) (get_or t u None) (get_or t' u None) B.order.0
              (rw (set_there u n) at (x u l))
              (B.agrees.at u l))
