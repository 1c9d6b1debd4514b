-- The bodies of the procedures and the root, once the program is linked: each stands at its first step; behind a body its call ends,
-- behind the root the thread finishes.
use Rattle.std.proofs.Common.{Some, slice_get}
use Prim.Native.Nat.{ℕ, zero, suc, ◌+◌, ◌<◌, ◌≤◌}
use mathlib.Core.Path.{◌≡◌, sym, ◌∙◌, ap, subst}
use mathlib.Core.Logic.{inl, inr}
use mathlib.Core.List.{List, [], ◌∷◌}
use native.Mathlib.Omega.{arith}
use lib.ListN.{length, get_or, set, length-set}
use lib.Seq.{get_or-set_same, get_or-set_other}
use Rattle.spec.specs.Expression.{Expr, size, Procedure}
use Rattle.calculus.proofs.Laws.Maps.{some_injective, none_is_not_some}
use Rattle.workspace.specs.Layout.{proc_vars_at, proc_firsts_at}
use Rattle.workspace.specs.Region.{ChangedWithin}
use Rattle.workspace.proofs.Region.{region_kept, changed_nothing, changed_store, changed_then, changed_wider}
use Rattle.workspace.proofs.Expression.{Standing}
use Rattle.replay_control.specs.Layout.{continuations_at, finish, leave, procedures_at, program_size}
use Rattle.replay_control.specs.Control.{continuation, first_of, root_of}
use Rattle.replay_control.specs.Continuations.{joined, linked_from, bodies_joined, root_joined, linked}
use Rattle.replay_simulation.proofs.Held.{Stands, BodyStands, BodiesStand}
use Rattle.replay_simulation.proofs.Linked.{Ranged, continuations_length, standing_stands, standing_kept, linked_split, some_steps, Links, links}

-- ------------------------------------------------------------------ bodies and root, one behind the other

unfoldable pub bodies_size : List Procedure → ℕ
bodies_size [] = 0
bodies_size (b ∷ ps) = size b.body + bodies_size ps

unfoldable pub all_size : List Procedure → Expr → ℕ
all_size [] root = size root
all_size (b ∷ ps) root = size b.body + all_size ps root

size_of_all : (ps : List Procedure) (root : Expr) → all_size ps root ≡ bodies_size ps + size root
unfolding all_size bodies_size
size_of_all [] root = omega arith
size_of_all (b ∷ ps) root = let e = size_of_all ps root in omega (arith, e)

-- from step k on, each where the one before ends
abbrev pub AllStanding : (p : List ℕ) (k : ℕ) → List Procedure → (root : Expr) → Type 0
AllStanding p k [] root = Standing p k root
AllStanding p k (b ∷ ps) root = Standing p k b.body × AllStanding p (k + size b.body) ps root

abbrev pub AllRanged : (m : ℕ) → List Procedure → (root : Expr) → Type 0
AllRanged m [] root = Ranged m root
AllRanged m (b ∷ ps) root = Ranged m b.body × AllRanged m ps root

-- what follows each
abbrev Owned : (p : List ℕ) (k : ℕ) → List Procedure → Type 0
Owned p k [] = continuation p k ≡ finish
Owned p k (b ∷ ps) = (continuation p k ≡ leave) × Owned p (k + size b.body) ps

abbrev AllStand : (p : List ℕ) (k : ℕ) → List Procedure → (root : Expr) → Type 0
AllStand p k [] root = Stands p finish k root
AllStand p k (b ∷ ps) root = Stands p leave k b.body × AllStand p (k + size b.body) ps root

-- ------------------------------------------------------------------ what linking keeps

all_kept : {p p' : List ℕ} {hi : ℕ} (ps : List Procedure) (root : Expr) (k : ℕ) → ChangedWithin continuations_at hi p p' → k + all_size ps root ≤ 256 → AllStanding p k ps root → AllStanding p' k ps root
unfolding all_size
all_kept [] root k c h S = standing_kept root k c h S
all_kept (b ∷ ps) root k c h (S, Ss) = (standing_kept b.body k c (omega (arith, h)) S, all_kept ps root (k + size b.body) c (omega (arith, h)) Ss)

owned_kept : {p p' : List ℕ} {lo hi : ℕ} (ps : List Procedure) (k : ℕ) → ChangedWithin lo hi p p' → hi ≤ continuations_at + k → Owned p k ps → Owned p' k ps
unfolding continuation
owned_kept [] k c h o = c.kept (continuations_at + k) (inr h) ∙ o
owned_kept (b ∷ ps) k c h (o, os) = (c.kept (continuations_at + k) (inr h) ∙ o, owned_kept ps (k + size b.body) c (omega (arith, h)) os)

-- ------------------------------------------------------------------ all are linked

record AllUnlinked (p : List ℕ) (k : ℕ) (ps : List Procedure) (root : Expr) : Type 0 where
  standing : AllStanding p k ps root
  owned : Owned p k ps
  ranged : AllRanged (get_or p procedures_at 0) ps root
  long : length p ≡ program_size
  fits : k + all_size ps root ≤ 256

record AllLinked (p p' : List ℕ) (k : ℕ) (ps : List Procedure) (root : Expr) : Type 0 where
  stand : AllStand p' k ps root
  changed : ChangedWithin (continuations_at + k) (continuations_at + k + all_size ps root) p p'

-- one body, and all behind it
module _ {b : Procedure} {ps : List Procedure} {root : Expr} {k : ℕ} {p : List ℕ} (U : AllUnlinked p k (b ∷ ps) root) where
  h : k + (size b.body + all_size ps root) ≤ 256
  unfolding all_size
  h = U.fits

  abbrev lo : ℕ
  lo = continuations_at + k

  abbrev behind : ℕ
  behind = k + size b.body

  abbrev hi : ℕ
  hi = continuations_at + k + (size b.body + all_size ps root)

  abbrev q₁ : List ℕ
  q₁ = linked_from p k (size b.body)

  abbrev q₂ : List ℕ
  q₂ = linked_from q₁ behind (all_size ps root)

  body_links : Links p q₁ leave k b.body
  body_links = links b.body leave k p (record { standing = U.standing.0; long = U.long; fits = omega (arith, h); own = U.owned.0 })

  first_change : ChangedWithin lo (continuations_at + k + size b.body) p q₁
  first_change = changed_wider lo (continuations_at + k + size b.body) (omega arith) (omega arith) body_links.changed

  rest_unlinked : AllUnlinked q₁ behind ps root
  rest_unlinked = record {
    standing = all_kept ps root behind (changed_wider continuations_at procedures_at (omega arith) (omega (arith, h)) first_change) (omega (arith, h)) U.standing.1;
    owned = owned_kept ps behind first_change (omega arith) U.owned.1;
    ranged = subst (λ (n : ℕ). AllRanged n ps root) (sym (first_change.kept procedures_at (inr (omega (arith, h))))) U.ranged.1;
    long = first_change.long ∙ U.long;
    fits = omega (arith, h);
  }

  module _ (rest : AllLinked q₁ q₂ behind ps root) where
    whole : ChangedWithin lo hi p q₂
    whole = changed_then lo hi (changed_wider lo hi (omega arith) (omega arith) first_change) (changed_wider lo hi (omega arith) (omega arith) rest.changed)

    body_linked : AllLinked p (linked_from p k (size b.body + all_size ps root)) k (b ∷ ps) root
    unfolding all_size
    body_linked =
        subst (λ (q : List ℕ). AllLinked p q k (b ∷ ps) root) (sym (linked_split p k (size b.body) (all_size ps root)))
        (record {
          stand = (
            standing_stands b.body leave k
                (standing_kept b.body k (changed_wider continuations_at procedures_at (omega arith) (omega (arith, h)) whole) (omega (arith, h)) U.standing.0)
                (subst (λ (n : ℕ). Ranged n b.body) (sym (whole.kept procedures_at (inr (omega (arith, h))))) U.ranged.0) (omega (arith, h))
                (region_kept rest.changed (inl (let n = continuations_length b.body leave k in omega (arith, n))) body_links.region),
            rest.stand,
          );
          changed = whole;
        })

all_linked : (ps : List Procedure) (root : Expr) (k : ℕ) (p : List ℕ) → AllUnlinked p k ps root → AllLinked p (linked_from p k (all_size ps root)) k ps root
unfolding all_size
all_linked [] root k p U =
    let L = links root finish k p (record { standing = U.standing; long = U.long; fits = U.fits; own = U.owned }) in
    let c = changed_wider (continuations_at + k) (continuations_at + k + size root) (omega arith) (omega arith) L.changed in
    let m = c.kept procedures_at (inr (omega (arith, U.fits))) in
    record {
      stand = standing_stands root finish k
          (standing_kept root k (changed_wider continuations_at procedures_at (omega arith) (omega (arith, U.fits)) L.changed) U.fits U.standing)
          (subst (λ (n : ℕ). Ranged n root) (sym m) U.ranged) U.fits L.region;
      changed = c;
    }
all_linked (b ∷ ps) root k p U = body_linked U (all_linked ps root (k + size b.body) (linked_from p k (size b.body)) (rest_unlinked U))

-- ------------------------------------------------------------------ their own continuations

-- where bodies and root begin, from procedure f on
abbrev pub FirstsAt : (p : List ℕ) (f k : ℕ) → List Procedure → Type 0
FirstsAt p f k [] = first_of p f ≡ k
FirstsAt p f k (b ∷ ps) = (first_of p f ≡ k) × FirstsAt p (f + 1) (k + size b.body) ps

firsts_kept : {p p' : List ℕ} (ps : List Procedure) (f k : ℕ) → ChangedWithin continuations_at program_size p p' → f + length ps ≤ 16 → FirstsAt p f k ps → FirstsAt p' f k ps
unfolding first_of
firsts_kept [] f k c h e = c.kept (proc_firsts_at + f) (inl (omega (arith, h))) ∙ e
firsts_kept (b ∷ ps) f k c h (e, es) = (c.kept (proc_firsts_at + f) (inl (omega (arith, h))) ∙ e, firsts_kept ps (f + 1) (k + size b.body) c (omega (arith, h)) es)

abbrev OwnedBodies : (p : List ℕ) (k : ℕ) → List Procedure → Type 0
OwnedBodies p k [] = Unit {0}
OwnedBodies p k (b ∷ ps) = (continuation p k ≡ leave) × OwnedBodies p (k + size b.body) ps

record BodiesOwned (p p' : List ℕ) (k : ℕ) (ps : List Procedure) : Type 0 where
  owned : OwnedBodies p' k ps
  changed : ChangedWithin (continuations_at + k) (continuations_at + k + bodies_size ps) p p'

-- one body, and those behind it
body_owned : (b : Procedure) (ps : List Procedure) (f k : ℕ) (p : List ℕ) → length p ≡ program_size → k + (size b.body + bodies_size ps) ≤ 256 →
    (let p₁ = set p (continuations_at + k) leave in
    BodiesOwned p₁ (bodies_joined p₁ (f + 1) (length ps)) (k + size b.body) ps → BodiesOwned p (bodies_joined p₁ (f + 1) (length ps)) k (b ∷ ps))
unfolding bodies_size continuation
body_owned b ps f k p long h rest =
    let n = some_steps b.body in
    let lo = continuations_at + k in
    let hi = continuations_at + k + (size b.body + bodies_size ps) in
    record {
      owned = (rest.changed.kept lo (inl (omega (arith, n))) ∙ get_or-set_same p lo leave 0 (omega (arith, long, h)), rest.owned);
      changed = changed_then lo hi (changed_store lo hi p lo leave (omega arith) (omega (arith, n))) (changed_wider lo hi (omega arith) (omega arith) rest.changed);
    }

bodies_owned : (ps : List Procedure) (f k : ℕ) (p : List ℕ) → FirstsAt p f k ps → length p ≡ program_size → k + bodies_size ps ≤ 256 → f + length ps ≤ 16 → BodiesOwned p (bodies_joined p f (length ps)) k ps
unfolding bodies_size bodies_joined joined continuation
bodies_owned [] f k p e long h few = record { owned = tt; changed = changed_nothing (continuations_at + k) (continuations_at + k + 0) p }
bodies_owned (b ∷ ps) f k p (e, es) long h few =
    subst (λ (i : ℕ). BodiesOwned p (bodies_joined (set p (continuations_at + i) leave) (f + 1) (length ps)) k (b ∷ ps)) (sym e)
    (body_owned b ps f k p long h
    (bodies_owned ps (f + 1) (k + size b.body) (set p (continuations_at + k) leave)
    (firsts_kept ps (f + 1) (k + size b.body) (changed_store continuations_at program_size p (continuations_at + k) leave (omega arith) (omega (arith, h))) (omega (arith, few)) es)
    (length-set p (continuations_at + k) leave ∙ long) (omega (arith, h)) (omega (arith, few))))

-- where the root begins
root_first_lem : (p : List ℕ) (ps : List Procedure) (f k : ℕ) → FirstsAt p f k ps → first_of p (f + length ps) ≡ k + bodies_size ps
unfolding bodies_size
root_first_lem p [] f k e = ap (first_of p) (omega arith) ∙ e ∙ (let z : k ≡ k + 0 = omega arith in z)
root_first_lem p (b ∷ ps) f k (e, es) =
    ap (first_of p) (let z : f + length (b ∷ ps) ≡ f + 1 + length ps = omega arith in z) ∙ root_first_lem p ps (f + 1) (k + size b.body) es ∙ (let z : k + size b.body + bodies_size ps ≡ k + (size b.body + bodies_size ps) = omega arith in z)

root_at : (p : List ℕ) (ps : List Procedure) → FirstsAt p 0 0 ps → first_of p (length ps) ≡ bodies_size ps
root_at p ps F =
    ap (first_of p) (let z : length ps ≡ 0 + length ps = omega arith in z) ∙ root_first_lem p ps 0 0 F ∙ (let z : 0 + bodies_size ps ≡ bodies_size ps = omega arith in z)

-- with the root's own
owned_all : (p : List ℕ) (ps : List Procedure) (k j : ℕ) → j ≡ k + bodies_size ps → length p ≡ program_size → j < 272 → OwnedBodies p k ps → Owned (set p (continuations_at + j) finish) k ps
unfolding bodies_size continuation
owned_all p [] k j e long h o = ap (λ (i : ℕ). get_or (set p (continuations_at + j) finish) (continuations_at + i) 0) (omega (arith, e)) ∙ get_or-set_same p (continuations_at + j) finish 0 (omega (arith, long, h))
owned_all p (b ∷ ps) k j e long h (o, os) = (
  get_or-set_other p (continuations_at + j) (continuations_at + k) finish 0 (λ z. let n = some_steps b.body in omega (arith, z, e, n)) ∙ o,
  owned_all p ps (k + size b.body) j (omega (arith, e)) long h os,
)

-- ------------------------------------------------------------------ the program

-- the variables of procedures, from f on
abbrev pub VariablesAt : (p : List ℕ) (f : ℕ) → List Procedure → Type 0
VariablesAt p f [] = Unit {0}
VariablesAt p f (b ∷ ps) = (get_or p (proc_vars_at + f) 0 ≡ b.parameter) × (b.parameter < 256) × VariablesAt p (f + 1) ps

variables_kept : {p p' : List ℕ} (ps : List Procedure) (f : ℕ) → ChangedWithin continuations_at program_size p p' → f + length ps ≤ 16 → VariablesAt p f ps → VariablesAt p' f ps
variables_kept [] f c h v = tt
variables_kept (b ∷ ps) f c h (e, l, v) = (c.kept (proc_vars_at + f) (inl (omega (arith, h))) ∙ e, l, variables_kept ps (f + 1) c (omega (arith, h)) v)

each_body : (p : List ℕ) (ps : List Procedure) (root : Expr) (f k i : ℕ) (b : Procedure) → AllStand p k ps root → FirstsAt p f k ps → VariablesAt p f ps → slice_get ps i ≡ Some b → BodyStands p (f + i) b
each_body p [] root f k i b A F Vs h = none_is_not_some h
each_body p (c ∷ ps) root f k zero b (S, Ss) (e, es) (x, l, v) h =
    subst (BodyStands p (f + 0)) (some_injective h)
    (subst (λ (j : ℕ). BodyStands p j c) (let z : f ≡ f + 0 = omega arith in z) (record { stands = subst (λ (j : ℕ). Stands p leave j c.body) (sym e) S; parameter = x; low = l }))
each_body p (c ∷ ps) root f k (suc i) b (S, Ss) (e, es) (x, l, v) h =
    subst (λ (j : ℕ). BodyStands p j b) (let z : f + 1 + i ≡ f + suc i = omega arith in z) (each_body p ps root (f + 1) (k + size c.body) i b Ss es v h)

root_stand : (p : List ℕ) (ps : List Procedure) (root : Expr) (k : ℕ) → AllStand p k ps root → Stands p finish (k + bodies_size ps) root
unfolding bodies_size
root_stand p [] root k S = subst (λ (j : ℕ). Stands p finish j root) (let z : k ≡ k + 0 = omega arith in z) S
root_stand p (b ∷ ps) root k (S, Ss) =
    subst (λ (j : ℕ). Stands p finish j root) (let z : k + size b.body + bodies_size ps ≡ k + (size b.body + bodies_size ps) = omega arith in z) (root_stand p ps root (k + size b.body) Ss)

-- a linked program: its bodies and its root stand
pub record ProgramStands (p : List ℕ) (ps : List Procedure) (root : Expr) : Type 0 where
  pub bodies : BodiesStand p ps
  pub root_stands : Stands p finish (root_of p) root

-- a program that stands in its columns, with the first steps and the variables of its procedures
pub record ProgramStored (p : List ℕ) (ps : List Procedure) (root : Expr) : Type 0 where
  pub standing : AllStanding p 0 ps root
  pub firsts : FirstsAt p 0 0 ps
  pub variables : VariablesAt p 0 ps
  pub ranged : AllRanged (length ps) ps root
  pub long : length p ≡ program_size
  pub few : all_size ps root ≤ 256
  pub procs : length ps ≤ 16

module _ {p : List ℕ} {ps : List Procedure} {root : Expr} (P : ProgramStored p ps root) where
  abbrev m : ℕ
  m = length ps

  unfoldable p₁ : List ℕ
  p₁ = set p procedures_at m

  count_store : ChangedWithin continuations_at program_size p p₁
  unfolding p₁
  count_store = changed_store continuations_at program_size p procedures_at m (omega arith) (omega arith)

  unfoldable p₂ : List ℕ
  p₂ = bodies_joined p₁ 0 m

  bodies_few : bodies_size ps + 1 ≤ 256
  bodies_few = let e = size_of_all ps root in let n = some_steps root in omega (arith, e, n, P.few)

  bodies_joined_lem : BodiesOwned p₁ p₂ 0 ps
  unfolding p₂
  bodies_joined_lem =
      let h = bodies_few in
      bodies_owned ps 0 0 p₁ (firsts_kept ps 0 0 count_store (omega (arith, P.procs)) P.firsts) (count_store.long ∙ P.long) (omega (arith, h)) (omega (arith, P.procs))

  to_bodies : ChangedWithin continuations_at program_size p p₂
  to_bodies =
      let h = bodies_few in
      changed_then continuations_at program_size count_store (changed_wider continuations_at program_size (omega arith) (omega (arith, h)) bodies_joined_lem.changed)

  count₂ : get_or p₂ procedures_at 0 ≡ m
  unfolding p₁
  count₂ = bodies_joined_lem.changed.kept procedures_at (inr (let h = bodies_few in omega (arith, h))) ∙ get_or-set_same p procedures_at m 0 (omega (arith, P.long))

  firsts₂ : FirstsAt p₂ 0 0 ps
  firsts₂ = firsts_kept ps 0 0 to_bodies (omega (arith, P.procs)) P.firsts

  root₂ : root_of p₂ ≡ bodies_size ps
  unfolding root_of
  root₂ = ap (first_of p₂) count₂ ∙ root_at p₂ ps firsts₂

  unfoldable p₃ : List ℕ
  p₃ = set p₂ (continuations_at + root_of p₂) finish

  root_store : ChangedWithin continuations_at procedures_at p₂ p₃
  unfolding p₃
  root_store =
      let e = root₂ in
      let h = bodies_few in
      changed_store continuations_at procedures_at p₂ (continuations_at + root_of p₂) finish (omega arith) (omega (arith, e, h))

  to_root : ChangedWithin continuations_at program_size p p₃
  to_root = changed_then continuations_at program_size to_bodies (changed_wider continuations_at program_size (omega arith) (omega arith) root_store)

  owned₃ : Owned p₃ 0 ps
  unfolding p₃
  owned₃ =
      let h = bodies_few in
      let e = root₂ in
      owned_all p₂ ps 0 (root_of p₂) (omega (arith, e)) (to_bodies.long ∙ P.long) (omega (arith, e, h)) bodies_joined_lem.owned

  standing₃ : AllStanding p₃ 0 ps root
  standing₃ = all_kept ps root 0 to_root (omega (arith, P.few)) P.standing

  count₃ : get_or p₃ procedures_at 0 ≡ m
  count₃ = root_store.kept procedures_at (inr (omega arith)) ∙ count₂

  linked_all : AllLinked p₃ (linked_from p₃ 0 (all_size ps root)) 0 ps root
  linked_all = all_linked ps root 0 p₃ (record {
    standing = standing₃;
    owned = owned₃;
    ranged = subst (λ (n : ℕ). AllRanged n ps root) (sym count₃) P.ranged;
    long = to_root.long ∙ P.long;
    fits = omega (arith, P.few);
  })

  unfoldable p₄ : List ℕ
  p₄ = linked_from p₃ 0 (all_size ps root)

  to_end : ChangedWithin continuations_at program_size p p₄
  unfolding p₄
  to_end = changed_then continuations_at program_size to_root (changed_wider continuations_at program_size (omega arith) (omega (arith, P.few)) linked_all.changed)

  count₄ : get_or p₄ procedures_at 0 ≡ m
  unfolding p₄
  count₄ = linked_all.changed.kept procedures_at (inr (omega (arith, P.few))) ∙ count₃

  firsts₄ : FirstsAt p₄ 0 0 ps
  firsts₄ = firsts_kept ps 0 0 to_end (omega (arith, P.procs)) P.firsts

  pub program_stands : ProgramStands (linked p (all_size ps root) (length ps)) ps root
  unfolding linked root_joined joined p₁ p₂ p₃ p₄ root_of
  program_stands = record {
    bodies = record {
      counted = count₄;
      each = λ f b h.
          subst (λ (i : ℕ). BodyStands p₄ i b) (let z : 0 + f ≡ f = omega arith in z)
          (each_body p₄ ps root 0 0 f b linked_all.stand firsts₄ (variables_kept ps 0 to_end (omega (arith, P.procs)) P.variables) h);
    };
    root_stands =
        let z : 0 + bodies_size ps ≡ bodies_size ps = omega arith in
        subst (λ (j : ℕ). Stands p₄ finish j root) (z ∙ sym (ap (first_of p₄) count₄ ∙ root_at p₄ ps firsts₄)) (root_stand p₄ ps root 0 linked_all.stand);
  }
