-- No condition is false exactly when the split's types and maps are derived by Figure 5, for each body and for the root.
-- A step's own conditions and those of its parts are taken apart and put together by the laws of Claims; each rule then
-- is its row of the table, read one way or the other.
use Rattle.std.proofs.Common.{Ok}
use mathlib.Core.Path.{◌≡◌}
use mathlib.Core.List.{List, [], ◌∷◌}
use Prim.Native.Nat.{ℕ, ◌+◌}
use borrow.Author.Tests.{leb-true, ltb-true}
use Rattle.spec.specs.Words.{role, binding, pre_of_part, pre_of_second}
use Rattle.spec.specs.Expression.{Position, Expr, leaf, unary, binary, Procedure}
use Rattle.spec.specs.Program.{Program}
use Rattle.spec.specs.Split.{Map, Split}
use Rattle.spec.specs.declared.Signature.{Signature}
use Rattle.spec.specs.Kinds.{int, lock, tid, sem, rwlock}
use Rattle.spec.specs.Conditions.{Env, start_map, type, post, body_start, kept_back, signature, conditions_by, conditions_of, procedure_conditions}
use Rattle.spec.specs.StepContexts.{StepContext, step_contexts, numbered, claims_at, claims, body_step_contexts, claims_of_procedure, claims_of_procedures, claims_of, first_false}
use Rattle.spec.specs.FirstFalse.{Holds, AllHold}
use Rattle.spec.specs.Figure5.{Derives, VAR, INT, LET, IF, WHILE, NEWT, SPAWN, JOIN, REF, WRITE, READ, NEWL, LCK, ULCK, NEWSEM, POST, WAIT, NEWRWLOCK, RDLOCK, RDUNLOCK, WRLOCK, WRUNLOCK, CALL, BodyDerives, BodiesDerive, no_procedures, procedure}
use Rattle.spec.specs.declared.Word.TheVariants.{Binary}
use Rattle.spec.specs.declared.LeafWord.{LeafWord}
use Rattle.spec.specs.declared.LeafWord.TheVariants.{Var, Int, Newtid, Newlock, Newsem, Newrwlock}
use Rattle.spec.specs.declared.UnaryWord.{UnaryWord}
use Rattle.spec.specs.declared.UnaryWord.TheVariants.{While, Join, Ref, Read, Lock, Unlock, Post, Wait, Rdlock, Rdunlock, Wrlock, Wrunlock, Call}
use Rattle.spec.specs.declared.BinaryWord.{BinaryWord}
use Rattle.spec.specs.declared.BinaryWord.TheVariants.{Let, If, Spawn, Write}
use Rattle.spec.proofs.TypeKinds.{is_of, is_ref_of, of_is, ref_of_is, first_told, second_told, readable, writable}
use Rattle.spec.proofs.Maps.{none_equal, none_covers, equal_none, covers_none}
use Rattle.spec.proofs.Claims.{none_false_all_hold, all_hold_none_false, all_hold_parts, all_hold_append, all_hold_each, step_parts, parts_step, both_parts, parts_both}

module _ (S : Split) where
  -- all conditions hold at each of the step contexts; at one step
  abbrev AllAt : List StepContext → Type 0
  AllAt ss = AllHold (claims S ss)

  abbrev OwnAt : Env → Map → Expr → Type 0
  OwnAt Γ pre e = AllHold (claims_at S (record { Γ = Γ; pre = pre; step = e }))

  -- ------------------------------------------------------------------ a step and its parts

  leaf_conditions : (Γ : Env) (pre : Map) (w : LeafWord) (k : Position) (v : ℕ) → AllAt (step_contexts S Γ pre (leaf w k v)) → OwnAt Γ pre (leaf w k v)
  unfolding step_contexts
  leaf_conditions Γ pre w k v h = (step_parts all_hold_each S _ [] h).0

  unary_conditions : (Γ : Env) (pre : Map) (w : UnaryWord) (k : Position) (v : ℕ) (e₁ : Expr) → AllAt (step_contexts S Γ pre (unary w k v e₁))
      → OwnAt Γ pre (unary w k v e₁) × AllAt (step_contexts S Γ (pre_of_part w pre (post S (unary w k v e₁))) e₁)
  unfolding step_contexts
  unary_conditions Γ pre w k v e₁ h = step_parts all_hold_each S _ _ h

  binary_conditions : (Γ : Env) (pre : Map) (w : BinaryWord) (k : Position) (v : ℕ) (e₁ e₂ : Expr) → AllAt (step_contexts S Γ pre (binary w k v e₁ e₂))
      → OwnAt Γ pre (binary w k v e₁ e₂) × AllAt (step_contexts S Γ pre e₁)
      × AllAt (step_contexts S (binding (role (Binary w)) (v, type S e₁) Γ) (pre_of_second w pre (post S e₁) (body_start S (binary w k v e₁ e₂))) e₂)
  unfolding step_contexts
  binary_conditions Γ pre w k v e₁ e₂ h =
      let s = step_parts all_hold_each S _ _ h in
      let b = both_parts all_hold_each S (step_contexts S Γ pre e₁) _ s.1 in
      (s.0, b.0, b.1)

  -- ------------------------------------------------------------------ from conditions to a derivation

  holding_derives : (e : Expr) (Γ : Env) (pre : Map) → AllAt (step_contexts S Γ pre e) → Derives S Γ pre e
  unfolding AllHold Holds claims_at numbered conditions_by conditions_of pre_of_part pre_of_second role binding post body_start kept_back
  holding_derives (leaf Var k v) Γ pre h =
      let c = leaf_conditions Γ pre Var k v h in
      VAR c.0 (none_equal c.1.0)
  holding_derives (leaf Int k v) Γ pre h =
      let c = leaf_conditions Γ pre Int k v h in
      INT (is_of int _ c.0) (none_equal c.1.0)
  holding_derives (leaf Newtid k v) Γ pre h =
      let c = leaf_conditions Γ pre Newtid k v h in
      NEWT (is_of tid _ c.0) (none_equal c.1.0)
  holding_derives (leaf Newlock k v) Γ pre h =
      let c = leaf_conditions Γ pre Newlock k v h in
      NEWL (is_of lock _ c.0) (none_equal c.1.0)
  holding_derives (unary While k v e₁) Γ pre h =
      let (c, h₁) = unary_conditions Γ pre While k v e₁ h in
      WHILE (holding_derives e₁ _ _ h₁) (none_covers c.1.1.0) (none_covers c.1.0) (is_of int _ c.0)
  holding_derives (unary Join k v e₁) Γ pre h =
      let (c, h₁) = unary_conditions Γ pre Join k v e₁ h in
      JOIN (holding_derives e₁ _ _ h₁) (is_of tid _ c.1.0) (is_of int _ c.0) (none_equal c.1.1.0)
  holding_derives (unary Ref k v e₁) Γ pre h =
      let (c, h₁) = unary_conditions Γ pre Ref k v e₁ h in
      let (is, agrees) = is_ref_of S _ _ c.0 in
      REF (holding_derives e₁ _ _ h₁) is agrees (none_equal c.1.0)
  holding_derives (unary Read k v e₁) Γ pre h =
      let (c, h₁) = unary_conditions Γ pre Read k v e₁ h in
      let (is, agrees) = is_ref_of S _ _ c.1.0 in
      READ (holding_derives e₁ _ _ h₁) is agrees (ltb-true _ _ c.1.1.1.0) (none_equal c.1.1.0)
  holding_derives (unary Lock k v e₁) Γ pre h =
      let (c, h₁) = unary_conditions Γ pre Lock k v e₁ h in
      LCK (holding_derives e₁ _ _ h₁) (is_of lock _ c.1.0) (is_of int _ c.0) (none_equal c.1.1.0)
  holding_derives (unary Unlock k v e₁) Γ pre h =
      let (c, h₁) = unary_conditions Γ pre Unlock k v e₁ h in
      ULCK (holding_derives e₁ _ _ h₁) (is_of lock _ c.1.0) (is_of int _ c.0) (none_equal c.1.1.0)
  holding_derives (leaf Newsem k v) Γ pre h =
      let c = leaf_conditions Γ pre Newsem k v h in
      NEWSEM (is_of sem _ c.0) (none_equal c.1.0)
  holding_derives (unary Post k v e₁) Γ pre h =
      let (c, h₁) = unary_conditions Γ pre Post k v e₁ h in
      POST (holding_derives e₁ _ _ h₁) (is_of sem _ c.1.0) (is_of int _ c.0) (none_equal c.1.1.0)
  holding_derives (unary Wait k v e₁) Γ pre h =
      let (c, h₁) = unary_conditions Γ pre Wait k v e₁ h in
      WAIT (holding_derives e₁ _ _ h₁) (is_of sem _ c.1.0) (is_of int _ c.0) (none_equal c.1.1.0)
  holding_derives (leaf Newrwlock k v) Γ pre h =
      let c = leaf_conditions Γ pre Newrwlock k v h in
      NEWRWLOCK (is_of rwlock _ c.0) (none_covers c.1.0) (none_equal c.1.1.0)
  holding_derives (unary Rdlock k v e₁) Γ pre h =
      let (c, h₁) = unary_conditions Γ pre Rdlock k v e₁ h in
      RDLOCK (holding_derives e₁ _ _ h₁) (is_of rwlock _ c.1.0) (is_of int _ c.0) (none_equal c.1.1.0)
  holding_derives (unary Rdunlock k v e₁) Γ pre h =
      let (c, h₁) = unary_conditions Γ pre Rdunlock k v e₁ h in
      RDUNLOCK (holding_derives e₁ _ _ h₁) (is_of rwlock _ c.1.0) (is_of int _ c.0) (none_equal c.1.1.0)
  holding_derives (unary Wrlock k v e₁) Γ pre h =
      let (c, h₁) = unary_conditions Γ pre Wrlock k v e₁ h in
      WRLOCK (holding_derives e₁ _ _ h₁) (is_of rwlock _ c.1.0) (is_of int _ c.0) (none_equal c.1.1.0)
  holding_derives (unary Wrunlock k v e₁) Γ pre h =
      let (c, h₁) = unary_conditions Γ pre Wrunlock k v e₁ h in
      WRUNLOCK (holding_derives e₁ _ _ h₁) (is_of rwlock _ c.1.0) (is_of int _ c.0) (none_equal c.1.1.0)
  holding_derives (unary Call k f e₁) Γ pre h =
      let (c, h₁) = unary_conditions Γ pre Call k f e₁ h in
      CALL (holding_derives e₁ _ _ h₁) c.1.0 (none_equal c.1.1.0) c.0 (none_equal c.1.1.1.0)
  holding_derives (binary Let k v e₁ e₂) Γ pre h =
      let (c, h₁, h₂) = binary_conditions Γ pre Let k v e₁ e₂ h in
      LET (holding_derives e₁ _ _ h₁) (holding_derives e₂ _ _ h₂) c.0 (none_equal c.1.0)
  holding_derives (binary If k v e₁ e₂) Γ pre h =
      let (c, h₁, h₂) = binary_conditions Γ pre If k v e₁ e₂ h in
      IF (holding_derives e₁ _ _ h₁) c.0 (none_covers c.1.1.0)
      (holding_derives e₂ _ _ h₂) c.1.0 (none_covers c.1.1.1.0)
  holding_derives (binary Spawn k v e₁ e₂) Γ pre h =
      let (c, h₁, h₂) = binary_conditions Γ pre Spawn k v e₁ e₂ h in
      SPAWN (holding_derives e₁ _ _ h₁) (is_of tid _ c.1.0) (holding_derives e₂ _ _ h₂) (none_covers c.1.1.0)
      (is_of int _ c.0) (none_equal c.1.1.1.0)
  holding_derives (binary Write k v e₁ e₂) Γ pre h =
      let (c, h₁, h₂) = binary_conditions Γ pre Write k v e₁ e₂ h in
      let (is, agrees) = is_ref_of S _ _ c.1.1.0 in
      WRITE (holding_derives e₁ _ _ h₁) is (holding_derives e₂ _ _ h₂) agrees
      (leb-true _ _ c.1.1.1.1.0) (is_of int _ c.0) (none_equal c.1.1.1.0)

  -- ------------------------------------------------------------------ from a derivation to conditions

  leaf_all : (Γ : Env) (pre : Map) (w : LeafWord) (k : Position) (v : ℕ) → OwnAt Γ pre (leaf w k v) → AllAt (step_contexts S Γ pre (leaf w k v))
  unfolding step_contexts claims AllHold
  leaf_all Γ pre w k v c = parts_step all_hold_each S _ [] c tt

  unary_all : (Γ : Env) (pre : Map) (w : UnaryWord) (k : Position) (v : ℕ) (e₁ : Expr) → OwnAt Γ pre (unary w k v e₁)
      → AllAt (step_contexts S Γ (pre_of_part w pre (post S (unary w k v e₁))) e₁) → AllAt (step_contexts S Γ pre (unary w k v e₁))
  unfolding step_contexts
  unary_all Γ pre w k v e₁ c h₁ = parts_step all_hold_each S _ _ c h₁

  binary_all : (Γ : Env) (pre : Map) (w : BinaryWord) (k : Position) (v : ℕ) (e₁ e₂ : Expr) → OwnAt Γ pre (binary w k v e₁ e₂)
      → AllAt (step_contexts S Γ pre e₁)
      → AllAt (step_contexts S (binding (role (Binary w)) (v, type S e₁) Γ) (pre_of_second w pre (post S e₁) (body_start S (binary w k v e₁ e₂))) e₂)
      → AllAt (step_contexts S Γ pre (binary w k v e₁ e₂))
  unfolding step_contexts
  binary_all Γ pre w k v e₁ e₂ c h₁ h₂ = parts_step all_hold_each S _ _ c (parts_both all_hold_each S (step_contexts S Γ pre e₁) _ h₁ h₂)

  derived_holds : {Γ : Env} {Ψ : Map} {e : Expr} → Derives S Γ Ψ e → AllAt (step_contexts S Γ Ψ e)
  unfolding AllHold Holds claims_at numbered conditions_by conditions_of pre_of_part pre_of_second role binding post body_start kept_back
  derived_holds {Γ} {Ψ} (VAR {k = k} {v = v} t p) =
      leaf_all Γ Ψ Var k v (t, (equal_none p, tt))
  derived_holds {Γ} {Ψ} (INT {k = k} {v = v} t p) =
      leaf_all Γ Ψ Int k v (of_is t, (equal_none p, tt))
  derived_holds {Γ} {Ψ} (LET {k = k} {v = v} {e₁ = e₁} {e₂ = e₂} d₁ d₂ t p) =
      binary_all Γ Ψ Let k v e₁ e₂ (t, (equal_none p, tt))
      (derived_holds d₁) (derived_holds d₂)
  derived_holds {Γ} {Ψ} (IF {k = k} {v = v} {e₁ = e₁} {e₂ = e₂} d₁ t₁ p₁ d₂ t₂ p₂) =
      binary_all Γ Ψ If k v e₁ e₂ (t₁, (t₂, (covers_none p₁, (covers_none p₂, tt))))
      (derived_holds d₁) (derived_holds d₂)
  derived_holds {Γ} {Ψ} (WHILE {k = k} {v = v} {e₁ = e₁} d p₁ p t) =
      unary_all Γ Ψ While k v e₁ (of_is t, (covers_none p, (covers_none p₁, tt))) (derived_holds d)
  derived_holds {Γ} {Ψ} (NEWT {k = k} {v = v} t p) =
      leaf_all Γ Ψ Newtid k v (of_is t, (equal_none p, tt))
  derived_holds {Γ} {Ψ} (SPAWN {k = k} {v = v} {e₁ = e₁} {e₂ = e₂} d₁ t d₂ c i p) =
      binary_all Γ Ψ Spawn k v e₁ e₂ (of_is i, (of_is t, (covers_none (rw (first_told S t) c), (equal_none p, tt))))
      (derived_holds d₁) (derived_holds d₂)
  derived_holds {Γ} {Ψ} (JOIN {k = k} {v = v} {e₁ = e₁} d t i p) =
      unary_all Γ Ψ Join k v e₁ (of_is i, (of_is t, (equal_none (rw (first_told S t) p), tt))) (derived_holds d)
  derived_holds {Γ} {Ψ} (REF {k = k} {v = v} {e₁ = e₁} d t a p) =
      unary_all Γ Ψ Ref k v e₁ (ref_of_is S _ t a, (equal_none p, tt)) (derived_holds d)
  derived_holds {Γ} {Ψ} (WRITE {k = k} {v = v} {e₁ = e₁} {e₂ = e₂} d₁ t d₂ a w i p) =
      binary_all Γ Ψ Write k v e₁ e₂
      (of_is i, (of_is t, (ref_of_is S _ t a, (equal_none p, (writable _ (post S (binary Write k v e₁ e₂)) t w, tt)))))
      (derived_holds d₁) (derived_holds d₂)
  derived_holds {Γ} {Ψ} (READ {k = k} {v = v} {e₁ = e₁} d t a w p) =
      unary_all Γ Ψ Read k v e₁
      (of_is t, (ref_of_is S _ t a, (equal_none p, (readable (post S (unary Read k v e₁)) t w, tt)))) (derived_holds d)
  derived_holds {Γ} {Ψ} (NEWL {k = k} {v = v} t p) =
      leaf_all Γ Ψ Newlock k v (of_is t, (equal_none (rw (second_told S t) p), tt))
  derived_holds {Γ} {Ψ} (LCK {k = k} {v = v} {e₁ = e₁} d t i p) =
      unary_all Γ Ψ Lock k v e₁ (of_is i, (of_is t, (equal_none (rw (first_told S t) p), tt))) (derived_holds d)
  derived_holds {Γ} {Ψ} (ULCK {k = k} {v = v} {e₁ = e₁} d t i p) =
      unary_all Γ Ψ Unlock k v e₁ (of_is i, (of_is t, (equal_none (rw (second_told S t) p), tt))) (derived_holds d)
  derived_holds {Γ} {Ψ} (NEWSEM {k = k} {v = v} t p) =
      leaf_all Γ Ψ Newsem k v (of_is t, (equal_none p, tt))
  derived_holds {Γ} {Ψ} (POST {k = k} {v = v} {e₁ = e₁} d t i p) =
      unary_all Γ Ψ Post k v e₁ (of_is i, (of_is t, (equal_none (rw (first_told S t) p), tt))) (derived_holds d)
  derived_holds {Γ} {Ψ} (WAIT {k = k} {v = v} {e₁ = e₁} d t i p) =
      unary_all Γ Ψ Wait k v e₁ (of_is i, (of_is t, (equal_none (rw (first_told S t) p), tt))) (derived_holds d)
  derived_holds {Γ} {Ψ} (NEWRWLOCK {k = k} {N = N} t c p) =
      leaf_all Γ Ψ Newrwlock k N
      (of_is t, (covers_none (rw (second_told S t, first_told S t) c), (equal_none (rw (second_told S t) p), tt)))
  derived_holds {Γ} {Ψ} (RDLOCK {k = k} {v = v} {e₁ = e₁} d t i p) =
      unary_all Γ Ψ Rdlock k v e₁ (of_is i, (of_is t, (equal_none (rw (first_told S t) p), tt))) (derived_holds d)
  derived_holds {Γ} {Ψ} (RDUNLOCK {k = k} {v = v} {e₁ = e₁} d t i p) =
      unary_all Γ Ψ Rdunlock k v e₁ (of_is i, (of_is t, (equal_none (rw (first_told S t) p), tt))) (derived_holds d)
  derived_holds {Γ} {Ψ} (WRLOCK {k = k} {v = v} {e₁ = e₁} d t i p) =
      unary_all Γ Ψ Wrlock k v e₁ (of_is i, (of_is t, (equal_none (rw (second_told S t) p), tt))) (derived_holds d)
  derived_holds {Γ} {Ψ} (WRUNLOCK {k = k} {v = v} {e₁ = e₁} d t i p) =
      unary_all Γ Ψ Wrunlock k v e₁ (of_is i, (of_is t, (equal_none (rw (second_told S t) p), tt))) (derived_holds d)
  derived_holds {Γ} {Ψ} (CALL {k = k} {f = f} {e₁ = e₁} d a p r q) =
      unary_all Γ Ψ Call k f e₁ (r, (a, (equal_none p, (equal_none q, tt)))) (derived_holds d)

  -- ------------------------------------------------------------------ procedures

  holding_body : (g : Signature) (p : Procedure) → AllHold (claims_of_procedure S g p) → BodyDerives S g p
  unfolding claims_of_procedure procedure_conditions body_step_contexts numbered AllHold Holds
  holding_body g p h =
      let (own, body) = all_hold_parts (numbered p.line 1 (procedure_conditions S g p)) (claims S (body_step_contexts S g p)) h in
      record { derives = holding_derives p.body _ _ body; result = own.0; after = none_covers own.1.0 }

  holding_bodies : (f : ℕ) (ps : List Procedure) → AllHold (claims_of_procedures S f ps) → BodiesDerive S f ps
  unfolding claims_of_procedures
  holding_bodies f [] h = no_procedures
  holding_bodies f (p ∷ ps) h =
      let (here, others) = all_hold_parts (claims_of_procedure S (signature S f) p) (claims_of_procedures S (f + 1) ps) h in
      procedure (holding_body (signature S f) p here) (holding_bodies (f + 1) ps others)

  body_holds : (g : Signature) (p : Procedure) → BodyDerives S g p → AllHold (claims_of_procedure S g p)
  unfolding claims_of_procedure procedure_conditions body_step_contexts numbered AllHold Holds
  body_holds g p d =
      all_hold_append (numbered p.line 1 (procedure_conditions S g p)) (claims S (body_step_contexts S g p))
      (d.result, (covers_none d.after, tt)) (derived_holds d.derives)

  bodies_hold : {f : ℕ} {ps : List Procedure} → BodiesDerive S f ps → AllHold (claims_of_procedures S f ps)
  unfolding claims_of_procedures AllHold
  bodies_hold no_procedures = tt
  bodies_hold {f} (procedure {p = p} {ps = ps} d ds) =
      all_hold_append (claims_of_procedure S (signature S f) p) (claims_of_procedures S (f + 1) ps) (body_holds (signature S f) p d) (bodies_hold ds)

  -- ------------------------------------------------------------------ the theorem, both ways

  pub conditions_derive : {t : Unit {0}} (P : Program) → first_false (claims_of S P) ≡ Ok t
      → BodiesDerive S 0 P.procedures × Derives S [] (start_map S) P.root
  unfolding claims_of
  conditions_derive P h =
      let (bodies, root) = all_hold_parts (claims_of_procedures S 0 P.procedures) _ (none_false_all_hold _ h) in
      (holding_bodies 0 P.procedures bodies, holding_derives P.root [] (start_map S) root)

  pub derivation_meets_conditions : (P : Program) → BodiesDerive S 0 P.procedures → Derives S [] (start_map S) P.root
      → first_false (claims_of S P) ≡ Ok tt
  unfolding claims_of
  derivation_meets_conditions P bodies root =
      all_hold_none_false _ (all_hold_append (claims_of_procedures S 0 P.procedures) _ (bodies_hold bodies) (derived_holds root))
