-- The flow and access conditions of a split hold exactly when the after-maps that it shows pass at each location. One induction over
-- the words: each condition of the table is turned into the effect that `effect_of` has for it. Then one over the procedures.
use Rattle.std.proofs.Common.{None}
use mathlib.Core.Path.{◌≡◌}
use mathlib.Core.Bool.{true}
use mathlib.Core.List.{List, [], ◌∷◌, ◌++◌, append_assoc}
use mathlib.Core.Logic.{◌↔◌}
use Prim.Native.Nat.{ℕ, ◌+◌, ◌≤◌}
use lib.Dec.{leb}
use lib.ListN.{length, get_or}
use native.Mathlib.Omega.{arith}
use borrow.Author.Tests.{leb-true, ltb-true, le-leb, lt-ltb}
use Rattle.spec.specs.Words.{calls, role, binding, pre_of_part, pre_of_second}
use Rattle.spec.specs.Expression.{Step, Position, Expr, leaf, unary, binary, size, Procedure}
use Rattle.spec.specs.Split.{Map, Split, map_at}
use Rattle.spec.specs.Maps.{◌≥ᵐ◌, share}
use Rattle.spec.specs.Conditions.{Env, type, post, body_start, kept_back, start_map, signature, conditions_by, conditions_of, procedure_conditions}
use Rattle.spec.specs.StepContexts.{StepContext, NumberedCondition, step_contexts, numbered, claims_at, claims, body_step_contexts, claims_of_procedure, claims_of_procedures, is_flow, only}
use Rattle.spec.specs.WellFormed.{NumberedFrom}
use Rattle.spec.specs.FirstFalse.{Holds, AllHold}
use Rattle.spec.specs.declared.Location.{Location}
use Rattle.spec.specs.declared.Word.TheVariants.{Binary}
use Rattle.spec.specs.declared.LeafWord.{LeafWord}
use Rattle.spec.specs.declared.LeafWord.TheVariants.{Var, Int, Newtid, Newlock, Newsem, Newrwlock}
use Rattle.spec.specs.declared.UnaryWord.{UnaryWord}
use Rattle.spec.specs.declared.UnaryWord.TheVariants.{While, Join, Ref, Read, Lock, Unlock, Post, Wait, Rdlock, Rdunlock, Wrlock, Wrunlock, Call}
use Rattle.spec.specs.declared.BinaryWord.{BinaryWord}
use Rattle.spec.specs.declared.BinaryWord.TheVariants.{Let, If, Spawn, Write}
use Rattle.spec.proofs.Claims.{step_parts, parts_step, both_parts, parts_both}
use Rattle.fill_theory.specs.Flow.{unchanged, taking, giving, needing, lending, Flow, in_turn, branch, fork, unary_flow, binary_flow, Applies, Passes, Root, RootsPass}
use Rattle.fill_theory.specs.FlowOf.{loops, moving, effect_of, part_transfer, binary_transfer, before_here, after_here, has_here, given_here, call_here, flow_of, roots_from}
use Rattle.fill_theory.specs.declared.Effect.{Effect}
use Rattle.fill_theory.proofs.Locations.{Everywhere, Known, together, lastly, restated, three, least_everywhere, sums, keeps, gives, takes, lends, needs}
use Rattle.fill_theory.proofs.Sorts.{AllAt, OwnAt, only_parts, parts_only, sort_each}
use Rattle.fill_theory.proofs.Placed.{flow_steps, Placed, part, first, second, Showing, size_of}

-- what σ has at a location after step i
abbrev pub at : List Map → Location → ℕ → ℕ
at σ p i = share (get_or σ i []) p

module _ {ss : List Step} {S : Split} {σ : List Map} {T : Split} (G : Showing ss S σ T) where
  abbrev L : ℕ
  L = S.header.locations

  abbrev AllFlow : List StepContext → Type 0
  AllFlow = AllAt is_flow T

  abbrev OwnFlow : Env → Map → Expr → Type 0
  OwnFlow Γ pre e = OwnAt is_flow T (record { Γ = Γ; pre = pre; step = e })

  -- ------------------------------------------------------------------ a step and its parts

  module _ (Γ : Env) (pre : Map) {A : Location → Type 0} where
    no_part : (w : LeafWord) (k : Position) (v : ℕ) → OwnFlow Γ pre (leaf w k v) ↔ Everywhere L A → AllFlow (step_contexts T Γ pre (leaf w k v)) ↔ Everywhere L A
    unfolding step_contexts AllHold claims only
    no_part w k v owns = (λ h. owns.0 (step_parts (sort_each is_flow) T _ [] h).0, λ h. parts_step (sort_each is_flow) T _ [] (owns.1 h) tt)

    one_part_lem : {B : Location → Type 0} (w : UnaryWord) (k : Position) (v : ℕ) (e₁ : Expr)
        → AllFlow (step_contexts T Γ (pre_of_part w pre (post T (unary w k v e₁))) e₁) ↔ Everywhere L A
        → OwnFlow Γ pre (unary w k v e₁) ↔ Everywhere L B
        → AllFlow (step_contexts T Γ pre (unary w k v e₁)) ↔ Everywhere L (λ p. A p × B p)
    unfolding step_contexts
    one_part_lem w k v e₁ a owns =
        let both = together a owns in (
          λ h. let s = step_parts (sort_each is_flow) T _ _ h in both.0 (s.1, s.0),
          λ h. let s = both.1 h in parts_step (sort_each is_flow) T _ _ s.1 s.0,
        )

    two_parts : {B C : Location → Type 0} (w : BinaryWord) (k : Position) (v : ℕ) (e₁ e₂ : Expr)
        → AllFlow (step_contexts T Γ pre e₁) ↔ Everywhere L A
        → AllFlow (step_contexts T (binding (role (Binary w)) (v, type T e₁) Γ) (pre_of_second w pre (post T e₁) (body_start T (binary w k v e₁ e₂))) e₂) ↔ Everywhere L B
        → OwnFlow Γ pre (binary w k v e₁ e₂) ↔ Everywhere L C
        → AllFlow (step_contexts T Γ pre (binary w k v e₁ e₂)) ↔ Everywhere L (λ p. A p × B p × C p)
    unfolding step_contexts
    two_parts w k v e₁ e₂ a b owns =
        let all = three (together a (together b owns)) in (
          λ h.
              let s = step_parts (sort_each is_flow) T _ _ h in
              let parts = both_parts (sort_each is_flow) T (step_contexts T Γ pre e₁) _ s.1 in
              all.0 (parts.0, (parts.1, s.0)),
          λ h.
              let s = all.1 h in
              parts_step (sort_each is_flow) T _ _ s.1.1 (parts_both (sort_each is_flow) T (step_contexts T Γ pre e₁) _ s.0 s.1.0),
        )

  -- a flow's second part stands where its expression's second part does
  module _ (p : Location) (i y : ℕ) (e₁ : Expr) (g : Flow) where
    abbrev j : ℕ
    j = i + 1 + size e₁

    abbrev FirstPasses : Type 0
    FirstPasses = Passes (at σ p) (i + 1) y (flow_of S p e₁)

    in_turn_parts : (E : Effect)
        → (FirstPasses × Passes (at σ p) j (at σ p (i + 1)) g × Applies E (at σ p j) (at σ p i)) ↔ Passes (at σ p) i y (in_turn E (flow_of S p e₁) g)
    unfolding Passes
    in_turn_parts E = rw (flow_steps S p e₁) (λ h. h, λ h. h)

    branch_parts : (FirstPasses × Passes (at σ p) j y g × ((at σ p i ≤ at σ p (i + 1)) × (at σ p i ≤ at σ p j)))
        ↔ Passes (at σ p) i y (branch (flow_of S p e₁) g)
    unfolding Passes
    branch_parts = rw (flow_steps S p e₁) (λ h. (h.0, h.1, h.2.0, h.2.1), λ h. (h.0, h.1, (h.2, h.3)))

    fork_parts : (s k : ℕ) → (FirstPasses × Passes (at σ p) j s g × ((k ≤ at σ p j) × Applies (taking s) (at σ p (i + 1)) (at σ p i)))
        ↔ Passes (at σ p) i y (fork s k (flow_of S p e₁) g)
    unfolding Passes
    fork_parts s k = rw (flow_steps S p e₁) (λ h. (h.0, h.1, h.2.0, h.2.1), λ h. (h.0, h.1, (h.2, h.3)))

  -- ------------------------------------------------------------------ the words

  whole_there : (x : ℕ) → (leb T.header.denominator x ≡ true) ↔ (S.header.denominator ≤ x)
  whole_there x = rw G.denominator (leb-true _ x, le-leb _ x)

  -- pre is the map x; in the order of Figure 5
  flow_along : (e : Expr) (Γ : Env) {pre x : Map} (i : ℕ) → Placed ss i e → Known L pre x
      → AllFlow (step_contexts T Γ pre e) ↔ Everywhere L (λ p. Passes (at σ p) i (share x p) (flow_of S p e))
  unfolding AllHold Holds claims_at numbered conditions_by conditions_of only is_flow pre_of_part pre_of_second kept_back calls loops unchanged taking giving needing lending moving effect_of part_transfer binary_transfer before_here after_here has_here given_here call_here unary_flow binary_flow flow_of Passes
  flow_along (leaf Var k v) Γ i P before = no_part Γ _ Var k v (lastly (keeps (G.posts _ P) before))
  flow_along (leaf Int k v) Γ i P before = no_part Γ _ Int k v (lastly (keeps (G.posts _ P) before))
  flow_along (binary Let k v e₁ e₂) Γ {x = x} i P before =
      let after₁ = G.posts e₁ (first P) in
      restated (λ p. in_turn_parts p i (share x p) e₁ (flow_of S p e₂) _)
      (two_parts Γ _ Let k v e₁ e₂
      (flow_along e₁ Γ (i + 1) (first P) before)
      (flow_along e₂ _ (i + 1 + size e₁) (second P) after₁)
      (lastly (keeps (G.posts _ P) (G.posts e₂ (second P)))))
  flow_along (binary If k v e₁ e₂) Γ {x = x} i P before =
      restated (λ p. branch_parts p i (share x p) e₁ (flow_of S p e₂))
      (two_parts Γ _ If k v e₁ e₂
      (flow_along e₁ Γ (i + 1) (first P) before)
      (flow_along e₂ _ (i + 1 + size e₁) (second P) before)
      (together (least_everywhere (G.posts e₁ (first P)) (G.posts _ P))
      (lastly (least_everywhere (G.posts e₂ (second P)) (G.posts _ P)))))
  flow_along (unary While k v e₁) Γ i P before =
      let after = G.posts (unary While k v e₁) P in
      three
      (one_part_lem Γ _ While k v e₁
      (flow_along e₁ Γ (i + 1) (part P) after)
      (together (least_everywhere before after) (lastly (least_everywhere (G.posts e₁ (part P)) after))))
  flow_along (leaf Newtid k v) Γ i P before = no_part Γ _ Newtid k v (lastly (keeps (G.posts _ P) before))
  flow_along (binary Spawn k v e₁ e₂) Γ {x = x} i P before =
      let e = binary Spawn k v e₁ e₂ in
      let after₁ = G.posts e₁ (first P) in
      restated (λ p. fork_parts p i (share x p) e₁ (flow_of S p e₂) _ _)
      (two_parts Γ _ Spawn k v e₁ e₂
      (flow_along e₁ Γ (i + 1) (first P) before)
      (flow_along e₂ _ (i + 1 + size e₁) (second P) (G.starts e))
      (together (least_everywhere (G.posts e₂ (second P)) (G.firsts e₁))
      (lastly (takes (G.posts _ P) after₁ (G.starts e)))))
  flow_along (unary Join k v e₁) Γ i P before =
      one_part_lem Γ _ Join k v e₁
      (flow_along e₁ Γ (i + 1) (part P) before)
      (lastly (gives (G.posts _ P) (G.posts e₁ (part P)) (G.firsts e₁)))
  flow_along (unary Ref k v e₁) Γ i P before =
      one_part_lem Γ _ Ref k v e₁
      (flow_along e₁ Γ (i + 1) (part P) before)
      (lastly (keeps (G.posts _ P) (G.posts e₁ (part P))))
  flow_along (binary Write k v e₁ e₂) Γ {x = x} i P before =
      let after₁ = G.posts e₁ (first P) in
      restated (λ p. in_turn_parts p i (share x p) e₁ (flow_of S p e₂) _)
      (two_parts Γ _ Write k v e₁ e₂
      (flow_along e₁ Γ (i + 1) (first P) before)
      (flow_along e₂ _ (i + 1 + size e₁) (second P) after₁)
      (needs (G.posts _ P) (G.posts e₂ (second P)) _ _ (G.places e₁) (G.within e₁)
      S.header.denominator _ (whole_there _)))
  flow_along (unary Read k v e₁) Γ i P before =
      one_part_lem Γ _ Read k v e₁
      (flow_along e₁ Γ (i + 1) (part P) before)
      (needs (G.posts _ P) (G.posts e₁ (part P)) _ _ (G.places e₁) (G.within e₁)
      1 _ (ltb-true _ _, lt-ltb _ _))
  flow_along (leaf Newlock k v) Γ i P before =
      no_part Γ _ Newlock k v (lastly (takes (G.posts _ P) before (G.seconds (leaf Newlock k v))))
  flow_along (unary Lock k v e₁) Γ i P before =
      one_part_lem Γ _ Lock k v e₁
      (flow_along e₁ Γ (i + 1) (part P) before)
      (lastly (gives (G.posts _ P) (G.posts e₁ (part P)) (G.firsts e₁)))
  flow_along (unary Unlock k v e₁) Γ i P before =
      one_part_lem Γ _ Unlock k v e₁
      (flow_along e₁ Γ (i + 1) (part P) before)
      (lastly (takes (G.posts _ P) (G.posts e₁ (part P)) (G.seconds e₁)))
  flow_along (leaf Newsem k v) Γ i P before = no_part Γ _ Newsem k v (lastly (keeps (G.posts _ P) before))
  flow_along (unary Post k v e₁) Γ i P before =
      one_part_lem Γ _ Post k v e₁
      (flow_along e₁ Γ (i + 1) (part P) before)
      (lastly (takes (G.posts _ P) (G.posts e₁ (part P)) (G.firsts e₁)))
  flow_along (unary Wait k v e₁) Γ i P before =
      one_part_lem Γ _ Wait k v e₁
      (flow_along e₁ Γ (i + 1) (part P) before)
      (lastly (gives (G.posts _ P) (G.posts e₁ (part P)) (G.firsts e₁)))
  flow_along (leaf Newrwlock k v) Γ i P before =
      let e = leaf Newrwlock k v in
      no_part Γ _ Newrwlock k v (lends v (G.posts e P) before (G.seconds e) (G.firsts e))
  flow_along (unary Rdlock k v e₁) Γ i P before =
      one_part_lem Γ _ Rdlock k v e₁
      (flow_along e₁ Γ (i + 1) (part P) before)
      (lastly (gives (G.posts _ P) (G.posts e₁ (part P)) (G.firsts e₁)))
  flow_along (unary Rdunlock k v e₁) Γ i P before =
      one_part_lem Γ _ Rdunlock k v e₁
      (flow_along e₁ Γ (i + 1) (part P) before)
      (lastly (takes (G.posts _ P) (G.posts e₁ (part P)) (G.firsts e₁)))
  flow_along (unary Wrlock k v e₁) Γ i P before =
      one_part_lem Γ _ Wrlock k v e₁
      (flow_along e₁ Γ (i + 1) (part P) before)
      (lastly (gives (G.posts _ P) (G.posts e₁ (part P)) (G.seconds e₁)))
  flow_along (unary Wrunlock k v e₁) Γ i P before =
      one_part_lem Γ _ Wrunlock k v e₁
      (flow_along e₁ Γ (i + 1) (part P) before)
      (lastly (takes (G.posts _ P) (G.posts e₁ (part P)) (G.seconds e₁)))
  flow_along (unary Call k f e₁) Γ i P before =
      let e = unary Call k f e₁ in
      three
      (one_part_lem Γ _ Call k f e₁
      (flow_along e₁ Γ (i + 1) (part P) before)
      (together (sums (G.posts e₁ (part P)) (G.befores f) (G.kepts e))
      (lastly (sums (G.posts e P) (G.afters f) (G.kepts e)))))

  pub flow_at_each_location : (Γ : Env) {pre x : Map} (e : Expr) (i : ℕ) → Placed ss i e → Known L pre x
      → AllFlow (step_contexts T Γ pre e) ↔ Everywhere L (λ p. Passes (at σ p) i (share x p) (flow_of S p e))
  flow_at_each_location Γ e = flow_along e Γ

  -- ------------------------------------------------------------------ the procedures and the root

  -- a root's own post is at least what is due, and the next stands behind its steps
  roots_parts : (p : Location) (i x due : ℕ) (e : Expr) (rs : List Root)
      → ((due ≤ at σ p i) × (Passes (at σ p) i x (flow_of S p e) × RootsPass (at σ p) (i + size e) rs))
      ↔ RootsPass (at σ p) i (record { pre = x; due = due; flow = flow_of S p e } ∷ rs)
  unfolding RootsPass
  roots_parts p i x due e rs = rw (flow_steps S p e) (λ h. (h.1.0, h.0, h.1.1), λ h. (h.1, (h.0, h.2)))

  -- a procedure: the claim on its line, those of its body, and those behind it
  procedure_parts : (f : ℕ) (q : Procedure) (behind : List NumberedCondition) {A B C : Location → Type 0}
      → (((post T q.body ≥ᵐ map_at T (signature T f).after) ≡ None) × Unit {0}) ↔ Everywhere L A
      → AllFlow (body_step_contexts T (signature T f) q) ↔ Everywhere L B
      → AllHold (only is_flow behind) ↔ Everywhere L C
      → AllHold (only is_flow (claims_of_procedure T (signature T f) q ++ behind)) ↔ Everywhere L (λ p. A p × (B p × C p))
  unfolding claims_of_procedure procedure_conditions numbered only is_flow AllHold Holds
  procedure_parts f q behind a b c =
      let own = numbered q.line 1 (procedure_conditions T (signature T f) q) in
      let body = claims T (body_step_contexts T (signature T f) q) in
      let all = together a (together b c) in (
        λ h.
            let (of_procedure, others) = only_parts is_flow (own ++ body) behind h in
            let (of_line, of_body) = only_parts is_flow own body of_procedure in
            all.0 (of_line, (of_body, others)),
        λ h.
            let s = all.1 h in
            parts_only is_flow (own ++ body) behind (parts_only is_flow own body s.0 s.1.0) s.1.1,
      )

  -- the claims of the procedures from number f on and of the root
  pub roots_at_each_location : (f i : ℕ) (ps : List Procedure) (root : Expr) → NumberedFrom i ps root → i + size_of ps root ≤ length ss
      → AllHold (only is_flow (claims_of_procedures T f ps ++ claims T (step_contexts T [] (start_map T) root)))
      ↔ Everywhere L (λ p. RootsPass (at σ p) i (roots_from S p f ps root))
  unfolding claims_of_procedures body_step_contexts before_here after_here roots_from NumberedFrom size_of RootsPass
  roots_at_each_location f i [] root numbered within =
      restated (λ p. (λ h. (h, omega arith, tt), λ h. h.0))
      (flow_at_each_location [] root i (record { indexed = numbered; within = within }) G.first)
  roots_at_each_location f i (q ∷ ps) root numbering within =
      let e = q.body in
      let P : Placed ss i e = record { indexed = numbering.0; within = omega arith } in
      let others = claims_of_procedures T (f + 1) ps ++ claims T (step_contexts T [] (start_map T) root) in
      rw (append_assoc (claims_of_procedure T (signature T f) q) (claims_of_procedures T (f + 1) ps) (claims T (step_contexts T [] (start_map T) root)))
      (restated (λ p. roots_parts p i _ _ e (roots_from S p (f + 1) ps root))
      (procedure_parts f q others
      (lastly (least_everywhere (G.posts e P) (G.afters f)))
      (flow_at_each_location _ e i P (G.befores f))
      (roots_at_each_location (f + 1) (i + size e) ps root numbering.1 (omega arith))))
