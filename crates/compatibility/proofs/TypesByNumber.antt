-- Request (i): the conditions hold where they held with types compared by their numbers.
use Rattle.std.proofs.Common.{Result, Ok}
use mathlib.Core.Path.{◌≡◌, ap}
use mathlib.Core.List.{List, [], ◌∷◌, map}
use mathlib.Core.Bool.{true}
use Prim.Native.Nat.{ℕ, ◌+◌}
use borrow.Author.Tests.{eqb-true}
use Rattle.spec.specs.declared.Refusal.{Refusal}
use Rattle.spec.specs.Reading.{◌>>=◌}
use Rattle.spec.specs.Expression.{Expr, Procedure}
use Rattle.spec.specs.Program.{Program, program}
use Rattle.spec.specs.Split.{Map, Split, split}
use Rattle.spec.specs.declared.Signature.{Signature}
use Rattle.spec.specs.Agreement.{agree}
use Rattle.spec.specs.Kinds.{ref, is, content}
use Rattle.spec.specs.Table as entry
use Rattle.spec.specs.Table.{Entry, table}
use Rattle.spec.specs.Conditions.{Env, start_map, signature, contains, may_show, step_word, says, conditions_by, conditions_of, procedure_conditions}
use Rattle.spec.specs.StepContexts.{StepContext, step_contexts, numbered, claims_at, claims, body_step_contexts, claims_of_procedure, claims_of_procedures, claims_of}
use Rattle.spec.specs.FirstFalse.{Holds, AllHold}
use Rattle.spec.specs.Verdict.{sheets, conditions_hold, checked, answer, verdict}
use Rattle.spec.specs.declared.TypeNumber.{TypeNumber}
use Rattle.spec.specs.declared.TypeLine.{TypeLine}
use Rattle.compatibility.specs.Judging.{sheets_by, checked_by, verdict_by}
use Rattle.compatibility.specs.TypesByNumber.{agree_by_number, conditions_by_number, procedure_conditions_by_number, claims_by_number, claims_of_procedure_by_number, claims_of_procedures_by_number, claims_of_by_number, ruled_by_number, verdict_by_number, AcceptedStay}
use Rattle.spec.proofs.Tests.{both_true}
use Rattle.spec.proofs.Outcomes.{bind_goes_on, goes_on_bind}
use Rattle.spec.proofs.Claims.{none_false_all_hold, all_hold_none_false, all_hold_parts, all_hold_append}
use Rattle.spec.proofs.Agreement.{agree_reflexive}
use Rattle.spec.proofs.Shown.{may_show_itself}
use Rattle.spec.proofs.Accepted.{accept_goes_on}
use Rattle.spec.specs.declared.Purpose.TheVariants.{Check}

-- ------------------------------------------------------------------ what held before holds

module _ (S : Split) where
  numbered_alike : (t u : TypeNumber) → agree_by_number t u ≡ true → t ≡ u
  unfolding agree_by_number
  numbered_alike t u h = ap (λ x. record { 0 = x }) (eqb-true t.0 u.0 h)

  agreed : (t u : TypeNumber) → agree_by_number t u ≡ true → agree S t u ≡ true
  agreed t u h = rw (numbered_alike t u h) (agree_reflexive S u)

  shown : (t u : TypeNumber) → agree_by_number t u ≡ true → may_show S t u ≡ true
  shown t u h = rw (numbered_alike t u h) (may_show_itself S u)

  contained : (x : TypeLine) (u : TypeNumber) → contains agree_by_number x u ≡ true → contains (agree S) x u ≡ true
  unfolding contains
  contained x u h = let (one, alike) = both_true (is ref x) (agree_by_number (content x) u) h in rw one (agreed (content x) u alike)

  module _ (Γ : Env) (pre : Map) (e : Expr) where
    says_holds : (x : Entry) → Holds (says S Γ pre e agree_by_number agree_by_number x) → Holds (says S Γ pre e (agree S) (may_show S) x)
    unfolding Holds
    says_holds (entry.◌a◌ p k) h = h
    says_holds (entry.◌is◌ p t) h = agreed _ _ h
    says_holds (entry.◌shows◌ p t) h = shown _ _ h
    says_holds (entry.◌is_c_of◌ p q) h = contained _ _ h
    says_holds (entry.◌＝◌ l m) h = h
    says_holds (entry.◌≧◌ l m) h = h
    says_holds (entry.N×◌≦◌ l m) h = h
    says_holds (entry.◌⊕◌＝◌ l m n) h = h
    says_holds (entry.◌＝◌⊕◌ l m n) h = h
    says_holds entry.post_at_p＞0 h = h
    says_holds entry.post_at_p≧D h = h

    all_say : (n i : ℕ) (xs : List Entry) → AllHold (numbered n i (map (says S Γ pre e agree_by_number agree_by_number) xs))
        → AllHold (numbered n i (map (says S Γ pre e (agree S) (may_show S)) xs))
    unfolding AllHold numbered
    all_say n i [] h = h
    all_say n i (x ∷ xs) h = (says_holds x h.0, all_say n (i + 1) xs h.1)

    conditions_hold_lem : (n i : ℕ) → AllHold (numbered n i (conditions_by_number S Γ pre e)) → AllHold (numbered n i (conditions_of S Γ pre e))
    unfolding conditions_by_number conditions_of conditions_by
    conditions_hold_lem n i = all_say n i (table (step_word e))

  claims_hold : (ss : List StepContext) → AllHold (claims_by_number S ss) → AllHold (claims S ss)
  unfolding claims claims_at claims_by_number
  claims_hold [] h = h
  claims_hold (s ∷ ss) h =
      let both = all_hold_parts _ (claims_by_number S ss) h in
      all_hold_append _ (claims S ss) (conditions_hold_lem s.Γ _ s.step _ 1 both.0) (claims_hold ss both.1)

  procedure_holds : (g : Signature) (p : Procedure) → AllHold (claims_of_procedure_by_number S g p) → AllHold (claims_of_procedure S g p)
  unfolding claims_of_procedure_by_number claims_of_procedure procedure_conditions_by_number procedure_conditions numbered AllHold Holds
  procedure_holds g p h =
      let (own, body) = all_hold_parts (numbered p.line 1 (procedure_conditions_by_number S g p)) (claims_by_number S (body_step_contexts S g p)) h in
      all_hold_append (numbered p.line 1 (procedure_conditions S g p)) (claims S (body_step_contexts S g p)) (agreed _ _ own.0, own.1)
      (claims_hold (body_step_contexts S g p) body)

  procedures_hold : (f : ℕ) (ps : List Procedure) → AllHold (claims_of_procedures_by_number S f ps) → AllHold (claims_of_procedures S f ps)
  unfolding claims_of_procedures_by_number claims_of_procedures
  procedures_hold f [] h = h
  procedures_hold f (p ∷ ps) h =
      let (here, others) = all_hold_parts (claims_of_procedure_by_number S (signature S f) p) (claims_of_procedures_by_number S (f + 1) ps) h in
      all_hold_append (claims_of_procedure S (signature S f) p) (claims_of_procedures S (f + 1) ps) (procedure_holds (signature S f) p here)
      (procedures_hold (f + 1) ps others)

  all_claims_hold : (P : Program) → AllHold (claims_of_by_number S P) → AllHold (claims_of S P)
  unfolding claims_of_by_number claims_of
  all_claims_hold P h =
      let (bodies, root) = all_hold_parts (claims_of_procedures_by_number S 0 P.procedures) _ h in
      all_hold_append (claims_of_procedures S 0 P.procedures) _ (procedures_hold 0 P.procedures bodies)
      (claims_hold (step_contexts S [] (start_map S) P.root) root)

-- what goes on after m by one continuation does so by another
goes_on_too : {A B : Type 0} {b : B} (m : Result A Refusal) (f g : A → Result B Refusal) → ((a : A) → f a ≡ Ok b → g a ≡ Ok b) → (m >>= f) ≡ Ok b → (m >>= g) ≡ Ok b
goes_on_too m f g too h =
    let (a, e, k) = bind_goes_on m f h in
    goes_on_bind m g e (too a k)

checked_too : (room : ℕ) (p s : List ℕ) → checked_by program (split Check) ruled_by_number room p s ≡ Ok tt → checked room p s ≡ Ok tt
unfolding checked_by sheets_by checked sheets ruled_by_number conditions_hold
checked_too room p s =
    goes_on_too _ _ _ λ _.
    goes_on_too _ _ _ λ found.
    goes_on_too _ _ _ λ _.
    goes_on_too _ _ _ λ _ h.
    let (P, S) = found in
    all_hold_none_false _ (all_claims_hold S P (none_false_all_hold _ h))

pub accepted_stay : AcceptedStay
unfolding verdict_by_number verdict_by verdict answer
accepted_stay room p s h = ap answer (checked_too room p s (accept_goes_on (checked_by program (split Check) ruled_by_number room p s) h))
