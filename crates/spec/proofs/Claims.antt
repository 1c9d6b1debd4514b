-- No claim of a list is false exactly when all of them hold; else the first that is false is named, and no other.
use Rattle.std.proofs.Common.{None, Some, Result, Ok, Err}
use mathlib.Core.Path.{◌≡◌, refl, ap, sym, ◌∙◌, subst}
use mathlib.Core.List.{List, [], ◌∷◌, ◌++◌, append_assoc}
use mathlib.Core.Bool.{Bool, true, false}
use Prim.Native.Nat.{ℕ}
use Rattle.spec.specs.Choice.{when◌then◌else◌}
use Rattle.spec.specs.Reading.{◌>>=◌}
use Rattle.spec.specs.Split.{Split}
use Rattle.spec.specs.Conditions.{Condition, T, F, A}
use Rattle.spec.specs.StepContexts.{StepContext, NumberedCondition, claims, claims_at, judge, first_false, only}
use Rattle.spec.specs.FirstFalse.{Holds, AllHold, Names, type, flow, access, FirstFalse}
use Rattle.spec.specs.declared.Refusal.{Refusal}
use Rattle.spec.proofs.Clashes.{true_is_not_false, none_is_not_some, not_true_false}
use Rattle.spec.proofs.Outcomes.{stop_is_not_on, stop_injective, bind_goes_on, goes_on_bind}

-- ------------------------------------------------------------------ one condition

judged_holds : {t : Unit {0}} (k i : ℕ) (c : Condition) → judge k i c ≡ Ok t → Holds c
unfolding judge Holds
judged_holds k i (T true) h = refl
judged_holds k i (T false) h = stop_is_not_on h
judged_holds k i (F None) h = refl
judged_holds k i (F (Some l)) h = stop_is_not_on h
judged_holds k i (A true p) h = refl
judged_holds k i (A false p) h = stop_is_not_on h

holds_judged : (k i : ℕ) (c : Condition) → Holds c → judge k i c ≡ Ok tt
unfolding judge Holds
holds_judged k i (T b) h = rw h
holds_judged k i (F o) h = rw h
holds_judged k i (A b p) h = rw h

-- ------------------------------------------------------------------ a list of claims

pub none_false_all_hold : {t : Unit {0}} (cs : List NumberedCondition) → first_false cs ≡ Ok t → AllHold cs
unfolding first_false AllHold
none_false_all_hold [] h = tt
none_false_all_hold (c ∷ cs) h =
    let b = bind_goes_on _ _ h in
    (judged_holds _ _ _ b.1, none_false_all_hold cs b.2)

pub all_hold_none_false : (cs : List NumberedCondition) → AllHold cs → first_false cs ≡ Ok tt
unfolding first_false AllHold
all_hold_none_false [] h = refl
all_hold_none_false (c ∷ cs) h = goes_on_bind _ _ (holds_judged _ _ _ h.0) (all_hold_none_false cs h.1)

pub all_hold_parts : (xs ys : List NumberedCondition) → AllHold (xs ++ ys) → AllHold xs × AllHold ys
unfolding AllHold
all_hold_parts [] ys h = (tt, h)
all_hold_parts (x ∷ xs) ys h =
    let r = all_hold_parts xs ys h.1 in
    ((h.0, r.0), r.1)

pub all_hold_append : (xs ys : List NumberedCondition) → AllHold xs → AllHold ys → AllHold (xs ++ ys)
unfolding AllHold
all_hold_append [] ys p q = q
all_hold_append (x ∷ xs) ys p q = (p.0, all_hold_append xs ys p.1 q)

-- the claims of one sort, of two lists
pub only_append : (sort : Condition → Bool) (xs ys : List NumberedCondition) → only sort (xs ++ ys) ≡ only sort xs ++ only sort ys
unfolding only
only_append sort [] ys = refl
only_append sort (c ∷ xs) ys = go (sort c.condition) (only_append sort xs ys)
  where
    go : (b : Bool) → only sort (xs ++ ys) ≡ only sort xs ++ only sort ys
        → (when b then c ∷ only sort (xs ++ ys) else only sort (xs ++ ys)) ≡ (when b then c ∷ only sort xs else only sort xs) ++ only sort ys
    go true e = ap (c ∷◌) e
    go false e = e

pub claims_append : (S : Split) (xs ys : List StepContext) → claims S (xs ++ ys) ≡ claims S xs ++ claims S ys
unfolding claims
claims_append S [] ys = refl
claims_append S (x ∷ xs) ys = rw (claims_append S xs ys, append_assoc (claims_at S x) (claims S xs) (claims S ys))

-- what is said of lists of claims, and of two lists together exactly when it is said of each
pub record OfEach (Q : List NumberedCondition → Type 0) : Type 0 where
  pub parts : (xs ys : List NumberedCondition) → Q (xs ++ ys) → Q xs × Q ys
  pub whole : (xs ys : List NumberedCondition) → Q xs → Q ys → Q (xs ++ ys)

pub all_hold_each : OfEach AllHold
all_hold_each = record { parts = all_hold_parts; whole = all_hold_append }

-- it is said of a step and of the step contexts behind it, and of two lists of step contexts
module _ {Q : List NumberedCondition → Type 0} (each : OfEach Q) (S : Split) where
  pub step_parts : (s : StepContext) (ss : List StepContext) → Q (claims S (s ∷ ss)) → Q (claims_at S s) × Q (claims S ss)
  unfolding claims
  step_parts s ss h = each.parts (claims_at S s) (claims S ss) h

  pub parts_step : (s : StepContext) (ss : List StepContext) → Q (claims_at S s) → Q (claims S ss) → Q (claims S (s ∷ ss))
  unfolding claims
  parts_step s ss p q = each.whole (claims_at S s) (claims S ss) p q

  pub both_parts : (xs ys : List StepContext) → Q (claims S (xs ++ ys)) → Q (claims S xs) × Q (claims S ys)
  both_parts xs ys h = each.parts (claims S xs) (claims S ys) (subst Q (claims_append S xs ys) h)

  pub parts_both : (xs ys : List StepContext) → Q (claims S xs) → Q (claims S ys) → Q (claims S (xs ++ ys))
  parts_both xs ys p q = subst Q (sym (claims_append S xs ys)) (each.whole (claims S xs) (claims S ys) p q)

-- ------------------------------------------------------------------ the first false one is one

one_name : {k i : ℕ} {c : Condition} {r q : Refusal} → Names k i c r → Names k i c q → r ≡ q
one_name type type = refl
one_name flow flow = refl
one_name access access = refl

head_of : {c d : NumberedCondition} {cs ds : List NumberedCondition} → c ∷ cs ≡ d ∷ ds → c ≡ d
head_of h = cc

tail_of : {c d : NumberedCondition} {cs ds : List NumberedCondition} → c ∷ cs ≡ d ∷ ds → cs ≡ ds
tail_of h = cc

-- the first false claim is one
one_here : {a b : NumberedCondition} (cs ds xs ys : List NumberedCondition) → AllHold xs → AllHold ys → (Holds a.condition → ⊥) → (Holds b.condition → ⊥) →
    xs ++ a ∷ cs ≡ ys ++ b ∷ ds → a ≡ b
unfolding AllHold
one_here cs ds [] [] hold hold' is_false is_false' e = head_of e
one_here cs ds [] (y ∷ ys) hold hold' is_false is_false' e = absurd (is_false (subst (λ (x : NumberedCondition). Holds x.condition) (sym (head_of e)) hold'.0))
one_here cs ds (x ∷ xs) [] hold hold' is_false is_false' e = absurd (is_false' (subst (λ (x : NumberedCondition). Holds x.condition) (head_of e) hold.0))
one_here cs ds (x ∷ xs) (y ∷ ys) hold hold' is_false is_false' e = one_here cs ds xs ys hold.1 hold'.1 is_false is_false' (tail_of e)

pub one_first : {all all' : List NumberedCondition} {r q : Refusal} → all ≡ all' → FirstFalse all r → FirstFalse all' q → r ≡ q
one_first {r = r} same f g =
    let here = one_here f.after g.after f.before g.before f.hold_before g.hold_before f.is_false g.is_false (sym f.parted ∙ same ∙ g.parted) in
    one_name (subst (λ (c : NumberedCondition). Names c.line c.number c.condition r) here f.named) g.named

-- ------------------------------------------------------------------ the first false one

judged_false : {r : Refusal} (k i : ℕ) (c : Condition) → judge k i c ≡ Err r → (Holds c → ⊥) × Names k i c r
unfolding judge Holds
judged_false k i (T true) h = stop_is_not_on (sym h)
judged_false k i (T false) h = (λ t. true_is_not_false (sym t), subst (λ s. Names k i (T false) s) (stop_injective h) type)
judged_false k i (F None) h = stop_is_not_on (sym h)
judged_false k i (F (Some l)) h = (λ n. none_is_not_some (sym n), subst (λ s. Names k i (F (Some l)) s) (stop_injective h) flow)
judged_false k i (A true p) h = stop_is_not_on (sym h)
judged_false k i (A false p) h = (λ t. true_is_not_false (sym t), subst (λ s. Names k i (A false p) s) (stop_injective h) access)

pub stopped_first_false : {r : Refusal} (cs : List NumberedCondition) → first_false cs ≡ Err r → FirstFalse cs r
unfolding first_false ◌>>=◌ AllHold
stopped_first_false [] h = stop_is_not_on (sym h)
stopped_first_false (c ∷ cs) h = go (judge c.line c.number c.condition) refl h (stopped_first_false cs)
  where
    go : {r : Refusal} (o : Result (Unit {0}) Refusal) → judge c.line c.number c.condition ≡ o → (o >>= λ holds. first_false cs) ≡ Err r
        → (first_false cs ≡ Err r → FirstFalse cs r) → FirstFalse (c ∷ cs) r
    go (Err s) e h rest =
        let f = judged_false _ _ _ (e ∙ h) in
        record { before = []; here = c; after = cs; parted = refl; hold_before = tt; is_false = f.0; named = f.1 }
    go (Ok t) e h rest =
        let f = rest h in
        record {
          before = c ∷ f.before;
          here = f.here;
          after = f.after;
          parted = ap (c ∷◌) f.parted;
          hold_before = (judged_holds _ _ _ e, f.hold_before);
          is_false = f.is_false;
          named = f.named;
        }

-- and back
false_judged : {k i : ℕ} {c : Condition} {r : Refusal} → Names k i c r → (Holds c → ⊥) → judge k i c ≡ Err r
unfolding judge Holds
false_judged (type {b}) h = rw (not_true_false b h)
false_judged flow h = refl
false_judged (access {b}) h = rw (not_true_false b h)

pub first_false_stopped : {r : Refusal} {all : List NumberedCondition} → FirstFalse all r → first_false all ≡ Err r
unfolding first_false AllHold ◌>>=◌
first_false_stopped {r} f = ap first_false f.parted ∙ past f.before f.hold_before
  where
    past : (before : List NumberedCondition) → AllHold before → first_false (before ++ f.here ∷ f.after) ≡ Err r
    past [] h = ap (λ o. o >>= λ holds. first_false f.after) (false_judged f.named f.is_false)
    past (c ∷ cs) h = goes_on_bind _ _ (holds_judged _ _ _ h.0) (past cs h.1)
