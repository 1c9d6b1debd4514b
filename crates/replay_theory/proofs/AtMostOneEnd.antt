-- Follows fixes the count of steps and the answer: each line has one reason to stop at it, or none.
use Rattle.std.proofs.Common.{Option, None, Some, slice_get}
use Prim.Native.Nat.{ℕ, suc}
use mathlib.Core.Path.{◌≡◌, refl, sym, ◌∙◌, ap, subst}
use mathlib.Core.List.{List}
use native.Mathlib.Omega.{arith}
use Rattle.spec.specs.Text.{Line}
use Rattle.calculus.specs.State.{State, Move}
use Rattle.calculus.specs.Reduction.{reduce}
use Rattle.calculus.proofs.Laws.Maps.{some_injective, none_is_not_some}
use Rattle.replay_theory.specs.Trace.{TraceLine, trace_line}
use Rattle.replay_theory.specs.Run.{Run, place_of}
use Rattle.replay_theory.specs.Claim.{MoveOf, Reduced, LanguageStep, NoStepOf, Stops, all_done, not_aline, cannot_step, too_many, Follows}
use Rattle.replay_theory.specs.Exact.{OneEnd, Alike}
use Rattle.replay_theory.specs.declared.Numbers.{Numbers}
use Rattle.replay_theory.proofs.AtMostOneStep.{alike_back}

-- ---- Reasons to stop

-- A move of a line in one run is a move of it in a run that is alike.
move_too : {r s : Run} {l : TraceLine} {m : Move} → Alike r s → MoveOf s l m → MoveOf r l m
move_too {l = l} {m} E of = record {
  place = ap (place_of l.thread) E.numbers ∙ of.place;
  chosen = λ t w there next. of.chosen t w (sym (ap (λ (s : State). slice_get s.threads m.thread) E.state) ∙ there) next;
}

-- Where no move of the line is a reduction, there is no step.
pub no_step_beside : {r s s' : Run} {l : TraceLine} {d : Reduced} → Alike r s → NoStepOf r l → LanguageStep s l d s' → ⊥
no_step_beside E none_goes B =
    none_is_not_some (sym (none_goes B.move (move_too E B.listed)) ∙ (λ z. reduce (E.procedures z) (E.state z) B.move) ∙ B.reduces)

pub same_line : {t t' : TraceLine} (l : Line) → trace_line l ≡ Some t → trace_line l ≡ Some t' → t ≡ t'
same_line l q q' = some_injective (sym q ∙ q')

pub not_a_line : {A : Type 0} {t : TraceLine} (l : Line) → trace_line l ≡ None → trace_line l ≡ Some t → A
not_a_line l q q' = none_is_not_some (sym q ∙ q')

pub stepping : {s s' : Run} {t t' : TraceLine} {d : Reduced} → t ≡ t' → LanguageStep s t d s' → LanguageStep s t' d s'
stepping {s} {s'} {d = d} e A = subst (λ (t : TraceLine). LanguageStep s t d s') e A

-- Each line has one answer.
one_answer : {rs ss : List Run} {ds es : List Reduced} {r s : Run} {o o' : Option Line} {k : ℕ} {a b : Numbers} → Alike r s → o ≡ o' →
    Stops rs ds r o k a → Stops ss es s o' k b → a ≡ b
one_answer E same all_done all_done = refl
one_answer E same all_done (not_aline l q) = none_is_not_some same
one_answer E same all_done (cannot_step l t q none_goes) = none_is_not_some same
one_answer E same all_done (too_many l t d r' q A past) = none_is_not_some same
one_answer E same (not_aline l q) all_done = none_is_not_some (sym same)
one_answer E same (not_aline l q) (not_aline l' q') = refl
one_answer E same (not_aline l q) (cannot_step l' t q' none_goes) = not_a_line l q (ap trace_line (some_injective same) ∙ q')
one_answer E same (not_aline l q) (too_many l' t d r' q' B past) = not_a_line l q (ap trace_line (some_injective same) ∙ q')
one_answer E same (cannot_step l t q none_goes) all_done = none_is_not_some (sym same)
one_answer E same (cannot_step l t q none_goes) (not_aline l' q') = not_a_line l (ap trace_line (some_injective same) ∙ q') q
one_answer E same (cannot_step l t q none_goes) (cannot_step l' u q' none_goes') = refl
one_answer E same (cannot_step l t q none_goes) (too_many l' u d r' q' B past) =
    absurd (no_step_beside E none_goes (stepping (same_line l (ap trace_line (some_injective same) ∙ q') q) B))
one_answer E same (too_many l t d r' q A past) all_done = none_is_not_some (sym same)
one_answer E same (too_many l t d r' q A past) (not_aline l' q') = not_a_line l (ap trace_line (some_injective same) ∙ q') q
one_answer E same (too_many l t d r' q A past) (cannot_step l' u q' none_goes) =
    absurd (no_step_beside (alike_back E) none_goes (stepping (same_line l q (ap trace_line (some_injective same) ∙ q')) A))
one_answer E same (too_many l t d r' q A past) (too_many l' u e s' q' B past') = refl

itself : (r : Run) → Alike r r
itself r = record { procedures = refl; state = refl; numbers = refl; threads = refl }

pub same_end : {rs ss : List Run} {ls : List Line} {m n : ℕ} {a b : Numbers} (F : Follows rs ls m a) (G : Follows ss ls n b) → m ≡ n →
    Alike F.last G.last → a ≡ b
same_end {ss = ss} {ls} {n = n} {b = b} F G e E =
    one_answer E (ap (slice_get ls) e) F.stops (subst (λ (k : ℕ). Stops ss G.reduced G.last (slice_get ls n) (suc k) b) (sym e) G.stops)

pub one_end : OneEnd
one_end rs ls m n a b F G =
    let counted = F.runs_counted in
    let counted' = G.runs_counted in
    let steps : m ≡ n = omega (arith, counted, counted') in
    let last : F.last ≡ G.last = some_injective (sym F.last_there ∙ ap (slice_get rs) steps ∙ G.last_there) in
    (steps, same_end F G steps (subst (Alike F.last) last (itself F.last)))
