-- From what filling tells to the clauses of its contract.
use Rattle.std.proofs.Common.{Result, Ok, Err}
use mathlib.Core.Path.{◌≡◌, refl, sym, ap, ◌∙◌}
use mathlib.Core.List.{List}
use mathlib.Core.Logic.{◌↔◌}
use Prim.Native.Nat.{ℕ, ◌≤◌}
use native.Mathlib.Omega.{arith}
use lib.ListN.{length, take, drop}
use lib.Seq.{take-append_seam}
use borrow.Author.Tests.{le-leb}
use Rattle.spec.specs.Reading.{◌>>=◌, require}
use Rattle.spec.specs.Program.{Program}
use Rattle.spec.specs.Split.{Map, Split}
use Rattle.spec.specs.Workspace.{workspace_size}
use Rattle.spec.specs.Verdict.{verdict, numbers4, returned}
use Rattle.spec.specs.declared.Returned.{Returned}
use Rattle.spec.specs.declared.Answer.TheVariants.{Accept}
use Rattle.spec.specs.declared.Refusal.{Refusal}
use Rattle.spec.specs.declared.Refusal.TheVariants.{NoAfterMaps, TooLarge}
use Rattle.spec.proofs.Refusals.{refusal_number}
use Rattle.text_theory.specs.Text.{in_front}
use Rattle.fill_theory.specs.AfterMaps.{AfterMaps}
use Rattle.fill_theory.specs.Answer.{fill, returned_for, buffer_after, Fillable, FilledSheet, GreatestOverLimits}
use Rattle.fill_theory.proofs.Answer.{Decided, refused_unsolvable, refused_too_large, wrote_text, fillable_decided, refused_exactly_unsolvable, refused_exactly_too_large, written_exactly, written_accepted}
use Rattle.fill.specs.Numbers.{returned_by}
use Rattle.fill.specs.Stages.{OutcomePost}
use Rattle.workspace.specs.Layout.{work_size}

-- any work space that is long enough gives the same
pub room_enough : (room buffer : ℕ) (p s : List ℕ) → work_size ≤ room → fill workspace_size buffer p s ≡ fill room buffer p s
unfolding fill require ◌>>=◌ workspace_size
room_enough room buffer p s h = rw (le-leb _ _ h)

-- ------------------------------------------------------------------ the numbers of an outcome

-- 41 and 42 are the numbers of one refusal each, of those that are left
unsolvable_alone : {o : Result (List ℕ) Refusal} → Decided o → (returned_for o).number ≡ 41 → o ≡ Err NoAfterMaps
unfolding returned_for returned numbers4
unsolvable_alone refused_unsolvable h = refl
unsolvable_alone refused_too_large h = absurd (omega (arith, h))
unsolvable_alone (wrote_text t) h = absurd (omega (arith, h))

too_large_alone : {o : Result (List ℕ) Refusal} → Decided o → (returned_for o).number ≡ 42 → o ≡ Err TooLarge
unfolding returned_for returned numbers4
too_large_alone refused_unsolvable h = absurd (omega (arith, h))
too_large_alone refused_too_large h = refl
too_large_alone (wrote_text t) h = absurd (omega (arith, h))

-- 0 is the number of a text alone, and the buffer begins with it
pub record Begins (o : Result (List ℕ) Refusal) (line : ℕ) (after : List ℕ) : Type 0 where
  pub text : List ℕ
  pub is : o ≡ Ok text
  pub taken : take line after ≡ text

text_begins : (o : Result (List ℕ) Refusal) (before after : List ℕ) → after ≡ buffer_after o before → (returned_for o).number ≡ 0
    → Begins o (returned_for o).line after
unfolding returned_for buffer_after in_front numbers4
text_begins (Err r) before after e h = absurd (omega (arith, refusal_number r, h))
text_begins (Ok t) before after e h = record { text = t; is = refl; taken = rw e (take-append_seam t (drop (length t) before)) }

-- ------------------------------------------------------------------ the clauses

module _ (room : ℕ) (p s before after : List ℕ) (f : Result ℕ Refusal) (told : OutcomePost (fill room (length before) p s) before after f) where
  pub solvable_kept : (P : Program) (S : Split) → Fillable room p s P S → (returned_by f ≡ numbers4 41 0 0 0) ↔ ((σ : List Map) → AfterMaps P S σ → ⊥)
  unfolding returned_for returned numbers4
  solvable_kept P S F =
      let decides = refused_exactly_unsolvable room (length before) p s P S F in (
        λ h. decides.0 (unsolvable_alone (fillable_decided room (length before) p s P S F) (ap (λ (r : Returned). r.number) (sym told.numbers ∙ h))),
        λ unsolvable. told.numbers ∙ ap returned_for (decides.1 unsolvable),
      )

  pub too_large_kept : (P : Program) (S : Split) → Fillable room p s P S → (returned_by f ≡ numbers4 42 0 0 0) ↔ GreatestOverLimits (length before) P S
  unfolding returned_for returned numbers4
  too_large_kept P S F =
      let decides = refused_exactly_too_large room (length before) p s P S F in (
        λ h. decides.0 (too_large_alone (fillable_decided room (length before) p s P S F) (ap (λ (r : Returned). r.number) (sym told.numbers ∙ h))),
        λ over. told.numbers ∙ ap returned_for (decides.1 over),
      )

  pub begins : (returned_by f).number ≡ 0 → Begins (fill room (length before) p s) (returned_by f).line after
  begins h = rw told.numbers (text_begins _ before after told.buffer (ap (λ (r : Returned). r.number) (sym told.numbers) ∙ h))

  pub greatest_kept : (returned_by f).number ≡ 0 → FilledSheet room (length before) p s (take (returned_by f).line after)
  greatest_kept h =
      let B = begins h in
      rw B.taken ((written_exactly room (length before) p s B.text).0 B.is)

  pub accepted_kept : (returned_by f).number ≡ 0 → verdict room p (take (returned_by f).line after) ≡ Accept
  accepted_kept h =
      let B = begins h in
      rw B.taken (written_accepted room (length before) p s B.text B.is)
