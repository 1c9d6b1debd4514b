-- What a stage of filling tells: a refusal with the buffer as it was, or a text in front of the buffer.
use Rattle.std.proofs.Common.{Result, Ok, Err}
use mathlib.Core.Path.{◌≡◌, refl, sym, ap, ◌∙◌}
use mathlib.Core.List.{List, ◌++◌}
use mathlib.Core.Logic.{◌⊎◌}
use Prim.Native.Nat.{ℕ, ◌+◌, ◌≤◌, ◌<◌, min}
use native.Mathlib.Omega.{arith}
use lib.ListN.{length, drop}
use borrow.Author.Tests.{le-leb, lt-leb}
use Rattle.spec.specs.Reading.{◌>>=◌, require}
use Rattle.spec.specs.Split.{split_limit}
use Rattle.spec.specs.Verdict.{numbers4}
use Rattle.spec.specs.declared.Refusal.{Refusal}
use Rattle.spec.specs.declared.Refusal.TheVariants.{TooLarge}
use Rattle.text_theory.specs.Text.{in_front}
use Rattle.writer.specs.Buffer.{WrittenAt}
use Rattle.writer.proofs.Buffer.{overwrite_front}
use Rattle.fill_theory.specs.Answer.{returned_for, buffer_after}
use Rattle.fill.specs.Numbers.{returned_by}
use Rattle.fill.specs.Stages.{OutcomePost, fitted}

-- ------------------------------------------------------------------ outcomes

pub refusal_sound : (r : Refusal) (buffer : List ℕ) → OutcomePost (Err r) buffer buffer (Err r)
unfolding returned_by returned_for buffer_after
refusal_sound r buffer = record { numbers = refl; buffer = refl }

pub text_sound : {n : ℕ} {after : List ℕ} (text buffer : List ℕ) → n ≡ length text → after ≡ text ++ drop (length text) buffer
    → OutcomePost (Ok text) buffer after (Ok n)
unfolding returned_by returned_for buffer_after in_front numbers4
text_sound text buffer e h = record { numbers = rw e; buffer = h }

-- the same outcome, found in another way
pub told_as : {o o' : Result (List ℕ) Refusal} {before after : List ℕ} {f : Result ℕ Refusal} → o ≡ o' → OutcomePost o before after f → OutcomePost o' before after f
told_as e t = record { numbers = t.numbers ∙ ap returned_for e; buffer = rw (← e) t.buffer }

-- ------------------------------------------------------------------ 42 by length

module _ (text before : List ℕ) where
  over : min 65536 (length before) < length text → fitted (length before) text ≡ Err TooLarge
  unfolding fitted require ◌>>=◌ split_limit
  over h = rw (lt-leb _ _ h)

  within : length text ≤ min 65536 (length before) → fitted (length before) text ≡ Ok text
  unfolding fitted require ◌>>=◌ split_limit
  within h = rw (le-leb _ _ h)

  -- n is the length that was counted
  module _ {n : ℕ} (counted : n ≡ min (0 + length text) 18446744073709551615) where
    pub too_long : length before < 18446744073709551616 → (65536 < n) ⊎ ((n ≤ 65536) × (length before < n))
        → OutcomePost (fitted (length before) text) before before (Err TooLarge)
    too_long short h = told_as (sym (over (omega (arith, h)))) (refusal_sound TooLarge before)

    pub fits_sound : {after : List ℕ} {next : ℕ} → n ≤ 65536 → n ≤ length before → WrittenAt before after 0 text next
        → OutcomePost (fitted (length before) text) before after (Ok n)
    fits_sound short room w =
        told_as (sym (within (omega arith))) (text_sound text before (omega arith) (w.holds ∙ overwrite_front before text (omega arith)))
