-- From what filling tells to what is written.
use Rattle.std.proofs.Common.{None, Some, Result, Ok, Err}
use mathlib.Core.Path.{◌≡◌, sym, ap, ◌∙◌}
use mathlib.Core.Path.{subst as along}
use mathlib.Core.List.{List}
use Prim.Native.Nat.{ℕ, ◌≤◌}
use native.Mathlib.Omega.{arith}
use lib.ListN.{length, take}
use Rattle.spec.specs.Split.{split_limit}
use Rattle.spec.specs.Workspace.{workspace_size}
use Rattle.spec.specs.Verdict.{numbers4, returned}
use Rattle.spec.specs.declared.Returned.{Returned}
use Rattle.spec.specs.declared.Answer.TheVariants.{Refuse}
use Rattle.spec.specs.declared.Refusal.{Refusal}
use Rattle.spec.proofs.Refusals.{refusal_number}
use Rattle.writer.specs.Buffer.{WrittenAt}
use Rattle.answers.specs.Line.{refusal_line, answer_line, output_line}
use Rattle.file_io.specs.Files.{InFront}
use Rattle.file_io.proofs.Buffers.{front, line_in_front}
use Rattle.fill_theory.specs.Answer.{fill, returned_for, buffer_after}
use Rattle.fill.specs.Numbers.{returned_by}
use Rattle.fill.specs.Stages.{OutcomePost}
use Rattle.fill.proofs.Promises.{begins}
use Rattle.racefill.specs.Output.{output_of}

-- in a work space and a buffer of the lengths that are wanted
pub same_fill : {room buffer : ℕ} (p s : List ℕ) → room ≡ workspace_size → buffer ≡ split_limit → fill room buffer p s ≡ fill workspace_size split_limit p s
same_fill p s enough fits = λ i. fill (enough i) (fits i) p s

-- ------------------------------------------------------------------ a sheet

text_length : (o : Result (List ℕ) Refusal) (text : List ℕ) → o ≡ Ok text → (returned_for o).line ≡ length text
unfolding returned_for numbers4
text_length o text e = rw e

pub sheet_in_front : {n : ℕ} (room : ℕ) (p s before after : List ℕ) (f : Result ℕ Refusal) {o : Result (List ℕ) Refusal} → fill room (length before) p s ≡ o
    → returned_by f ≡ returned_for (fill room (length before) p s) → after ≡ buffer_after (fill room (length before) p s) before
    → f ≡ Ok n → InFront (output_of o) n after
unfolding returned_by numbers4 output_of
sheet_in_front {n} room p s before after f same numbers buffer is =
    let told : OutcomePost (fill room (length before) p s) before after f = record { numbers = numbers; buffer = buffer } in
    let zero : (returned_by f).number ≡ 0 = rw is in
    let line : (returned_by f).line ≡ n = rw is in
    let B = begins room p s before after f told zero in
    let long = sym line ∙ ap (λ (r : Returned). r.line) told.numbers ∙ text_length _ B.text B.is in
    rw (sym same ∙ B.is) (front after long (along (λ (m : ℕ). take m after ≡ B.text) line B.taken))

-- ------------------------------------------------------------------ a refusal

refusal_output : (o : Result (List ℕ) Refusal) (r : Refusal) → returned (Refuse r) ≡ returned_for o → output_line (Some (Refuse r)) ≡ output_of o
unfolding returned_for output_of output_line answer_line numbers4
refusal_output (Err q) r e = ap refusal_line e
refusal_output (Ok t) r e = absurd (omega (arith, refusal_number r, ap (λ (n : Returned). n.number) e))

pub refusal_in_front : {n : ℕ} {r : Refusal} (o : Result (List ℕ) Refusal) (before after : List ℕ) (f : Result ℕ Refusal) {o' : Result (List ℕ) Refusal} → o ≡ o' → returned_by f ≡ returned_for o
    → f ≡ Err r → WrittenAt before after 0 (output_line (Some (Refuse r))) n → n ≤ 51 → 51 ≤ length before
    → InFront (output_of o') n after
unfolding returned_by
refusal_in_front {n} {r} o before after f same told is w short room =
    along (λ (line : List ℕ). InFront line n after) (refusal_output o r (sym (ap returned_by is) ∙ told) ∙ ap output_of same) (line_in_front 51 before after w short room (omega arith))

-- ------------------------------------------------------------------ a file that can't be read

pub line_unread : {n : ℕ} (before after : List ℕ) → WrittenAt before after 0 (output_line None) n → n ≤ 51 → length before ≡ split_limit
    → InFront (output_line None) n after
unfolding split_limit
line_unread before after w short room = line_in_front 51 before after w short (omega (arith, room)) (omega arith)
