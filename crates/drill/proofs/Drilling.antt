-- From what a drill finds to what it promises.
use Rattle.std.proofs.Common.{Option, None, Some}
use mathlib.Core.Path.{◌≡◌, refl, ◌∙◌}
use mathlib.Core.List.{List}
use mathlib.Core.Bool.{false, and-false}
use Prim.Native.Nat.{ℕ, ◌≤◌, ◌<◌}
use native.Mathlib.Omega.{arith}
use lib.ListN.{length, take, drop}
use lib.Seq.{take-append_seam}
use borrow.Author.Tests.{le-leb, lt-leb}
use Rattle.spec.specs.Program.{program_limit}
use Rattle.spec.specs.Split.{split_limit}
use Rattle.spec.specs.Verdict.{verdict}
use Rattle.spec.specs.Workspace.{workspace_size}
use Rattle.spec.specs.declared.Answer.TheVariants.{Accept}
use Rattle.spec.proofs.Accepted.{accepted_is_right}
use Rattle.writer.specs.Buffer.{overwrite}
use Rattle.writer.proofs.Buffer.{overwrite_front}
use Rattle.drill_theory.specs.Draw.{drawn, readers, readers_of, Drawable}
use Rattle.drill_theory.specs.Pair.{program_text, split_text, program_of, split_of}
use Rattle.drill_theory.proofs.Accepted.{pair_accepted, seed_accepted}
use Rattle.text_theory.specs.Text.{in_front}
use Rattle.drill.specs.Answer.{drilled_numbers, returned_by, roomy, answer_of}
use Rattle.drill.specs.declared.Drilled.{Drilled}

-- ------------------------------------------------------------------ the texts

module _ (seed x k : ℕ) (drew : x ≡ drawn seed) (counted : k ≡ readers x) where
  pub program_of_lem : program_text k ≡ program_of seed
  unfolding program_of readers_of
  program_of_lem = rw (counted, drew)

  pub split_of_lem : split_text k ≡ split_of seed
  unfolding split_of readers_of
  split_of_lem = rw (counted, drew)

-- the texts of an accepted pair are within the limits of document 01, so that their lengths can be counted
module _ {k : ℕ} (drawable : Drawable k) where
  pub program_within : length (program_text k) ≤ 16384
  unfolding program_limit
  program_within = (accepted_is_right _ _ _ (pair_accepted drawable)).judgeable.sheets.program.fits

  pub split_within : length (split_text k) ≤ 65536
  unfolding split_limit
  split_within = (accepted_is_right _ _ _ (pair_accepted drawable)).judgeable.sheets.split.fits

-- ------------------------------------------------------------------ the promise

-- the clauses of `drill`, of both buffers before and after
abbrev pub Drills : (seed : ℕ) (program split program' split' : List ℕ) → Option Drilled → Type 0
Drills seed program split program' split' r =
    (returned_by r ≡ answer_of seed (length program) (length split))
    × (((returned_by r).number ≡ 0 → (program' ≡ in_front (program_of seed) program) × (split' ≡ in_front (split_of seed) split))
    × (((returned_by r).number ≡ 38 → (program' ≡ program) × (split' ≡ split))
    × ((returned_by r).number ≡ 0 → verdict workspace_size (take (returned_by r).program program') (take (returned_by r).split split') ≡ Accept)))

-- ------------------------------------------------------------------ a buffer is too short

short : (seed : ℕ) (program split : List ℕ) → roomy seed (length program) (length split) ≡ false → Drills seed program split program split None
unfolding drilled_numbers returned_by answer_of
short seed program split h = (rw h, ((λ z. absurd (omega (arith, z))), ((λ z. (refl, refl)), (λ z. absurd (omega (arith, z))))))

pub program_short : (seed : ℕ) (program split : List ℕ) → length program < length (program_of seed) → Drills seed program split program split None
unfolding roomy
program_short seed program split h = short seed program split (simp (lt-leb (length (program_of seed)) (length program) h))

pub split_short : (seed : ℕ) (program split : List ℕ) → length split < length (split_of seed) → Drills seed program split program split None
unfolding roomy
split_short seed program split h = short seed program split (simp (lt-leb (length (split_of seed)) (length split) h, and-false))

-- ------------------------------------------------------------------ both have room

-- the text is found again in front of the buffer
pub front_back : (n : ℕ) (d s b : List ℕ) → n ≡ length s → d ≡ in_front s b → take n d ≡ s
unfolding in_front
front_back n d s b e h = rw (e, h) (take-append_seam s (drop (length s) b))

pub both_written : (seed x p s : ℕ) (program split program' split' : List ℕ)
    → x ≡ drawn seed → p ≡ length (program_of seed) → s ≡ length (split_of seed)
    → p ≤ length program → s ≤ length split
    → program' ≡ overwrite program 0 (program_of seed) → split' ≡ overwrite split 0 (split_of seed)
    → Drills seed program split program' split' (Some (record { next = x; program = p; split = s }))
unfolding drilled_numbers returned_by roomy answer_of in_front
both_written seed x p s program split program' split' ex ep es hp hs wp ws =
    let hp' : length (program_of seed) ≤ length program = omega arith in
    let hs' : length (split_of seed) ≤ length split = omega arith in
    let fp = wp ∙ overwrite_front program (program_of seed) hp' in
    let fs = ws ∙ overwrite_front split (split_of seed) hs' in
    let tp : take p program' ≡ program_of seed = front_back p program' (program_of seed) program ep fp in
    let ts : take s split' ≡ split_of seed = front_back s split' (split_of seed) split es fs in
    (simp (le-leb _ _ hp', le-leb _ _ hs') (cc), ((λ z. (fp, fs)), ((λ z. absurd (omega (arith, z))), (λ z. rw (tp, ts) (seed_accepted seed)))))
