-- From what a drill tells to the pair of a seed, which buffers for any sheet have room for.
use Rattle.std.proofs.Common.{Option, None, Some}
use mathlib.Core.Path.{◌≡◌, refl, sym, ap, ◌∙◌}
use mathlib.Core.List.{List}
use Prim.Native.Nat.{ℕ, ◌≤◌}
use native.Mathlib.Omega.{arith}
use lib.ListN.{length, take, length-take}
use borrow.Author.Tests.{le-leb}
use Rattle.spec.specs.Program.{program_limit}
use Rattle.spec.specs.Split.{split_limit}
use Rattle.spec.proofs.Clashes.{none_is_not_some}
use Rattle.drill_theory.specs.Draw.{drawn, readers_of}
use Rattle.drill_theory.specs.Pair.{program_of, split_of}
use Rattle.drill_theory.proofs.Accepted.{readers_drawable}
use Rattle.text_theory.specs.Text.{in_front}
use Rattle.drill.specs.Answer.{Numbers, drilled_numbers, returned_by, roomy, answer_of}
use Rattle.drill.specs.declared.Drilled.{Drilled}
use Rattle.drill.proofs.Drilling.{program_within, split_within, front_back}
use Rattle.racedrill.specs.Seed.{seed_of}
use Rattle.racedrill.specs.Pair.{Drill, pair_of, shown, Roomy}
use Rattle.racedrill.specs.Made.{TextsOf, LineOf}

-- ------------------------------------------------------------------ the pair of a word

pub none_of : (o : Option ℕ) (program split : List ℕ) → o ≡ None → shown None program split ≡ pair_of o
unfolding shown pair_of
none_of o program split e = rw e

-- buffers that have room for any sheet have room for every pair
roomy_answer : (seed a b : ℕ) → Roomy a b → answer_of seed a b ≡ drilled_numbers 0 (drawn seed) (length (program_of seed)) (length (split_of seed))
unfolding answer_of roomy program_of split_of readers_of program_limit split_limit
roomy_answer seed a b R =
    let p : length (program_of seed) ≤ a = omega (arith, program_within (readers_drawable (drawn seed)), R.any_program) in
    let s : length (split_of seed) ≤ b = omega (arith, split_within (readers_drawable (drawn seed)), R.any_split) in
    simp (le-leb _ _ p, le-leb _ _ s)

module _ (seed a b : ℕ) (R : Roomy a b) (program split program' split' : List ℕ) where
  pub pair_of_lem : (r : Option Drilled) → returned_by r ≡ answer_of seed a b
      → ((returned_by r).number ≡ 0 → (program' ≡ in_front (program_of seed) program) × (split' ≡ in_front (split_of seed) split))
      → (o : Option ℕ) → o ≡ Some seed → shown r program' split' ≡ pair_of o
  unfolding returned_by drilled_numbers shown pair_of
  pair_of_lem None answers written o e = let told = answers ∙ roomy_answer seed a b R in absurd (omega (arith, ap (λ (n : Numbers). n.number) told))
  pair_of_lem (Some d) answers written o e =
      let told = answers ∙ roomy_answer seed a b R in
      let fronts = written refl in
      let ep : d.program ≡ length (program_of seed) = ap (λ (n : Numbers). n.program) told in
      let es : d.split ≡ length (split_of seed) = ap (λ (n : Numbers). n.split) told in
      let tp = front_back d.program program' (program_of seed) program ep fronts.0 in
      let ts = front_back d.split split' (split_of seed) split es fronts.1 in
      ap Some (λ i. record {
        next = ap (λ (n : Numbers). n.next) told i;
        program_length = ep i;
        split_length = es i;
        program = tp i;
        split = ts i;
      })
      ∙ ap pair_of (sym e)

-- ------------------------------------------------------------------ its texts

part : (n : ℕ) (text buffer : List ℕ) → n ≡ length text → take n buffer ≡ text → n ≤ length buffer
part n text buffer e h = omega (arith, length-take n buffer, ap length h, e)

same_drill : {x y : Drill} → Some x ≡ Some y → x ≡ y
same_drill h = cc

-- a pair that is shown is within its buffers
pub shown_within : (d : Drilled) (o : Option ℕ) (program split : List ℕ) → shown (Some d) program split ≡ pair_of o
    → (d.program ≤ length program) × (d.split ≤ length split)
unfolding shown pair_of
shown_within d None program split h = none_is_not_some (sym h)
shown_within d (Some seed) program split h =
    let same = same_drill h in (
      part d.program (program_of seed) program (ap (λ (y : Drill). y.program_length) same) (ap (λ (y : Drill). y.program) same),
      part d.split (split_of seed) split (ap (λ (y : Drill). y.split_length) same) (ap (λ (y : Drill). y.split) same),
    )

-- what a pair that is shown has in front of its buffers, and in its line
module _ (d : Drilled) (word program split : List ℕ) (h : shown (Some d) program split ≡ pair_of (seed_of word)) where
  drill : Drill
  drill = record { next = d.next; program_length = d.program; split_length = d.split; program = take d.program program; split = take d.split split }

  asked : pair_of (seed_of word) ≡ Some drill
  unfolding shown drill
  asked = sym h

  pub texts_shown : TextsOf word (take d.program program) (take d.split split)
  unfolding drill
  texts_shown = record { drill = drill; asked = asked; program_text = refl; split_text = refl }

  pub line_shown : LineOf word d.next d.program d.split
  unfolding drill
  line_shown = record { drill = drill; asked = asked; new_x = refl; program_long = refl; split_long = refl }
