use Rattle.std.proofs.Common.{◌≡◌, ◌∙◌, refl, ap, sym, arith, List, [], ◌∷◌, ◌++◌, map, ℕ, ◌+◌, ◌<◌, length, drop, get_or, length-append}
use Rattle.std.proofs.Math.ListN.{get_or-append}
use Rattle.std.proofs.lemmas.List.{get_or_push}
use Rattle.text_theory.specs.Text.{decimal, line}
use Rattle.text_theory.proofs.Lines.{numbers_next, numbers_last}
use Rattle.writer.proofs.Parts.{parted, restated, onward, finish}
use Rattle.writer.proofs.write_numbers.Goals as goal

no_numbers : (ns : List ℕ) → length ns ≡ 0 → line (map decimal ns) [] ≡ 10 ∷ []
unfolding line
no_numbers [] e = refl
no_numbers (n ∷ ns) e = absurd (omega (arith, e))

-- numbers in front of a last one
module _ (front : List ℕ) (last i : ℕ) {ns : List ℕ} {n : ℕ} (e : ns ≡ front ++ last ∷ []) where
  next : i < length front → n ≡ get_or front i 0 → line (map decimal (drop i ns)) [] ≡ (decimal n ++ 44 ∷ []) ++ line (map decimal (drop (i + 1) ns)) []
  next h k = rw (e, k, ← get_or-append front (last ∷ []) 0 i h) (numbers_next (front ++ last ∷ []) i (omega (arith, length-append front (last ∷ []))))

  final : i ≡ length front → n ≡ last → line (map decimal (drop i ns)) [] ≡ decimal n ++ 10 ∷ []
  final h k =
      let long = length-append front (last ∷ []) in
      rw (e, k) (numbers_last (front ++ last ∷ []) i (omega arith) (omega arith) ∙ ap (λ (m : ℕ). decimal m ++ 10 ∷ []) (get_or_push front last 0 i (sym h)))

pub returns-in_default : goal.returns-in_default
returns-in_default c = rw (no_numbers _ c.in_default.ensures.cases) c.write_byte.ensures

pub loop-n-init : goal.loop-n-init
loop-n-init c = parted _ _ refl c.well_formed.0.0 c.ranges.at.fits

pub loop-n-preserved : goal.loop-n-preserved
loop-n-preserved c =
    onward _ _ (restated (next _ _ _ c.in-Some.ensures.cases.0 c.loop-n-test.true c.from.ensures) c.loop-n.invariant) c.write_field-next.ensures

pub returns : goal.returns
returns c = finish (restated (final _ _ _ c.in-Some.ensures.cases.0 (omega arith) c.from-2.ensures) c.loop-n.invariant) c.write_field.ensures
