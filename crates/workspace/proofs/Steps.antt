-- Laws of the steps that the work space stores: how many there are, which stand behind others, that they stay while what is beside
-- them changes, that they are the steps that the work space holds, and one step more.
use mathlib.Core.Path.{◌≡◌, refl, ap, ◌∙◌}
use mathlib.Core.Logic.{◌⊎◌, inl, inr, ⊎_elim}
use mathlib.Core.List.{List, [], ◌∷◌, ◌++◌, map}
use Prim.Native.Nat.{ℕ, suc, zero, ◌+◌, ◌-◌, ◌<◌, ◌≤◌}
use native.Mathlib.Omega.{arith}
use lib.ListN.{length, drop, set, length-set, length-append, length-map}
use Rattle.spec.specs.Expression.{Step}
use Rattle.workspace.specs.Layout.{work_size, words_at, values_at, ends_at, lines_at, row_types_at, step_room, code_of}
use Rattle.workspace.specs.Region.{Region, ChangedWithin}
use Rattle.workspace.specs.Steps.{word_at, value_at, step_line_at, steps_from}
use Rattle.workspace.specs.Holds.{HoldsSteps}
use Rattle.workspace.proofs.Codes.{word_of_code}
use Rattle.workspace.proofs.Region.{column_push, region_apart, region_moved, region_first, region_behind}

pub steps_length : (w : List ℕ) (k n : ℕ) → length (steps_from w k n) ≡ n
unfolding steps_from
steps_length w k zero = refl
steps_length w k (suc n) = ap suc (steps_length w (k + 1) n)

pub steps_drop : (w : List ℕ) (k n j : ℕ) → drop j (steps_from w k n) ≡ steps_from w (k + j) (n - j)
unfolding steps_from
steps_drop w k n zero = let e : n - 0 ≡ n = omega arith in let f : k + 0 ≡ k = omega arith in rw (e, f) refl
steps_drop w k zero (suc j) = let e : 0 - suc j ≡ 0 = omega arith in rw e refl
steps_drop w k (suc n) (suc j) =
    let e : suc n - suc j ≡ n - j = omega arith in
    let f : k + suc j ≡ k + 1 + j = omega arith in
    rw (e, f) (steps_drop w (k + 1) n j)

-- a part of the work space that has nothing of a step line: ends and lets, or what is behind the lines
abbrev pub NoStep : (a b : ℕ) → Type 0
NoStep a b = ((ends_at ≤ a) × (b ≤ lines_at)) ⊎ (row_types_at ≤ a)

module _ {a b : ℕ} where
  -- what stands in the columns of words and numbers, or in that of lines, stands outside such a part
  pub beside_words : (i : ℕ) → i ≤ ends_at → NoStep a b → i ≤ a
  beside_words i h o = ⊎_elim (λ p. omega (arith, p.0)) (λ p. omega arith) o

  pub beside_lines : (i n : ℕ) → lines_at ≤ i → i + n ≤ row_types_at → NoStep a b → (i + n ≤ a) ⊎ (b ≤ i)
  beside_lines i n h l o = ⊎_elim (λ p. inr (omega (arith, p.1))) (λ p. inl (omega arith)) o

-- the steps stay where only such a part changes
pub steps_kept_beside : {a b : ℕ} {w w' : List ℕ} → ChangedWithin a b w w' → NoStep a b → (k n : ℕ) → k + n ≤ step_room → steps_from w' k n ≡ steps_from w k n
unfolding steps_from word_at value_at step_line_at
steps_kept_beside c o k zero l = refl
steps_kept_beside {a} {b} c o k (suc n) l =
    rw (
      c.kept (words_at + k) (inl (omega (arith, beside_words ends_at (omega arith) o))),
      c.kept (values_at + k) (inl (omega (arith, beside_words ends_at (omega arith) o))),
      c.kept (lines_at + k) (⊎_elim (λ p. inr (omega (arith, p.1))) (λ p. inl (omega arith)) o),
      steps_kept_beside c o (k + 1) n (omega arith),
    )
    refl

pub steps_kept : {a b : ℕ} {w w' : List ℕ} → ChangedWithin a b w w' → row_types_at ≤ a → (k n : ℕ) → k + n ≤ step_room → steps_from w' k n ≡ steps_from w k n
steps_kept c h = steps_kept_beside c (inr h)

-- the steps that the work space holds are those that it stores
held_from : (w : List ℕ) (k : ℕ) (steps : List Step) → Region w (words_at + k) (map (λ (s : Step). code_of s.word) steps)
    → Region w (values_at + k) (map (λ (s : Step). s.value) steps) → Region w (lines_at + k) (map (λ (s : Step). s.line) steps)
    → steps_from w k (length steps) ≡ steps
unfolding steps_from word_at value_at step_line_at
held_from w k [] r q p = refl
held_from w k (s ∷ steps) r q p =
    rw (region_first r, region_first q, region_first p, word_of_code s.word)
    (ap (λ l. s ∷ l)
    (held_from w (k + 1) steps
    (region_moved _ _ (omega arith) (region_behind r))
    (region_moved _ _ (omega arith) (region_behind q))
    (region_moved _ _ (omega arith) (region_behind p))))

pub steps_held : (w : List ℕ) (steps : List Step) (n : ℕ) → HoldsSteps w steps → length steps ≡ n → steps_from w 0 n ≡ steps
steps_held w steps n h e = rw (← e) (held_from w 0 steps h.words h.values h.lines)

-- one step more, stored just past them
pub steps_push : {w : List ℕ} {steps : List Step} (s : Step) (k code : ℕ) → length steps ≡ k → k < step_room → length w ≡ work_size → code ≡ code_of s.word
    → HoldsSteps w steps
    → HoldsSteps (set (set (set w (words_at + k) code) (values_at + k) s.value) (lines_at + k) s.line) (steps ++ (s ∷ []))
steps_push {w} {steps} s k code counted few long coded H =
    let w₁ : List ℕ = set w (words_at + k) code in
    let w₂ : List ℕ = set w₁ (values_at + k) s.value in
    let long₁ : length w₁ ≡ work_size = length-set w (words_at + k) code ∙ long in
    let long₂ : length w₂ ≡ work_size = length-set w₁ (values_at + k) s.value ∙ long₁ in
    let more : (f : Step → ℕ) → length (map f (steps ++ (s ∷ []))) ≡ k + 1 = λ f. simp (length-map, length-append) (omega (arith, counted)) in
    record {
      words = region_apart w₂ words_at _ (lines_at + k) s.line (inr (omega (arith, more (λ (s : Step). code_of s.word))))
          (region_apart w₁ words_at _ (values_at + k) s.value (inr (omega (arith, more (λ (s : Step). code_of s.word))))
          (rw coded (column_push w words_at (λ (s : Step). code_of s.word) steps s k counted (omega arith) H.words)));
      values = region_apart w₂ values_at _ (lines_at + k) s.line (inr (omega (arith, more (λ (s : Step). s.value))))
          (column_push w₁ values_at (λ (s : Step). s.value) steps s k counted (omega arith)
          (region_apart w values_at _ (words_at + k) code (inl (omega arith)) H.values));
      lines = column_push w₂ lines_at (λ (s : Step). s.line) steps s k counted (omega arith)
          (region_apart w₁ lines_at _ (values_at + k) s.value (inl (omega arith))
          (region_apart w lines_at _ (words_at + k) code (inl (omega arith)) H.lines));
    }
