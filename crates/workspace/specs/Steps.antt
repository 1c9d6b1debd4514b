-- The steps that the work space stores, by index.
use Rattle.std.specs.Prelude.{List, [], ◌∷◌, ℕ, suc, zero, ◌+◌, get_or}
use Rattle.spec.specs.Expression.{Step}
use Rattle.spec.specs.declared.Word.{Word}
use Rattle.workspace.specs.Layout.{words_at, values_at, lines_at, word_of}

-- the word, the number v and the line that are stored at index k
unfoldable pub word_at : List ℕ → (k : ℕ) → Word
word_at w k = word_of (get_or w (words_at + k) 0)

unfoldable pub value_at : List ℕ → (k : ℕ) → ℕ
value_at w k = get_or w (values_at + k) 0

unfoldable pub step_line_at : List ℕ → (k : ℕ) → ℕ
step_line_at w k = get_or w (lines_at + k) 0

-- the step at index k
abbrev pub step_at : List ℕ → (k : ℕ) → Step
step_at w k = record { word = word_at w k; value = value_at w k; line = step_line_at w k }

-- n steps from index k on
unfoldable pub steps_from : List ℕ → (k n : ℕ) → List Step
steps_from w k zero = []
steps_from w k (suc n) = step_at w k ∷ steps_from w (k + 1) n
