-- The lets of a practice program as they are written: the lines of their value are one text, the same for each.
use Rattle.std.specs.Prelude.{List, [], ◌∷◌, ◌++◌, ℕ, zero, suc, ◌+◌}
use Rattle.spec.specs.Text.{bytes}
use Rattle.text_theory.specs.Text.{decimal}

-- a let that binds v
unfoldable pub let_text : (value : List ℕ) → (v : ℕ) → List ℕ
let_text value v = bytes "let," ++ ((decimal v ++ (10 ∷ [])) ++ value)

-- n of them, from v upward
unfoldable pub lets_text : (value : List ℕ) → (v n : ℕ) → List ℕ
lets_text value v zero = []
lets_text value v (suc n) = let_text value v ++ lets_text value (v + 1) n
