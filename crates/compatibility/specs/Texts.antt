-- Texts as lines, one above the other.
use Rattle.std.specs.Prelude.{◌≡◌, List, [], ◌∷◌, ◌++◌, ℕ}
use Rattle.spec.specs.Text.{Line, closed, unclosed}

-- bytes without byte 10
abbrev pub OneLine : List ℕ → Type 0
OneLine [] = Unit {0}
OneLine (b ∷ l) = (b ≡ 10 → ⊥) × OneLine l

-- a line in front of a text
infixl 20 ◌above◌
unfoldable pub ◌above◌ : List ℕ → List ℕ → List ℕ
l above t = l ++ 10 ∷ t

-- the text with these lines
unfoldable pub joined : List Line → List ℕ
joined [] = []
joined (closed l ∷ ls) = l above joined ls
joined (unclosed l ∷ ls) = l

-- a change of the closed lines
unfoldable pub on_closed : (List ℕ → List ℕ) → Line → Line
on_closed f (closed l) = closed (f l)
on_closed f (unclosed l) = unclosed l
