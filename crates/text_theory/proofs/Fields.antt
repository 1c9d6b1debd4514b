-- Fields and lines that are written read back.
use mathlib.Core.Path.{◌≡◌, refl, ap, ◌∙◌}
use mathlib.Core.List.{List, [], ◌∷◌, ◌++◌, append-nil}
use Prim.Native.Nat.{ℕ}
use Rattle.spec.specs.Text.{Line, closed, on_line, lines, Field, on_field, fields}
use Rattle.text_theory.specs.Text.{line}
use Rattle.text_theory.specs.Plain.{Plain, none, more, PlainLine, last, next}

-- ------------------------------------------------------------------ fields

-- fields parted by commas: a line without the byte that closes it
unfoldable pub joined : List Field → List ℕ
joined [] = []
joined (f ∷ []) = f
joined (f ∷ g ∷ fs) = f ++ (44 ∷ joined (g ∷ fs))

field_alone : {f : Field} → Plain f → fields f ≡ f ∷ []
unfolding fields on_field
field_alone none = refl
field_alone (more c n p) = rw (c, field_alone p)

field_first : {f : Field} (u : List ℕ) → Plain f → fields (f ++ (44 ∷ u)) ≡ f ∷ fields u
unfolding fields on_field
field_first u none = refl
field_first u (more c n p) = rw (c, field_first u p)

pub fields_joined : {fs : List Field} → PlainLine fs → fields (joined fs) ≡ fs
unfolding joined
fields_joined (last p) = field_alone p
fields_joined (next {f} {g} {fs} p ps) = field_first (joined (g ∷ fs)) p ∙ ap (λ (r : List Field). f ∷ r) (fields_joined ps)

-- ------------------------------------------------------------------ lines

-- plain bytes in front of a closed line belong to it
plain_line : {f : Field} {l : List ℕ} {r : List Line} (u : List ℕ) → Plain f → lines u ≡ closed l ∷ r → lines (f ++ u) ≡ closed (f ++ l) ∷ r
unfolding lines on_line
plain_line u none e = e
plain_line u (more c n p) e = rw (n, plain_line u p e)

pub line_closed : {fs : List Field} (t : List ℕ) → PlainLine fs → lines (line fs t) ≡ closed (joined fs) ∷ lines t
unfolding line joined lines on_line
line_closed t (last {f} p) = plain_line (10 ∷ t) p refl ∙ ap (λ (l : List ℕ). closed l ∷ lines t) (append-nil f)
line_closed t (next {f} {g} {fs} p ps) = plain_line (44 ∷ line (g ∷ fs) t) p (rw (line_closed t ps))
