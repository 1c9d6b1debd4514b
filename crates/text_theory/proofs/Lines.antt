-- Laws of lines and texts.
use mathlib.Core.Path.{◌≡◌, refl, sym, ap, ◌∙◌}
use mathlib.Core.List.{List, [], ◌∷◌, ◌++◌, map, append_assoc}
use Prim.Native.Nat.{ℕ, suc, ◌+◌, ◌-◌, ◌≤◌, ◌<◌}
use native.Mathlib.Numerals.{add-one}
use native.Mathlib.Omega.{arith}
use lib.ListN.{length, drop, get_or, length-drop, drop_of_length-le}
use lib.Seq.{drop-cons}
use Rattle.spec.specs.Text.{Field}
use Rattle.text_theory.specs.Text.{decimal, line, text}

-- ------------------------------------------------------------------ one text behind another

pub line_append : (fs : List Field) (t u : List ℕ) → line fs t ++ u ≡ line fs (t ++ u)
unfolding line
line_append [] t u = refl
line_append (f ∷ []) t u = append_assoc f (10 ∷ t) u
line_append (f ∷ g ∷ fs) t u = append_assoc f (44 ∷ line (g ∷ fs) t) u ∙ ap (λ (r : List ℕ). f ++ (44 ∷ r)) (line_append (g ∷ fs) t u)

pub text_append : (ls ms : List (List Field)) → text (ls ++ ms) ≡ text ls ++ text ms
unfolding text
text_append [] ms = refl
text_append (l ∷ ls) ms = rw (text_append ls ms, ← line_append)

-- ------------------------------------------------------------------ lines of numerals

in_front_lem : (n : ℕ) (ms : List ℕ) → 1 ≤ length ms → line (map decimal (n ∷ ms)) [] ≡ (decimal n ++ (44 ∷ [])) ++ line (map decimal ms) []
unfolding line
in_front_lem n [] h = absurd (omega arith)
in_front_lem n (m ∷ ms) h = rw append_assoc

-- a numeral in front of others, and the last one
pub numbers_next : (ns : List ℕ) (i : ℕ) → i < length ns - 1
    → line (map decimal (drop i ns)) [] ≡ (decimal (get_or ns i 0) ++ (44 ∷ [])) ++ line (map decimal (drop (i + 1) ns)) []
numbers_next ns i h =
    let two : 1 ≤ length (drop (i + 1) ns) = rw length-drop (omega arith) in
    ap (λ (l : List ℕ). line (map decimal l) []) (drop-cons ns i 0 (omega arith) ∙ ap (λ (j : ℕ). get_or ns i 0 ∷ drop j ns) (sym (add-one i)))
    ∙ in_front_lem (get_or ns i 0) (drop (i + 1) ns) two

pub numbers_last : (ns : List ℕ) (i : ℕ) → 1 ≤ length ns → i ≡ length ns - 1 → line (map decimal (drop i ns)) [] ≡ decimal (get_or ns i 0) ++ (10 ∷ [])
unfolding line
numbers_last ns i h e = rw (drop-cons ns i 0 (omega arith), drop_of_length-le ns {i = suc i} (omega arith))
