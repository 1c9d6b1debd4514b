-- The texts of a practice pair, part by part as they are written.
use mathlib.Core.Path.{◌≡◌, refl, sym, ap, ◌∙◌}
use mathlib.Core.List.{List, [], ◌∷◌, ◌++◌, append_assoc}
use Prim.Native.Nat.{ℕ, zero, suc, ◌+◌, ◌-◌, ◌*◌, ◌≤◌, ◌<◌}
use native.Mathlib.Nat.{add-sub_cancel_left}
use native.Mathlib.Omega.{arith}
use lib.ListN.{length, length-append}
use Rattle.spec.specs.Text.{bytes, Field}
use Rattle.text_theory.specs.Text.{digit, digits_within, decimal, line, text}
use Rattle.text_theory.proofs.Lines.{text_append}
use Rattle.drill_theory.specs.Pair.{step, lets, spawn, join, program_steps, program_lines, program_text, header, type_line, type_lines, falling_maps, row, start_row, spawn_rows, all_spawn_rows, join_rows, all_join_rows, rows, split_lines, split_text}
use Rattle.drill.specs.Lets.{let_text, lets_text}

-- ------------------------------------------------------------------ counting up, counting down

-- from v up to an end: one, and those behind it
one_more : (v end : ℕ) → v < end → end - v ≡ suc (end - (v + 1))
one_more v end h = omega arith

none_more : (v end : ℕ) → end ≤ v → end - v ≡ 0
none_more v end h = omega arith

one_less : (n : ℕ) → 0 < n → n ≡ suc (n - 1)
one_less n h = omega arith

-- ------------------------------------------------------------------ the program sheet

pub lets_next : (value : List ℕ) (v end : ℕ) → v < end → lets_text value v (end - v) ≡ let_text value v ++ lets_text value (v + 1) (end - (v + 1))
unfolding lets_text
lets_next value v end h = ap (lets_text value v) (one_more v end h)

pub lets_none : (value : List ℕ) (v end : ℕ) → end ≤ v → lets_text value v (end - v) ≡ []
unfolding lets_text
lets_none value v end h = ap (lets_text value v) (none_more v end h)

lets_text_lem : (value : List (List Field)) (v n : ℕ) → text (lets value v n) ≡ lets_text (text value) v n
unfolding bytes line text step lets let_text lets_text
lets_text_lem value v zero = refl
lets_text_lem value v (suc n) = rw (text_append value (lets value (v + 1) n), lets_text_lem value (v + 1) n) (simp append_assoc)

lets_length : (value : List (List Field)) (v n : ℕ) → length (lets value v n) ≡ n * suc (length value)
unfolding lets
lets_length value v zero = omega arith
lets_length value v (suc n) = rw (length-append value (lets value (v + 1) n), lets_length value (v + 1) n) (omega arith)

steps_counted_lem : (k : ℕ) → length (program_steps k) ≡ 8 * k + 8
unfolding step spawn join program_steps
steps_counted_lem k =
    rw (length-append (lets spawn 2 k), length-append (lets join (2 + k) k), lets_length spawn 2 k, lets_length join (2 + k) k)
    (omega arith)

count_line_lem : (n : ℕ) (ls : List (List Field)) → text (step "P" n ∷ ls) ≡ bytes "P," ++ ((decimal n ++ (10 ∷ [])) ++ text ls)
unfolding bytes line text step
count_line_lem n ls = rw append_assoc

steps_parts : (k : ℕ) → text (program_steps k)
    ≡ bytes "let,0\nref,0\nint,0\nlet,1\nnewtid,0\n"
    ++ (lets_text (bytes "spawn,0\nvar,1\nread,0\nvar,0\n") 2 k
    ++ (lets_text (bytes "join,0\nvar,1\n") (2 + k) k
    ++ bytes "write,0\nvar,0\nint,1\n"))
unfolding bytes digit digits_within decimal line text step spawn join program_steps
steps_parts k = rw (text_append (lets spawn 2 k), text_append (lets join (2 + k) k), lets_text_lem spawn 2 k, lets_text_lem join (2 + k) k)

pub program_parts : (k : ℕ) → program_text k
    ≡ bytes "P," ++ ((decimal (8 * k + 8) ++ (10 ∷ [])) ++ (bytes "let,0\nref,0\nint,0\nlet,1\nnewtid,0\n"
    ++ (lets_text (bytes "spawn,0\nvar,1\nread,0\nvar,0\n") 2 (2 + k - 2)
    ++ (lets_text (bytes "join,0\nvar,1\n") (2 + k) (2 + k + k - (2 + k))
    ++ bytes "write,0\nvar,0\nint,1\n"))))
unfolding program_lines program_text
program_parts k =
    rw (add-sub_cancel_left 2 k, add-sub_cancel_left (2 + k) k)
    (count_line_lem (length (program_steps k)) (program_steps k) ∙ rw (steps_counted_lem k, steps_parts k))

-- ------------------------------------------------------------------ the split sheet

pub row_parts : (t m : ℕ) → text (row t m ∷ []) ≡ (decimal t ++ (44 ∷ [])) ++ ((decimal m ++ (44 ∷ [])) ++ (10 ∷ []))
unfolding line text row
row_parts t m = simp append_assoc

pub start_row_parts : (t m s : ℕ) → text (start_row t m s ∷ []) ≡ (decimal t ++ (44 ∷ [])) ++ ((decimal m ++ (44 ∷ [])) ++ (decimal s ++ (10 ∷ [])))
unfolding line text start_row
start_row_parts t m s = simp append_assoc

text_cons : (l : List Field) (ls : List (List Field)) → text (l ∷ ls) ≡ text (l ∷ []) ++ text ls
text_cons l ls = text_append (l ∷ []) ls

-- a line in front, and the parts of those behind it
in_front_lem : (l : List Field) (ls : List (List Field)) {t : List ℕ} → text ls ≡ t → text (l ∷ ls) ≡ text (l ∷ []) ++ t
in_front_lem l ls e = text_cons l ls ∙ ap (λ (t : List ℕ). text (l ∷ []) ++ t) e

pub join_rows_parts : (m : ℕ) → text (join_rows m) ≡ text (row 0 0 ∷ []) ++ (text (row 0 m ∷ []) ++ text (row 2 (m + 1) ∷ []))
unfolding join_rows
join_rows_parts m = in_front_lem (row 0 0) _ (text_cons (row 0 m) _)

pub spawn_rows_parts : (share m : ℕ) → text (spawn_rows share m)
    ≡ text (row 0 0 ∷ []) ++ (text (start_row 0 (m + 1) share ∷ []) ++ (text (row 2 m ∷ []) ++ (text (row 0 share ∷ []) ++ text (row 1 share ∷ []))))
unfolding spawn_rows
spawn_rows_parts share m = in_front_lem (row 0 0) _ (in_front_lem (start_row 0 (m + 1) share) _ (in_front_lem (row 2 m) _ (text_cons (row 0 share) _)))

pub all_spawn_rows_next : (share m end : ℕ) → m < end
    → text (all_spawn_rows share m (end - m)) ≡ text (spawn_rows share m) ++ text (all_spawn_rows share (m + 1) (end - (m + 1)))
unfolding all_spawn_rows
all_spawn_rows_next share m end h =
    ap (λ (n : ℕ). text (all_spawn_rows share m n)) (one_more m end h) ∙ text_append (spawn_rows share m) (all_spawn_rows share (m + 1) (end - (m + 1)))

pub all_spawn_rows_none : (share m end : ℕ) → end ≤ m → text (all_spawn_rows share m (end - m)) ≡ []
unfolding all_spawn_rows text
all_spawn_rows_none share m end h = ap (λ (n : ℕ). text (all_spawn_rows share m n)) (none_more m end h)

pub all_join_rows_next : (n : ℕ) → 0 < n → text (all_join_rows n) ≡ text (join_rows (n - 1)) ++ text (all_join_rows (n - 1))
unfolding all_join_rows
all_join_rows_next n h = ap (λ (m : ℕ). text (all_join_rows m)) (one_less n h) ∙ text_append (join_rows (n - 1)) (all_join_rows (n - 1))

pub all_join_rows_none : (n : ℕ) → n ≤ 0 → text (all_join_rows n) ≡ []
unfolding all_join_rows text
all_join_rows_none zero h = refl
all_join_rows_none (suc n) h = absurd (omega arith)

pub maps_next : (n : ℕ) → 0 < n → text (falling_maps n) ≡ (decimal (n - 1) ++ (10 ∷ [])) ++ text (falling_maps (n - 1))
unfolding falling_maps text line
maps_next n h = ap (λ (m : ℕ). text (falling_maps m)) (one_less n h) ∙ sym (append_assoc (decimal (n - 1)) (10 ∷ []) (text (falling_maps (n - 1))))

pub maps_none : (n : ℕ) → n ≤ 0 → text (falling_maps n) ≡ []
unfolding falling_maps text
maps_none zero h = refl
maps_none (suc n) h = absurd (omega arith)

pub head_parts : (k : ℕ) → text (header k ∷ type_lines k)
    ≡ bytes "C," ++ ((decimal k ++ (44 ∷ [])) ++ (bytes "1,3," ++ ((decimal (k + 1) ++ (10 ∷ []))
    ++ (bytes "int,0,0\nref,0,0\ntid," ++ ((decimal (k - 1) ++ (44 ∷ [])) ++ bytes "0\n")))))
unfolding bytes digit digits_within decimal line text header type_line type_lines
head_parts k = simp append_assoc

rows_parts : (k : ℕ) → text (rows k)
    ≡ bytes "0,0,\n1,0,\n0,0,\n0,0,\n2,0,\n"
    ++ (text (all_spawn_rows (k - 1) 0 k) ++ (text (all_join_rows k) ++ bytes "0,0,\n1,0,\n0,0,\n"))
unfolding bytes digit digits_within decimal line text row rows
rows_parts k = rw (text_append (all_spawn_rows (k - 1) 0 k), text_append (all_join_rows k))

pub split_parts : (k : ℕ) → split_text k
    ≡ text (header k ∷ type_lines k) ++ (text (falling_maps (k + 1)) ++ (bytes "0,0,\n1,0,\n0,0,\n0,0,\n2,0,\n"
    ++ (text (all_spawn_rows (k - 1) 0 k) ++ (text (all_join_rows k) ++ bytes "0,0,\n1,0,\n0,0,\n"))))
unfolding split_lines split_text
split_parts k =
    text_append (header k ∷ type_lines k) (falling_maps (k + 1) ++ rows k)
    ∙ rw (text_append (falling_maps (k + 1)) (rows k), rows_parts k)
