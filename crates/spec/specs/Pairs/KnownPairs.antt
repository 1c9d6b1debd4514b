-- The starred pairs of document 01, as a table: two texts and the four numbers returned.
use Rattle.std.specs.Prelude.{◌≡◌, List, [], ◌∷◌, map, ℕ, eqb}
use Prim.Native.String.{String, ◌++◌}
use Rattle.spec.specs.Text.{bytes, same, on_line, lines, on_field, fields, look_up, digit_limit, digits, leading_zero, value, numeral}
use Rattle.spec.specs.Reading.{◌>>=◌, require, seen, ensure, refuse_after, in_range, all_in_range, with_numeral, numerals, numbers, form, outside, miscounted, faulty, passed, next_line, read_line, read_lines, begin, end, or_bad_form}
use Rattle.spec.specs.Words.{leaf_words, cell_words, lock_words, hold_words, unary_words, binary_words, words, words_under, calls, least_value, largest_value, value_range, role, binding, takes_start, keeps_back, pre_of_part, pre_of_second}
use Rattle.spec.specs.Expression.{size, with_parts, listed, line_of_item, steps_among, leading, breaks_off, first_listed, expression, no_line_left, structure, among, scope_step, scope, scopes, index_of, line_of}
use Rattle.spec.specs.Program.{program_limit, program_headings, count_ranges, procedures_of, counts_of, count_line, step_of, word_line, proc_of, proc_line, item_line, item_lines, program}
use Rattle.spec.specs.Split.{split_limit, headings, header_ranges, maps_of, maps_in, start_of, header_of, header_line, lock_of, out_range, type_line, type_lines, map_line, signature_of, signature_line, row_of, start_range, may_be_empty, empty_fault, post_range, post_field, row_line, split}
use Rattle.spec.specs.Maps.{lowest, at_least, ◌=ᵐ◌, ◌≥ᵐ◌, holds_everywhere, same_numbers, ◌+ᵐ◌, ◌×ᵐ◌, share, over_whole}
use Rattle.spec.specs.Kinds.{same_kind, is, ref_location, content, first_map, second_map}
use Rattle.spec.specs.Conditions.{type_in, start_map, type_at, map_at, contains, looser_lock, may_show, row, type, kind, post, start_or, body_start, kept_back, signature, conditions_by, conditions_of, procedure_conditions}
use Rattle.spec.specs.Agreement.{same_maps, same_tree, tree_of, trees, tree, agree}
use Rattle.spec.specs.StepContexts.{step_contexts, numbered, claims_at, claims, body_step_contexts, claims_of_procedure, claims_of_procedures, claims_of, judge, first_false}
use Rattle.spec.specs.Workspace.{workspace_size}
use Rattle.spec.specs.Verdict.{takes_enough, all_take_enough, locks_take_enough, refuse_over, start_at_most_one, conditions_hold, sheets, checked, answer, verdict, numbers4, returned}
use Rattle.spec.specs.Choice.{when◌then◌else◌}
use Rattle.spec.specs.declared.Returned.{Returned}

-- ------------------------------------------------------------------ tables of pairs

-- "Bar (|) stands for byte 10"
unfoldable pub barred : String → List ℕ
barred s = map (λ b. when eqb b 124 then 10 else b) (bytes s)

pub record Pair : Type 0 where
  pub program : String
  pub split : String
  pub expected : Returned

infix 2 ◌with◌is◌
unfoldable pub ◌with◌is◌ : String → String → Returned → Pair
p with s is r = record { program = p; split = s; expected = r }

-- what the definitions give a pair; to unfold it is to unfold every definition on the way from two texts to an answer, so a new one
-- joins this list, and whoever computes names `found`
unfoldable pub found : Pair → Returned
unfolding barred bytes same on_line lines on_field fields digit_limit digits leading_zero value numeral ◌>>=◌ require seen ensure refuse_after in_range all_in_range with_numeral numerals or_bad_form numbers form outside miscounted faulty passed next_line read_line read_lines begin end size with_parts listed line_of_item steps_among leading breaks_off first_listed expression no_line_left structure among scope_step scope scopes program_limit program_headings count_ranges procedures_of counts_of count_line leaf_words cell_words lock_words hold_words unary_words binary_words words words_under calls look_up least_value largest_value value_range step_of word_line proc_of proc_line item_line item_lines program split_limit headings header_ranges maps_of maps_in start_of header_of header_line lock_of out_range type_line type_lines map_line signature_of signature_line row_of takes_start keeps_back start_range may_be_empty empty_fault post_range post_field row_line split lowest at_least ◌=ᵐ◌ ◌≥ᵐ◌ holds_everywhere same_numbers ◌+ᵐ◌ ◌×ᵐ◌ share over_whole same_kind is ref_location content first_map second_map type_in index_of line_of start_map type_at map_at same_maps same_tree tree_of trees tree agree contains looser_lock may_show row type kind post start_or body_start kept_back signature conditions_by conditions_of procedure_conditions pre_of_part pre_of_second role binding step_contexts numbered claims_at claims body_step_contexts claims_of_procedure claims_of_procedures claims_of judge first_false workspace_size takes_enough all_take_enough locks_take_enough refuse_over start_at_most_one conditions_hold sheets checked answer verdict numbers4 returned
found r = returned (verdict workspace_size (barred r.program) (barred r.split))

-- they give each row of a table its answer
unfoldable pub Answered : List Pair → Type 0
Answered rows = map found rows ≡ map (λ (r : Pair). r.expected) rows

-- ------------------------------------------------------------------ the starred pairs

unfoldable pub P : String
P = "P,16|let,0|ref,0|int,0|let,1|newtid,0|let,2|spawn,0|var,1|read,0|var,0|let,3|join,0|var,1|write,0|var,0|int,1|"

-- S, with its denominator and its spawn line
unfoldable pub S : String → String → String
S D spawn =
    "C," ++ D ++ ",1,3,2|int,0,0|ref,0,0|tid,1,0|2|1|0,0,|1,0,|0,0,|0,0,|2,0,|0,0,|" ++ spawn
    ++ "|2,0,|0,1,|1,1,|0,0,|0,0,|2,1,|0,0,|1,0,|0,0,|"

unfoldable pub Z : String
Z = "C,1,1,1,1|int,0,0|0|0,0,|"

unfoldable pub starred : List Pair
starred =
    (P with S "2" "0,1,1" is numbers4 0 0 0 0)
    ∷ (P with S "2" "0,1,0" is numbers4 32 8 4 0)
    ∷ (P with S "3" "0,1,1" is numbers4 33 15 5 0)
    ∷ (P with S "1" "0,1,1" is numbers4 30 2 0 0)
    ∷ ("P,1|int,0|" with Z is numbers4 0 0 0 0)
    ∷ ("P,1|int,65536|" with Z is numbers4 12 2 0 0)
    ∷ ("P,1|var,0|" with Z is numbers4 14 2 0 0)
    ∷ ("P,1|" with Z is numbers4 13 1 0 0)
    ∷ ("P,2|let,0|int,0|" with Z is numbers4 13 3 0 0)
    ∷ ("P,2|int,0|int,0|" with Z is numbers4 13 3 0 0)
    ∷ []
