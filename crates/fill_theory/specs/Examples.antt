-- Tables of pairs: the greatest after-maps of each, or that there are none; whole answers; and sheets before and after.
use Rattle.std.specs.Prelude.{◌≡◌, List, [], ◌∷◌, map, ℕ, Option, None, Some, Result, Ok}
use Prim.Native.String.{String, ◌++◌ as ◌++ˢ◌}
use Rattle.spec.specs.declared.Refusal.{Refusal}
use Rattle.spec.specs.Reading.{◌>>=◌}
use Rattle.spec.specs.Program.{program}
use Rattle.spec.specs.Split.{Map, split, split_limit}
use Rattle.spec.specs.StepContexts.{is_type, only}
use Rattle.spec.specs.Workspace.{workspace_size}
use Rattle.spec.specs.Verdict.{numbers4, type_conditions_hold}
use Rattle.spec.specs.Pairs.KnownPairs.{Pair, barred, ◌with◌is◌, found, P}
use Rattle.spec.specs.Pairs.EdgeSheets.{times}
use Rattle.spec.specs.declared.Purpose.TheVariants.{Fill}
use Rattle.spec.specs.declared.Returned.{Returned}
use Rattle.text_theory.specs.Text.{digit, digits_within, decimal, line, text}
use Rattle.text_theory.specs.Sheet.{heading_name, header_numbers, header_fields, out_number, type_fields, map_fields, signature_fields, post_shown, start_shown, row_fields, split_lines, sheet_text}
use Rattle.fill_theory.specs.Filled.{with_posts, filled}
use Rattle.fill_theory.specs.AfterMaps.{type_claims}
use Rattle.fill_theory.specs.Found as option
use Rattle.fill_theory.specs.Flow.{unchanged, taking, giving, needing, lending, unary_flow, binary_flow}
use Rattle.fill_theory.specs.Pass.{apply, forth, back, own_post, weight, ceiling, attainable, pass, greatest_posts, posts_of_roots}
use Rattle.fill_theory.specs.FlowOf.{asks, loops, moving, effect_of, part_transfer, binary_transfer, before_here, after_here, has_here, given_here, call_here, flow_of, roots_from, roots_of}
use Rattle.fill_theory.specs.GreatestMaps.{posts_at, map_of_step, maps_of_steps, greatest_maps}
use Rattle.fill_theory.specs.Answer.{given_limit, number_limit, map_at_most, all_at_most, found_or, filled_text, fill, returned_for}

-- ------------------------------------------------------------------ greatest after-maps

pub record Example : Type 0 where
  pub program : String
  pub split : String
  pub maps : Option (List Map)

infix 2 ◌with◌has◌
unfoldable pub ◌with◌has◌ : String → String → Option (List Map) → Example
p with s has ms = record { program = p; split = s; maps = ms }

-- what the definitions give a pair
unfoldable pub maps_found : Example → Result (Option (List Map)) Refusal
unfolding found option.◌>>=◌ option.require option.for_each unchanged taking giving needing lending apply forth back own_post weight ceiling attainable pass greatest_posts posts_of_roots asks loops moving effect_of part_transfer binary_transfer before_here after_here has_here given_here call_here unary_flow binary_flow flow_of roots_from roots_of posts_at map_of_step maps_of_steps greatest_maps
maps_found r = program (barred r.program) >>= λ p. split Fill p (barred r.split) >>= λ s. Ok (greatest_maps p s)

-- maps of one location
unfoldable pub ones : List ℕ → Option (List Map)
ones ns = Some (map (λ n. n ∷ []) ns)

-- document 01's S as a `C2` sheet without after-maps, with the start of its spawn
unfoldable pub unfilled : String → String
unfilled start =
    "C2,2,1,3,2,0|int,0,0|ref,0,0|tid,1,0|2|1|0,,|1,,|0,,|0,,|2,,|0,,|0,," ++ˢ start ++ˢ "|2,,|0,,|1,,|0,,|0,,|2,,|0,,|1,,|0,,|"

-- two locks on one lock of a whole, and so many unlocks
unfoldable pub two_locks : String → String
two_locks unlocks = "let,0|newlock,0|let,1|lock,0|var,0|let,2|lock,0|var,0|" ++ˢ unlocks

unfoldable pub two_locks_split : String → String
two_locks_split rows = "C2,1000000000,1,2,1,0|int,0,0|lock,0,0|1000000000|0,,|1,,|0,,|0,,|1,,|0,,|0,,|1,,|" ++ˢ rows

unfoldable pub examples : List Example
examples =
    -- document 01's P and S; where the spawned body starts with all that there is, the write has too little
    (P with unfilled "1" has ones (2 ∷ 2 ∷ 2 ∷ 2 ∷ 2 ∷ 2 ∷ 1 ∷ 2 ∷ 1 ∷ 1 ∷ 2 ∷ 2 ∷ 1 ∷ 2 ∷ 2 ∷ 2 ∷ [])) ∷
    (P with unfilled "0" has None) ∷
    -- the start is the map that the header names, and a spawn with no start keeps all
    ("P,3|spawn,0|newtid,0|int,0|" with "C2,2,1,2,3,1|int,0,0|tid,2,0|2|1|0|0,,|1,,|0,,|" has ones (1 ∷ 1 ∷ 0 ∷ [])) ∷
    -- an if takes the smaller of its parts, a while keeps what it has
    ("P,6|let,0|newlock,0|if,0|lock,0|var,0|int,0|" with "C2,1,1,2,1,0|int,0,0|lock,0,0|1|0,,|1,,|0,,|0,,|1,,|0,,|" has
    ones (0 ∷ 0 ∷ 0 ∷ 1 ∷ 0 ∷ 0 ∷ [])) ∷
    ("P,5|let,0|newlock,0|while,0|lock,0|var,0|" with "C2,1,1,2,1,0|int,0,0|lock,0,0|1|0,,|1,,|0,,|0,,|1,,|" has
    ones (0 ∷ 0 ∷ 0 ∷ 1 ∷ 0 ∷ [])) ∷
    -- a while whose part loses
    ("P,5|let,0|newlock,0|while,0|unlock,0|var,0|" with "C2,1,1,2,2,0|int,0,0|lock,1,0|3|1|0,,|1,,|0,,|0,,|1,,|" has None) ∷
    -- newlock and unlock take out, lock gives in
    ("P,7|let,0|newlock,0|let,1|lock,0|var,0|unlock,0|var,0|" with
    "C3,2,1,2,3,0|int,0,0|lock,1,2|4|1|2|0,,|1,,|0,,|0,,|1,,|0,,|1,,|" has ones (1 ∷ 2 ∷ 1 ∷ 3 ∷ 2 ∷ 1 ∷ 3 ∷ [])) ∷
    -- a post takes, a wait gives
    ("P,7|let,0|newsem,0|let,1|post,0|var,0|wait,0|var,0|" with "C2,2,1,2,2,0|int,0,0|sem,1,0|2|1|0,,|1,,|0,,|0,,|1,,|0,,|1,,|" has
    ones (2 ∷ 2 ∷ 2 ∷ 1 ∷ 2 ∷ 2 ∷ 1 ∷ [])) ∷
    -- a new read-write lock takes w; a reader gets r and a writer w, and gives it back
    ("P,13|let,0|newrwlock,2|let,1|rdlock,0|var,0|let,2|rdunlock,0|var,0|let,3|wrlock,0|var,0|wrunlock,0|var,0|" with
    "C2,2,1,2,3,0|int,0,0|rwlock,1,0|2|1|0|0,,|1,,|0,,|0,,|1,,|0,,|0,,|1,,|0,,|0,,|1,,|0,,|1,,|" has
    ones (0 ∷ 0 ∷ 0 ∷ 1 ∷ 0 ∷ 0 ∷ 0 ∷ 1 ∷ 0 ∷ 2 ∷ 0 ∷ 0 ∷ 2 ∷ [])) ∷
    -- a place for each reader more than w has
    ("P,1|newrwlock,3|" with "C2,2,1,1,2,0|rwlock,1,0|2|1|0,,|" has None) ∷
    -- numbers as large as they come
    ("P,10|" ++ˢ two_locks "unlock,0|var,0|" with two_locks_split "0,,|1,,|" has
    ones (1000000000 ∷ 0 ∷ 1000000000 ∷ 1000000000 ∷ 0 ∷ 1000000000 ∷ 2000000000 ∷ 1000000000 ∷ 1000000000 ∷ 2000000000 ∷ [])) ∷
    []

-- a procedure that starts with 1 and leaves 1, called behind such lines; and its sheet, in which the call keeps back the map `kept`
unfoldable pub calls_one : (n : String) → (lines : String) → String
calls_one n lines = "P2," ++ˢ n ++ˢ ",1|proc,0|var,0|" ++ˢ lines ++ˢ "call,0|int,0|"

unfoldable pub one_kept : (rows : String) → (kept : String) → String
one_kept rows kept = "C2,2,1,1,3,0|int,0,0|2|1|0|1,0,1,0|0,,|" ++ˢ rows ++ˢ "0,," ++ˢ kept ++ˢ "|0,,|"

unfoldable pub call_examples : List Example
call_examples =
    -- what is at hand is what the procedure starts with and what is kept back; no more, no less
    (calls_one "3" "" with one_kept "" "1" has ones (1 ∷ 2 ∷ 2 ∷ [])) ∷
    (calls_one "3" "" with one_kept "" "0" has None) ∷
    (calls_one "3" "" with one_kept "" "2" has None) ∷
    -- an if and a while in front of a call end with what the call wants
    (calls_one "7" "let,1|if,0|int,0|int,0|" with one_kept "0,,|0,,|0,,|0,,|" "2" has ones (1 ∷ 1 ∷ 1 ∷ 2 ∷ 2 ∷ 1 ∷ 1 ∷ [])) ∷
    (calls_one "6" "let,1|while,0|int,0|" with one_kept "0,,|0,,|0,,|" "2" has ones (1 ∷ 1 ∷ 1 ∷ 1 ∷ 1 ∷ 1 ∷ [])) ∷
    -- a while ends with no more than a call in its body leaves
    (calls_one "8" "while,0|let,1|if,0|int,0|int,0|" with one_kept "0,,|0,,|0,,|0,,|0,,|" "2" has ones (1 ∷ 1 ∷ 1 ∷ 1 ∷ 1 ∷ 1 ∷ 1 ∷ 1 ∷ [])) ∷
    -- a body that ends with less than the procedure leaves
    ("P2,2,1|proc,0|var,0|int,0|" with "C2,2,1,1,2,0|int,0,0|2|1|1,0,0,0|0,,|0,,|" has None) ∷
    -- a procedure that calls itself, and that the root does not call
    ("P2,3,1|proc,0|call,0|var,0|int,0|" with "C2,2,1,1,2,0|int,0,0|2|0|0,0,0,0|0,,1|0,,|0,,|" has ones (2 ∷ 2 ∷ 2 ∷ [])) ∷
    []

unfoldable pub AllFound : List Example → Type 0
AllFound rows = map maps_found rows ≡ map (λ (r : Example). Ok r.maps) rows

-- ------------------------------------------------------------------ whole answers

-- the answer to a pair with a buffer of so many bytes
unfoldable pub answered : (buffer : ℕ) → Pair → Returned
unfolding maps_found is_type only type_conditions_hold with_posts filled type_claims given_limit number_limit map_at_most all_at_most found_or filled_text fill returned_for digit digits_within decimal line text heading_name header_numbers header_fields out_number type_fields map_fields signature_fields post_shown start_shown row_fields split_lines sheet_text
answered buffer r = returned_for (fill workspace_size buffer (barred r.program) (barred r.split))

unfoldable pub AllAnswered : (buffer : ℕ) → List Pair → Type 0
AllAnswered buffer rows = map (answered buffer) rows ≡ map (λ (r : Pair). r.expected) rows

-- with a buffer of 30 bytes
unfoldable pub answers : List Pair
answers =
    ("P,1|int,0|" with "C2,1,1,1,1,0|int,0,0|1|0,,|" is numbers4 0 30 0 0) ∷
    -- "A `C` header is 21"
    ("P,1|int,0|" with "C,1,1,1,1|int,0,0|1|0,,|" is numbers4 21 1 0 0) ∷
    -- "An m that is a numeral is 22, any other m that is not empty is 21", after the form of t and s
    ("P,1|int,0|" with "C2,1,1,1,1,0|int,0,0|1|0,0,|" is numbers4 22 4 0 0) ∷
    ("P,1|int,0|" with "C2,1,1,1,1,0|int,0,0|1|0,9999999999,|" is numbers4 22 4 0 0) ∷
    ("P,1|int,0|" with "C2,1,1,1,1,0|int,0,0|1|0,00,|" is numbers4 21 4 0 0) ∷
    ("P,1|int,0|" with "C2,1,1,1,1,0|int,0,0|1|0,0,x|" is numbers4 21 4 0 0) ∷
    ("P,1|int,0|" with "C2,1,1,1,1,0|int,0,0|1|,0,|" is numbers4 21 4 0 0) ∷
    ("P,1|int,0|" with "C2,1,1,1,1,0|int,0,0|1|0,|" is numbers4 21 4 0 0) ∷
    ("P,1|int,0|" with "C2,1,1,1,1,0|int,0,0|1|0,,,|" is numbers4 21 4 0 0) ∷
    -- t and s keep their ranges
    ("P,1|int,0|" with "C2,1,1,1,1,0|int,0,0|1|1,,|" is numbers4 22 4 0 0) ∷
    ("P,1|int,0|" with "C2,1,1,1,1,0|int,0,0|1|0,,0|" is numbers4 22 4 0 0) ∷
    -- each reason comes before the next; M has its range, and 43 is for a sheet that is well formed; 256 maps are not too many
    ("P,1|int,0|" with "C2,1,1,1,513,0|int,0,0|1|0,,|" is numbers4 22 1 0 0) ∷
    ("P,1|int,0|" with "C2,1,1,1,257,1|int,0,0|" ++ˢ times 257 "2|" ++ˢ "0,0,|" is numbers4 22 260 0 0) ∷
    ("P,1|int,0|" with "C2,1,1,1,257,1|int,0,0|" ++ˢ times 257 "2|" ++ˢ "0,,|" is numbers4 43 0 0 0) ∷
    ("P,1|int,0|" with "C3,1,1,1,257,1|lock,0,1|" ++ˢ "1|" ++ˢ times 256 "0|" ++ˢ "0,,|" is numbers4 43 0 0 0) ∷
    ("P,1|int,0|" with "C3,1,1,2,2,0|int,0,0|lock,0,1|2|1|0,,|" is numbers4 44 3 0 0) ∷
    ("P,1|int,0|" with "C2,1,1,1,256,1|lock,0,0|" ++ˢ times 256 "2|" ++ˢ "0,,|" is numbers4 30 2 0 0) ∷
    ("P,3|let,0|newlock,0|int,0|" with "C2,1,1,2,2,0|int,0,0|lock,1,0|0|1|1,,|1,,|0,,|" is numbers4 31 2 1 0) ∷
    ("P,3|let,0|newlock,0|int,0|" with "C2,1,1,2,2,0|int,0,0|lock,1,0|0|1|0,,|1,,|0,,|" is numbers4 41 0 0 0) ∷
    ("P,1|newrwlock,64|" with "C2,1,1,1,2,0|rwlock,1,0|0|67108864|0,,|" is numbers4 41 0 0 0) ∷
    ("P,16|" ++ˢ two_locks "let,3|unlock,0|var,0|let,4|unlock,0|var,0|unlock,0|var,0|" with
    two_locks_split "0,,|0,,|1,,|0,,|0,,|1,,|0,,|1,,|" is numbers4 41 0 0 0) ∷
    ("P,10|" ++ˢ two_locks "unlock,0|var,0|" with two_locks_split "0,,|1,,|" is numbers4 42 0 0 0) ∷
    ("P,1|int,0|" with "C2,1,1,1,2,0|int,0,0|1|1|0,,|" is numbers4 42 0 0 0) ∷
    []

-- with a buffer as long as a sheet may be: two locks on one lock of a single part bring the whole to one over the largest number
unfoldable pub over_largest : Pair
over_largest =
    "P,7|let,0|newlock,0|let,1|lock,0|var,0|lock,0|var,0|" with
    "C2,1000000000,1,2,2,0|int,0,0|lock,1,0|1000000000|1|0,,|1,,|0,,|0,,|1,,|0,,|1,,|" is numbers4 42 0 0 0

-- ------------------------------------------------------------------ sheets before and after

pub record Filling : Type 0 where
  pub program : String
  pub given : String
  pub whole : String

infix 2 ◌with◌becomes◌
unfoldable pub ◌with◌becomes◌ : String → String → String → Filling
p with s becomes t = record { program = p; given = s; whole = t }

-- what is written for a pair
unfoldable pub whole_of : Filling → Result (List ℕ) Refusal
unfolding answered
whole_of r = fill workspace_size split_limit (barred r.program) (barred r.given)

unfoldable pub AllWritten : List Filling → Type 0
AllWritten rows = map whole_of rows ≡ map (λ (r : Filling). Ok (barred r.whole)) rows

unfoldable pub fillings : List Filling
fillings =
    (P with unfilled "1" becomes
    "C2,2,1,3,18,0|int,0,0|ref,0,0|tid,1,0|2|1|2|2|2|2|2|2|1|2|1|1|2|2|1|2|2|2|" ++ˢ
    "0,2,|1,3,|0,4,|0,5,|2,6,|0,7,|0,8,1|2,9,|0,10,|1,11,|0,12,|0,13,|2,14,|0,15,|1,16,|0,17,|") ∷
    -- an empty start stays empty
    ("P,3|spawn,0|newtid,0|int,0|" with "C2,2,1,2,3,1|int,0,0|tid,2,0|2|1|0|0,,|1,,|0,,|" becomes
    "C2,2,1,2,6,1|int,0,0|tid,2,0|2|1|0|1|1|0|0,3,|1,4,|0,5,|") ∷
    -- two locations, and every kind of type
    ("P,3|let,0|newlock,0|int,7|" with "C2,5,2,6,2,0|int,0,0|ref,1,0|lock,1,0|tid,0,0|sem,1,0|rwlock,1,0|5,4|0,3|0,,|2,,|0,,|" becomes
    "C2,5,2,6,5,0|int,0,0|ref,1,0|lock,1,0|tid,0,0|sem,1,0|rwlock,1,0|5,4|0,3|5,1|5,1|5,1|0,2,|2,3,|0,4,|") ∷
    -- a lock line keeps its in and its out
    ("P,7|let,0|newlock,0|let,1|lock,0|var,0|unlock,0|var,0|" with "C3,4,1,2,3,0|int,0,0|lock,1,2|4|1|2|0,,|1,,|0,,|0,,|1,,|0,,|1,,|" becomes
    "C3,4,1,2,10,0|int,0,0|lock,1,2|4|1|2|1|2|1|3|2|1|3|0,3,|1,4,|0,5,|0,6,|1,7,|0,8,|1,9,|") ∷
    -- new maps stand before the procedures, whose lines are kept; a step's map goes by its index over all bodies and the root
    (calls_one "3" "" with one_kept "" "1" becomes "C2,2,1,1,6,0|int,0,0|2|1|0|1|2|2|1,0,1,0|0,3,|0,4,1|0,5,|") ∷
    []
