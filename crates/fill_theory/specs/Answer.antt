-- The answer of filling, in the order 1; 10 to 15, 45 and 49; 20; 21 to 23 and 50; 43; 44; 30; 31; 41; 42.
use Rattle.std.specs.Prelude.{◌≡◌, Bool, true, ◌&&◌, List, [], ◌∷◌, ℕ, ◌≤◌, ◌<◌, min, leb, length, get_or, Option, None, Some, Result, Ok, Err}
use Rattle.spec.specs.Reading.{◌>>=◌, require}
use Rattle.spec.specs.Program.{Program}
use Rattle.spec.specs.Split.{Map, Split, split_limit}
use Rattle.spec.specs.Maps.{share}
use Rattle.spec.specs.Workspace.{workspace_size}
use Rattle.spec.specs.Verdict.{sheets, locks_take_enough, start_at_most_one, type_conditions_hold, numbers4, returned}
use Rattle.spec.specs.FirstFalse.{AllHold}
use Rattle.spec.specs.Accepted.{Judgeable, AtMost}
use Rattle.spec.specs.declared.Location.{Location}
use Rattle.spec.specs.declared.Purpose.TheVariants.{Fill}
use Rattle.spec.specs.declared.Returned.{Returned}
use Rattle.spec.specs.declared.Answer.TheVariants.{Refuse}
use Rattle.spec.specs.declared.Refusal.{Refusal}
use Rattle.spec.specs.declared.Refusal.TheVariants.{ShortWorkspace, NoAfterMaps, TooLarge, TooManyMaps}
use Rattle.text_theory.specs.Text.{in_front}
use Rattle.text_theory.specs.Sheet.{sheet_text}
use Rattle.fill_theory.specs.Filled.{filled}
use Rattle.fill_theory.specs.AfterMaps.{type_claims, GreatestMaps}
use Rattle.fill_theory.specs.GreatestMaps.{greatest_maps}

-- "43 if the given sheet has over 256 maps"
unfoldable pub given_limit : ℕ
given_limit = 256

-- "42 if the greatest has a number above 1,000,000,000"
unfoldable pub number_limit : ℕ
number_limit = 1000000000

-- no number of a map, of any map, is above the limit
unfoldable pub map_at_most : (limit : ℕ) → Map → Bool
map_at_most limit [] = true
map_at_most limit (a ∷ m) = leb a limit && map_at_most limit m

unfoldable pub all_at_most : (limit : ℕ) → List Map → Bool
all_at_most limit [] = true
all_at_most limit (m ∷ ms) = map_at_most limit m && all_at_most limit ms

-- what is found, or a refusal
unfoldable pub found_or : {A : Type 0} → Refusal → Option A → Result A Refusal
found_or r None = Err r
found_or r (Some a) = Ok a

-- 41 and 42: the text of the split with its greatest after-maps, for a buffer of so many bytes
unfoldable pub filled_text : (buffer : ℕ) → Program → Split → Result (List ℕ) Refusal
filled_text buffer P S = do
  γ ← found_or NoAfterMaps (greatest_maps P S)
  small ← require (all_at_most number_limit γ) TooLarge
  short ← require (leb (length (sheet_text (filled S γ))) (min split_limit buffer)) TooLarge
  Ok (sheet_text (filled S γ))

-- the answer to a pair of texts, with a work space of `room` numbers and a buffer of `buffer` bytes
unfoldable pub fill : (room buffer : ℕ) → (program_text split_text : List ℕ) → Result (List ℕ) Refusal
fill room buffer program_text split_text = do
  enough ← require (leb workspace_size room) ShortWorkspace
  (P, S) ← sheets Fill program_text split_text
  few ← require (leb S.header.maps given_limit) TooManyMaps
  locks ← locks_take_enough S
  whole ← start_at_most_one P S
  types_hold ← type_conditions_hold P S
  filled_text buffer P S

-- ------------------------------------------------------------------ when a sheet is written

-- nothing is refused before 41: both sheets are well formed, at most 256 maps are given, 44, 30 and every (T) condition pass
pub record Fillable (room : ℕ) (program_text split_text : List ℕ) (P : Program) (S : Split) : Type 0 where
  pub enough : workspace_size ≤ room
  pub judgeable : Judgeable Fill program_text split_text P S
  pub few : S.header.maps ≤ given_limit
  pub types_hold : AllHold (type_claims P S)

-- the split with the maps γ filled in keeps the size limits
pub record WithinLimits (buffer : ℕ) (S : Split) (γ : List Map) : Type 0 where
  pub small : (i : ℕ) → AtMost number_limit (get_or γ i [])
  pub not_long : length (sheet_text (filled S γ)) ≤ split_limit
  pub has_room : length (sheet_text (filled S γ)) ≤ buffer

-- a text that is written: that of the split with its greatest after-maps, within the size limits
pub record FilledSheet (room buffer : ℕ) (program_text split_text text : List ℕ) : Type 0 where
  pub P : Program
  pub S : Split
  pub γ : List Map
  pub fillable : Fillable room program_text split_text P S
  pub greatest : GreatestMaps P S γ
  pub limits : WithinLimits buffer S γ
  pub is_text : text ≡ sheet_text (filled S γ)

-- the split with the maps γ filled in goes over a size limit: a number of some step and location above 1,000,000,000, or a sheet over
-- 65,536 bytes, or over the buffer
pub data OverLimits (buffer : ℕ) (S : Split) (γ : List Map) : Type 0 where
  large_number : (i : ℕ) (p : Location) → number_limit < share (get_or γ i []) p → OverLimits buffer S γ
  long_sheet : split_limit < length (sheet_text (filled S γ)) → OverLimits buffer S γ
  short_buffer : buffer < length (sheet_text (filled S γ)) → OverLimits buffer S γ

-- "42 if the greatest has a number above 1,000,000,000 or the filled sheet is over 65,536 bytes or over the buffer"
pub record GreatestOverLimits (buffer : ℕ) (P : Program) (S : Split) : Type 0 where
  pub γ : List Map
  pub greatest : GreatestMaps P S γ
  pub over : OverLimits buffer S γ

-- ------------------------------------------------------------------ what is returned

-- "otherwise the answer is 0, the length, 0, 0"
unfoldable pub returned_for : Result (List ℕ) Refusal → Returned
returned_for (Err r) = returned (Refuse r)
returned_for (Ok text) = numbers4 0 (length text) 0 0

-- "On refusal the output buffer is unchanged; otherwise [..] the buffer past the text is unchanged"
unfoldable pub buffer_after : Result (List ℕ) Refusal → (buffer : List ℕ) → List ℕ
buffer_after (Err r) buffer = buffer
buffer_after (Ok text) buffer = in_front text buffer
