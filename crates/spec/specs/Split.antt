-- The split sheet.
use Rattle.std.specs.Prelude.{List, [], ◌∷◌, map, Bool, not, ℕ, zero, suc, ◌+◌, length, get_or, replicate, Option, None, Some, Result, Ok}
use Rattle.spec.specs.declared.Refusal.{Refusal}
use Rattle.spec.specs.Choice.{when◌then◌else◌}
use Rattle.spec.specs.Text.{bytes, same, lines, Field, look_up}
use Rattle.spec.specs.Reading.{split_sheet, ◌>>=◌, bad, Fault, bad_form, no_start, no_kept, LineResult, seen, or_bad_form, ensure, Range, ◌to◌, below, numerals, numbers, nth, read_line, read_lines, begin, end}
use Rattle.spec.specs.Words.{takes_start, keeps_back}
use Rattle.spec.specs.Expression.{Step}
use Rattle.spec.specs.Program.{Program}
use Rattle.spec.specs.declared.Header.{Header}
use Rattle.spec.specs.declared.Signature.{Signature}
use Rattle.spec.specs.declared.Heading.{Heading}
use Rattle.spec.specs.declared.Heading.TheVariants.{C, C2, C3}
use Rattle.spec.specs.declared.Purpose.{Purpose}
use Rattle.spec.specs.declared.Purpose.TheVariants.{Check, Fill}
use Rattle.spec.specs.declared.TypeNumber.{TypeNumber}
use Rattle.spec.specs.declared.MapNumber.{MapNumber}
use Rattle.spec.specs.declared.Location.{Location}
use Rattle.spec.specs.declared.TypeLine.{TypeLine}
use Rattle.spec.specs.declared.TypeLine.TheVariants.{Int, Ref, Lock, Tid, Sem, Rwlock}
use Rattle.spec.specs.declared.Word.{Word}

-- the most bytes that a split sheet may have
unfoldable pub split_limit : ℕ
split_limit = 65536

-- a capability mapping, document 01's "map": its numerals, one for each location, in parts of the denominator
abbrev pub Map : Type 0
Map = List ℕ

-- when filling, "A `C` header is 21"
unfoldable pub headings : Purpose → List (List ℕ × Heading)
headings Check = (bytes "C", C) ∷ (bytes "C2", C2) ∷ (bytes "C3", C3) ∷ []
headings Fill = (bytes "C2", C2) ∷ (bytes "C3", C3) ∷ []

-- r is a map: its range ends with the M of its own line
unfoldable pub header_ranges : Heading → (maps : ℕ) → List Range
header_ranges C maps = (1 to 1000000000) ∷ (1 to 16) ∷ (1 to 64) ∷ (1 to 512) ∷ []
header_ranges C2 maps = (1 to 1000000000) ∷ (1 to 16) ∷ (1 to 64) ∷ (1 to 512) ∷ below maps ∷ []
header_ranges C3 maps = (1 to 1000000000) ∷ (1 to 16) ∷ (1 to 64) ∷ (1 to 512) ∷ below maps ∷ []

-- M among the numbers of a header
unfoldable pub maps_of : List ℕ → ℕ
maps_of ns = nth 3 ns

-- without numerals the 0 is never seen: the line is 21, whatever its ranges
unfoldable pub maps_in : Option (List ℕ) → ℕ
maps_in None = 0
maps_in (Some ns) = maps_of ns

-- the location, the type and the map whose number is at index i of a line
abbrev pub nth_location : (i : ℕ) → List ℕ → Location
nth_location i ns = record { 0 = nth i ns }

abbrev pub nth_type : (i : ℕ) → List ℕ → TypeNumber
nth_type i ns = record { 0 = nth i ns }

abbrev pub nth_map : (i : ℕ) → List ℕ → MapNumber
nth_map i ns = record { 0 = nth i ns }

-- "A `C` sheet still means map 0"
unfoldable pub start_of : Heading → List ℕ → MapNumber
start_of C ns = record { 0 = 0 }
start_of C2 ns = nth_map 4 ns
start_of C3 ns = nth_map 4 ns

unfoldable pub header_of : Heading → List ℕ → Header
header_of h ns = record {
  heading = h;
  denominator = nth 0 ns;
  locations = nth 1 ns;
  types = nth 2 ns;
  maps = maps_of ns;
  start = start_of h ns;
}

unfoldable pub header_line : Purpose → List Field → LineResult Header
header_line purpose [] = bad bad_form
header_line purpose (f ∷ fs) =
    or_bad_form (look_up (headings purpose) f) λ h.
    seen (header_of h) (numbers (header_ranges h (maps_in (numerals fs))) fs)

-- "A `C3` sheet is a `C2` sheet whose lock line is `lock,in,out`"; "older lock lines mean in = out"
unfoldable pub lock_of : Heading → List ℕ → TypeLine
lock_of C ns = Lock (nth_map 0 ns) (nth_map 0 ns)
lock_of C2 ns = Lock (nth_map 0 ns) (nth_map 0 ns)
lock_of C3 ns = Lock (nth_map 0 ns) (nth_map 1 ns)

-- the third field of a lock line
unfoldable pub out_range : Heading → (maps : ℕ) → Range
out_range C maps = 0 to 0
out_range C2 maps = 0 to 0
out_range C3 maps = below maps

-- `int,0,0`; `ref,p,t`; `lock,k,0`, or `lock,in,out`; `tid,k,0`; `sem,k,0`; `rwlock,r,w`. A content type's number is less than the
-- type's own.
unfoldable pub type_line : Header → (own : ℕ) → List Field → LineResult TypeLine
type_line H own [] = bad bad_form
type_line H own (f ∷ fs) =
    when same f (bytes "int") then seen (λ ns. Int) (numbers ((0 to 0) ∷ (0 to 0) ∷ []) fs)
    else when same f (bytes "ref") then seen (λ ns. Ref (nth_location 0 ns) (nth_type 1 ns)) (numbers (below H.locations ∷ below own ∷ []) fs)
    else when same f (bytes "lock") then seen (lock_of H.heading) (numbers (below H.maps ∷ out_range H.heading H.maps ∷ []) fs)
    else when same f (bytes "tid") then seen (λ ns. Tid (nth_map 0 ns)) (numbers (below H.maps ∷ (0 to 0) ∷ []) fs)
    else when same f (bytes "sem") then seen (λ ns. Sem (nth_map 0 ns)) (numbers (below H.maps ∷ (0 to 0) ∷ []) fs)
    else when same f (bytes "rwlock") then seen (λ ns. Rwlock (nth_map 0 ns) (nth_map 1 ns)) (numbers (below H.maps ∷ below H.maps ∷ []) fs)
    else bad bad_form

-- the lines of n types, numbered from `own` upward
unfoldable pub type_lines : Header → (own n : ℕ) → List (List Field → LineResult TypeLine)
type_lines H own zero = []
type_lines H own (suc n) = type_line H own ∷ type_lines H (own + 1) n

-- a map line: a numeral for each location
unfoldable pub map_line : Header → List Field → LineResult Map
map_line H fs = numbers (replicate H.locations (0 to 1000000000)) fs

-- the signature of a procedure that is not there: never seen, since 49 refuses a call to one
abbrev pub no_signature : Signature
no_signature = record { before = record { 0 = 0 }; argument = record { 0 = 0 }; after = record { 0 = 0 }; result = record { 0 = 0 } }

unfoldable pub signature_of : List ℕ → Signature
signature_of ns = record { before = nth_map 0 ns; argument = nth_type 1 ns; after = nth_map 2 ns; result = nth_type 3 ns }

-- `before,argument,after,result`, "map, type, map, type"
unfoldable pub signature_line : Header → List Field → LineResult Signature
signature_line H fs =
    seen signature_of (numbers (below H.maps ∷ below H.types ∷ below H.maps ∷ below H.types ∷ []) fs)

-- `t,m,s`: a step's type, its post, and, if one is given, for a spawn the map that its body starts with, for a call the map kept back
pub record Row : Type 0 where
  pub type : TypeNumber
  pub post : MapNumber
  pub start : Option MapNumber

-- the row of a step that is not there: never seen, since a sheet has a row for each step
abbrev pub no_row : Row
no_row = record { type = record { 0 = 0 }; post = record { 0 = 0 }; start = None }

unfoldable pub row_of : Option MapNumber → List ℕ → Row
row_of start ns = record { type = nth_type 0 ns; post = nth_map 1 ns; start = start }

-- "On any other word s is empty": there, no number is in its range
unfoldable pub start_range : Word → Header → Range
start_range w H = below (when takes_start w then H.maps else 0)

-- where s may be empty: on a spawn, not under the heading `C`; on a call, under none
unfoldable pub may_be_empty : Heading → Word → Bool
may_be_empty C w = not (takes_start w)
may_be_empty C2 w = not (keeps_back w)
may_be_empty C3 w = not (keeps_back w)

-- "40 for an empty start on a spawn in a `C` sheet, judged after 22 on that line"; "50 for a call line without s, after 22"
unfoldable pub empty_fault : Word → Fault
empty_fault w = when keeps_back w then no_kept else no_start

-- "An m that is a numeral is 22, any other m that is not empty is 21": when filling, no number is in the range of m, and an empty
-- m is read as the number of map 0, which nothing looks at
unfoldable pub post_range : Purpose → Header → Field → Range
post_range Check H m = below H.maps
post_range Fill H [] = below H.maps
post_range Fill H (b ∷ m) = below 0

unfoldable pub post_field : Purpose → Field → Field
post_field Check m = m
post_field Fill [] = bytes "0"
post_field Fill (b ∷ m) = b ∷ m

unfoldable pub row_line : Purpose → Header → Step → List Field → LineResult Row
row_line purpose H s [] = bad bad_form
row_line purpose H s (t ∷ []) = bad bad_form
row_line purpose H s (t ∷ m ∷ []) = bad bad_form
row_line purpose H s (t ∷ m ∷ [] ∷ []) =
    ensure (may_be_empty H.heading s.word) (empty_fault s.word)
    (seen (row_of None) (numbers (below H.types ∷ post_range purpose H m ∷ []) (t ∷ post_field purpose m ∷ [])))
row_line purpose H s (t ∷ m ∷ (b ∷ f) ∷ []) =
    seen (λ ns. row_of (Some (nth_map 2 ns)) ns)
    (numbers (below H.types ∷ post_range purpose H m ∷ start_range s.word H ∷ []) (t ∷ post_field purpose m ∷ (b ∷ f) ∷ []))
row_line purpose H s (t ∷ m ∷ f ∷ g ∷ fs) = bad bad_form

-- a split: its header, its types and maps by number, the signatures of its procedures, its rows in step order
pub record Split : Type 0 where
  pub header : Header
  pub types : List TypeLine
  pub maps : List Map
  pub signatures : List Signature
  pub rows : List Row

-- 21, 22, 40, 50 and 23 line by line, for the procedures and the steps of a program
unfoldable pub split : Purpose → Program → List ℕ → Result Split Refusal
split purpose P text = do
  top ← begin split_sheet (lines text)
  (H, p₁) ← read_line split_sheet (header_line purpose) top
  (types, p₂) ← read_lines split_sheet (type_lines H 0 H.types) p₁
  (maps, p₃) ← read_lines split_sheet (replicate H.maps (map_line H)) p₂
  (signatures, p₄) ← read_lines split_sheet (replicate (length P.procedures) (signature_line H)) p₃
  (rows, p₅) ← read_lines split_sheet (map (row_line purpose H) P.steps) p₄
  done ← end split_sheet p₅
  Ok (record { header = H; types = types; maps = maps; signatures = signatures; rows = rows })

-- the type line and the map with a number. `Int` and the empty map past the last are never seen: 22 refuses such a number
module _ (S : Split) where
  unfoldable pub type_at : TypeNumber → TypeLine
  type_at t = get_or S.types t.0 Int

  unfoldable pub map_at : MapNumber → Map
  map_at m = get_or S.maps m.0 []
