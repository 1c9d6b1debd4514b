-- The split sheet as it is written.
use Rattle.std.specs.Prelude.{List, [], ◌∷◌, ◌++◌, map, ℕ, Option, None, Some}
use Rattle.spec.specs.Text.{bytes, Field}
use Rattle.spec.specs.Split.{Map, Row, Split}
use Rattle.spec.specs.declared.Signature.{Signature}
use Rattle.spec.specs.declared.Header.{Header}
use Rattle.spec.specs.declared.Heading.{Heading}
use Rattle.spec.specs.declared.Heading.TheVariants.{C, C2, C3}
use Rattle.spec.specs.declared.Purpose.{Purpose}
use Rattle.spec.specs.declared.Purpose.TheVariants.{Check, Fill}
use Rattle.spec.specs.declared.MapNumber.{MapNumber}
use Rattle.spec.specs.declared.TypeLine.{TypeLine}
use Rattle.spec.specs.declared.TypeLine.TheVariants.{Int, Ref, Lock, Tid, Sem, Rwlock}
use Rattle.text_theory.specs.Text.{decimal, text}

-- `C,D,L,T,M`, `C2,D,L,T,M,r` and `C3,D,L,T,M,r`
unfoldable pub heading_name : Heading → Field
heading_name C = bytes "C"
heading_name C2 = bytes "C2"
heading_name C3 = bytes "C3"

unfoldable pub header_numbers : Heading → Header → List ℕ
header_numbers C H = H.denominator ∷ H.locations ∷ H.types ∷ H.maps ∷ []
header_numbers C2 H = H.denominator ∷ H.locations ∷ H.types ∷ H.maps ∷ H.start.0 ∷ []
header_numbers C3 H = H.denominator ∷ H.locations ∷ H.types ∷ H.maps ∷ H.start.0 ∷ []

unfoldable pub header_fields : Header → List Field
header_fields H = heading_name H.heading ∷ map decimal (header_numbers H.heading H)

-- the third number of a lock line: its out, where the heading has it
unfoldable pub out_number : Heading → MapNumber → ℕ
out_number C o = 0
out_number C2 o = 0
out_number C3 o = o.0

-- `int,0,0`; `ref,p,t`; `lock,k,0`, or `lock,in,out`; `tid,k,0`; `sem,k,0`; `rwlock,r,w`
unfoldable pub type_fields : Heading → TypeLine → List Field
type_fields h Int = bytes "int" ∷ map decimal (0 ∷ 0 ∷ [])
type_fields h (Ref p t) = bytes "ref" ∷ map decimal (p.0 ∷ t.0 ∷ [])
type_fields h (Lock i o) = bytes "lock" ∷ map decimal (i.0 ∷ out_number h o ∷ [])
type_fields h (Tid k) = bytes "tid" ∷ map decimal (k.0 ∷ 0 ∷ [])
type_fields h (Sem k) = bytes "sem" ∷ map decimal (k.0 ∷ 0 ∷ [])
type_fields h (Rwlock r w) = bytes "rwlock" ∷ map decimal (r.0 ∷ w.0 ∷ [])

-- a numeral for each location
unfoldable pub map_fields : Map → List Field
map_fields m = map decimal m

-- `before,argument,after,result`
unfoldable pub signature_fields : Signature → List Field
signature_fields g = map decimal (g.before.0 ∷ g.argument.0 ∷ g.after.0 ∷ g.result.0 ∷ [])

-- m of a row: a sheet that is to be filled leaves it empty
unfoldable pub post_shown : Purpose → MapNumber → Field
post_shown Check m = decimal m.0
post_shown Fill m = []

-- s of a row: it stays empty where no start is given
unfoldable pub start_shown : Option MapNumber → Field
start_shown None = []
start_shown (Some m) = decimal m.0

-- `t,m,s`
unfoldable pub row_fields : Purpose → Row → List Field
row_fields purpose r = decimal r.type.0 ∷ post_shown purpose r.post ∷ start_shown r.start ∷ []

-- header, types, maps, procedures, rows
unfoldable pub split_lines : Purpose → Split → List (List Field)
split_lines purpose S =
    header_fields S.header
    ∷ (map (type_fields S.header.heading) S.types
    ++ (map map_fields S.maps
    ++ (map signature_fields S.signatures
    ++ map (row_fields purpose) S.rows)))

-- the sheet of a split, whole
unfoldable pub sheet_text : Split → List ℕ
sheet_text S = text (split_lines Check S)

-- the sheet of a split with the after-maps left out
unfoldable pub unfilled : Split → List ℕ
unfilled S = text (split_lines Fill S)
