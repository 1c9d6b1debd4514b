-- Which number of a type line is which: a line of each kind, with numbers that differ. Nothing else here tells the numbers apart of a `ref`, a
-- `sem` or an `rwlock`; the known pairs of crates/compatibility do.
use mathlib.Core.Path.{◌≡◌, refl}
use mathlib.Core.List.{[], ◌∷◌}
use Prim.Native.String.{String}
use Rattle.spec.specs.Text.{bytes}
use Rattle.spec.specs.Reading.{LineResult, good}
use Rattle.spec.specs.Split.{type_line}
use Rattle.spec.specs.Pairs.KnownPairs.{found}
use Rattle.spec.specs.declared.Header.{Header}
use Rattle.spec.specs.declared.Heading.{Heading}
use Rattle.spec.specs.declared.Heading.TheVariants.{C2, C3}
use Rattle.spec.specs.declared.TypeLine.{TypeLine}
use Rattle.spec.specs.declared.TypeLine.TheVariants.{Ref, Lock, Tid, Sem, Rwlock}

-- in a sheet with three locations, types and maps
abbrev header : Heading → Header
header h = record { heading = h; denominator = 1; locations = 3; types = 3; maps = 3; start = record { 0 = 0 } }

-- as the type with number 3
abbrev shown : Heading → (kind first second : String) → LineResult TypeLine
shown h kind first second = type_line (header h) 3 (bytes kind ∷ bytes first ∷ bytes second ∷ [])

pub record LinesRead : Type 0 where
  pub ref : shown C3 "ref" "1" "2" ≡ good (Ref (record { 0 = 1 }) (record { 0 = 2 }))
  pub lock : shown C3 "lock" "1" "2" ≡ good (Lock (record { 0 = 1 }) (record { 0 = 2 }))
  pub older_lock_lem : shown C2 "lock" "1" "0" ≡ good (Lock (record { 0 = 1 }) (record { 0 = 1 }))
  pub tid : shown C3 "tid" "1" "0" ≡ good (Tid (record { 0 = 1 }))
  pub sem : shown C3 "sem" "1" "0" ≡ good (Sem (record { 0 = 1 }))
  pub rwlock : shown C3 "rwlock" "1" "2" ≡ good (Rwlock (record { 0 = 1 }) (record { 0 = 2 }))

pub lines_read : LinesRead
unfolding found
lines_read = record { ref = refl; lock = refl; older_lock_lem = refl; tid = refl; sem = refl; rwlock = refl }
