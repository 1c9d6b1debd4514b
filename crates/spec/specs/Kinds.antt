-- What a type line says: its kind; the location and the content of a ref; the maps of another. Whatever is asked of a type is
-- asked by these.
use Rattle.std.specs.Prelude.{Bool, List, [], ◌∷◌, ℕ, eqb, get_or}
use Rattle.spec.specs.declared.TypeNumber.{TypeNumber}
use Rattle.spec.specs.declared.MapNumber.{MapNumber}
use Rattle.spec.specs.declared.Location.{Location}
use Rattle.spec.specs.declared.TypeLine.{TypeLine}
use Rattle.spec.specs.declared.TypeLine.TheVariants.{Int, Ref, Lock, Tid, Sem, Rwlock}

-- ------------------------------------------------------------------ kinds

pub data Kind : Type 0 where
  int ref lock tid sem rwlock : Kind

-- each kind has a code of its own
abbrev pub code : Kind → ℕ
code int = 0
code ref = 1
code lock = 2
code tid = 3
code sem = 4
code rwlock = 5

abbrev pub kind_of : TypeLine → Kind
kind_of Int = int
kind_of (Ref p c) = ref
kind_of (Lock i o) = lock
kind_of (Tid k) = tid
kind_of (Sem k) = sem
kind_of (Rwlock r w) = rwlock

unfoldable pub same_kind : Kind → Kind → Bool
same_kind k l = eqb (code k) (code l)

-- a type of that kind
unfoldable pub is : Kind → TypeLine → Bool
is k t = same_kind k (kind_of t)

-- ------------------------------------------------------------------ refs

abbrev no_ref : Location × TypeNumber
no_ref = (record { 0 = 0 }, record { 0 = 0 })

-- p and c of a ref; they are asked for only where the type is one
abbrev pub reference : TypeLine → Location × TypeNumber
reference Int = no_ref
reference (Ref p c) = (p, c)
reference (Lock i o) = no_ref
reference (Tid k) = no_ref
reference (Sem k) = no_ref
reference (Rwlock r w) = no_ref

unfoldable pub ref_location : TypeLine → Location
ref_location t = (reference t).0

unfoldable pub content : TypeLine → TypeNumber
content t = (reference t).1

-- ------------------------------------------------------------------ maps

-- the maps of a type, in the order of its line: in and out of a lock, K of a tid or sem, r and w of a rwlock
abbrev pub maps : TypeLine → List MapNumber
maps Int = []
maps (Ref p c) = []
maps (Lock i o) = i ∷ o ∷ []
maps (Tid k) = k ∷ []
maps (Sem k) = k ∷ []
maps (Rwlock r w) = r ∷ w ∷ []

-- the first and the second of them; each is asked for only where the type has it
unfoldable pub first_map : TypeLine → MapNumber
first_map t = get_or (maps t) 0 (record { 0 = 0 })

unfoldable pub second_map : TypeLine → MapNumber
second_map t = get_or (maps t) 1 (record { 0 = 0 })
