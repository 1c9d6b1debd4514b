-- What the else of a `let .. else` on a type is told, that it is of another kind, in terms of the definitions.
use mathlib.Core.Path.{◌≡◌, refl}
use mathlib.Core.Bool.{Bool, true, false}
use Rattle.spec.specs.Kinds.{Kind, int, ref, lock, tid, sem, rwlock, is}
use Rattle.spec.specs.Conditions.{contains}
use Rattle.spec.specs.declared.Location.{Location}
use Rattle.spec.specs.declared.MapNumber.{MapNumber}
use Rattle.spec.specs.declared.TypeNumber.{TypeNumber}
use Rattle.spec.specs.declared.TypeLine.{TypeLine}
use Rattle.spec.specs.declared.TypeLine.TheVariants.{Int, Ref, Lock, Tid, Sem, Rwlock}
use Rattle.spec.proofs.TypeKinds.{As, is_of}

-- no line of the kind is the type
abbrev pub IsNot : Kind → TypeLine → Type 0
IsNot int t = t ≡ Int → ⊥
IsNot ref t = (p : Location) (c : TypeNumber) → t ≡ Ref p c → ⊥
IsNot lock t = (i o : MapNumber) → t ≡ Lock i o → ⊥
IsNot tid t = (k : MapNumber) → t ≡ Tid k → ⊥
IsNot sem t = (k : MapNumber) → t ≡ Sem k → ⊥
IsNot rwlock t = (r w : MapNumber) → t ≡ Rwlock r w → ⊥

not_as : (k : Kind) (t : TypeLine) → IsNot k t → t ≡ As k t → ⊥
not_as int t h e = h e
not_as ref t h e = h _ _ e
not_as lock t h e = h _ _ e
not_as tid t h e = h _ e
not_as sem t h e = h _ e
not_as rwlock t h e = h _ _ e

pub not_of : (k : Kind) (t : TypeLine) → IsNot k t → is k t ≡ false
not_of k t h = either (is k t) refl
  where
    either : (b : Bool) → is k t ≡ b → b ≡ false
    either true e = absurd (not_as k t h (is_of k t e))
    either false e = refl

pub not_contains : (agrees : TypeNumber → TypeNumber → Bool) (t : TypeLine) (u : TypeNumber) → IsNot ref t → contains agrees t u ≡ false
unfolding contains
not_contains agrees t u h = rw (not_of ref t h)
