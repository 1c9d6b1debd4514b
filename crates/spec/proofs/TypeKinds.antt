-- What a test of a type's kind says of the type, and back.
use mathlib.Core.Path.{◌≡◌, refl, sym, ap, ◌∙◌}
use mathlib.Core.Bool.{true}
use mathlib.Core.List.{[], ◌∷◌}
use Prim.Native.Nat.{ℕ, ◌≤◌, ◌<◌}
use lib.Dec.{leb, ltb}
use lib.ListN.{get_or}
use borrow.Author.Tests.{eqb-true, eq-eqb, le-leb, lt-ltb}
use Rattle.spec.specs.Split.{Map, Split, map_at}
use Rattle.spec.specs.Maps.{share}
use Rattle.spec.specs.Kinds.{Kind, int, ref, lock, tid, sem, rwlock, code, kind_of, same_kind, is, ref_location, content, maps, first_map, second_map}
use Rattle.spec.specs.Agreement.{agree}
use Rattle.spec.specs.Conditions.{contains}
use Rattle.spec.specs.declared.TypeNumber.{TypeNumber}
use Rattle.spec.specs.declared.Location.{Location}
use Rattle.spec.specs.declared.TypeLine.{TypeLine}
use Rattle.spec.specs.declared.TypeLine.TheVariants.{Int, Ref, Lock, Tid, Sem, Rwlock}
use Rattle.spec.proofs.Tests.{both_true, eqb_sym}

-- ------------------------------------------------------------------ kinds by their codes

-- the kind with a code
decoded : (n : ℕ) → Kind
decoded n = get_or (int ∷ ref ∷ lock ∷ tid ∷ sem ∷ rwlock ∷ []) n int

code_decoded : (k : Kind) → decoded (code k) ≡ k
unfolding decoded
code_decoded int = refl
code_decoded ref = refl
code_decoded lock = refl
code_decoded tid = refl
code_decoded sem = refl
code_decoded rwlock = refl

pub same_kind_equal : (k l : Kind) → same_kind k l ≡ true → k ≡ l
unfolding same_kind
same_kind_equal k l h = sym (code_decoded k) ∙ ap decoded (eqb-true (code k) (code l) h) ∙ code_decoded l

pub same_kind_itself : (k : Kind) → same_kind k k ≡ true
unfolding same_kind
same_kind_itself k = eq-eqb (code k) (code k) refl

pub is_same : (k : Kind) (t : TypeLine) → is k t ≡ same_kind k (kind_of t)
unfolding is
is_same k t = refl

-- two types of one kind, asked either way
pub is_turned : (x y : TypeLine) → is (kind_of x) y ≡ is (kind_of y) x
unfolding is same_kind
is_turned x y = eqb_sym (code (kind_of x)) (code (kind_of y))

-- ------------------------------------------------------------------ from a test to a type

-- the type of a kind with what another says
abbrev pub As : Kind → TypeLine → TypeLine
As int t = Int
As ref t = Ref (ref_location t) (content t)
As lock t = Lock (first_map t) (second_map t)
As tid t = Tid (first_map t)
As sem t = Sem (first_map t)
As rwlock t = Rwlock (first_map t) (second_map t)

itself : (t : TypeLine) → As (kind_of t) t ≡ t
unfolding ref_location content first_map second_map
itself Int = refl
itself (Ref p c) = refl
itself (Lock i o) = refl
itself (Tid k) = refl
itself (Sem k) = refl
itself (Rwlock r w) = refl

pub kind_is : (k : Kind) (t : TypeLine) → is k t ≡ true → kind_of t ≡ k
unfolding is
kind_is k t h = sym (same_kind_equal k (kind_of t) h)

pub is_of : (k : Kind) (t : TypeLine) → is k t ≡ true → t ≡ As k t
is_of k t h = sym (itself t) ∙ ap (λ l. As l t) (kind_is k t h)

-- a ref type, and its content agrees
pub is_ref_of : (S : Split) (t : TypeLine) (u : TypeNumber) → contains (agree S) t u ≡ true
    → (t ≡ Ref (ref_location t) (content t)) × (agree S (content t) u ≡ true)
unfolding contains
is_ref_of S t u h = let (one, agrees) = both_true (is ref t) (agree S (content t) u) h in (is_of ref t one, agrees)

-- ------------------------------------------------------------------ from a type to a test

pub of_is : {t x : TypeLine} → t ≡ x → is (kind_of x) t ≡ true
unfolding is
of_is {x = x} e = rw e (same_kind_itself (kind_of x))

pub ref_of_is : (S : Split) {t : TypeLine} {p : Location} {c : TypeNumber} (u : TypeNumber) → t ≡ Ref p c → agree S c u ≡ true → contains (agree S) t u ≡ true
unfolding contains is same_kind content
ref_of_is S u e h = rw e h

-- the maps of a type that is known
pub first_told : (S : Split) {t x : TypeLine} → t ≡ x → map_at S (first_map t) ≡ map_at S (get_or (maps x) 0 (record { 0 = 0 }))
unfolding first_map
first_told S e = rw e

pub second_told : (S : Split) {t x : TypeLine} → t ≡ x → map_at S (second_map t) ≡ map_at S (get_or (maps x) 1 (record { 0 = 0 }))
unfolding second_map
second_told S e = rw e

ref_place_lem : {t : TypeLine} {p : Location} {c : TypeNumber} → t ≡ Ref p c → ref_location t ≡ p
unfolding ref_location
ref_place_lem e = rw e

pub readable : (m : Map) {t : TypeLine} {p : Location} {c : TypeNumber} → t ≡ Ref p c → 0 < share m p → ltb 0 (share m (ref_location t)) ≡ true
readable m e w = rw (ref_place_lem e) (lt-ltb _ _ w)

pub writable : (d : ℕ) (m : Map) {t : TypeLine} {p : Location} {c : TypeNumber} → t ≡ Ref p c → d ≤ share m p
    → leb d (share m (ref_location t)) ≡ true
writable d m e w = rw (ref_place_lem e) (le-leb _ _ w)
