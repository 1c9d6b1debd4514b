-- Laws of lists: their lengths, their places, and what holds of every element.
use Rattle.std.proofs.Common.{Some, slice_get}
use Prim.Native.Nat.{ℕ, zero, suc, ◌<◌}
use mathlib.Core.Path.{◌≡◌, refl, sym, ap, subst}
use mathlib.Core.List.{List, [], ◌∷◌, ◌++◌}
use native.Mathlib.Omega.{arith}
use lib.ListN.{set, length, take}
use Rattle.calculus.specs.State.{remove}
use Rattle.calculus.specs.Claim.{Every}
use Rattle.calculus.proofs.Laws.Maps.{some_injective, none_is_not_some}

-- ---- Lengths

pub length_set : {A : Type 0} (xs : List A) (i : ℕ) (a : A) → length (set xs i a) ≡ length xs
length_set [] i a = refl
length_set (x ∷ xs) zero a = refl
length_set (x ∷ xs) (suc i) a = ap suc (length_set xs i a)

pub length_append : {A : Type 0} (xs : List A) (a : A) → length (xs ++ (a ∷ [])) ≡ suc (length xs)
length_append [] a = refl
length_append (x ∷ xs) a = ap suc (length_append xs a)

-- Lists of one length have one length when the same place is left out.
pub length_remove : {A B : Type 0} (xs : List A) (ys : List B) (i : ℕ) → length xs ≡ length ys → length (remove xs i) ≡ length (remove ys i)
length_remove [] [] i h = refl
length_remove [] (y ∷ ys) i h = absurd (omega (arith, h))
length_remove (x ∷ xs) [] i h = absurd (omega (arith, h))
length_remove (x ∷ xs) (y ∷ ys) zero h = omega (arith, h)
length_remove (x ∷ xs) (y ∷ ys) (suc i) h = ap suc (length_remove xs ys i (omega (arith, h)))

-- ---- Places

-- Of two lists of one length, one has an element wherever the other has.
pub there_in_both : {A B : Type 0} {y : B} (xs : List A) (ys : List B) (p : ℕ) → length xs ≡ length ys → slice_get ys p ≡ Some y →
    (x : A) × (slice_get xs p ≡ Some x)
there_in_both xs [] p e h = none_is_not_some h
there_in_both [] (y ∷ ys) p e h = absurd (omega (arith, e))
there_in_both (x ∷ xs) (y ∷ ys) zero e h = (x, refl)
there_in_both (x ∷ xs) (y ∷ ys) (suc p) e h = there_in_both xs ys p (omega (arith, e)) h

-- The element at the place that was set.
pub set_here : {A : Type 0} {b : A} (xs : List A) (i : ℕ) (a : A) → slice_get xs i ≡ Some b → slice_get (set xs i a) i ≡ Some a
set_here [] i a h = none_is_not_some h
set_here (x ∷ xs) zero a h = refl
set_here (x ∷ xs) (suc i) a h = set_here xs i a h

-- ---- Lists whose every element has a property

pub every_at : {A : Type 0} (P : A → Type 0) (xs : List A) (i : ℕ) (x : A) → Every P xs → slice_get xs i ≡ Some x → P x
every_at P [] i x ps h = none_is_not_some h
every_at P (y ∷ xs) zero x ps h = subst P (some_injective h) ps.0
every_at P (y ∷ xs) (suc i) x ps h = every_at P xs i x ps.1 h

pub every_set : {A : Type 0} (P : A → Type 0) (xs : List A) (i : ℕ) (x : A) → Every P xs → P x → Every P (set xs i x)
every_set P [] i x ps h = tt
every_set P (y ∷ xs) zero x ps h = (h, ps.1)
every_set P (y ∷ xs) (suc i) x ps h = (ps.0, every_set P xs i x ps.1 h)

pub every_append : {A : Type 0} (P : A → Type 0) (xs : List A) (x : A) → Every P xs → P x → Every P (xs ++ (x ∷ []))
every_append P [] x ps h = (h, tt)
every_append P (y ∷ xs) x ps h = (ps.0, every_append P xs x ps.1 h)

pub every_to : {A : Type 0} {P Q : A → Type 0} (xs : List A) → ((x : A) → P x → Q x) → Every P xs → Every Q xs
every_to [] f ps = tt
every_to (x ∷ xs) f ps = (f x ps.0, every_to xs f ps.1)

pub every_both : {A : Type 0} {P Q R : A → Type 0} (xs : List A) → ((x : A) → P x → Q x → R x) → Every P xs → Every Q xs → Every R xs
every_both [] f ps qs = tt
every_both (x ∷ xs) f ps qs = (f x ps.0 qs.0, every_both xs f ps.1 qs.1)

-- ---- The first elements

pub there_below : {A : Type 0} {x : A} (xs : List A) (k : ℕ) → slice_get xs k ≡ Some x → k < length xs
there_below [] k h = none_is_not_some h
there_below (y ∷ xs) zero h = omega arith
there_below (y ∷ xs) (suc k) h = let later = there_below xs k h in omega (arith, later)

-- A list of m elements that are the first of another.
pub first_of : {A : Type 0} (xs ys : List A) (m : ℕ) → length xs ≡ m → ((k : ℕ) → k < m → slice_get xs k ≡ slice_get ys k) → xs ≡ take m ys
first_of [] ys zero h same = refl
first_of [] ys (suc m) h same = absurd (omega (arith, h))
first_of (x ∷ xs) ys zero h same = absurd (omega (arith, h))
first_of (x ∷ xs) [] (suc m) h same = none_is_not_some (sym (same 0 (omega arith)))
first_of (x ∷ xs) (y ∷ ys) (suc m) h same =
    let here = some_injective (same 0 (omega arith)) in
    let later = first_of xs ys m (omega (arith, h)) (λ k b. same (suc k) (omega (arith, b))) in
    λ z. here z ∷ later z

pub one_more_of : {A : Type 0} {y : A} (ys : List A) (m : ℕ) → slice_get ys m ≡ Some y → take (suc m) ys ≡ take m ys ++ (y ∷ [])
one_more_of [] m h = none_is_not_some h
one_more_of (x ∷ ys) zero h = ap (λ x'. x' ∷ []) (some_injective h)
one_more_of (x ∷ ys) (suc m) h = ap (λ xs. x ∷ xs) (one_more_of ys m h)

pub all_of : {A : Type 0} (xs : List A) (m : ℕ) → length xs ≡ m → take m xs ≡ xs
all_of [] zero h = refl
all_of [] (suc m) h = refl
all_of (x ∷ xs) zero h = absurd (omega (arith, h))
all_of (x ∷ xs) (suc m) h = ap (λ ys. x ∷ ys) (all_of xs m (omega (arith, h)))
