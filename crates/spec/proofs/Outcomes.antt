-- Laws of outcomes: what goes on, what is stopped.
use Rattle.std.proofs.Common.{Result, Ok, Err}
use mathlib.Core.Path.{◌≡◌, refl}
use mathlib.Core.Bool.{Bool, true, false}
use Prim.Native.Nat.{ℕ}
use native.Mathlib.Omega.{arith}
use Rattle.spec.specs.Reading.{◌>>=◌, require}
use Rattle.spec.specs.declared.Refusal.{Refusal}

-- a stopped outcome does not go on
pub stop_is_not_on {ℓ} : {A : Type 0} {C : Type ℓ} {r : Refusal} {a : A} → Err r ≡ Ok a → C
stop_is_not_on h = let clash : ◌≡◌ {A = ℕ} 0 1 = cc in absurd (omega arith)

pub on_injective : {A : Type 0} {a b : A} → ◌≡◌ {A = Result A Refusal} (Ok a) (Ok b) → a ≡ b
on_injective h = cc

pub stop_injective : {A : Type 0} {r s : Refusal} → ◌≡◌ {A = Result A Refusal} (Err r) (Err s) → r ≡ s
stop_injective h = cc

-- ------------------------------------------------------------------ one outcome after another

-- the two go on together exactly when the first goes on and the second goes on from there
pub bind_goes_on : {A B : Type 0} {b : B} (m : Result A Refusal) (f : A → Result B Refusal) → (m >>= f) ≡ Ok b → (a : A) × (m ≡ Ok a) × (f a ≡ Ok b)
unfolding ◌>>=◌
bind_goes_on (Err r) f h = stop_is_not_on h
bind_goes_on (Ok a) f h = (a, refl, h)

-- what follows of it, said of whatever the first found
pub bind_through : {A B C : Type 0} {b : B} (m : Result A Refusal) (f : A → Result B Refusal) → (m >>= f) ≡ Ok b → ((a : A) → m ≡ Ok a → f a ≡ Ok b → C) → C
unfolding ◌>>=◌
bind_through (Err r) f h go = stop_is_not_on h
bind_through (Ok a) f h go = go a refl h

pub goes_on_bind : {A B : Type 0} {a : A} {o : Result B Refusal} (m : Result A Refusal) (f : A → Result B Refusal) → m ≡ Ok a → f a ≡ o → (m >>= f) ≡ o
unfolding ◌>>=◌
goes_on_bind m f e h = rw e h

pub bind_on : {A B : Type 0} (a : A) (f : A → Result B Refusal) → (Ok a >>= f) ≡ f a
unfolding ◌>>=◌
bind_on a f = refl

-- it does not matter which two of three are joined first
pub bind_bind : {A B C : Type 0} (m : Result A Refusal) (f : A → Result B Refusal) (g : B → Result C Refusal) → (m >>= f >>= g) ≡ (m >>= λ a. f a >>= g)
unfolding ◌>>=◌
bind_bind (Err r) f g = refl
bind_bind (Ok a) f g = refl

-- what goes on alike from whatever was found
pub bind_alike : {A B : Type 0} (m : Result A Refusal) (f g : A → Result B Refusal) → ((a : A) → m ≡ Ok a → f a ≡ g a) → (m >>= f) ≡ (m >>= g)
unfolding ◌>>=◌
bind_alike (Err r) f g h = refl
bind_alike (Ok a) f g h = h a refl

-- ------------------------------------------------------------------ demands

pub demand_goes_on : {t : Unit {0}} (b : Bool) (r : Refusal) → require b r ≡ Ok t → b ≡ true
unfolding require
demand_goes_on true r h = refl
demand_goes_on false r h = stop_is_not_on h

pub goes_on_demand : (b : Bool) (r : Refusal) → b ≡ true → require b r ≡ Ok tt
unfolding require
goes_on_demand b r h = rw h
