-- What code answers where a definition may refuse.
use Rattle.std.specs.Prelude.{◌≡◌, Result, Ok, Err}
use Rattle.spec.specs.declared.Refusal.{Refusal}

-- the definition's refusal; or what f makes of what the definition found, and then P holds of that
abbrev pub Answers : {A B : Type 0} → (f : A → B) → (P : A → Type 0) → Result B Refusal → Result A Refusal → Type 0
Answers f P r (Err x) = r ≡ Err x
Answers f P r (Ok a) = (r ≡ Ok (f a)) × P a

-- the same of code that has nothing more to say
abbrev pub Passes : {A : Type 0} → (P : A → Type 0) → Result (Unit {0}) Refusal → Result A Refusal → Type 0
Passes P = Answers (λ _. tt) P
