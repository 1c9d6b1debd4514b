-- What the code's answer says of the definition that it stands beside.
use Rattle.std.proofs.Common.{◌≡◌, Result, Ok, Err, arith}
use mathlib.Core.Path.{refl, ap}
use Rattle.spec.specs.declared.Refusal.{Refusal}
use Rattle.program_tree.specs.Outcomes.{Answers}

-- two outcomes that are the same refusal, whatever else they might have been
pub same_refusal : {A B : Type 0} {x y : Refusal} → ◌≡◌ {A = Result A Refusal} (Err x) (Err y) → ◌≡◌ {A = Result B Refusal} (Err y) (Err x)
same_refusal {x = x} {y = y} p = let e : y ≡ x = grind arith in ap Err e

-- the definition has found a value, which the code's value b stands for
pub record Found {A B : Type 0} (f : A → B) (P : A → Type 0) (b : B) (o : Result A Refusal) : Type 0 where
  pub value : A
  pub is : o ≡ Ok value
  pub same : b ≡ f value
  pub holds : P value

module _ {A B : Type 0} (f : A → B) (P : A → Type 0) where
  -- the code goes on with b
  pub found : {b : B} (o : Result A Refusal) → Answers f P (Ok b) o → Found f P b o
  found (Err y) a = absurd (grind arith)
  found (Ok z) a = record { value = z; is = refl; same = grind arith; holds = a.1 }

  -- the code refuses, so the definition does
  pub refused : {x : Refusal} (o : Result A Refusal) → Answers f P (Err x) o → o ≡ Err x
  refused (Err y) a = same_refusal a
  refused (Ok z) a = absurd (grind arith)
