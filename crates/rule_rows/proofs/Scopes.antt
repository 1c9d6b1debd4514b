-- The types of the variables in scope, beside the lets and procedures that the work space notes for them.
use mathlib.Core.Path.{◌≡◌, refl, sym}
use mathlib.Core.Bool.{Bool, true, false}
use mathlib.Core.List.{List, [], ◌∷◌}
use Prim.Native.Nat.{ℕ, ◌+◌, ◌<◌}
use lib.Dec.{eqb}
use lib.ListN.{length, get_or}
use Rattle.spec.specs.Choice.{when◌then◌else◌}
use Rattle.spec.specs.Expression.{among}
use Rattle.spec.specs.Split.{Split, no_row}
use Rattle.spec.specs.Conditions.{Env, type_in, signature}
use Rattle.spec.specs.Words.{binding}
use Rattle.spec.specs.declared.TypeNumber.{TypeNumber}
use Rattle.spec.specs.declared.Role.{Role}
use Rattle.spec.specs.declared.Role.TheVariants.{Binds, Uses, Calls, Neither}
use Rattle.spec.proofs.Clashes.{true_is_not_false}
use Rattle.spec.proofs.Tests.{eqb_sym}
use Rattle.workspace.specs.Layout.{proc_mark}
use Rattle.workspace.specs.Holds.{let_in}

-- t is the type of what is noted as b: the let at index b, whose e1 has the row just behind it, or the procedure with the mark b
pub data BoundBy (S : Split) (b : ℕ) (t : TypeNumber) : Type 0 where
  by_let : b + 1 < length S.rows → t ≡ (get_or S.rows (b + 1) no_row).type → BoundBy S b t
  by_procedure : (f : ℕ) → b ≡ proc_mark + f → f < length S.signatures → t ≡ (signature S f).argument → BoundBy S b t

-- each variable of vars has in Γ the type of what is noted for it
pub record Scoped (S : Split) (Γ : Env) (inside : List (ℕ × ℕ)) (vars : List ℕ) : Type 0 where
  pub bound : (v : ℕ) → among v vars ≡ true → BoundBy S (let_in inside v) (type_in Γ v)

pub scoped_none : (S : Split) → Scoped S [] [] []
unfolding among
scoped_none S = record { bound = λ v h. true_is_not_false (sym h) }

-- one more variable
module _ (S : Split) (Γ : Env) (inside : List (ℕ × ℕ)) (vars : List ℕ) (C : Scoped S Γ inside vars)
    (v b : ℕ) (t : TypeNumber) (B : BoundBy S b t) where
  pub scoped_more : Scoped S ((v, t) ∷ Γ) ((v, b) ∷ inside) (v ∷ vars)
  unfolding among let_in type_in
  scoped_more = record { bound = λ u a. either u a (eqb v u) refl }
    where
      either : (u : ℕ) → among u (v ∷ vars) ≡ true → (s : Bool) → eqb v u ≡ s
          → BoundBy S (when s then b else let_in inside u) (when s then t else type_in Γ u)
      either u a true q = B
      either u a false q = C.bound u (rw (eqb_sym u v, q) at a)

  -- in the second part of a step that binds it, or binds nothing
  pub scoped_second : (r : Role) → Scoped S (binding r (v, t) Γ) (binding r (v, b) inside) (binding r v vars)
  unfolding binding
  scoped_second Binds = scoped_more
  scoped_second Uses = C
  scoped_second Calls = C
  scoped_second Neither = C
