-- What an expression does to the number at one location, and the posts that its conditions allow. Nothing here knows words or types:
-- FlowOf.antt says which flow an expression has.
use Rattle.std.specs.Prelude.{◌≡◌, List, [], ◌∷◌, ℕ, suc, ◌+◌, ◌≤◌}
use Rattle.fill_theory.specs.declared.Effect.{Effect}
use Rattle.fill_theory.specs.declared.UnaryTransfer.{UnaryTransfer}
use Rattle.fill_theory.specs.declared.UnaryTransfer.TheVariants.{After, Loop, Call}
use Rattle.fill_theory.specs.declared.BinaryTransfer.{BinaryTransfer}
use Rattle.fill_theory.specs.declared.BinaryTransfer.TheVariants.{InTurn, Branch, Fork}

-- ------------------------------------------------------------------ effects

-- a step that keeps the number, takes from it, gives to it, needs it to be large enough, or takes from it what it lends
unfoldable pub unchanged : Effect
unchanged = record { takes = 0; gives = 0; needs = 0; lends = 0 }

unfoldable pub taking : ℕ → Effect
taking k = record { takes = k; gives = 0; needs = 0; lends = 0 }

unfoldable pub giving : ℕ → Effect
giving k = record { takes = 0; gives = k; needs = 0; lends = 0 }

unfoldable pub needing : ℕ → Effect
needing k = record { takes = 0; gives = 0; needs = k; lends = 0 }

unfoldable pub lending : (lent taken : ℕ) → Effect
lending l k = record { takes = k; gives = 0; needs = 0; lends = l }

-- ------------------------------------------------------------------ flows

-- the steps of an expression, by the way in which the number flows through them
pub data Flow : Type 0 where
  -- a step with no part
  alone : Effect → Flow
  -- a step after its part
  after : Effect → Flow → Flow
  -- a step after its parts, the second after the first
  in_turn : Effect → Flow → Flow → Flow
  -- one part or the other
  branch : Flow → Flow → Flow
  -- a part again and again
  loop : Flow → Flow
  -- after its first part a step hands `start` to the second, which must end with at least `due`
  fork : (start due : ℕ) → Flow → Flow → Flow
  -- a part ends with exactly `at_call`, and the step with exactly `at_return`: what a procedure starts with and what it ends with, each
  -- with what is kept back
  call : (at_call at_return : ℕ) → Flow → Flow

-- the flow of a step with its parts, by its way
unfoldable pub unary_flow : UnaryTransfer → Flow → Flow
unary_flow (After E) f = after E f
unary_flow Loop f = loop f
unary_flow (Call wanted left) f = call wanted left f

unfoldable pub binary_flow : BinaryTransfer → Flow → Flow → Flow
binary_flow (InTurn E) f g = in_turn E f g
binary_flow Branch f g = branch f g
binary_flow (Fork start due) f g = fork start due f g

unfoldable pub steps : Flow → ℕ
steps (alone E) = 1
steps (after E f) = suc (steps f)
steps (in_turn E f g) = suc (steps f + steps g)
steps (branch f g) = suc (steps f + steps g)
steps (loop f) = suc (steps f)
steps (fork s k f g) = suc (steps f + steps g)
steps (call b d f) = suc (steps f)

-- ------------------------------------------------------------------ posts that pass

-- from the number before to the number after
pub record Applies (E : Effect) (before after : ℕ) : Type 0 where
  pub balance : after + E.takes ≡ before + E.gives
  pub enough : E.needs ≤ after
  pub lent : E.lends ≤ E.takes

-- Passes a i pre f: with a j for the post of step j, the steps of f, counted from i, meet their conditions from pre on.
-- A first part stands just behind its step, a second part behind the first.
unfoldable pub Passes : (a : ℕ → ℕ) → (i pre : ℕ) → Flow → Type 0
Passes a i pre (alone E) = Applies E pre (a i)
Passes a i pre (after E f) = Passes a (i + 1) pre f × Applies E (a (i + 1)) (a i)
Passes a i pre (in_turn E f g) = let j = i + 1 + steps f in
    Passes a (i + 1) pre f × Passes a j (a (i + 1)) g × Applies E (a j) (a i)
Passes a i pre (branch f g) = let j = i + 1 + steps f in
    Passes a (i + 1) pre f × Passes a j pre g × (a i ≤ a (i + 1)) × (a i ≤ a j)
Passes a i pre (loop f) =
    Passes a (i + 1) (a i) f × (a i ≤ pre) × (a i ≤ a (i + 1))
Passes a i pre (fork s k f g) = let j = i + 1 + steps f in
    Passes a (i + 1) pre f × Passes a j s g × (k ≤ a j) × Applies (taking s) (a (i + 1)) (a i)
Passes a i pre (call b d f) =
    Passes a (i + 1) pre f × (a (i + 1) ≡ b) × (a i ≡ d)

-- ------------------------------------------------------------------ flows one beside the other

-- a flow that starts by itself, with `pre`, and must end with at least `due`: the body of a procedure, or the program's own root
pub record Root : Type 0 where
  pub pre : ℕ
  pub due : ℕ
  pub flow : Flow

unfoldable pub steps_of : List Root → ℕ
steps_of [] = 0
steps_of (r ∷ rs) = steps r.flow + steps_of rs

-- with a j for the post of step j, the steps of all of them, counted from i, meet their conditions
unfoldable pub RootsPass : (a : ℕ → ℕ) → (i : ℕ) → List Root → Type 0
RootsPass a i [] = Unit {0}
RootsPass a i (r ∷ rs) = Passes a i r.pre r.flow × (r.due ≤ a i) × RootsPass a (i + steps r.flow) rs
