-- Scopes in line order: a table has, for each variable that is bound, the index of the let that binds it, or the mark of its procedure.
use Rattle.std.specs.Prelude.{◌≡◌, List, [], ◌∷◌, ◌++◌, ℕ, suc, zero, ◌+◌, ◌-◌, ◌<◌, ◌≤◌, is_some, get_or, set, replicate, Option, None, Some, Result, Ok, Err}
use Rattle.spec.specs.declared.Refusal.{Refusal}
use Rattle.spec.specs.Choice.{when◌then◌else◌}
use Rattle.spec.specs.declared.Refusal.TheVariants.{Rebound}
use Rattle.workspace.specs.Layout.{lets_at, proc_lines_at, proc_vars_at, proc_firsts_at, proc_mark}
use Rattle.workspace.specs.Region.{Region, ChangedWithin}
use Rattle.workspace.specs.Steps.{value_at}
use Rattle.program_tree.specs.Outcomes.{Passes}
use Rattle.program_scopes.specs.Judging.{judge_of}
use Rattle.program_scopes.specs.declared.binders.Judged.{Judged}
use Rattle.program_scopes.specs.declared.binders.Judged.TheVariants.{Bind, Store}

abbrev pub Table : Type 0
Table = List (Option ℕ)

-- nothing binds a variable yet
unfoldable pub unbound : Table
unbound = replicate 256 None

-- what is stored for the steps, and the table that they leave
abbrev pub Passing : Type 0
Passing = List ℕ × Table

-- a number stored in front of those of the steps behind
unfoldable pub storing : ℕ → Result Passing Refusal → Result Passing Refusal
storing x (Err r) = Err r
storing x (Ok p) = Ok (x ∷ p.0, p.1)

-- the step at index k with number v, judged, and the steps behind it with the table that it leaves
unfoldable pub continued : (Table → Result Passing Refusal) → (k : ℕ) → Table → (v : ℕ) → Result Judged Refusal → Result Passing Refusal
continued behind k t v (Ok Bind) = storing 0 (behind (set t v (Some k)))
continued behind k t v (Ok (Store x)) = storing x (behind t)
continued behind k t v (Err r) = Err r

-- the next m steps from index k on: the first refusal, or what is stored for each
unfoldable pub scopes_from : List ℕ → (count m k : ℕ) → Table → Result Passing Refusal
scopes_from w count zero k t = Ok ([], t)
scopes_from w count (suc m) k t =
    continued (λ u. scopes_from w count m (k + 1) u) k t (value_at w k) (judge_of w count k (get_or t (value_at w k) None))

-- what judging the steps of one body or the root answers, and what it leaves in the work space and in the table
pub record PartScoped (count from to : ℕ) (w w' : List ℕ) (t t' : Table) (r : Result (Unit {0}) Refusal) : Type 0 where
  pub found : Passes (λ (p : Passing). Region w' (lets_at + from) p.0 × (t' ≡ p.1)) r (scopes_from w count (to - from) from t)
  pub changed : ChangedWithin (lets_at + from) (lets_at + to) w w'

-- ------------------------------------------------------------------ bodies and root

-- where the body of procedure f begins, and behind the last the root
abbrev pub first_at : List ℕ → (f : ℕ) → ℕ
first_at w f = get_or w (proc_firsts_at + f) 0

-- numbers in front of those that are stored behind
unfoldable pub with_front : List ℕ → Result (List ℕ) Refusal → Result (List ℕ) Refusal
with_front xs (Err r) = Err r
with_front xs (Ok ys) = Ok (xs ++ ys)

-- what is stored for steps, and then for those behind them
unfoldable pub followed : Result Passing Refusal → (Table → Result (List ℕ) Refusal) → Result (List ℕ) Refusal
followed (Err r) behind = Err r
followed (Ok p) behind = with_front p.0 (behind p.1)

-- the procedure f binds its variable, and its body is judged
unfoldable pub body_scopes : List ℕ → (count f : ℕ) → Table → Result Passing Refusal
body_scopes w count f t =
    when is_some (get_or t (get_or w (proc_vars_at + f) 0) None) then Err (Rebound (get_or w (proc_lines_at + f) 0))
    else scopes_from w count (first_at w (f + 1) - first_at w f) (first_at w f) (set t (get_or w (proc_vars_at + f) 0) (Some (proc_mark + f)))

-- a body is due
pub record BodyScopable (count f : ℕ) (w : List ℕ) : Type 0 where
  pub there : f < count
  pub few : count ≤ 16
  pub in_turn : first_at w f ≤ first_at w (f + 1)
  pub within : first_at w (f + 1) ≤ 256

pub record BodyScoped (count f : ℕ) (w w' : List ℕ) (t t' : Table) (r : Result (Unit {0}) Refusal) : Type 0 where
  pub found : Passes (λ (p : Passing). Region w' (lets_at + first_at w f) p.0 × (t' ≡ p.1)) r (body_scopes w count f t)
  pub changed : ChangedWithin (lets_at + first_at w f) (lets_at + first_at w (f + 1)) w w'

-- the next m procedures from number f on, and the root, in a sheet of n steps
unfoldable pub scopes_behind : List ℕ → (n count m f : ℕ) → Table → Result (List ℕ) Refusal
scopes_behind w n count zero f t = followed (scopes_from w count (n - first_at w f) (first_at w f) t) (λ u. Ok [])
scopes_behind w n count (suc m) f t = followed (body_scopes w count f t) (λ u. scopes_behind w n count m (f + 1) u)

-- the work space has the bodies one behind the other, and then the root
pub record Scopable (n count : ℕ) (w : List ℕ) : Type 0 where
  pub few : n ≤ 256
  pub procedures : count ≤ 16
  pub begun : first_at w 0 ≡ 0
  pub in_turn : (f : ℕ) → f < count → first_at w f ≤ first_at w (f + 1)
  pub last : first_at w count ≤ n

-- what judging all of them answers, and what it leaves in the work space
pub record Scoped (n count : ℕ) (w w' : List ℕ) (r : Result (Unit {0}) Refusal) : Type 0 where
  pub found : Passes (Region w' lets_at) r (scopes_behind w n count count 0 unbound)
  pub changed : ChangedWithin lets_at (lets_at + 256) w w'
