-- One step, judged by what binds its variable: the index of a let, or the mark of a procedure; nothing, if it is unbound.
use Rattle.std.specs.Prelude.{List, ℕ, ◌+◌, ◌-◌, ◌&&◌, leb, ltb, get_or, Option, None, Some, is_some, Result, Ok, Err}
use Rattle.spec.specs.Choice.{when◌then◌else◌}
use Rattle.spec.specs.Words.{role}
use Rattle.spec.specs.declared.Refusal.{Refusal}
use Rattle.spec.specs.declared.Refusal.TheVariants.{Unbound, Rebound, NoProcedure}
use Rattle.spec.specs.declared.Role.{Role}
use Rattle.spec.specs.declared.Role.TheVariants.{Binds, Uses, Calls, Neither}
use Rattle.workspace.specs.Layout.{ends_at, proc_firsts_at, proc_mark}
use Rattle.workspace.specs.Steps.{word_at, value_at, step_line_at}
use Rattle.program_scopes.specs.declared.binders.Judged.{Judged}
use Rattle.program_scopes.specs.declared.binders.Judged.TheVariants.{Bind, Store}

-- a let at a line whose variable is bound at b
unfoldable pub judge_let : (line : ℕ) (b : Option ℕ) → Result Judged Refusal
judge_let l b = when is_some b then Err (Rebound l) else Ok Bind

-- the scope of what is bound at b: a let's e2, or a procedure's body
unfoldable pub scope_from : List ℕ → (b : ℕ) → ℕ
scope_from w b = when ltb b proc_mark then get_or w (ends_at + (b + 1)) 0 else get_or w (proc_firsts_at + (b - proc_mark)) 0

unfoldable pub scope_till : List ℕ → (b : ℕ) → ℕ
scope_till w b = when ltb b proc_mark then get_or w (ends_at + b) 0 else get_or w (proc_firsts_at + (b - proc_mark + 1)) 0

-- a use at index k of the variable that is bound at b: within that scope
unfoldable pub judge_var : List ℕ → (k : ℕ) (b : Option ℕ) → Result Judged Refusal
judge_var w k None = Err (Unbound (step_line_at w k))
judge_var w k (Some b) = when leb (scope_from w b) k && ltb k (scope_till w b) then Ok (Store b) else Err (Unbound (step_line_at w k))

-- a call at index k, in a sheet with so many procedures
unfoldable pub judge_call : List ℕ → (count k : ℕ) → Result Judged Refusal
judge_call w count k = when ltb (value_at w k) count then Ok (Store 0) else Err (NoProcedure (step_line_at w k))

unfoldable pub judge_by : List ℕ → (count k : ℕ) (b : Option ℕ) → Role → Result Judged Refusal
judge_by w count k b Binds = judge_let (step_line_at w k) b
judge_by w count k b Uses = judge_var w k b
judge_by w count k b Calls = judge_call w count k
judge_by w count k b Neither = Ok (Store 0)

unfoldable pub judge_of : List ℕ → (count k : ℕ) (b : Option ℕ) → Result Judged Refusal
judge_of w count k b = judge_by w count k b (role (word_at w k))
