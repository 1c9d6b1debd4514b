-- The step of a call on numbers: its body is entered, in a row of its own.
use Rattle.std.specs.Prelude.{ℕ, zero, suc, ◌+◌, ◌*◌, List, ltb, get_or, set}
use Rattle.spec.specs.Choice.{when◌then◌else◌}
use Rattle.workspace.specs.Layout.{values_at, proc_vars_at}
use Rattle.replay_control.specs.Layout.{environments_at, open_calls_at}
use Rattle.replay_control.specs.declared.ControlPoint.{ControlPoint}
use Rattle.replay_control.specs.Control.{first_of, entering}

unfoldable pub above : ℕ → ℕ
above r = when ltb r 1056 then r + 1 else r

-- n variables from x on
unfoldable pub row_cleared_from : (s : List ℕ) (r x n : ℕ) → List ℕ
row_cleared_from s r x zero = s
row_cleared_from s r x (suc n) = row_cleared_from (set s (environments_at + 256 * r + x) 0) r (x + 1) n

unfoldable pub row_cleared : (s : List ℕ) (r : ℕ) → List ℕ
row_cleared s r = row_cleared_from s r 0 256

-- the procedure that the call of step k calls
unfoldable pub callee_of : (p : List ℕ) (k : ℕ) → ℕ
callee_of p k = get_or p (values_at + k) 0

unfoldable pub call_entered : (p : List ℕ) → ControlPoint → ControlPoint
call_entered p f = entering (above f.row) (first_of p (callee_of p f.at))

-- the argument x of the body, and the step of the call, in the row r
unfoldable pub argument_put : (s : List ℕ) (r x v k : ℕ) → List ℕ
argument_put s r x v k = set (set (row_cleared s r) (environments_at + 256 * r + x) v) (open_calls_at + r) k

unfoldable pub called_space : (p s : List ℕ) → ControlPoint → List ℕ
called_space p s f = argument_put s (above f.row) (get_or p (proc_vars_at + callee_of p f.at) 0) f.value f.at
