-- The loop that finds the next word of a thread, on numbers: p holds the program, s is the lent space, r is the row of the thread.
use Rattle.std.specs.Prelude.{ℕ, zero, suc, ◌+◌, ◌*◌, ◌-◌, Bool, false, List, ltb, get_or, set}
use Rattle.spec.specs.Choice.{when◌then◌else◌}
use Rattle.workspace.specs.Layout.{values_at, ends_at, proc_firsts_at}
use Rattle.replay_control.specs.Layout.{continuations_at, second_part, finish, leave, procedures_at, environments_at, kept_values_at, open_calls_at}
use Rattle.replay_control.specs.Shapes.{shape_at, is_write}
use Rattle.replay_control.specs.declared.ControlPoint.{ControlPoint}
use Rattle.replay_control.specs.declared.Mode.{Mode}
use Rattle.replay_control.specs.declared.Mode.TheVariants.{Enter, Return, Stopped, Ready, Unrolled, Done}
use Rattle.replay_control.specs.Modes.{on_its_way, is}
use Rattle.workspace.specs.declared.Shape.{Shape}
use Rattle.workspace.specs.declared.Shape.TheVariants.{Variable, Constant, NoPart, While, OnePart, Call, Let, If, Spawn, Write}

unfoldable pub variable : (s : List ℕ) (r x : ℕ) → ℕ
variable s r x = get_or s (environments_at + 256 * r + x) 0

-- what the first part of the `write` of step k gave
unfoldable pub kept : (s : List ℕ) (r k : ℕ) → ℕ
kept s r k = get_or s (kept_values_at + 256 * r + k) 0

-- the step of the open call whose body runs in row r
unfoldable pub called_from : (s : List ℕ) (r : ℕ) → ℕ
called_from s r = get_or s (open_calls_at + r) 0

unfoldable pub continuation : (p : List ℕ) (k : ℕ) → ℕ
continuation p k = get_or p (continuations_at + k) 0

unfoldable pub second : (p : List ℕ) (k : ℕ) → ℕ
second p k = get_or p (ends_at + 1 + k) 0

-- the first step of the body of procedure f, and of the root
unfoldable pub first_of : (p : List ℕ) (f : ℕ) → ℕ
first_of p f = get_or p (proc_firsts_at + f) 0

unfoldable pub root_of : (p : List ℕ) → ℕ
root_of p = first_of p (get_or p procedures_at 0)

unfoldable pub behind : ℕ → ℕ
behind k = when ltb k finish then k + 1 else k

-- ------------------------------------------------------------------ where a thread is

abbrev pub control_point : Mode → (at value row : ℕ) → ControlPoint
control_point m k v r = record { mode = m; at = k; value = v; row = r }

abbrev pub entering : (r k : ℕ) → ControlPoint
entering r k = control_point Enter k 0 r

abbrev pub returning : (r c v : ℕ) → ControlPoint
returning r c v = control_point Return c v r

abbrev pub stopped_at : (r k : ℕ) → ControlPoint
stopped_at r k = control_point Stopped k 0 r

abbrev pub ready_at : (r k v : ℕ) → ControlPoint
ready_at r k v = control_point Ready k v r

abbrev pub unrolled_at : (r k : ℕ) → ControlPoint
unrolled_at r k = control_point Unrolled k 0 r

abbrev pub done_with : (r v : ℕ) → ControlPoint
done_with r v = control_point Done 0 v r

-- ------------------------------------------------------------------ one advance

unfoldable pub entered_by : Shape → (r k c x : ℕ) → ControlPoint
entered_by Variable r k c x = returning r c x
entered_by Constant r k c x = returning r c 0
entered_by NoPart r k c x = stopped_at r k
entered_by While r k c x = stopped_at r k
entered_by OnePart r k c x = entering r (behind k)
entered_by Call r k c x = entering r (behind k)
entered_by Let r k c x = entering r (behind k)
entered_by If r k c x = stopped_at r k
entered_by Spawn r k c x = entering r (behind k)
entered_by Write r k c x = entering r (behind k)

unfoldable pub entered : (p s : List ℕ) (r k : ℕ) → ControlPoint
entered p s r k = entered_by (shape_at p k) r k (continuation p k) (variable s r (get_or p (values_at + k) 0))

unfoldable pub half_written : (p : List ℕ) (c : ℕ) → Bool
half_written p c = when ltb c second_part then is_write (shape_at p c) else false

-- an open call ends with its body's value, in the row before
unfoldable pub left : (p s : List ℕ) (r v : ℕ) → ControlPoint
left p s r v = returning (r - 1) (continuation p (called_from s r)) v

unfoldable pub returned : (p s : List ℕ) (r c v : ℕ) → ControlPoint
returned p s r c v =
    when half_written p c then entering r (second p c)
    else when ltb c second_part then ready_at r c v
    else when ltb c finish then ready_at r (c - second_part) v
    else when ltb c leave then done_with r v
    else left p s r v

unfoldable pub returned_space : (p s : List ℕ) (r c v : ℕ) → List ℕ
returned_space p s r c v = when half_written p c then set s (kept_values_at + 256 * r + c) v else s

unfoldable pub advanced : (p s : List ℕ) → ControlPoint → ControlPoint
advanced p s f = when is f.mode Enter then entered p s f.row f.at else returned p s f.row f.at f.value

unfoldable pub advanced_space : (p s : List ℕ) → ControlPoint → List ℕ
advanced_space p s f = when is f.mode Enter then s else returned_space p s f.row f.at f.value

-- ------------------------------------------------------------------ the loop

unfoldable pub found : (n : ℕ) (p s : List ℕ) → ControlPoint → ControlPoint × List ℕ
found zero p s f = (f, s)
found (suc n) p s f = when on_its_way f.mode then found n p (advanced_space p s f) (advanced p s f) else (f, s)
