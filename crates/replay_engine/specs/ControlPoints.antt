-- Where each thread stands between two steps, in the lent space s.
use Rattle.std.specs.Prelude.{ℕ, ◌+◌, Bool, List, get_or, set}
use Rattle.replay_control.specs.Layout.{control_point_modes_at, control_point_places_at, control_point_values_at, control_point_rows_at}
use Rattle.replay_control.specs.declared.ControlPoint.{ControlPoint}
use Rattle.replay_control.specs.declared.Mode.TheVariants.{Done}
use Rattle.replay_control.specs.Modes.{mode_number, mode_of, is}
use Rattle.replay_control.specs.Control.{control_point, found}

unfoldable pub control_point_at : (s : List ℕ) (t : ℕ) → ControlPoint
control_point_at s t = control_point (mode_of (get_or s (control_point_modes_at + t) 0)) (get_or s (control_point_places_at + t) 0) (get_or s (control_point_values_at + t) 0) (get_or s (control_point_rows_at + t) 0)

unfoldable pub control_point_put : (s : List ℕ) (t : ℕ) → ControlPoint → List ℕ
control_point_put s t f = set (set (set (set s (control_point_modes_at + t) (mode_number f.mode)) (control_point_places_at + t) f.at) (control_point_values_at + t) f.value) (control_point_rows_at + t) f.row

-- the next word is found and stored; whether there is none
unfoldable pub settled : (t : ℕ) → ControlPoint × List ℕ → Bool × List ℕ
settled t (g, s) = (is g.mode Done, control_point_put s t g)

unfoldable pub went_on : (p s : List ℕ) (t : ℕ) → ControlPoint → Bool × List ℕ
went_on p s t f = settled t (found 2048 p s f)
