-- The lowest pair of threads that race, on numbers.
use Rattle.std.specs.Prelude.{ℕ, zero, suc, ◌+◌, ◌-◌, Bool, true, false, List, Option, None, Some, eqb, get_or}
use Rattle.spec.specs.Choice.{when◌then◌else◌}
use Rattle.workspace.specs.Layout.{words_at, rule_of, touch_of}
use Rattle.workspace.specs.declared.Touch.{Touch}
use Rattle.workspace.specs.declared.Touch.TheVariants.{Nothing, Reads, Writes}
use Rattle.replay_control.specs.declared.ControlPoint.{ControlPoint}
use Rattle.replay_control.specs.declared.Mode.TheVariants.{Ready}
use Rattle.replay_control.specs.Modes.{is}
use Rattle.replay_control.specs.Control.{kept}
use Rattle.replay_objects.specs.declared.Thing.{Thing}
use Rattle.replay_objects.specs.declared.Thing.TheVariants.{Cell}
use Rattle.replay_step.specs.Slots.{thing_at}
use Rattle.replay_engine.specs.ControlPoints.{control_point_at}
use Rattle.replay_engine.specs.declared.races.Access.{Access}
use Rattle.replay_engine.specs.declared.races.Access.TheVariants.{Read, Write}

-- ------------------------------------------------------------------ one thread

abbrev pub is_cell : Thing → Bool
is_cell (Cell v) = true
is_cell x = false

unfoldable pub names_cell : (s : List ℕ) (v : ℕ) → Bool
names_cell s v = is_cell (thing_at s v)

-- of a word that touches a cell so: `read` that which its value names, `write` that which its first part gave
unfoldable pub access_by : Touch → (s : List ℕ) → ControlPoint → Option Access
access_by Nothing s f = None
access_by Reads s f = let v = f.value in when names_cell s v then Some (Read v) else None
access_by Writes s f = let v = kept s f.row f.at in when names_cell s v then Some (Write v) else None

unfoldable pub access_at : (p s : List ℕ) → ControlPoint → Option Access
access_at p s f = when is f.mode Ready then access_by (touch_of (rule_of (get_or p (words_at + f.at) 0))) s f else None

unfoldable pub access_of : (p s : List ℕ) (t : ℕ) → Option Access
access_of p s t = access_at p s (control_point_at s t)

-- ------------------------------------------------------------------ two threads

unfoldable pub reads : Option Access → (v : ℕ) → Bool
reads (Some (Read u)) v = eqb u v
reads a v = false

unfoldable pub writes : Option Access → (v : ℕ) → Bool
writes (Some (Write u)) v = eqb u v
writes a v = false

unfoldable pub is_write : Option Access → Bool
is_write (Some (Write v)) = true
is_write a = false

unfoldable pub clash : Option Access → Option Access → Bool
clash None b = false
clash (Some (Read v)) b = writes b v
clash (Some (Write v)) b = when writes b v then true else reads b v

-- ------------------------------------------------------------------ all threads

-- of n threads from j on
unfoldable pub any_writes : (p s : List ℕ) (j n : ℕ) → Bool
any_writes p s j zero = false
any_writes p s j (suc n) = when is_write (access_of p s j) then true else any_writes p s (j + 1) n

-- n threads from j on
unfoldable pub partner_of : (p s : List ℕ) → Option Access → (j n : ℕ) → Option ℕ
partner_of p s a j zero = None
partner_of p s a j (suc n) = when clash a (access_of p s j) then Some j else partner_of p s a (j + 1) n

unfoldable pub partner_from : (p s : List ℕ) → Option Access → (i count : ℕ) → Option ℕ
partner_from p s a i count = partner_of p s a i (count - i)

unfoldable pub pair_with : (i : ℕ) → Option ℕ → Option (ℕ × ℕ) → Option (ℕ × ℕ)
pair_with i None later = later
pair_with i (Some j) later = Some (i, j)

unfoldable pub pair_of : (p s : List ℕ) (count i n : ℕ) → Option (ℕ × ℕ)
pair_of p s count i zero = None
pair_of p s count i (suc n) = pair_with i (partner_from p s (access_of p s i) (i + 1) count) (pair_of p s count (i + 1) n)

unfoldable pub lowest_pair : (p s : List ℕ) (count : ℕ) → Option (ℕ × ℕ)
lowest_pair p s count = pair_of p s count 0 count
