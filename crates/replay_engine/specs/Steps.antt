-- A step of a thread on numbers.
use Rattle.std.specs.Prelude.{ℕ, zero, suc, ◌+◌, ◌*◌, Bool, true, false, List, Option, None, Some, Result, Ok, Err, eqb, leb, ltb, get_or, set}
use Rattle.spec.specs.Choice.{when◌then◌else◌}
use Rattle.threads.specs.declared.Threads.{Threads}
use Rattle.threads.specs.Records.{lowest}
use Rattle.threads.specs.Threads.{started, spawned, finished, joined, runs}
use Rattle.replay_control.specs.Layout.{environments_at, control_point_rows_at, thing_counts_at, next_value_at, thing_kinds_at}
use Rattle.replay_control.specs.declared.ControlPoint.{ControlPoint}
use Rattle.replay_control.specs.Shapes.{shape_at, is_if}
use Rattle.replay_control.specs.declared.Mode.TheVariants.{Unrolled}
use Rattle.replay_control.specs.Modes.{is}
use Rattle.replay_control.specs.Control.{variable, second, root_of, entering}
use Rattle.replay_engine.specs.ControlPoints.{control_point_at, went_on}
use Rattle.replay_step.specs.Words.{given, acted}
use Rattle.replay_step.specs.declared.words.Act.{Act}
use Rattle.replay_step.specs.declared.words.Act.TheVariants.{Go, Spawn, Join}
use Rattle.replay_step.specs.declared.words.Halt.{Halt}
use Rattle.replay_step.specs.declared.words.Halt.TheVariants.{Stuck, Past}
use Rattle.replay_engine.specs.declared.Halted.{Halted}

unfoldable pub may_choose : (p : List ℕ) → ControlPoint → (choice : ℕ) → Bool
may_choose p f c =
    when eqb c 0 then true
    else when eqb c 1 then (when is f.mode Unrolled then true else is_if (shape_at p f.at))
    else false

-- ------------------------------------------------------------------ going on

unfoldable pub recorded : Threads → (t : ℕ) → Bool × List ℕ → Threads × List ℕ
recorded T t (done, s) = ((when done then finished T t else T), s)

unfoldable pub proceeded : (p s : List ℕ) → Threads → (t : ℕ) → ControlPoint → Threads × List ℕ
proceeded p s T t f = recorded T t (went_on p s t f)

-- a step that is not taken, and the threads then
abbrev pub halted : Halt → Threads → Result Threads Halted
halted h T = Err (record { why = h; threads = T })

-- the threads after a step, taken or not
abbrev pub threads_after : Result Threads Halted → Threads
threads_after (Ok T) = T
threads_after (Err h) = h.threads

-- whether more than 64 calls are open in thread t
abbrev pub past_calls : (s : List ℕ) (t : ℕ) → Bool
past_calls s t = ltb (66 * t + 64) (get_or s (control_point_rows_at + t) 0)

-- a step of thread t is done, unless it is past the limit; the threads are those after it in either case
unfoldable pub outcome_of : (s : List ℕ) (t : ℕ) → Threads → Result Threads Halted
outcome_of s t T = when past_calls s t then halted Past T else Ok T

unfoldable pub moved_to : (t : ℕ) → Threads × List ℕ → Result Threads Halted × List ℕ
moved_to t (T, s) = (outcome_of s t T, s)

-- ------------------------------------------------------------------ spawn and join

-- n variables from x on, from row a to row b
unfoldable pub copied_from : (s : List ℕ) (a b x n : ℕ) → List ℕ
copied_from s a b x zero = s
copied_from s a b x (suc n) = copied_from (set s (environments_at + 256 * b + x) (variable s a x)) a b (x + 1) n

unfoldable pub copied : (s : List ℕ) (a b : ℕ) → List ℕ
copied s a b = copied_from s a b 0 256

-- the word of thread t at f becomes 0
unfoldable pub gives_zero : (p : List ℕ) (t : ℕ) → ControlPoint → Threads × List ℕ → Result Threads Halted × List ℕ
gives_zero p t f (T, s) = moved_to t (proceeded p s T t (given p f.row f.at 0))

-- the new thread runs outside of calls, in the first of its rows
unfoldable pub spawned_step : (p s : List ℕ) → Threads → (t : ℕ) → ControlPoint → (tid : ℕ) → Result Threads Halted × List ℕ
spawned_step p s T t f tid =
    when leb 16 T.count then (halted Past T, s)
    else gives_zero p t f (proceeded p (copied s f.row (66 * T.count)) (spawned T tid) T.count (entering (66 * T.count) (second p f.at)))

unfoldable pub joined_by : Option ℕ → (p s : List ℕ) → Threads → (t : ℕ) → ControlPoint → Result Threads Halted × List ℕ
joined_by (Some i) p s T t f = gives_zero p t f (joined T i, s)
joined_by None p s T t f = (halted Stuck T, s)

unfoldable pub joined_step : (p s : List ℕ) → Threads → (t : ℕ) → ControlPoint → (tid : ℕ) → Result Threads Halted × List ℕ
joined_step p s T t f tid = joined_by (lowest T.records tid) p s T t f

-- ------------------------------------------------------------------ steps

-- the word of thread t at f comes to that
unfoldable pub act_step : (p s : List ℕ) → Threads → (t : ℕ) → ControlPoint → Result Act Halt → Result Threads Halted × List ℕ
act_step p s T t f (Ok (Go g)) = moved_to t (proceeded p s T t g)
act_step p s T t f (Ok (Spawn tid)) = spawned_step p s T t f tid
act_step p s T t f (Ok (Join tid)) = joined_step p s T t f tid
act_step p s T t f (Err h) = (halted h T, s)

unfoldable pub after_act : (p : List ℕ) → Threads → (t : ℕ) → ControlPoint → Result Act Halt × List ℕ → Result Threads Halted × List ℕ
after_act p T t f (a, s) = act_step p s T t f a

unfoldable pub stepped_from : (p s : List ℕ) → Threads → (t : ℕ) → ControlPoint → (choice : ℕ) → Result Threads Halted × List ℕ
stepped_from p s T t f c = when may_choose p f c then after_act p T t f (acted p s f c) else (halted Stuck T, s)

unfoldable pub stepped : (p s : List ℕ) → Threads → (t choice : ℕ) → Result Threads Halted × List ℕ
stepped p s T t c = when runs T t then stepped_from p s T t (control_point_at s t) c else (halted Stuck T, s)

-- ------------------------------------------------------------------ the start

-- n numbers from i on are 0
unfoldable pub zeroed : (s : List ℕ) (i n : ℕ) → List ℕ
zeroed s i zero = s
zeroed s i (suc n) = zeroed (set s i 0) (i + 1) n

-- the variables of the first row are 0, and there is no thing but the start's identifier; what else stands in the space is not looked at
-- before it is stored
unfoldable pub start_space : (s : List ℕ) → List ℕ
start_space s = set (set (zeroed (zeroed s environments_at 256) thing_counts_at 400) (thing_kinds_at + 1) 1) next_value_at 2

unfoldable pub start_of : (p s : List ℕ) → Threads × List ℕ
start_of p s = proceeded p (start_space s) (started 1) 0 (entering 0 (root_of p))
