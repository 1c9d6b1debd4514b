-- The step of a thread's next word on numbers, as far as it does not touch the records of threads.
use Rattle.std.specs.Prelude.{ℕ, ◌+◌, ◌*◌, List, Option, None, Some, Result, Ok, Err, eqb, leb, get_or, set}
use Rattle.spec.specs.Choice.{when◌then◌else◌}
use Rattle.workspace.specs.Layout.{words_at, values_at, rule_of}
use Rattle.replay_control.specs.Layout.{environments_at, thing_counts_at, next_value_at}
use Rattle.replay_control.specs.declared.ControlPoint.{ControlPoint}
use Rattle.workspace.specs.declared.Shape.{Shape}
use Rattle.workspace.specs.declared.Shape.TheVariants.{Variable, Constant, NoPart, While, OnePart, Call, Let, If, Spawn as SpawnShape, Write}
use Rattle.replay_control.specs.declared.Mode.TheVariants.{Stopped, Ready}
use Rattle.replay_control.specs.Modes.{is}
use Rattle.replay_control.specs.Shapes.{shape_at, is_write}
use Rattle.replay_control.specs.Control.{kept, continuation, second, behind, entering, returning, stopped_at, unrolled_at}
use Rattle.replay_objects.specs.declared.Thing.{Thing}
use Rattle.replay_objects.specs.Stored.{numbers_of}
use Rattle.replay_objects.specs.declared.StepEffect.{StepEffect}
use Rattle.replay_objects.specs.declared.StepEffect.TheVariants.{Returns, Updates, Makes, Spawns, Joins}
use Rattle.replay_objects.specs.Uses.{effect_of}
use Rattle.replay_step.specs.Calls.{call_entered, called_space}
use Rattle.replay_step.specs.Slots.{thing_at, thing_put}
use Rattle.replay_step.specs.declared.words.Act.{Act}
use Rattle.replay_step.specs.declared.words.Act.TheVariants.{Go, Spawn, Join}
use Rattle.replay_step.specs.declared.words.Halt.{Halt}
use Rattle.replay_step.specs.declared.words.Halt.TheVariants.{Stuck, Past}

-- ------------------------------------------------------------------ words of one thread

unfoldable pub given : (p : List ℕ) (r k v : ℕ) → ControlPoint
given p r k v = returning r (continuation p k) v

unfoldable pub branched : (p : List ℕ) (r k choice : ℕ) → ControlPoint
branched p r k c = when eqb c 0 then entering r (behind k) else entering r (second p k)

unfoldable pub looped : (p : List ℕ) → ControlPoint → (choice : ℕ) → ControlPoint
looped p f c =
    when is f.mode Stopped then unrolled_at f.row f.at
    else when is f.mode Ready then stopped_at f.row f.at
    else when eqb c 0 then entering f.row (behind f.at)
    else given p f.row f.at 0

unfoldable pub bound : (p s : List ℕ) → ControlPoint → Result Act Halt × List ℕ
bound p s f = (Ok (Go (entering f.row (second p f.at))), set s (environments_at + 256 * f.row + get_or p (values_at + f.at) 0) f.value)

-- ------------------------------------------------------------------ words that use what a value names

-- one thing more of its kind, with the next name
unfoldable pub with_thing : (s : List ℕ) → Thing → List ℕ
with_thing s x = set (set (thing_put s (get_or s next_value_at 0) x) (thing_counts_at + (numbers_of x).kind) (get_or s (thing_counts_at + (numbers_of x).kind) 0 + 1)) next_value_at (get_or s next_value_at 0 + 1)

unfoldable pub new_thing : (p s : List ℕ) (r k : ℕ) → Thing → Result Act Halt × List ℕ
new_thing p s r k x =
    when leb 64 (get_or s (thing_counts_at + (numbers_of x).kind) 0) then (Err Past, s)
    else when leb 322 (get_or s next_value_at 0) then (Err Past, s)
    else (Ok (Go (given p r k (get_or s next_value_at 0))), with_thing s x)

unfoldable pub subject : (p s : List ℕ) → ControlPoint → ℕ
subject p s f = when is_write (shape_at p f.at) then kept s f.row f.at else f.value

unfoldable pub operand : (p : List ℕ) → ControlPoint → ℕ
operand p f = when is f.mode Stopped then get_or p (values_at + f.at) 0 else f.value

unfoldable pub effected : (p s : List ℕ) (r k v : ℕ) → Option StepEffect → Result Act Halt × List ℕ
effected p s r k v (Some (Returns w)) = (Ok (Go (given p r k w)), s)
effected p s r k v (Some (Updates x)) = (Ok (Go (given p r k 0)), thing_put s v x)
effected p s r k v (Some (Makes x)) = new_thing p s r k x
effected p s r k v (Some Spawns) = (Ok (Spawn v), s)
effected p s r k v (Some Joins) = (Ok (Join v), s)
effected p s r k v None = (Err Stuck, s)

unfoldable pub word_used : (p s : List ℕ) → ControlPoint → Result Act Halt × List ℕ
word_used p s f =
    effected p s f.row f.at (subject p s f) (effect_of (rule_of (get_or p (words_at + f.at) 0)) (thing_at s (subject p s f)) (operand p f))

-- ------------------------------------------------------------------ any word

unfoldable pub acted_by : Shape → (p s : List ℕ) → ControlPoint → (choice : ℕ) → Result Act Halt × List ℕ
acted_by Variable p s f c = (Err Stuck, s)
acted_by Constant p s f c = (Err Stuck, s)
acted_by NoPart p s f c = word_used p s f
acted_by While p s f c = (Ok (Go (looped p f c)), s)
acted_by OnePart p s f c = word_used p s f
acted_by Call p s f c = (Ok (Go (call_entered p f)), called_space p s f)
acted_by Let p s f c = bound p s f
acted_by If p s f c = (Ok (Go (branched p f.row f.at c)), s)
acted_by SpawnShape p s f c = word_used p s f
acted_by Write p s f c = word_used p s f

unfoldable pub acted : (p s : List ℕ) → ControlPoint → (choice : ℕ) → Result Act Halt × List ℕ
acted p s f c = acted_by (shape_at p f.at) p s f c
