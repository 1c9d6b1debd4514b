-- The records of a run's threads, and what becomes of them.
use Rattle.std.specs.Prelude.{ℕ, ◌+◌, Bool, true, false, leb, ltb, get_or, set, replicate}
use Rattle.spec.specs.Choice.{when◌then◌else◌}
use Rattle.replay_theory.specs.declared.Status.{Status}
use Rattle.replay_theory.specs.declared.Status.TheVariants.{Running, Finished, Joined}
use Rattle.threads.specs.declared.Threads.{Threads}
use Rattle.threads.specs.Records.{no_record}

-- the places behind the threads hold records of running ones, which no join takes
unfoldable pub started : (tid : ℕ) → Threads
started tid = record { records = replicate 16 (record { state = Running; tid = tid }); count = 1 }

unfoldable pub spawned : Threads → (tid : ℕ) → Threads
spawned T tid =
    when ltb T.count 16
    then record { records = set T.records T.count (record { state = Running; tid = tid }); count = T.count + 1 }
    else T

-- thread t keeps its identifier
unfoldable pub turned : Status → Threads → (t : ℕ) → Threads
turned s T t =
    when ltb t 16
    then record { records = set T.records t (record { state = s; tid = (get_or T.records t no_record).tid }); count = T.count }
    else T

unfoldable pub finished : Threads → (t : ℕ) → Threads
finished = turned Finished

unfoldable pub joined : Threads → (t : ℕ) → Threads
joined = turned Joined

unfoldable pub is_running : Status → Bool
is_running Running = true
is_running s = false

unfoldable pub runs : Threads → (t : ℕ) → Bool
runs T t = when leb T.count t then false else when leb 16 t then false else is_running (get_or T.records t no_record).state
