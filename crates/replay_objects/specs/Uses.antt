-- What a word does with what it is about, if it can step.
use Rattle.std.specs.Prelude.{ℕ, ◌+◌, ◌-◌, true, false, Option, None, Some, eqb, ltb}
use Rattle.spec.specs.Choice.{when◌then◌else◌}
use Rattle.workspace.specs.declared.Rule.{Rule}
use Rattle.workspace.specs.declared.Rule.TheVariants.{NEWT, SPAWN, JOIN, REF, WRITE, READ, NEWL, LCK, ULCK, NEWSEM, POST, WAIT, NEWRWLOCK, RDLOCK, RDUNLOCK, WRLOCK, WRUNLOCK}
use Rattle.replay_objects.specs.declared.Thing.{Thing}
use Rattle.replay_objects.specs.declared.Thing.TheVariants.{Identifier, Cell, Lock, Semaphore, Rwlock, Written}
use Rattle.replay_objects.specs.declared.StepEffect.{StepEffect}
use Rattle.replay_objects.specs.declared.StepEffect.TheVariants.{Returns, Updates, Makes, Spawns, Joins}

unfoldable pub spawned_of : Thing → Option StepEffect
spawned_of Identifier = Some Spawns
spawned_of x = None

unfoldable pub joined_of : Thing → Option StepEffect
joined_of Identifier = Some Joins
joined_of x = None

unfoldable pub read_of : Thing → Option StepEffect
read_of (Cell v) = Some (Returns v)
read_of x = None

unfoldable pub written_of : Thing → (v : ℕ) → Option StepEffect
written_of (Cell u) v = Some (Updates (Cell v))
written_of x v = None

-- a lock is closed or not
unfoldable pub locked_of : Thing → Option StepEffect
locked_of (Lock false) = Some (Updates (Lock true))
locked_of x = None

unfoldable pub unlocked_of : Thing → Option StepEffect
unlocked_of (Lock closed) = Some (Updates (Lock false))
unlocked_of x = None

unfoldable pub posted_of : Thing → Option StepEffect
posted_of (Semaphore n) = when ltb n 18446744073709551615 then Some (Updates (Semaphore (n + 1))) else None
posted_of x = None

unfoldable pub waited_of : Thing → Option StepEffect
waited_of (Semaphore n) = when ltb 0 n then Some (Updates (Semaphore (n - 1))) else None
waited_of x = None

unfoldable pub rdlocked_of : Thing → Option StepEffect
rdlocked_of (Rwlock places readers) = when ltb readers places then Some (Updates (Rwlock places (readers + 1))) else None
rdlocked_of x = None

unfoldable pub rdunlocked_of : Thing → Option StepEffect
rdunlocked_of (Rwlock places readers) = when ltb 0 readers then Some (Updates (Rwlock places (readers - 1))) else None
rdunlocked_of x = None

unfoldable pub wrlocked_of : Thing → Option StepEffect
wrlocked_of (Rwlock places readers) = when eqb readers 0 then Some (Updates (Written places)) else None
wrlocked_of x = None

unfoldable pub wrunlocked_of : Thing → Option StepEffect
wrunlocked_of (Written places) = Some (Updates (Rwlock places 0))
wrunlocked_of x = None

-- v: what the word stores, or the reading places of a new read-write lock; the words of a thread alone use nothing
unfoldable pub effect_of : Rule → Thing → (v : ℕ) → Option StepEffect
effect_of NEWT x v = Some (Makes Identifier)
effect_of SPAWN x v = spawned_of x
effect_of JOIN x v = joined_of x
effect_of REF x v = Some (Makes (Cell v))
effect_of WRITE x v = written_of x v
effect_of READ x v = read_of x
effect_of NEWL x v = Some (Makes (Lock false))
effect_of LCK x v = locked_of x
effect_of ULCK x v = unlocked_of x
effect_of NEWSEM x v = Some (Makes (Semaphore 0))
effect_of POST x v = posted_of x
effect_of WAIT x v = waited_of x
effect_of NEWRWLOCK x v = Some (Makes (Rwlock v 0))
effect_of RDLOCK x v = rdlocked_of x
effect_of RDUNLOCK x v = rdunlocked_of x
effect_of WRLOCK x v = wrlocked_of x
effect_of WRUNLOCK x v = wrunlocked_of x
effect_of r x v = None
