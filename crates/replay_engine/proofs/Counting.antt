-- No step leaves more threads than there are records for, whatever the numbers hold.
use Rattle.std.proofs.Common.{Option, None, Some, Result, Ok, Err, IfOk}
use Prim.Native.Nat.{ℕ, ◌+◌, ◌*◌, ◌≤◌}
use mathlib.Core.Path.{◌≡◌, refl}
use mathlib.Core.Bool.{Bool, true, false}
use mathlib.Core.List.{List}
use native.Mathlib.Omega.{arith}
use borrow.Author.Tests.{ltb-true}
use lib.Dec.{leb, ltb}
use lib.ListN.{get_or, set}
use Rattle.spec.specs.Choice.{when◌then◌else◌}
use Rattle.replay_theory.specs.declared.Status.{Status}
use Rattle.replay_theory.specs.declared.Status.TheVariants.{Running, Finished, Joined}
use Rattle.threads.specs.declared.Threads.{Threads}
use Rattle.threads.specs.Records.{no_record, lowest}
use Rattle.threads.specs.Threads.{spawned, turned, finished, joined, runs}
use Rattle.replay_control.specs.Layout.{control_point_rows_at}
use Rattle.replay_control.specs.declared.ControlPoint.{ControlPoint}
use Rattle.replay_control.specs.Control.{second, entering}
use Rattle.replay_step.specs.Words.{given, acted}
use Rattle.replay_step.specs.declared.words.Act.{Act}
use Rattle.replay_step.specs.declared.words.Act.TheVariants.{Go, Spawn, Join}
use Rattle.replay_step.specs.declared.words.Halt.{Halt}
use Rattle.replay_step.specs.declared.words.Halt.TheVariants.{Stuck, Past}
use Rattle.replay_engine.specs.declared.Halted.{Halted}
use Rattle.replay_engine.specs.ControlPoints.{control_point_at, went_on}
use Rattle.replay_engine.specs.Steps.{may_choose, recorded, proceeded, halted, threads_after, outcome_of, moved_to, copied, gives_zero, spawned_step, joined_by, joined_step, act_step, after_act, stepped_from, stepped}

abbrev Few : Threads → Type 0
Few T = T.count ≤ 16

abbrev FewAfter : Result Threads Halted × List ℕ → Type 0
FewAfter r = Few (threads_after r.0)

either : (b : Bool) (A B : Threads) → Few A → Few B → Few (when b then A else B)
either true A B a b = a
either false A B a b = b

either_after : (b : Bool) (A B : Result Threads Halted × List ℕ) → FewAfter A → FewAfter B → FewAfter (when b then A else B)
either_after true A B a b = a
either_after false A B a b = b

turned_few : (x : Status) (T : Threads) (t : ℕ) → Few T → Few (turned x T t)
unfolding turned
turned_few x T t h = either (ltb t 16) (record { records = set T.records t (record { state = x; tid = (get_or T.records t no_record).tid }); count = T.count }) T h h

spawned_few : (T : Threads) (tid : ℕ) → Few T → Few (spawned T tid)
unfolding spawned
spawned_few T tid h = by_room (ltb T.count 16) refl
  where
    more : Threads
    more = record { records = set T.records T.count (record { state = Running; tid = tid }); count = T.count + 1 }

    by_room : (b : Bool) → ltb T.count 16 ≡ b → Few (when b then more else T)
    by_room true e = let l = ltb-true T.count 16 e in omega arith
    by_room false e = h

recorded_few : (T : Threads) (t : ℕ) (x : Bool × List ℕ) → Few T → Few (recorded T t x).0
unfolding recorded finished
recorded_few T t (d, s) h = either d (turned Finished T t) T (turned_few Finished T t h) h

proceeded_few : (p s : List ℕ) (T : Threads) (t : ℕ) (f : ControlPoint) → Few T → Few (proceeded p s T t f).0
unfolding proceeded
proceeded_few p s T t f h = recorded_few T t (went_on p s t f) h

past_or : (b : Bool) (T : Threads) → Few T → Few (threads_after (when b then halted Past T else Ok T))
past_or true T h = h
past_or false T h = h

moved_few : (t : ℕ) (x : Threads × List ℕ) → Few x.0 → FewAfter (moved_to t x)
unfolding moved_to outcome_of
moved_few t (T, s) h = past_or (ltb (66 * t + 64) (get_or s (control_point_rows_at + t) 0)) T h

zero_few : (p : List ℕ) (t : ℕ) (f : ControlPoint) (x : Threads × List ℕ) → Few x.0 → FewAfter (gives_zero p t f x)
unfolding gives_zero
zero_few p t f (T, s) h = moved_few t (proceeded p s T t (given p f.row f.at 0)) (proceeded_few p s T t (given p f.row f.at 0) h)

spawn_few : (p s : List ℕ) (T : Threads) (t : ℕ) (f : ControlPoint) (tid : ℕ) → Few T → FewAfter (spawned_step p s T t f tid)
unfolding spawned_step
spawn_few p s T t f tid h =
    either_after (leb 16 T.count) (halted Past T, s) (gives_zero p t f added) h
    (zero_few p t f added (proceeded_few p (copied s f.row (66 * T.count)) (spawned T tid) T.count (entering (66 * T.count) (second p f.at)) (spawned_few T tid h)))
  where
    added : Threads × List ℕ
    added = proceeded p (copied s f.row (66 * T.count)) (spawned T tid) T.count (entering (66 * T.count) (second p f.at))

join_few : (p s : List ℕ) (T : Threads) (t : ℕ) (f : ControlPoint) (x : Option ℕ) → Few T → FewAfter (joined_by x p s T t f)
unfolding joined_by joined
join_few p s T t f (Some i) h = zero_few p t f (turned Joined T i, s) (turned_few Joined T i h)
join_few p s T t f None h = h

act_few : (p s : List ℕ) (T : Threads) (t : ℕ) (f : ControlPoint) (a : Result Act Halt) → Few T → FewAfter (act_step p s T t f a)
unfolding act_step joined_step
act_few p s T t f (Ok (Go g)) h = moved_few t (proceeded p s T t g) (proceeded_few p s T t g h)
act_few p s T t f (Ok (Spawn tid)) h = spawn_few p s T t f tid h
act_few p s T t f (Ok (Join tid)) h = join_few p s T t f (lowest T.records tid) h
act_few p s T t f (Err e) h = h

after_few : (p : List ℕ) (T : Threads) (t : ℕ) (f : ControlPoint) (x : Result Act Halt × List ℕ) → Few T → FewAfter (after_act p T t f x)
unfolding after_act
after_few p T t f (a, s) h = act_few p s T t f a h

pub stepped_few : (p s : List ℕ) (T : Threads) (t c : ℕ) → T.count ≤ 16 → (threads_after (stepped p s T t c).0).count ≤ 16
unfolding stepped stepped_from
stepped_few p s T t c h =
    either_after (runs T t) (when may_choose p (control_point_at s t) c then after_act p T t (control_point_at s t) (acted p s (control_point_at s t) c) else (halted Stuck T, s)) (halted Stuck T, s)
    (either_after (may_choose p (control_point_at s t) c) (after_act p T t (control_point_at s t) (acted p s (control_point_at s t) c)) (halted Stuck T, s)
    (after_few p T t (control_point_at s t) (acted p s (control_point_at s t) c) h) h)
    h

on_ok : (r : Result Threads Halted) → Few (threads_after r) → IfOk r Few
on_ok (Ok T) h = h
on_ok (Err e) h = tt

pub stepped_few_on_ok : (p s : List ℕ) (T : Threads) (t c : ℕ) → T.count ≤ 16 → IfOk (stepped p s T t c).0 (λ T'. T'.count ≤ 16)
stepped_few_on_ok p s T t c h = on_ok (stepped p s T t c).0 (stepped_few p s T t c h)
