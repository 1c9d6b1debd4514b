-- A line that is done, taken apart: the thread that moves, the word that it does, and the machine after it.
use Rattle.std.proofs.Common.{Some, slice_get}
use mathlib.Core.Path.{◌≡◌, sym, ◌∙◌, ap}
use mathlib.Core.Bool.{Bool, true, false}
use Rattle.calculus.specs.Expression.{Redex}
use Rattle.calculus.specs.State.{Part}
use Rattle.calculus.proofs.Laws.Maps.{some_injective, none_is_not_some, bind_is_some}
use Rattle.replay_theory.specs.Trace.{TraceLine}
use Rattle.replay_theory.specs.Run.{part_chosen, effect, things_after}
use Rattle.replay_machine.specs.Control.{next_redex}
use Rattle.replay_machine.specs.State.{MachineThread, Machine}
use Rattle.replay_machine.specs.Step.{step}
use Rattle.replay_machine.specs.Kept.{Kept}
use Rattle.replay_machine.specs.Replay.{Replay, word_of, stepped}
use Rattle.replay_machine.proofs.After.{Moved, step_moves}

pub record Stepped (R R' : Replay) (l : TraceLine) : Type 0 where
  pub word : Redex
  pub part : Part
  pub machine : Machine
  pub moves : step R.machine l.thread part ≡ Some machine
  pub moved : Moved R.machine l.thread machine
  pub word_is : moved.word ≡ word
  pub is : record { machine = machine; things = things_after (effect word) R.things } ≡ R'

word_is_next : (t : MachineThread) (b : Bool) (w : Redex) → word_of b t ≡ Some w → next_redex t.control ≡ Some w
unfolding word_of
word_is_next t true w h = none_is_not_some h
word_is_next t false w h = h

pub same_word : {M N : Machine} {w : Redex} (l : TraceLine) (D : Moved M l.thread N) (t : MachineThread) → slice_get M.threads l.thread ≡ Some t →
    next_redex t.control ≡ Some w → D.word ≡ w
same_word l D t there next =
    some_injective (sym D.was_next ∙ ap (λ (u : MachineThread). next_redex u.control) (some_injective (sym D.live_there.there ∙ there)) ∙ next)

pub step_taken : (R R' : Replay) (l : TraceLine) → Kept R.machine → stepped R l ≡ Some R' → Stepped R R' l
unfolding stepped
step_taken R R' l kept q =
    let (t, there, q₁) = bind_is_some (slice_get R.machine.threads l.thread) q in
    let (w, next, q₂) = bind_is_some (word_of t.joined t) q₁ in
    let (c, _, q₃) = bind_is_some (part_chosen w l.choice) q₂ in
    let (N, moves, q₄) = bind_is_some (step R.machine l.thread c) q₃ in
    let D = step_moves R.machine l.thread c N kept moves in
    record {
      word = w;
      part = c;
      machine = N;
      moves = moves;
      moved = D;
      word_is = same_word {N = N} l D t there (word_is_next t t.joined w next);
      is = some_injective {a = record { machine = N; things = things_after (effect w) R.things }} q₄;
    }
