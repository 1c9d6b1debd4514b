-- The run of a program behind a trace: how it is begun, kept, and told.
use Rattle.std.proofs.Common.{Option, None, Some, unwrap_or, Result, Ok, Err}
use Rattle.std.specs.Prelude.{is_some}
use Prim.Native.Nat.{ℕ, ◌<◌, ◌≤◌}
use mathlib.Core.Path.{◌≡◌, refl, sym, ◌∙◌, ap, subst}
use mathlib.Core.Bool.{true}
use mathlib.Core.List.{List, [], ◌++◌}
use native.Mathlib.Omega.{arith}
use lib.ListN.{length, take, drop, length-take}
use lib.Seq.{length-take-le, take_at}
use Rattle.spec.specs.Text.{Line, lines}
use Rattle.spec.specs.Program.{Program}
use Rattle.spec.specs.declared.Refusal.{Refusal}
use Rattle.replay_control.specs.Layout.{space_size}
use Rattle.replay_theory.specs.Replay as definition
use Rattle.replay_theory.specs.Replay.{replay_space, judged, refused}
use Rattle.replay_theory.specs.declared.Ending.{Ending}
use Rattle.replay_theory.specs.declared.Ending.TheVariants.{Done}
use Rattle.replay_theory.specs.declared.Replayed.{Replayed}
use Rattle.replay_machine.specs.Replay.{start_replay, ended, play, replayed, replay}
use Rattle.replay_machine.proofs.Replay.{machine_replays}
use Rattle.replay_loop.specs.declared.Point.{Point}
use Rattle.replay_loop.specs.Play.{LoopPost}
use Rattle.replay.specs.Start.{refused_point}
use Rattle.replay.specs.Pieces.{ends_line, telling_by, telling, RunOf}
use Rattle.replay.proofs.Starting.{room_enough}
use Rattle.replay.proofs.Joined.{lines_joined, joined_again, none_behind, stopped_stays, short_stays, tells}

-- ------------------------------------------------------------------ begun

pub refused_comes : (o : Result Program Refusal) (r : Refusal) (p s : List ℕ) (q : Point) → o ≡ Err r → q ≡ refused_point r → LoopPost q.ending (λ ls. replayed o ls) p s q
unfolding refused_point replayed ended refused
refused_comes o r p s q e h = rw (h, e) (λ ls. refl)

pub no_steps : (r : Refusal) {q : Point} → q ≡ refused_point r → q.steps ≡ 0
unfolding refused_point
no_steps r h = ap (λ (x : Point). x.steps) h

pub refused_telling : (r : Refusal) {q : Point} → q ≡ refused_point r → telling q ≡ refused r
unfolding telling telling_by refused_point ended refused
refused_telling r h = ap telling h

pub refused_begins : (o : Result Program Refusal) (r : Refusal) (p s : List ℕ) (q : Point) → o ≡ Err r → q ≡ refused_point r →
    LoopPost q.ending (λ ls. replayed o ls) p s q × (q.steps ≡ 0)
refused_begins o r p s q e h = (refused_comes o r p s q e h, no_steps r h)

pub read_begins : (o : Result Program Refusal) (P : Program) (p s : List ℕ) (q : Point) → o ≡ Ok P → LoopPost q.ending (play (start_replay P)) p s q → LoopPost q.ending (λ ls. replayed o ls) p s q
unfolding replayed
read_begins o P p s q e C = subst (λ (x : Result Program Refusal). LoopPost q.ending (λ ls. replayed x ls) p s q) (sym e) C

pub refused_run : (text job s : List ℕ) (r : Refusal) (q : Point) → judged (length s) text ≡ Err r → q ≡ refused_point r → RunOf text [] job s q
unfolding lines
refused_run text job s r q e h = record { comes = refused_comes (judged (length s) text) r job (take replay_space s) q e h }

-- The first N numbers of s are lent, and come back as x. N is a variable here, since `take 542960` would be computed.
module _ (N : ℕ) (is : N ≡ replay_space) (s x : List ℕ) (h : N ≤ length s) (k : length x ≡ length (take N s)) where
  front : take replay_space (x ++ drop N s) ≡ x
  front = ap (λ (n : ℕ). take n (x ++ drop N s)) (sym is) ∙ take_at x (drop N s) N (k ∙ length-take-le N s h)

  module _ (long : length (x ++ drop N s) ≡ length s) where
    pub begun_run : (text job : List ℕ) (q : Point) → LoopPost q.ending (λ ls. replayed (judged replay_space text) ls) job x q → RunOf text [] job (x ++ drop N s) q
    unfolding lines
    begun_run text job q C =
        let room : replay_space ≤ length (x ++ drop N s) = omega (arith, is, h, long) in
        record {
          comes = subst (λ (y : List ℕ). LoopPost q.ending (λ ls. replayed (judged (length (x ++ drop N s)) text) ls) job y q) (sym front)
              (subst (λ (o : Result Program Refusal). LoopPost q.ending (λ ls. replayed o ls) job x q) (room_enough (length (x ++ drop N s)) text room) C);
        }

    -- behind a piece
    pub further_run : (text trace job piece : List ℕ) (q q' : Point) → RunOf text trace job s q → ends_line trace ≡ true →
        ((whole : List Line → Replayed) → LoopPost q.ending whole job (take N s) q → LoopPost q'.ending (λ ls. whole (lines piece ++ ls)) job x q') →
        RunOf text (trace ++ piece) job (x ++ drop N s) q'
    further_run text trace job piece q q' R ends goes = record {
      comes = subst (λ (y : List ℕ). LoopPost q'.ending (λ ls. replayed (judged (length (x ++ drop N s)) text) (lines (trace ++ piece) ++ ls)) job y q') (sym front)
          (subst (λ (whole : List Line → Replayed). LoopPost q'.ending whole job x q') same
          (goes (λ ls. replayed (judged (length s) text) (lines trace ++ ls)) (subst (λ (n : ℕ). LoopPost q.ending (λ ls. replayed (judged (length s) text) (lines trace ++ ls)) job (take n s) q) (sym is) R.comes)));
    }
      where
        same : ◌≡◌ {A = List Line → Replayed} (λ ls. replayed (judged (length s) text) (lines trace ++ (lines piece ++ ls))) (λ ls. replayed (judged (length (x ++ drop N s)) text) (lines (trace ++ piece) ++ ls))
        same = λ i ls. replayed (judged (long' i) text) (all ls i)
          where
            long' : length s ≡ length (x ++ drop N s)
            long' = sym long

            all : (ls : List Line) → lines trace ++ (lines piece ++ ls) ≡ lines (trace ++ piece) ++ ls
            all ls = sym (joined_again (lines trace) (lines piece) ls) ∙ ap (λ (ms : List Line). ms ++ ls) (sym (lines_joined trace piece ends))

module _ (text trace job s piece : List ℕ) (q : Point) where
  -- a run that the piece does not change
  staying_run : RunOf text trace job s q → ends_line trace ≡ true →
      ((whole : List Line → Replayed) → LoopPost q.ending whole job (take replay_space s) q → LoopPost q.ending (λ ls. whole (lines piece ++ ls)) job (take replay_space s) q) →
      RunOf text (trace ++ piece) job s q
  staying_run R ends stays = record {
    comes = subst (λ (whole : List Line → Replayed). LoopPost q.ending whole job (take replay_space s) q) same
        (stays (λ ls. replayed (judged (length s) text) (lines trace ++ ls)) R.comes);
  }
    where
      same : ◌≡◌ {A = List Line → Replayed} (λ ls. replayed (judged (length s) text) (lines trace ++ (lines piece ++ ls))) (λ ls. replayed (judged (length s) text) (lines (trace ++ piece) ++ ls))
      same = λ i ls. replayed (judged (length s) text) (all ls i)
        where
          all : (ls : List Line) → lines trace ++ (lines piece ++ ls) ≡ lines (trace ++ piece) ++ ls
          all ls = sym (joined_again (lines trace) (lines piece) ls) ∙ ap (λ (ms : List Line). ms ++ ls) (sym (lines_joined trace piece ends))

  -- a space that is too short holds no run that goes on
  pub short_run : length s < space_size → RunOf text trace job s q → ends_line trace ≡ true → RunOf text (trace ++ piece) job s q
  short_run short R ends =
      staying_run R ends (λ whole C. short_stays whole job (take replay_space s) piece q q.ending (let l = length-take replay_space s in omega (arith, l, short)) C)

  pub stopped_run : is_some q.ending ≡ true → RunOf text trace job s q → ends_line trace ≡ true → RunOf text (trace ++ piece) job s q
  stopped_run is R ends = staying_run R ends (λ whole C. stopped_stays whole job (take replay_space s) piece q q.ending is C)

-- ------------------------------------------------------------------ told

pub tells_ending : (q : Point) {ending : Ending} → ending ≡ unwrap_or q.ending Done → record { ending = ending; report = record { steps = q.steps; race = q.race } } ≡ telling q
unfolding telling telling_by ended
tells_ending q e = rw e (by_cases q.ending)
  where
    by_cases : (o : Option Ending) → record { ending = unwrap_or o Done; report = record { steps = q.steps; race = q.race } } ≡ telling_by o q
    by_cases (Some e) = refl
    by_cases None = refl

pub told_replays : (text trace job space : List ℕ) (q : Point) → RunOf text trace job space q → telling q ≡ definition.replay (length space) text trace
unfolding replay
told_replays text trace job space q R =
    tells (λ ls. replayed (judged (length space) text) (lines trace ++ ls)) job (take replay_space space) q R.comes
    ∙ ap (replayed (judged (length space) text)) (none_behind (lines trace))
    ∙ machine_replays (length space) text trace
