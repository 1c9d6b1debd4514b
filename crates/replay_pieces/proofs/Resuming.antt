-- A run is kept, read back as it was, and goes on behind a piece.
use Rattle.std.proofs.Common.{Option, None, Some}
use Rattle.std.specs.Prelude.{is_some, is_none}
use Rattle.std.specs.Int.{from_bool}
use Prim.Native.Nat.{ℕ, ◌+◌, ◌<◌}
use mathlib.Core.Path.{◌≡◌, refl, sym, ◌∙◌, ap, subst}
use mathlib.Core.Bool.{Bool, true, false, not}
use mathlib.Core.List.{List, ◌++◌}
use native.Mathlib.Omega.{arith}
use lib.ListN.{length, get_or, take}
use Rattle.spec.specs.Text.{Line, lines}
use Rattle.threads.specs.declared.Threads.{Threads}
use Rattle.replay_theory.specs.declared.Ending.{Ending}
use Rattle.replay_theory.specs.declared.Race.{Race}
use Rattle.replay_theory.specs.declared.Replayed.{Replayed}
use Rattle.replay_theory.specs.Replay.{replay, judged, replay_space, returned_for}
use Rattle.replay_answers.specs.Numbers.{race_numbers}
use Rattle.replay_machine.specs.Replay.{ended, replayed}
use Rattle.replay_loop.specs.declared.Point.{Point}
use Rattle.replay_loop.specs.Play.{GoesTo, LoopPost}
use Rattle.replay.specs.Pieces.{ends_line, telling_by, telling, RunOf}
use Rattle.replay.proofs.Runs.{stopped_run, told_replays}
use Rattle.replay_kept.specs.declared.numbers.Told.{Told}
use Rattle.replay_kept.specs.Kept.{told_numbers, told_in, RecordsKept, RaceKept, FrontKept}
use Rattle.replay_kept.proofs.Keeping.{record_behind}
use Rattle.replay_kept.proofs.Rereading.{threads_back}
use Rattle.replay_pieces.specs.Runs.{Keeps, at_start}
use Rattle.replay_pieces.specs.Pieces.{answer_number, RunIn}

-- ------------------------------------------------------------------ what a run tells of itself

told_steps : (pr : Option Ending) (q : Point) → (telling_by pr q).report.steps ≡ q.steps
unfolding telling_by ended
told_steps (Some e) q = refl
told_steps None q = refl

told_race : (pr : Option Ending) (q : Point) → (telling_by pr q).report.race ≡ q.race
unfolding telling_by ended
told_race (Some e) q = refl
told_race None q = refl

pub steps_kept : (q : Point) (w : List ℕ) → Keeps q w → get_or w 5 0 ≡ q.steps
unfolding told_in told_numbers telling
steps_kept q w K = ap (λ (t : Told). t.steps) K.told ∙ told_steps q.ending q

pub race_kept : (q : Point) (w : List ℕ) → Keeps q w → RaceKept q.race w
unfolding told_in told_numbers telling
race_kept q w K = record { raced = K.raced; told = ap (λ (t : Told). t.race) K.told ∙ ap race_numbers (told_race q.ending q) }

-- ------------------------------------------------------------------ the run, kept and read back

twice : (b : Bool) → not (not b) ≡ b
twice true = refl
twice false = refl

pub going : (pr : Option Ending) (goes : Bool) → is_some pr ≡ not goes → from_bool goes ≡ from_bool (is_none pr)
going pr goes g = ap from_bool (sym (twice goes)) ∙ ap (λ (b : Bool). from_bool (not b)) (sym g)

pub keeps : (q : Point) (w w' : List ℕ) {goes : ℕ} {t : Told} {raced : ℕ} → goes ≡ from_bool (is_none q.ending) → t ≡ told_numbers (telling q) → raced ≡ from_bool (is_some q.race) →
    RecordsKept q.threads.records w → FrontKept goes t raced q.threads.count w w' → Keeps q w'
keeps q w w' g t r K F = record {
  goes = F.is_going ∙ g;
  told = F.told ∙ t;
  raced = F.is_raced ∙ r;
  count = F.counted;
  records = λ i h. record_behind w w' i F.behind ∙ K i h;
}

pub point_back : (q : Point) (w : List ℕ) {T : Threads} {k : ℕ} {race : Option Race} → Keeps q w → length q.threads.records ≡ 16 →
    RecordsKept T.records w × (length T.records ≡ 16) × (T.count ≡ get_or w 10 0) → k ≡ get_or w 5 0 → ((r : Option Race) → RaceKept r w → race ≡ r) →
    record { ending = None; threads = T; at = 0; steps = k; race = race } ≡ at_start q
unfolding at_start
point_back q w {T} K m T-is k_is race_is = λ i. record {
  ending = None;
  threads = threads_back w T q.threads T-is K.records m K.count i;
  at = 0;
  steps = (k_is ∙ steps_kept q w K) i;
  race = race_is q.race (race_kept q w K) i;
}

-- ------------------------------------------------------------------ whether it goes on

pub goes_kept : (pr : Option Ending) → (from_bool (is_none pr) ≡ 0 → ⊥) → pr ≡ None
goes_kept (Some e) z = absurd (z refl)
goes_kept None z = refl

stops_kept : (pr : Option Ending) → from_bool (is_none pr) ≡ 0 → is_some pr ≡ true
stops_kept (Some e) z = refl
stops_kept None z = absurd (omega (arith, z))

module _ (program trace job space : List ℕ) (q : Point) (R : RunOf program trace job space q) where
  abbrev whole : List Line → Replayed
  whole ls = replayed (judged (length space) program) (lines trace ++ ls)

  resumes : q.ending ≡ None → GoesTo whole job (take replay_space space) q
  resumes g = subst (λ (pr : Option Ending). LoopPost pr whole job (take replay_space space) q) g R.comes

  pub records_long : q.ending ≡ None → length q.threads.records ≡ 16
  records_long g = (resumes g).held.sized.records

  pub resumed : q.ending ≡ None → RunOf program trace job space (at_start q)
  unfolding at_start
  resumed g = let G = resumes g in record { comes = record { run = G.run; held = G.held; counts = G.counts; comes_to = G.comes_to } }

-- ------------------------------------------------------------------ behind a piece

pub answer_in : (program trace job space w : List ℕ) → RunIn program trace job space w → told_in w ≡ told_numbers (replay (length space) program trace)
answer_in program trace job space w I = I.kept.told ∙ ap told_numbers (told_replays program trace job space I.point I.is)

-- a run that is kept, and the number of its answer; `room` is the length of the space as it was lent
pub run_in : (program trace job space w : List ℕ) (q : Point) (n room : ℕ) → length space ≡ room → RunOf program trace job space q → Keeps q w × (n ≡ (told_numbers (telling q)).ending.number) →
    RunIn program trace job space w × (n ≡ answer_number room program trace)
unfolding told_numbers
run_in program trace job space w q n room long R (K, e) = (
  record { point = q; is = R; kept = K },
  e ∙ ap (λ (r : Replayed). (returned_for r.ending).number) (told_replays program trace job space q R) ∙ ap (λ (m : ℕ). answer_number m program trace) long,
)

module _ (program trace job space piece w : List ℕ) (I : RunIn program trace job space w) (ends : ends_line trace ≡ true) where
  abbrev q : Point
  q = I.point

  stopped_in : get_or w 0 0 ≡ 0 → RunIn program (trace ++ piece) job space w
  stopped_in z =
      record { point = q; is = stopped_run program trace job space piece q (stops_kept q.ending (sym I.kept.goes ∙ z)) I.is ends; kept = I.kept }

  -- a run that has stopped stays, and so does what it tells
  pub stopped_told : {t : Told} → get_or w 0 0 ≡ 0 → t ≡ told_in w → RunIn program (trace ++ piece) job space w × (t.ending.number ≡ answer_number (length space) program (trace ++ piece))
  unfolding told_numbers
  stopped_told z e = (stopped_in z, ap (λ (t : Told). t.ending.number) (e ∙ answer_in program (trace ++ piece) job space w (stopped_in z)))

  steps_told : q.steps ≡ (replay (length space) program trace).report.steps
  unfolding told_in told_numbers
  steps_told = sym (steps_kept q w I.kept) ∙ ap (λ (t : Told). t.steps) (answer_in program trace job space w I)

  -- one that goes on is read back, and goes on with the piece
  pub further_of : (p after : Point) (space' : List ℕ) → (get_or w 0 0 ≡ 0 → ⊥) → ((r : Point) → Keeps r w → length r.threads.records ≡ 16 → p ≡ at_start r) →
      ((text lines : List ℕ) → RunOf text lines job space p → ends_line lines ≡ true → p.steps + length piece < 18446744073709551616 → RunOf text (lines ++ piece) job space' after) →
      (replay (length space) program trace).report.steps + length piece < 18446744073709551616 → RunOf program (trace ++ piece) job space' after
  unfolding at_start
  further_of p after space' z back goes room =
      let g = goes_kept q.ending (λ e. z (I.kept.goes ∙ e)) in
      let e = back q I.kept (records_long program trace job space q I.is g) in
      let same = ap (λ (x : Point). x.steps) e in
      let told = steps_told in
      goes program trace (subst (λ (x : Point). RunOf program trace job space x) (sym e) (resumed program trace job space q I.is g)) ends (omega (arith, same, told, room))
