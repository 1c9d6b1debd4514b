-- A line done on numbers is the machine's line: the run goes on to the same end, or ends so.
use Rattle.std.proofs.Common.{Option, None, Some, Result}
use Rattle.std.specs.Prelude.{is_some}
use Prim.Native.Nat.{ℕ, suc, ◌+◌, ◌-◌, ◌<◌, ◌≤◌}
use mathlib.Core.Path.{◌≡◌, refl, sym, ◌∙◌, ap, subst}
use mathlib.Core.Bool.{Bool, true, false}
use mathlib.Core.List.{List, [], ◌∷◌, ◌++◌}
use native.Mathlib.Omega.{arith}
use lib.Dec.{eqb}
use lib.ListN.{length, drop, length-drop, drop_of_length-le}
use Rattle.spec.specs.Choice.{when◌then◌else◌}
use Rattle.spec.specs.Text.{Line, closed, unclosed, lines, on_line as text_line}
use Rattle.lexer.specs.Views.{line_at}
use Rattle.lexer.specs.Numbers.{stored}
use Rattle.trace.specs.Lines.{move_in}
use Rattle.threads.specs.declared.Threads.{Threads}
use Rattle.replay_engine.specs.declared.Halted.{Halted}
use Rattle.replay_engine.specs.Steps.{stepped}
use Rattle.replay_theory.specs.Trace.{TraceLine, trace_line}
use Rattle.replay_theory.specs.Replay.{Outcome, bad_form, no_step, past_limit, step, check_limits, line_outcome}
use Rattle.replay_theory.specs.declared.Ending.{Ending}
use Rattle.replay_theory.specs.declared.Replayed.{Replayed}
use Rattle.replay_machine.specs.Replay as machine
use Rattle.replay_machine.specs.Replay.{Replay, within, or_race, ended, play_on, play_from}
use Rattle.replay_simulation.proofs.Moving.{Answered}
use Rattle.replay_simulation.proofs.Racing.{lowest_pair_alike}
use Rattle.replay_simulation.proofs.Posting.{CountsWithin, stepped_counts}
use Rattle.replay_simulation.proofs.Lining.{LineDecoded, open_line, shut_line, line_decodes}
use Rattle.replay_simulation.proofs.Resting.{RestAt, rest_at}
use Rattle.replay_simulation.proofs.Stored.{line_answered}
use Rattle.replay_loop.specs.declared.Point.{Point}
use Rattle.replay_loop.specs.Play.{race_after, stopped_by, ending_of, by_outcome, after_step, line_done, Steady, LoopPre, LoopPost}

-- what is known of a run behind a line, by whether it goes on
abbrev pub Tells : Option Ending → (whole : List Line → Replayed) (p s piece : List ℕ) → Point → Type 0
Tells (Some e) whole p s piece q = (ls : List Line) → ended e q.steps q.race ≡ whole ls
Tells None whole p s piece q = LoopPre whole p s piece q

-- a run that nothing has stopped
pub goes_on : (x : Option Ending) → is_some x ≡ false → x ≡ None
goes_on None z = refl
goes_on (Some e) z = absurd (let y : ◌≡◌ {A = ℕ} 0 1 = cc in omega arith)

abbrev pub LineTells : (whole : List Line → Replayed) (p piece : List ℕ) → Point × List ℕ → Type 0
LineTells whole p piece r = Tells r.0.ending whole p r.1 piece r.0

limited_step : (o : Option Replay) (R : Replay) → check_limits within o ≡ step R → o ≡ Some R
unfolding check_limits
limited_step None R e = absurd (let y : ◌≡◌ {A = ℕ} 0 1 = cc in omega arith)
limited_step (Some a) R e = by_limit (within a) e
  where
    by_limit : (b : Bool) → ◌≡◌ {A = Outcome Replay} (when b then step a else past_limit) (step R) → Some a ≡ Some R
    by_limit true e = ap Some (let z : a ≡ R = cc in z)
    by_limit false e = absurd (let y : ◌≡◌ {A = ℕ} 0 1 = cc in omega arith)

-- a text that is not empty has a line
some_line : (t : List ℕ) → 0 < length t → lines t ≡ [] → ⊥
unfolding lines text_line
some_line [] h e = omega arith
some_line (b ∷ t) h e = by_byte (eqb b 10) (lines t) e
  where
    by_byte : (x : Bool) (ls : List Line) → ◌≡◌ {A = List Line} (when x then closed [] ∷ lines t else text_line b ls) [] → ⊥
    by_byte true ls e = let y : ◌≡◌ {A = ℕ} 0 1 = cc in omega arith
    by_byte false [] e = let y : ◌≡◌ {A = ℕ} 0 1 = cc in omega arith
    by_byte false (closed l ∷ r) e = let y : ◌≡◌ {A = ℕ} 0 1 = cc in omega arith
    by_byte false (unclosed l ∷ r) e = let y : ◌≡◌ {A = ℕ} 0 1 = cc in omega arith

module _ (whole : List Line → Replayed) (p s piece : List ℕ) (q : Point) (P : LoopPre whole p s piece q) (S : Steady piece q) where
  abbrev R : Replay
  R = P.run

  few : q.at < length piece → suc q.steps < 18446744073709551616
  few l = let b = S.room in omega (arith, b, l)

  answers : q.at < length piece → (l : TraceLine) → Answered p (check_limits within (machine.stepped R l)) (stepped p s q.threads (stored l.thread) (stored l.choice))
  answers h l = line_answered p s q.threads R q.steps P.held P.counts (few h) l

  -- the answer to a line that lists a move
  by_answer : (o : Outcome Replay) (r : Result Threads Halted × List ℕ) (next : ℕ) (rest : List Line) → Answered p o r → ((R' : Replay) → o ≡ step R' → CountsWithin (suc q.steps) R'.machine.names) →
      lines (drop next piece) ≡ rest →
      ((ls : List Line) → play_on q.steps q.race o (λ R'. play_from (q.steps + 1) (or_race q.race (q.steps + 1) (machine.lowest_pair R')) R' (rest ++ ls)) ≡ whole ls) →
      LineTells whole p piece (after_step p q next r)
  unfolding after_step by_outcome ending_of play_on stopped_by race_after
  by_answer bad_form r next rest a counts left e = absurd a
  by_answer no_step r next rest (T, m) counts left e = rw m e
  by_answer past_limit r next rest (T, m) counts left e = rw m e
  by_answer (step R') r next rest (T, m, H) counts left e = rw m (
      record {
        going = refl;
        run = R';
        held = H;
        counts = subst (λ (k : ℕ). CountsWithin k R'.machine.names) (let z : suc q.steps ≡ q.steps + 1 = omega arith in z) (counts R' refl);
        comes_to = λ ls.
            ap (λ (x : Option (ℕ × ℕ)). play_from (q.steps + 1) (or_race q.race (q.steps + 1) x) R' (lines (drop next piece) ++ ls)) (lowest_pair_alike p r.1 T R' H)
            ∙ ap (λ (x : List Line). play_from (q.steps + 1) (or_race q.race (q.steps + 1) (machine.lowest_pair R')) R' (x ++ ls)) left ∙ e ls;
      }
      )

  -- the first of the lines that are left
  by_line_lem : q.at < length piece → (l : Line) (rest : List Line) → lines (drop q.at piece) ≡ l ∷ rest → LineDecoded (drop q.at piece) l rest (length piece) →
      LineTells whole p piece (line_done p s q (move_in (length piece) (line_at (drop q.at piece))))
  unfolding play_from play_on line_outcome line_done stopped_by
  by_line_lem h l rest e (open_line malformed none_there) =
      let w : (ls : List Line) → play_from q.steps q.race R (l ∷ (rest ++ ls)) ≡ whole ls = λ ls. ap (λ (x : List Line). play_from q.steps q.race R (x ++ ls)) (sym e) ∙ P.comes_to ls in
      rw malformed (rw none_there at w)
  by_line_lem h l rest e (shut_line fs r line_there told left) = by_form (trace_line l) refl
    where
      behind : RestAt piece q.at (length piece - length r) r
      behind = rest_at piece q.at fs r S.in_piece line_there

      w : (ls : List Line) → play_from q.steps q.race R (l ∷ (rest ++ ls)) ≡ whole ls
      w = λ ls. ap (λ (x : List Line). play_from q.steps q.race R (x ++ ls)) (sym e) ∙ P.comes_to ls

      by_form : (o : Option TraceLine) → trace_line l ≡ o → LineTells whole p piece (line_done p s q (move_in (length piece) (line_at (drop q.at piece))))
      by_form None z = rw (told, z) (rw z at w)
      by_form (Some m) z =
          rw (told, z)
          (by_answer (check_limits within (machine.stepped R m)) (stepped p s q.threads (stored m.thread) (stored m.choice)) (length piece - length r) rest (answers h m)
          (λ R' y. stepped_counts q.steps R R' m P.counts (limited_step (machine.stepped R m) R' y))
          (ap lines behind.left ∙ left)
          (rw z at w))

  line_tells : q.at < length piece → LineTells whole p piece (line_done p s q (move_in (length piece) (line_at (drop q.at piece))))
  line_tells h = by_lines (lines (drop q.at piece)) refl
    where
      by_lines : (ls : List Line) → lines (drop q.at piece) ≡ ls → LineTells whole p piece (line_done p s q (move_in (length piece) (line_at (drop q.at piece))))
      by_lines [] e = absurd (some_line (drop q.at piece) (let l = length-drop q.at piece in omega (arith, l, h)) e)
      by_lines (l ∷ ls) e = by_line_lem h l ls e (line_decodes (drop q.at piece) l ls (length piece) e)

  -- the end of the piece
  pub piece_done : length piece ≤ q.at → LoopPost q.ending whole p s q
  unfolding lines
  piece_done h = subst (λ (x : Option Ending). LoopPost x whole p s q) (sym P.going)
      (record { run = P.run; held = P.held; counts = P.counts; comes_to = rw (drop_of_length-le piece {i = q.at} h) at P.comes_to })

  -- ---- what a caller of a line knows

  abbrev After : Point → List ℕ → Type 0
  After q' s' = line_done p s q (move_in (length piece) (line_at (drop q.at piece))) ≡ (q', s')

  told_after : (q' : Point) (s' : List ℕ) → q.at < length piece → After q' s' → Tells q'.ending whole p s' piece q'
  told_after q' s' h e = subst (LineTells whole p piece) e (line_tells h)

  stopped_tells : (x : Option Ending) (s' : List ℕ) (q' : Point) → is_some x ≡ true → Tells x whole p s' piece q' → LoopPost x whole p s' q'
  stopped_tells (Some e) s' q' z t = t
  stopped_tells None s' q' z t = absurd (let y : ◌≡◌ {A = ℕ} 0 1 = cc in omega arith)

  pub line_stops : {q' : Point} {s' : List ℕ} → q.at < length piece → After q' s' → is_some q'.ending ≡ true → LoopPost q'.ending whole p s' q'
  line_stops {q'} {s'} h e z = stopped_tells q'.ending s' q' z (told_after q' s' h e)

  pub line_goes : {q' : Point} {s' : List ℕ} → q.at < length piece → After q' s' → is_some q'.ending ≡ false → LoopPre whole p s' piece q'
  line_goes {q'} {s'} h e z = subst (λ (x : Option Ending). Tells x whole p s' piece q') (goes_on q'.ending z) (told_after q' s' h e)
