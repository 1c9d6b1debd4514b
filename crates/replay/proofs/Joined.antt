-- A trace that comes in pieces: lines behind lines, and a run that goes on with them.
use Rattle.std.proofs.Common.{Option, None, Some}
use Rattle.std.specs.Prelude.{is_some}
use Prim.Native.Nat.{ℕ, ◌<◌}
use mathlib.Core.Path.{◌≡◌, refl, sym, ◌∙◌, ap}
use mathlib.Core.Bool.{Bool, true, false}
use mathlib.Core.List.{List, [], ◌∷◌, ◌++◌}
use native.Mathlib.Omega.{arith}
use lib.Dec.{eqb}
use lib.ListN.{length}
use Rattle.spec.specs.Choice.{when◌then◌else◌}
use Rattle.spec.specs.Text.{Line, closed, unclosed, on_line, lines}
use Rattle.replay_control.specs.Layout.{space_size}
use Rattle.replay_theory.specs.declared.Ending.{Ending}
use Rattle.replay_theory.specs.declared.Replayed.{Replayed}
use Rattle.replay_machine.specs.Replay.{play_from}
use Rattle.replay_loop.specs.declared.Point.{Point}
use Rattle.replay_loop.specs.Play.{LoopPre, LoopPost}
use Rattle.replay.specs.Pieces.{ends_line, telling_by, telling}

-- ------------------------------------------------------------------ lines behind lines

record NotEmpty (ls : List Line) : Type 0 where
  first : Line
  others : List Line
  is : ls ≡ first ∷ others

some_line : (b : ℕ) (t : List ℕ) → NotEmpty (lines (b ∷ t))
unfolding lines on_line
some_line b t = by_byte (eqb b 10) (lines t)
  where
    by_byte : (x : Bool) (ls : List Line) → NotEmpty (when x then closed [] ∷ lines t else on_line b ls)
    by_byte true ls = record { first = _; others = _; is = refl }
    by_byte false [] = record { first = _; others = _; is = refl }
    by_byte false (closed l ∷ r) = record { first = _; others = _; is = refl }
    by_byte false (unclosed l ∷ r) = record { first = _; others = _; is = refl }

on_line_joined : (b : ℕ) (l : Line) (ls ms : List Line) → on_line b (l ∷ (ls ++ ms)) ≡ on_line b (l ∷ ls) ++ ms
unfolding on_line
on_line_joined b (closed x) ls ms = refl
on_line_joined b (unclosed x) ls ms = refl

on_some_joined : (b : ℕ) (ls ms : List Line) → NotEmpty ls → on_line b (ls ++ ms) ≡ on_line b ls ++ ms
on_some_joined b ls ms S =
    ap (λ (x : List Line). on_line b (x ++ ms)) S.is
    ∙ on_line_joined b S.first S.others ms
    ∙ ap (λ (x : List Line). on_line b x ++ ms) (sym S.is)

-- behind a text that ends with a line, lines are lines of their own
pub lines_joined : (t u : List ℕ) → ends_line t ≡ true → lines (t ++ u) ≡ lines t ++ lines u
unfolding lines ends_line
lines_joined [] u e = refl
lines_joined (b ∷ []) u e = rw e refl
lines_joined (b ∷ c ∷ t) u e = by_byte (eqb b 10) (lines_joined (c ∷ t) u e)
  where
    by_byte : (x : Bool) → lines (c ∷ (t ++ u)) ≡ lines (c ∷ t) ++ lines u →
        ◌≡◌ {A = List Line} (when x then closed [] ∷ lines (c ∷ (t ++ u)) else on_line b (lines (c ∷ (t ++ u)))) ((when x then closed [] ∷ lines (c ∷ t) else on_line b (lines (c ∷ t))) ++ lines u)
    by_byte true h = ap (λ (ls : List Line). closed [] ∷ ls) h
    by_byte false h = ap (on_line b) h ∙ on_some_joined b (lines (c ∷ t)) (lines u) (some_line c t)

pub joined_again : (ls ms ns : List Line) → (ls ++ ms) ++ ns ≡ ls ++ (ms ++ ns)
joined_again [] ms ns = refl
joined_again (l ∷ ls) ms ns = ap (λ (x : List Line). l ∷ x) (joined_again ls ms ns)

pub none_behind : (ls : List Line) → ls ++ [] ≡ ls
none_behind [] = refl
none_behind (l ∷ ls) = ap (λ (x : List Line). l ∷ x) (none_behind ls)

-- ------------------------------------------------------------------ a run goes on

module _ (whole : List Line → Replayed) (p s piece : List ℕ) (q : Point) where
  abbrev behind : List Line → Replayed
  behind ls = whole (lines piece ++ ls)

  -- a run that has stopped is told by no line
  pub stopped_stays : (pr : Option Ending) → is_some pr ≡ true → LoopPost pr whole p s q → LoopPost pr behind p s q
  stopped_stays (Some e) h C = λ ls. C (lines piece ++ ls)
  stopped_stays None h C = absurd (let z : ◌≡◌ {A = ℕ} 0 1 = cc in omega arith)

  -- in a space that is too short every run has stopped
  pub short_stays : (pr : Option Ending) → length s < space_size → LoopPost pr whole p s q → LoopPost pr behind p s q
  short_stays (Some e) short C = λ ls. C (lines piece ++ ls)
  short_stays None short C = absurd (let l = C.held.long in omega (arith, l, short))

  pub goes_on : (pr : Option Ending) → is_some pr ≡ false → LoopPost pr whole p s q →
      LoopPre behind p s piece (record { ending = pr; threads = q.threads; at = 0; steps = q.steps; race = q.race })
  goes_on None h G = record { going = refl; run = G.run; held = G.held; counts = G.counts; comes_to = λ ls. G.comes_to (lines piece ++ ls) }
  goes_on (Some e) h C = absurd (let z : ◌≡◌ {A = ℕ} 0 1 = cc in omega arith)

-- ------------------------------------------------------------------ what it tells

telling_comes : (pr : Option Ending) (whole : List Line → Replayed) (p s : List ℕ) (q : Point) → LoopPost pr whole p s q → telling_by pr q ≡ whole []
unfolding telling_by play_from
telling_comes (Some e) whole p s q C = C []
telling_comes None whole p s q C = C.comes_to []

pub tells : (whole : List Line → Replayed) (p s : List ℕ) (q : Point) → LoopPost q.ending whole p s q → telling q ≡ whole []
unfolding telling
tells whole p s q C = telling_comes q.ending whole p s q C
