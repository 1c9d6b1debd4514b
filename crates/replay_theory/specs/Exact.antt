-- That the claims are exact: at most one report fits given runs; one count of steps and one answer; and for a program and a trace one list of
-- runs, in which the calls that count as open are those that run. That what is handed back fits is claimed of every replay (Claim). These are
-- proved in proofs/AtMostOneRace, AtMostOneEnd, AtMostOneStep, AtMostOneWay and Running.
use Rattle.std.specs.Prelude.{ℕ, suc, ◌<◌, ◌≡◌, List, length, take, Some, slice_get}
use Rattle.spec.specs.Text.{Line}
use Rattle.calculus.specs.Expression.{Exp, Program}
use Rattle.calculus.specs.State.{Thread}
use Rattle.calculus.specs.Claim.{Every}
use Rattle.replay_theory.specs.Paths.{Path}
use Rattle.replay_theory.specs.Run.{ObjectKind, Run, start_run, makes, effect}
use Rattle.replay_theory.specs.Claim.{Numbered, LowestFinished, open_calls_of, Runs, Follows, RaceReported}
use Rattle.replay_theory.specs.declared.FirstRace.{FirstRace}
use Rattle.replay_theory.specs.declared.Numbers.{Numbers}

-- One report of given runs.
abbrev pub OneRace : Type 0
OneRace = (rs : List Run) (x y : FirstRace) → RaceReported rs x → RaceReported rs y → x ≡ y

-- One count of steps and one answer of given runs.
abbrev pub OneEnd : Type 0
OneEnd = (rs : List Run) (ls : List Line) (m n : ℕ) (a b : Numbers) → Follows rs ls m a → Follows rs ls n b → (m ≡ n) × (a ≡ b)

-- The threads have different numbers.
abbrev pub Apart : List ℕ → Type 0
Apart numbers = (p q i : ℕ) → slice_get numbers p ≡ Some i → slice_get numbers q ≡ Some i → p ≡ q

-- One lowest finished thread.
abbrev pub OneLowest : Type 0
OneLowest = (r : Run) (n p q : ℕ) → Apart r.numbers → LowestFinished r n p → LowestFinished r n q → p ≡ q

-- ------------------------------------------------------------------ one list of runs

-- The same in all that the claims look at.
pub record Alike (r s : Run) : Type 0 where
  pub procedures : r.procedures ≡ s.procedures
  pub state : r.state ≡ s.state
  pub numbers : r.numbers ≡ s.numbers
  pub threads : r.threads ≡ s.threads

module _ {rs ss : List Run} {ls : List Line} {m n : ℕ} {a b : Numbers} (F : Follows rs ls m a) (G : Follows ss ls n b) where
  -- No line of a trace lists the name that a new thing gets: it is given beside the trace.
  abbrev pub SameNames : Type 0
  SameNames = (k : ℕ) (i : k < m) (j : k < n) (thing : ObjectKind) → effect (F.each k i).reduced.word ≡ makes thing →
      (F.each k i).step.move.fresh ≡ (G.each k j).step.move.fresh

  -- The one is the other, run by run and step by step.
  pub record SameExecution : Type 0 where
    pub steps : m ≡ n
    pub answer : a ≡ b
    pub reduced : F.reduced ≡ G.reduced
    pub counted : length rs ≡ length ss
    pub runs : (k : ℕ) (r s : Run) → slice_get rs k ≡ Some r → slice_get ss k ≡ Some s → Alike r s

-- From the start of a program one list of runs follows a trace, and with it one count of steps and one answer.
abbrev pub OneExecution : Type 0
OneExecution = (p : Program) (rs ss : List Run) (ls : List Line) (m n : ℕ) (a b : Numbers) → slice_get rs 0 ≡ Some (start_run p) → slice_get ss 0 ≡ Some (start_run p) →
    (F : Follows rs ls m a) (G : Follows ss ls n b) → SameNames F G → SameExecution F G

-- ------------------------------------------------------------------ its open calls

-- Something that stands at the path p in e runs.
abbrev pub RunsAt : Exp → Path → Type 0
RunsAt e p = (d : Exp) × Runs e p d

-- What a thread does next, in any of these runs, the body of each of its open calls does.
abbrev pub OpenCallsRun : Type 0
OpenCallsRun = (p : Program) (rs : List Run) (ls : List Line) (m : ℕ) (a : Numbers) → slice_get rs 0 ≡ Some (start_run p) → (F : Follows rs ls m a) →
    (n : ℕ) (r : Run) → slice_get rs n ≡ Some r → (i place : ℕ) (t : Thread) → Numbered r i place t →
    Every (RunsAt t.body) (open_calls_of i (take n F.reduced) (take (suc n) rs))
