-- The start of a replay: from the sheet that the space holds to the point in front of the first line.
use Rattle.std.proofs.Common.{Option, None, Ok, Err}
use Prim.Native.Nat.{ℕ, ◌+◌, ◌<◌, ◌≤◌}
use mathlib.Core.Path.{◌≡◌, refl, sym, ◌∙◌, ap, subst}
use mathlib.Core.List.{List, [], ◌∷◌, map}
use native.Mathlib.Omega.{arith}
use borrow.Author.Tests.{le-leb, lt-leb}
use lib.ListN.{length, get_or, length-map}
use Rattle.spec.specs.Reading.{◌>>=◌, require}
use Rattle.spec.specs.Expression.{Step, Expr, size, steps_among, Procedure}
use Rattle.spec.specs.Program.{Program, program, program_limit}
use Rattle.spec.specs.WellFormed.{prefix, listing, WellFormedProgram}
use Rattle.spec.specs.declared.Refusal.{Refusal}
use Rattle.spec.specs.declared.Refusal.TheVariants.{ShortWorkspace, LongProgram}
use Rattle.spec.proofs.WellFormed.{program_well_formed}
use Rattle.spec.proofs.Listing.{prefix_length}
use Rattle.workspace.specs.Region.{Region}
use Rattle.workspace.specs.Holds.{HoldsProgram}
use Rattle.workspace.specs.Layout.{proc_vars_at, proc_firsts_at, code_of}
use Rattle.workspace.proofs.Held.{ends_length, body_sized, root_sized}
use Rattle.workspace.proofs.Expression.{codes, values, lines_of, Standing}
use Rattle.workspace.proofs.Bodies.{AllHere, all_here}
use Rattle.threads.specs.declared.Threads.{Threads}
use Rattle.replay_control.specs.Layout.{continuations_at, program_size, space_size}
use Rattle.replay_control.specs.Control.{first_of}
use Rattle.replay_control.specs.Continuations.{linked}
use Rattle.replay_engine.specs.Steps.{start_of}
use Rattle.program.specs.Sheet.{Answered}
use Rattle.program.specs.declared.Counts.{Counts}
use Rattle.program.proofs.Found.{ProgramFound, program_refused_by}
use Rattle.replay_theory.specs.Replay.{replay_space, judged}
use Rattle.replay_theory.specs.declared.Race.{Race}
use Rattle.replay_machine.specs.Replay.{start_replay, or_race, play_from, play}
use Rattle.replay_simulation.proofs.Bodies.{all_size, AllStanding, FirstsAt, VariablesAt, ProgramStands, program_stands}
use Rattle.replay_simulation.proofs.Ranging.{ParametersLow, well_formed_ranged, well_formed_parameters}
use Rattle.replay_simulation.proofs.Holds.{Holds}
use Rattle.replay_simulation.proofs.Starting.{start_held}
use Rattle.replay_simulation.proofs.Racing.{lowest_pair_alike}
use Rattle.replay_simulation.proofs.Posting.{start_counts}
use Rattle.replay_loop.specs.Play.{race_after, GoesTo}
use Rattle.replay.specs.Start.{Copied, HeldAs, Held}

-- ------------------------------------------------------------------ the first point

module _ (p s : List ℕ) (long : length s ≡ space_size) (P : Program) (A : ProgramStands p P.procedures P.root) (T : Threads) (s' : List ℕ) (e : start_of p s ≡ (T, s')) where
  held : Holds p s' T (start_replay P)
  held = subst (λ (x : Threads × List ℕ). Holds p x.1 x.0 (start_replay P)) e (start_held p s long P A)

  pub start_count : T.count ≤ 16
  start_count = let l = held.sized.fits in let k = held.sized.count in omega (arith, l, k)

  pub start_goes : {race : Option Race} → race ≡ race_after p s' T.count None 0 →
      GoesTo (play (start_replay P)) p s' (record { ending = None; threads = T; at = 0; steps = 0; race = race })
  unfolding play race_after
  start_goes {race} h = record {
    run = start_replay P;
    held = held;
    counts = start_counts P;
    comes_to = λ ls. ap (λ (x : Option Race). play_from 0 x (start_replay P) ls) (h ∙ ap (or_race None 0) (lowest_pair_alike p s' T (start_replay P) held));
  }

-- ------------------------------------------------------------------ the columns

-- two lists have the same numbers in front, and room for them
record Fronts (s p : List ℕ) : Type 0 where
  long : continuations_at ≤ length p
  same : (i : ℕ) → i < continuations_at → get_or p i 0 ≡ get_or s i 0

region_copied : {s p : List ℕ} → Fronts s p → (b : ℕ) (xs : List ℕ) → b + length xs ≤ continuations_at → Region s b xs → Region p b xs
region_copied C b xs low r = record {
  fits = let l = C.long in omega (arith, l, low);
  at = λ i h. C.same (b + i) (omega (arith, h, low)) ∙ r.at i h;
}

standing_copied : {s p : List ℕ} (e : Expr) (k : ℕ) → Fronts s p → k + size e ≤ 256 → Standing s k e → Standing p k e
unfolding codes values lines_of
standing_copied e k C few S =
    let w = length-map (prefix e) (λ (s : Step). code_of s.word) ∙ prefix_length e in
    let v = length-map (prefix e) (λ (s : Step). s.value) ∙ prefix_length e in
    let l = length-map (prefix e) (λ (s : Step). s.line) ∙ prefix_length e in
    let n = ends_length k e in
    record {
      words = region_copied C _ _ (omega (arith, w, few)) S.words;
      numbers = region_copied C _ _ (omega (arith, v, few)) S.numbers;
      lined = region_copied C _ _ (omega (arith, l, few)) S.lined;
      ended = region_copied C _ _ (omega (arith, n, few)) S.ended;
      indexed = S.indexed;
    }

all_copied : {s p : List ℕ} (ps : List Procedure) (root : Expr) (k : ℕ) → Fronts s p → k + all_size ps root ≤ 256 → AllStanding s k ps root → AllStanding p k ps root
unfolding all_size
all_copied [] root k C few S = standing_copied root k C few S
all_copied (b ∷ ps) root k C few (S, Ss) = (standing_copied b.body k C (omega (arith, few)) S, all_copied ps root (k + size b.body) C (omega (arith, few)) Ss)

firsts_copied : {s p : List ℕ} (ps : List Procedure) (f k : ℕ) → Fronts s p → f + length ps ≤ 16 → FirstsAt s f k ps → FirstsAt p f k ps
unfolding first_of
firsts_copied [] f k C h e = C.same (proc_firsts_at + f) (omega (arith, h)) ∙ e
firsts_copied (b ∷ ps) f k C h (e, es) = (C.same (proc_firsts_at + f) (omega (arith, h)) ∙ e, firsts_copied ps (f + 1) (k + size b.body) C (omega (arith, h)) es)

variables_copied : {s p : List ℕ} (ps : List Procedure) (f : ℕ) → Fronts s p → f + length ps ≤ 16 → VariablesAt s f ps → VariablesAt p f ps
variables_copied [] f C h v = tt
variables_copied (b ∷ ps) f C h (e, l, v) = (C.same (proc_vars_at + f) (omega (arith, h)) ∙ e, l, variables_copied ps (f + 1) C (omega (arith, h)) v)

held_copied : {s p : List ℕ} {P : Program} {c : Counts} → Fronts s p → c.steps ≤ 256 → c.procedures ≤ 16 → HeldAs P s c → HeldAs P p c
held_copied {P = P} C few procs H =
    let n = H.counted in
    let m = H.listed in
    record {
      standing = all_copied P.procedures P.root 0 C (omega (arith, n, few)) H.standing;
      firsts = firsts_copied P.procedures 0 0 C (omega (arith, m, procs)) H.firsts;
      variables = variables_copied P.procedures 0 C (omega (arith, m, procs)) H.variables;
      ranged = H.ranged;
      counted = n;
      listed = m;
    }

pub program_linked : (s p p' : List ℕ) (P : Program) (c : Counts) → length p ≡ program_size → Copied s p → HeldAs P s c → c.steps ≤ 256 → c.procedures ≤ 16 → p' ≡ linked p c.steps c.procedures →
    ProgramStands p' P.procedures P.root
program_linked s p p' P c l C H few procs e =
    let held = held_copied {p = p} {P = P} (record { long = omega (arith, l); same = C }) few procs H in
    let n = H.counted in
    let m = H.listed in
    subst (λ (x : List ℕ). ProgramStands x P.procedures P.root) ((λ i. linked p (n i) (m i)) ∙ sym e)
    (program_stands (record {
      standing = held.standing;
      firsts = held.firsts;
      variables = held.variables;
      ranged = held.ranged;
      long = l;
      few = omega (arith, n, few);
      procs = omega (arith, m, procs);
    }))

-- ------------------------------------------------------------------ what a sheet's columns hold

all_standing : (w : List ℕ) (count f k : ℕ) (ps : List Procedure) (root : Expr) → AllHere w count f k ps root → AllStanding w k ps root
unfolding AllHere
all_standing w count f k [] root H = H.body.standing
all_standing w count f k (b ∷ ps) root (H, Hs) = (H.body.standing, all_standing w count (f + 1) (k + size b.body) ps root Hs)

firsts_at : (w : List ℕ) (count f k : ℕ) (ps : List Procedure) (root : Expr) → AllHere w count f k ps root → FirstsAt w f k ps
unfolding AllHere first_of
firsts_at w count f k [] root H = H.first
firsts_at w count f k (b ∷ ps) root (H, Hs) = (H.first, firsts_at w count (f + 1) (k + size b.body) ps root Hs)

variables_at : (w : List ℕ) (count f k : ℕ) (ps : List Procedure) (root : Expr) → AllHere w count f k ps root → ParametersLow ps → VariablesAt w f ps
unfolding AllHere
variables_at w count f k [] root H l = tt
variables_at w count f k (b ∷ ps) root (H, Hs) (l, ls) = (H.variable, l, variables_at w count (f + 1) (k + size b.body) ps root Hs ls)

sized : (ps : List Procedure) (root : Expr) → all_size ps root ≡ length (steps_among (listing ps root))
unfolding all_size
sized [] root = sym (root_sized root)
sized (b ∷ ps) root = let e = sized ps root in let n = body_sized b ps root in omega (arith, e, n)

program_here_of : (w : List ℕ) (P : Program) → HoldsProgram w P → {text : List ℕ} → WellFormedProgram text P → AllHere w (length P.procedures) 0 0 P.procedures P.root
program_here_of w P h W =
    all_here (length P.procedures) 0 0 P.procedures P.root
    (record {
      words = subst (λ (ss : List Step). Region w 0 (map (λ (s : Step). code_of s.word) ss)) W.stepped h.steps.words;
      values = subst (λ (ss : List Step). Region w 272 (map (λ (s : Step). s.value) ss)) W.stepped h.steps.values;
      lines = subst (λ (ss : List Step). Region w 1088 (map (λ (s : Step). s.line) ss)) W.stepped h.steps.lines;
      ended = h.ends;
      bound = h.lets;
      proc_lines = h.proc_lines;
      proc_vars = h.proc_vars;
      proc_firsts = h.proc_firsts;
    })
    W.numbering W.used_inside

-- ------------------------------------------------------------------ the sheet

module _ (text : List ℕ) (fits : length text ≤ 16384) where
  judged_read : judged replay_space text ≡ program text
  unfolding judged ◌>>=◌ require replay_space program_limit
  judged_read = rw (le-leb (length text) 16384 fits) refl

  pub sheet_refused : {r : Refusal} (w : List ℕ) → Answered w (Err r) (program text) → judged replay_space text ≡ Err r
  sheet_refused w a = judged_read ∙ program_refused_by w (program text) a

  module _ (w : List ℕ) {c : Counts} (F : ProgramFound w c (program text)) where
    well_formed : WellFormedProgram text F.P
    unfolding program_limit
    well_formed = program_well_formed text fits F.reads

    here : AllHere w (length F.P.procedures) 0 0 F.P.procedures F.P.root
    here = program_here_of w F.P F.holds well_formed

    work_held : HeldAs F.P w c
    work_held = record {
      standing = all_standing w (length F.P.procedures) 0 0 F.P.procedures F.P.root here;
      firsts = firsts_at w (length F.P.procedures) 0 0 F.P.procedures F.P.root here;
      variables = variables_at w (length F.P.procedures) 0 0 F.P.procedures F.P.root here (well_formed_parameters text F.P well_formed);
      ranged = well_formed_ranged text F.P well_formed;
      counted = sized F.P.procedures F.P.root ∙ ap length (sym well_formed.stepped) ∙ sym F.steps_counted;
      listed = sym F.procedures_counted;
    }

    few : c.steps ≤ 256
    few = omega (arith, F.steps_counted, F.few)

    few_procedures : c.procedures ≤ 16
    few_procedures = omega (arith, F.procedures_counted, F.few_procedures)

    -- in the space that the front is of
    pub sheet_held : (s : List ℕ) → length s ≡ space_size → ((i : ℕ) → i < continuations_at → get_or s i 0 ≡ get_or w i 0) → HeldAs F.P s c
    sheet_held s long same = held_copied (record { long = omega (arith, long); same = same }) few few_procedures work_held

    pub sheet_holds : (s : List ℕ) → length s ≡ space_size → ((i : ℕ) → i < continuations_at → get_or s i 0 ≡ get_or w i 0) → Held s c
    sheet_holds s long same = record { listed = F.P; held = sheet_held s long same; few = few; procs = few_procedures }

    pub sheet_judged : judged replay_space text ≡ Ok F.P
    sheet_judged = judged_read ∙ F.reads

pub long_program : (text : List ℕ) → 16384 < length text → judged replay_space text ≡ Err LongProgram
unfolding judged ◌>>=◌ require replay_space program_limit
long_program text h = rw (lt-leb (length text) 16384 h) refl

-- ------------------------------------------------------------------ the room

-- more room changes nothing
pub room_enough : (room : ℕ) (text : List ℕ) → replay_space ≤ room → judged replay_space text ≡ judged room text
unfolding judged ◌>>=◌ require replay_space
room_enough room text h = rw (le-leb space_size room h) refl

pub short_room : (room : ℕ) (text : List ℕ) → room < space_size → judged room text ≡ Err ShortWorkspace
unfolding judged ◌>>=◌ require replay_space
short_room room text h = rw (lt-leb space_size room h) refl
