-- The open calls of a thread are the marks in its frames: a mark stands for a call that was taken at the path of the frames behind it.
use Rattle.std.proofs.Common.{Option, Some}
use Prim.Native.Nat.{suc}
use mathlib.Core.Path.{◌≡◌, refl, ◌∙◌, ap}
use mathlib.Core.Bool.{Bool, true, false, not}
use mathlib.Core.List.{List, [], ◌∷◌}
use lib.ListN.{length}
use Rattle.spec.specs.Choice.{when◌then◌else◌}
use Rattle.spec.specs.Expression.{Position, Expr, leaf, unary, binary}
use Rattle.spec.specs.declared.BinaryWord.TheVariants.{Let, If, Spawn, Write}
use Rattle.calculus.specs.Expression.{Value, int, newtid, Exp, value, Redex, Next, at_word, next_word}
use Rattle.calculus.specs.State.{Part, first, second}
use Rattle.calculus.specs.Reduction.{◌>>=◌}
use Rattle.soundness.specs.Erasure.{LeafForm, variable, constant, reduces, leaf_form, UnaryForm, loop, strict, unary_form}
use Rattle.replay_theory.specs.Paths.{Path, path_once, next_path, only_part, part_of, part_at}
use Rattle.replay_theory.specs.Run.{has_finished, is_open, still_open}
use Rattle.replay_machine.specs.Environment.{Env, closed}
use Rattle.replay_machine.specs.Control.{FrameForm, let_part, spawn_part, write_first, write_second, unary_part, again_part, Frame, step_frame, mark_frame, around, fill, Word, let_word, if_word, while_word, spawn_word, write_word, unary_word, nullary_word, unrolled_word, again_word, word_exp, Control, done, at, decode, seek_leaf, seek_unary, seek, return, enter, run_part, marks, open_calls}
use Rattle.replay_machine.proofs.Decoding.{return_keeps, next_around, word_is_next}

-- ---- Paths of frames

-- The part that a step waits for.
abbrev awaited : FrameForm → Part
awaited (let_part x e) = first
awaited (spawn_part e) = first
awaited (write_first e) = first
awaited (write_second v) = second
awaited (unary_part o) = first
awaited (again_part e) = first

-- The path of what stands within the frames, and there at the path p.
abbrev pub path_from : List Frame → Path → Path
path_from [] p = p
path_from (step_frame k f ∷ K) p = path_from K (awaited f ∷ p)
path_from (mark_frame σ ∷ K) p = path_from K p

-- The paths of the marks, the innermost first.
abbrev pub paths : List Frame → List Path
paths [] = []
paths (step_frame k f ∷ K) = paths K
paths (mark_frame σ ∷ K) = path_from K [] ∷ paths K

abbrev pub call_paths : Control → List Path
call_paths (done v) = []
call_paths (at σ w K) = paths K

abbrev pub word_path : Control → Path
word_path (done v) = []
word_path (at σ w K) = path_from K []

paths_counted : (K : List Frame) → length (paths K) ≡ marks K
unfolding marks
paths_counted [] = refl
paths_counted (step_frame k f ∷ K) = paths_counted K
paths_counted (mark_frame σ ∷ K) = ap suc (paths_counted K)

pub calls_counted : (b : Control) → length (call_paths b) ≡ open_calls b
unfolding open_calls
calls_counted (done v) = refl
calls_counted (at σ w K) = paths_counted K

-- ---- What stands at a path

part_around : (σ : Env) (k : Position) (f : FrameForm) (E : Exp) → part_of (around σ (step_frame k f) E) (awaited f) ≡ Some E
unfolding part_of only_part
part_around σ k (let_part x e) E = refl
part_around σ k (spawn_part e) E = refl
part_around σ k (write_first e) E = refl
part_around σ k (write_second v) E = refl
part_around σ k (unary_part o) E = refl
part_around σ k (again_part e) E = refl

part_found : (σ : Env) (K : List Frame) (E : Exp) (p : Path) → part_at (path_from K p) (fill σ K E) ≡ part_at p E
unfolding part_at
part_found σ [] E p = refl
part_found σ (step_frame k f ∷ K) E p =
    part_found σ K (around σ (step_frame k f) E) (awaited f ∷ p) ∙ ap (λ (o : Option Exp). o >>= part_at p) (part_around σ k f E)
part_found σ (mark_frame σ' ∷ K) E p = part_found σ' K E p

path_around : {r : Redex} (σ : Env) (k : Position) (f : FrameForm) (E : Exp) → next_word E ≡ at_word r →
    next_path (around σ (step_frame k f) E) ≡ awaited f ∷ next_path E
unfolding next_path path_once
path_around σ k (let_part x e) E h = ap (λ (q : Next). path_once q [] (first ∷ next_path E)) h
path_around σ k (spawn_part e) E h = ap (λ (q : Next). path_once q [] (first ∷ next_path E)) h
path_around σ k (write_first e) E h =
    ap (λ (q : Next). path_once q (path_once (next_word (closed σ e)) [] (second ∷ next_path (closed σ e))) (first ∷ next_path E)) h
path_around σ k (write_second v) E h = ap (λ (q : Next). path_once q [] (second ∷ next_path E)) h
path_around σ k (unary_part o) E h = ap (λ (q : Next). path_once q [] (first ∷ next_path E)) h
path_around σ k (again_part e) E h = ap (λ (q : Next). path_once q [] (first ∷ next_path E)) h

path_found : {r : Redex} (σ : Env) (K : List Frame) (E : Exp) → next_word E ≡ at_word r → next_path (fill σ K E) ≡ path_from K (next_path E)
path_found σ [] E h = refl
path_found σ (step_frame k f ∷ K) E h =
    path_found σ K (around σ (step_frame k f) E) (next_around σ (step_frame k f) E h) ∙ ap (path_from K) (path_around σ k f E h)
path_found σ (mark_frame σ' ∷ K) E h = path_found σ' K E h

word_is_here : (σ : Env) (w : Word) → next_path (word_exp σ w) ≡ []
unfolding next_path path_once
word_is_here σ (let_word k x v e) = refl
word_is_here σ (if_word k e₁ e₂) = refl
word_is_here σ (while_word k e) = refl
word_is_here σ (spawn_word k v e) = refl
word_is_here σ (write_word k v u) = refl
word_is_here σ (unary_word k o v) = refl
word_is_here σ (nullary_word k o) = refl
word_is_here σ (unrolled_word k e) = refl
word_is_here σ (again_word k v e) = refl

pub path_of_decoded : (b : Control) → next_path (decode b) ≡ word_path b
unfolding next_path
path_of_decoded (done v) = refl
path_of_decoded (at σ w K) = path_found σ K (word_exp σ w) (word_is_next σ w) ∙ ap (path_from K) (word_is_here σ w)

-- ---- Which calls are open

-- Of those calls, the control has the open ones.
abbrev pub Tells : Control → List Path → Type 0
Tells b ps = still_open (decode b) ps ≡ call_paths b

open_first : (e : Exp) (q : Path) (ps : List Path) (b : Bool) → is_open (part_at q e) ≡ b → still_open e (q ∷ ps) ≡ (when b then (q ∷ still_open e ps) else still_open e ps)
unfolding still_open
open_first e q ps b h = ap (λ (c : Bool). when c then (q ∷ still_open e ps) else still_open e ps) h

-- Around a word every call is open.
still_open_lem : {r : Redex} (σ : Env) (K : List Frame) (E : Exp) → next_word E ≡ at_word r → still_open (fill σ K E) (paths K) ≡ paths K
unfolding still_open is_open has_finished part_at
still_open_lem σ [] E h = refl
still_open_lem σ (step_frame k f ∷ K) E h = still_open_lem σ K (around σ (step_frame k f) E) (next_around σ (step_frame k f) E h)
still_open_lem σ (mark_frame σ' ∷ K) E h =
    open_first (fill σ' K E) (path_from K []) (paths K) true
    (ap is_open (part_found σ' K E []) ∙ ap (λ (q : Next). not (has_finished q)) h)
    ∙ ap (λ (l : List Path). path_from K [] ∷ l) (still_open_lem σ' K E h)

at_tells : (σ : Env) (w : Word) (K : List Frame) → Tells (at σ w K) (paths K)
at_tells σ w K = still_open_lem σ K (word_exp σ w) (word_is_next σ w)

pub control_tells : (b : Control) → Tells b (call_paths b)
unfolding still_open
control_tells (done v) = refl
control_tells (at σ w K) = at_tells σ w K

abbrev Sought : Env → Expr → Type 0
Sought σ e = (K : List Frame) (c : Value → Control) → ((v : Value) → Tells (c v) (paths K)) → Tells (seek σ e K c) (paths K)

leaf_tells : (f : LeafForm) (σ : Env) (k : Position) (K : List Frame) (c : Value → Control) → ((v : Value) → Tells (c v) (paths K)) →
    Tells (seek_leaf σ k f K c) (paths K)
leaf_tells (variable x) σ k K c h = h (σ x)
leaf_tells (constant n) σ k K c h = h (int n)
leaf_tells (reduces o) σ k K c h = at_tells σ (nullary_word k o) K

unary_tells : (f : UnaryForm) (σ : Env) (k : Position) (e : Expr) (K : List Frame) → Sought σ e → Tells (seek_unary σ k f e K (seek σ e)) (paths K)
unary_tells loop σ k e K sought = at_tells σ (while_word k e) K
unary_tells (strict o) σ k e K sought = sought (step_frame k (unary_part o) ∷ K) (λ v. at σ (unary_word k o v) K) (λ v. at_tells σ (unary_word k o v) K)

seek_tells : (e : Expr) (σ : Env) → Sought σ e
seek_tells (leaf w k v) σ K c h = leaf_tells (leaf_form w v) σ k K c h
seek_tells (unary w k v e) σ K c h = unary_tells (unary_form w v) σ k e K (seek_tells e σ)
seek_tells (binary Let k x e₁ e₂) σ K c h = seek_tells e₁ σ (step_frame k (let_part x e₂) ∷ K) _ (λ v. at_tells σ (let_word k x v e₂) K)
seek_tells (binary If k v e₁ e₂) σ K c h = at_tells σ (if_word k e₁ e₂) K
seek_tells (binary Spawn k v e₁ e₂) σ K c h = seek_tells e₁ σ (step_frame k (spawn_part e₂) ∷ K) _ (λ w. at_tells σ (spawn_word k w e₂) K)
seek_tells (binary Write k v e₁ e₂) σ K c h =
    seek_tells e₁ σ (step_frame k (write_first e₂) ∷ K) _ (λ w. seek_tells e₂ σ (step_frame k (write_second w) ∷ K) _ (λ u. at_tells σ (write_word k w u) K))

-- A value closes the calls whose marks it meets, and no others.
pub return_tells : (σ : Env) (v : Value) (K : List Frame) → Tells (return σ v K) (paths K)
unfolding still_open is_open has_finished part_at
return_tells σ v [] = refl
return_tells σ v (step_frame k (let_part x e) ∷ K) = at_tells σ (let_word k x v e) K
return_tells σ v (step_frame k (spawn_part e) ∷ K) = at_tells σ (spawn_word k v e) K
return_tells σ v (step_frame k (write_first e) ∷ K) = seek_tells e σ (step_frame k (write_second v) ∷ K) _ (λ u. at_tells σ (write_word k v u) K)
return_tells σ v (step_frame k (write_second w) ∷ K) = at_tells σ (write_word k w v) K
return_tells σ v (step_frame k (unary_part o) ∷ K) = at_tells σ (unary_word k o v) K
return_tells σ v (step_frame k (again_part e) ∷ K) = at_tells σ (again_word k v e) K
return_tells σ v (mark_frame σ' ∷ K) =
    open_first (decode (return σ' v K)) (path_from K []) (paths K) false
    (ap (λ (E : Exp). is_open (part_at (path_from K []) E)) (return_keeps σ' v K) ∙ ap is_open (part_found σ' K (value v) []))
    ∙ return_tells σ' v K

pub enter_tells : (σ : Env) (e : Expr) (K : List Frame) → Tells (enter σ e K) (paths K)
enter_tells σ e K = seek_tells e σ K (λ v. return σ v K) (λ v. return_tells σ v K)

pub run_part_tells : (σ : Env) (k : Position) (e : Expr) (K : List Frame) → Tells (run_part σ k e K) (paths K)
run_part_tells σ k e K = seek_tells e σ (step_frame k (again_part e) ∷ K) _ (λ v. at_tells σ (again_word k v e) K)

-- ---- When a call opens

-- A body that is not a value at once.
abbrev pub LeafRuns : LeafForm → Type 0
LeafRuns (variable x) = ⊥
LeafRuns (constant n) = ⊥
LeafRuns (reduces o) = Unit {0}

abbrev pub Runs : Expr → Type 0
Runs (leaf w k v) = LeafRuns (leaf_form w v)
Runs (unary w k v e) = Unit {0}
Runs (binary w k v e₁ e₂) = Unit {0}

abbrev Marked : Env → Expr → Type 0
Marked σ e = (K : List Frame) (c : Value → Control) → ((v : Value) → open_calls (c v) ≡ marks K) → open_calls (seek σ e K c) ≡ marks K

leaf_marks : (f : LeafForm) (σ : Env) (k : Position) (K : List Frame) (c : Value → Control) → ((v : Value) → open_calls (c v) ≡ marks K) →
    open_calls (seek_leaf σ k f K c) ≡ marks K
unfolding open_calls marks
leaf_marks (variable x) σ k K c h = h (σ x)
leaf_marks (constant n) σ k K c h = h (int n)
leaf_marks (reduces o) σ k K c h = refl

unary_marks : (f : UnaryForm) (σ : Env) (k : Position) (e : Expr) (K : List Frame) → Marked σ e → open_calls (seek_unary σ k f e K (seek σ e)) ≡ marks K
unfolding open_calls marks
unary_marks loop σ k e K marked = refl
unary_marks (strict o) σ k e K marked = marked (step_frame k (unary_part o) ∷ K) (λ u. at σ (unary_word k o u) K) (λ u. refl)

seek_marks : (e : Expr) (σ : Env) → Marked σ e
unfolding open_calls marks
seek_marks (leaf w k v) σ K c h = leaf_marks (leaf_form w v) σ k K c h
seek_marks (unary w k v e) σ K c h = unary_marks (unary_form w v) σ k e K (seek_marks e σ)
seek_marks (binary Let k x e₁ e₂) σ K c h = seek_marks e₁ σ (step_frame k (let_part x e₂) ∷ K) (λ v. at σ (let_word k x v e₂) K) (λ v. refl)
seek_marks (binary If k v e₁ e₂) σ K c h = refl
seek_marks (binary Spawn k v e₁ e₂) σ K c h = seek_marks e₁ σ (step_frame k (spawn_part e₂) ∷ K) (λ w. at σ (spawn_word k w e₂) K) (λ w. refl)
seek_marks (binary Write k v e₁ e₂) σ K c h =
    seek_marks e₁ σ (step_frame k (write_first e₂) ∷ K) (λ w. seek σ e₂ (step_frame k (write_second w) ∷ K) (λ u. at σ (write_word k w u) K))
    (λ w. seek_marks e₂ σ (step_frame k (write_second w) ∷ K) (λ u. at σ (write_word k w u) K) (λ u. refl))

-- What follows a value is not asked.
leaf_runs : (f : LeafForm) → LeafRuns f → (σ : Env) (k : Position) (K : List Frame) (c c' : Value → Control) → seek_leaf σ k f K c ≡ seek_leaf σ k f K c'
leaf_runs (variable x) r σ k K c c' = absurd r
leaf_runs (constant n) r σ k K c c' = absurd r
leaf_runs (reduces o) r σ k K c c' = refl

seek_runs : (e : Expr) → Runs e → (σ : Env) (K : List Frame) (c c' : Value → Control) → seek σ e K c ≡ seek σ e K c'
seek_runs (leaf w k v) r σ K c c' = leaf_runs (leaf_form w v) r σ k K c c'
seek_runs (unary w k v e) r σ K c c' = refl
seek_runs (binary Let k v e₁ e₂) r σ K c c' = refl
seek_runs (binary If k v e₁ e₂) r σ K c c' = refl
seek_runs (binary Spawn k v e₁ e₂) r σ K c c' = refl
seek_runs (binary Write k v e₁ e₂) r σ K c c' = refl

-- A call of a body that is no `var` and no `int` is open; of one that is, the value goes on through the marks.
pub call_opens : (e : Expr) → Runs e → (σ σ' : Env) (K : List Frame) → open_calls (enter σ e (mark_frame σ' ∷ K)) ≡ suc (marks K)
unfolding open_calls marks
call_opens e r σ σ' K =
    ap open_calls (seek_runs e r σ (mark_frame σ' ∷ K) (λ v. return σ v (mark_frame σ' ∷ K)) (λ v. at σ (nullary_word (place e) newtid) (mark_frame σ' ∷ K)))
    ∙ seek_marks e σ (mark_frame σ' ∷ K) (λ v. at σ (nullary_word (place e) newtid) (mark_frame σ' ∷ K)) (λ v. refl)
  where
    place : Expr → Position
    place (leaf w k v) = k
    place (unary w k v e) = k
    place (binary w k v e₁ e₂) = k
