-- What a thread's control stands for: finding the next word changes nothing, and the calculus sees the same word in the same place.
use mathlib.Core.Path.{◌≡◌, refl, ◌∙◌, ap}
use mathlib.Core.List.{List, [], ◌∷◌}
use Rattle.spec.specs.Expression.{Position, Expr, leaf, unary, binary}
use Rattle.spec.specs.declared.BinaryWord.TheVariants.{Let, If, Spawn, Write}
use Rattle.calculus.specs.Expression.{Value, Exp, value, let_in, while, spawn, write, unary as one_part, Redex, let_redex, spawn_redex, write_redex, unary_redex, Next, at_word, next_word, plug, if_value, once}
use Rattle.calculus.specs.Reduction.{nowhere, word_of}
use Rattle.soundness.specs.Erasure.{LeafForm, variable, constant, reduces, leaf_form, leaf_exp, UnaryForm, loop, strict, unary_form, unary_exp, erase}
use Rattle.replay_machine.specs.Environment.{Env, all, close, closed, closed_under}
use Rattle.replay_machine.specs.Control.{let_part, spawn_part, write_first, write_second, unary_part, again_part, Frame, step_frame, mark_frame, behind, around, fill, Word, let_word, if_word, while_word, spawn_word, write_word, unary_word, nullary_word, unrolled_word, again_word, word_exp, redex, Control, done, at, decode, next_redex, seek_leaf, seek_unary, seek, return, enter, run_part}

-- ---- Finding the next word keeps the expression

abbrev Keeps : Env → List Frame → (Value → Control) → Type 0
Keeps σ K c = (v : Value) → decode (c v) ≡ fill σ K (value v)

abbrev Found : Env → Expr → Type 0
Found σ e = (K : List Frame) (c : Value → Control) → Keeps σ K c → decode (seek σ e K c) ≡ fill σ K (closed σ e)

leaf_keeps : (f : LeafForm) (σ : Env) (k : Position) (K : List Frame) (c : Value → Control) → Keeps σ K c →
    decode (seek_leaf σ k f K c) ≡ fill σ K (close (all σ) (leaf_exp f))
leaf_keeps (variable x) σ k K c h = h (σ x)
leaf_keeps (constant n) σ k K c h = h _
leaf_keeps (reduces o) σ k K c h = refl

unary_keeps : (f : UnaryForm) (σ : Env) (k : Position) (e : Expr) (K : List Frame) → Found σ e →
    decode (seek_unary σ k f e K (seek σ e)) ≡ fill σ K (close (all σ) (unary_exp f (erase e)))
unary_keeps loop σ k e K found = refl
unary_keeps (strict o) σ k e K found = found (step_frame k (unary_part o) ∷ K) (λ v. at σ (unary_word k o v) K) (λ v. refl)

seek_keeps : (e : Expr) (σ : Env) → Found σ e
unfolding erase
seek_keeps (leaf w k v) σ K c h = leaf_keeps (leaf_form w v) σ k K c h
seek_keeps (unary w k v e) σ K c h = unary_keeps (unary_form w v) σ k e K (seek_keeps e σ)
seek_keeps (binary Let k x e₁ e₂) σ K c h = seek_keeps e₁ σ (step_frame k (let_part x e₂) ∷ K) (λ v. at σ (let_word k x v e₂) K) (λ v. refl)
seek_keeps (binary If k v e₁ e₂) σ K c h = refl
seek_keeps (binary Spawn k v e₁ e₂) σ K c h = seek_keeps e₁ σ (step_frame k (spawn_part e₂) ∷ K) (λ w. at σ (spawn_word k w e₂) K) (λ w. refl)
seek_keeps (binary Write k v e₁ e₂) σ K c h =
    seek_keeps e₁ σ (step_frame k (write_first e₂) ∷ K) _ (λ w. seek_keeps e₂ σ (step_frame k (write_second w) ∷ K) (λ u. at σ (write_word k w u) K) (λ u. refl))

pub return_keeps : (σ : Env) (v : Value) (K : List Frame) → decode (return σ v K) ≡ fill σ K (value v)
return_keeps σ v [] = refl
return_keeps σ v (step_frame k (let_part x e) ∷ K) = refl
return_keeps σ v (step_frame k (spawn_part e) ∷ K) = refl
return_keeps σ v (step_frame k (write_first e) ∷ K) = seek_keeps e σ (step_frame k (write_second v) ∷ K) (λ u. at σ (write_word k v u) K) (λ u. refl)
return_keeps σ v (step_frame k (write_second w) ∷ K) = refl
return_keeps σ v (step_frame k (unary_part o) ∷ K) = refl
return_keeps σ v (step_frame k (again_part e) ∷ K) = refl
return_keeps σ v (mark_frame σ' ∷ K) = return_keeps σ' v K

pub enter_keeps : (σ : Env) (e : Expr) (K : List Frame) → decode (enter σ e K) ≡ fill σ K (closed σ e)
enter_keeps σ e K = seek_keeps e σ K (λ v. return σ v K) (λ v. return_keeps σ v K)

pub run_part_keeps : (σ : Env) (k : Position) (e : Expr) (K : List Frame) →
    decode (run_part σ k e K) ≡ fill σ K (let_in nowhere (closed σ e) (while (closed σ e)))
run_part_keeps σ k e K = seek_keeps e σ (step_frame k (again_part e) ∷ K) (λ v. at σ (again_word k v e) K) (λ v. refl)

-- ---- The calculus sees the same word

pub word_is_next : (σ : Env) (w : Word) → next_word (word_exp σ w) ≡ at_word (redex σ w)
word_is_next σ (let_word k x v e) = refl
word_is_next σ (if_word k e₁ e₂) = refl
word_is_next σ (while_word k e) = refl
word_is_next σ (spawn_word k v e) = refl
word_is_next σ (write_word k v w) = refl
word_is_next σ (unary_word k o v) = refl
word_is_next σ (nullary_word k o) = refl
word_is_next σ (unrolled_word k e) = refl
word_is_next σ (again_word k v e) = refl

-- A frame does not change the next word of the part that it waits for.
pub next_around : {r : Redex} (σ : Env) (f : Frame) (E : Exp) → next_word E ≡ at_word r → next_word (around σ f E) ≡ at_word r
next_around σ (step_frame k (let_part x e)) E h = ap (λ (q : Next). once q λ v. at_word (let_redex x v (closed_under σ x e))) h
next_around σ (step_frame k (spawn_part e)) E h = ap (λ (q : Next). once q λ v. at_word (spawn_redex v (closed σ e))) h
next_around σ (step_frame k (write_first e)) E h = ap (λ (q : Next). once q λ v. once (next_word (closed σ e)) λ w. at_word (write_redex v w)) h
next_around σ (step_frame k (write_second v)) E h = ap (λ (q : Next). once q λ w. at_word (write_redex v w)) h
next_around σ (step_frame k (unary_part o)) E h = ap (λ (q : Next). once q λ v. at_word (unary_redex o v)) h
next_around σ (step_frame k (again_part e)) E h = ap (λ (q : Next). once q λ v. at_word (let_redex nowhere v (while (closed σ e)))) h
next_around σ (mark_frame σ') E h = h

next_filled : {r : Redex} (σ : Env) (K : List Frame) (E : Exp) → next_word E ≡ at_word r → next_word (fill σ K E) ≡ at_word r
next_filled σ [] E h = h
next_filled σ (f ∷ K) E h = next_filled (behind σ f) K (around σ f E) (next_around σ f E h)

pub next_decoded : (σ : Env) (w : Word) (K : List Frame) → next_word (decode (at σ w K)) ≡ at_word (redex σ w)
next_decoded σ w K = next_filled σ K (word_exp σ w) (word_is_next σ w)

-- The word that the calculus takes next.
pub word_of_decoded : (b : Control) → word_of (next_word (decode b)) ≡ next_redex b
word_of_decoded (done v) = refl
word_of_decoded (at σ w K) = ap word_of (next_decoded σ w K)

-- ---- A reduct goes in the word's place

plug_word : (σ : Env) (w : Word) (r : Exp) → plug (word_exp σ w) r ≡ r
plug_word σ (let_word k x v e) r = refl
plug_word σ (if_word k e₁ e₂) r = refl
plug_word σ (while_word k e) r = refl
plug_word σ (spawn_word k v e) r = refl
plug_word σ (write_word k v w) r = refl
plug_word σ (unary_word k o v) r = refl
plug_word σ (nullary_word k o) r = refl
plug_word σ (unrolled_word k e) r = refl
plug_word σ (again_word k v e) r = refl

plug_around : {q : Redex} (σ : Env) (f : Frame) (E r : Exp) → next_word E ≡ at_word q → plug (around σ f E) r ≡ around σ f (plug E r)
plug_around σ (step_frame k (let_part x e)) E r h = ap (λ (q : Next). if_value q r (let_in x (plug E r) (closed_under σ x e))) h
plug_around σ (step_frame k (spawn_part e)) E r h = ap (λ (q : Next). if_value q r (spawn (plug E r) (closed σ e))) h
plug_around σ (step_frame k (write_first e)) E r h =
    ap (λ (q : Next). if_value q (if_value (next_word (closed σ e)) r (write E (plug (closed σ e) r))) (write (plug E r) (closed σ e))) h
plug_around σ (step_frame k (write_second v)) E r h = ap (λ (q : Next). if_value q r (write (value v) (plug E r))) h
plug_around σ (step_frame k (unary_part o)) E r h = ap (λ (q : Next). if_value q r (one_part o (plug E r))) h
plug_around σ (step_frame k (again_part e)) E r h = ap (λ (q : Next). if_value q r (let_in nowhere (plug E r) (while (closed σ e)))) h
plug_around σ (mark_frame σ') E r h = refl

plug_filled : {q : Redex} (σ : Env) (K : List Frame) (E r : Exp) → next_word E ≡ at_word q → plug (fill σ K E) r ≡ fill σ K (plug E r)
plug_filled σ [] E r h = refl
plug_filled σ (f ∷ K) E r h = plug_filled (behind σ f) K (around σ f E) r (next_around σ f E h) ∙ ap (fill (behind σ f) K) (plug_around σ f E r h)

pub plug_decoded : (σ : Env) (w : Word) (K : List Frame) (r : Exp) → plug (decode (at σ w K)) r ≡ fill σ K r
plug_decoded σ w K r = plug_filled σ K (word_exp σ w) r (word_is_next σ w) ∙ ap (fill σ K) (plug_word σ w r)
