-- The next word of a typed expression is typed, and what is typed as it is may take its place.
use Rattle.std.proofs.Common.{None}
use Prim.Native.Nat.{ℕ, ◌≤◌}
use mathlib.Core.Path.{◌≡◌, refl, sym, ap, ◌∙◌}
use native.Mathlib.Nat.{le_trans}
use Rattle.calculus.specs.Expression.{Value, Unary, Nullary, Exp, value, let_in, if, while, spawn, write, unary, nullary, Redex, let_redex, if_redex, while_redex, spawn_redex, write_redex, unary_redex, nullary_redex, Next, is_value, at_variable, at_word, next_word, if_value, plug}
use Rattle.calculus.specs.Capability.{Cap, ◌≥ᶜ◌}
use Rattle.calculus.specs.Figure5.{Ty, int_type, ref_type, tid_type, Signatures, Env, bind}
use Rattle.calculus.proofs.Laws.Maps.{none_is_not_some}
use Rattle.calculus.proofs.Laws.Order.{Pays, ≥-trans, ≥-refl, pays_weakens}
use Rattle.calculus.proofs.Laws.NextWord.{word_injective, word_is_no_value, variable_is_no_value, variable_is_no_word, next_is_value, once_is_word, once_is_variable}
use Rattle.calculus.proofs.Typing.{ValueTyped, UnaryTyped, NullaryTyped, Typed, value_typed, var_typed, let_typed, if_typed, while_typed, spawn_typed, write_typed, unary_typed, nullary_typed, unary_weakens, nullary_weakens, typing_weakens}
use Rattle.calculus.proofs.Substitution.{◌⊆◌, ⊆-refl, value_grows, typing_grows}

-- ---- Values

pub typed_value : {D : ℕ} {S : Signatures} {N Γ : Env} {Ψ Φ : Cap} {v : Value} {τ : Ty} → Typed D S N Γ Ψ (value v) τ Φ → ValueTyped N v τ × (Ψ ≥ᶜ Φ)
typed_value (value_typed t h) = (t, h)

-- A typed expression that is a value: it is that value, of that type, and leaves what it has.
pub typed_is_value : {D : ℕ} {S : Signatures} {N Γ : Env} {Ψ Φ : Cap} {e : Exp} {τ : Ty} {v : Value} → Typed D S N Γ Ψ e τ Φ →
    next_word e ≡ is_value v → (e ≡ value v) × ValueTyped N v τ × (Ψ ≥ᶜ Φ)
typed_is_value {e} h q = let w = next_is_value e q in let t = typed_value (rw w at h) in (w, t.0, t.1)

-- ---- Words

-- RedexTyped D S N Γ Ψ Φ r τ: the word r has type τ, with Ψ before and Φ after.
pub data RedexTyped (D : ℕ) (S : Signatures) (N Γ : Env) (Ψ Φ : Cap) : Redex → Ty → Type 0 where
  let_redex_typed : {x : ℕ} {v : Value} {e : Exp} {σ τ : Ty} →
      ValueTyped N v σ → Typed D S N (bind Γ x σ) Ψ e τ Φ → RedexTyped D S N Γ Ψ Φ (let_redex x v e) τ
  if_redex_typed : {e₁ e₂ : Exp} {τ : Ty} →
      Typed D S N Γ Ψ e₁ τ Φ → Typed D S N Γ Ψ e₂ τ Φ → RedexTyped D S N Γ Ψ Φ (if_redex e₁ e₂) τ
  while_redex_typed : {e : Exp} {Ψ₁ : Cap} {σ : Ty} →
      Typed D S N Γ Ψ₁ e σ Ψ₁ → Ψ ≥ᶜ Ψ₁ → Ψ₁ ≥ᶜ Φ → RedexTyped D S N Γ Ψ Φ (while_redex e) int_type
  spawn_redex_typed : {v : Value} {e : Exp} {K Ψ₃ : Cap} {σ : Ty} →
      ValueTyped N v (tid_type K) → Typed D S N Γ Ψ₃ e σ K → Pays Φ Ψ Ψ₃ → RedexTyped D S N Γ Ψ Φ (spawn_redex v e) int_type
  write_redex_typed : {v w : Value} {ρ : ℕ} {σ : Ty} →
      ValueTyped N v (ref_type ρ σ) → ValueTyped N w σ → D ≤ Ψ ρ → Ψ ≥ᶜ Φ → RedexTyped D S N Γ Ψ Φ (write_redex v w) int_type
  unary_redex_typed : {o : Unary} {v : Value} {σ τ : Ty} →
      ValueTyped N v σ → UnaryTyped D S o σ Ψ τ Φ → RedexTyped D S N Γ Ψ Φ (unary_redex o v) τ
  nullary_redex_typed : {o : Nullary} {τ : Ty} → NullaryTyped o Ψ τ Φ → RedexTyped D S N Γ Ψ Φ (nullary_redex o) τ

redex_weakens : {D : ℕ} {S : Signatures} {N Γ : Env} {Ψ Ψ' Φ : Cap} {τ : Ty} {r : Redex} → Ψ' ≥ᶜ Ψ → RedexTyped D S N Γ Ψ Φ r τ →
    RedexTyped D S N Γ Ψ' Φ r τ
redex_weakens a (let_redex_typed t e) = let_redex_typed t (typing_weakens e a ≥-refl)
redex_weakens a (if_redex_typed e₁ e₂) = if_redex_typed (typing_weakens e₁ a ≥-refl) (typing_weakens e₂ a ≥-refl)
redex_weakens a (while_redex_typed e g h) = while_redex_typed e (≥-trans a g) h
redex_weakens a (spawn_redex_typed t e h) = spawn_redex_typed t e (pays_weakens h a ≥-refl)
redex_weakens a (write_redex_typed {ρ = ρ} t u g h) = write_redex_typed t u (le_trans g (a.at ρ)) (≥-trans a h)
redex_weakens a (unary_redex_typed t o) = unary_redex_typed t (unary_weakens o a ≥-refl)
redex_weakens a (nullary_redex_typed o) = nullary_redex_typed (nullary_weakens o a ≥-refl)

-- The next word r of e, typed with what e has before, and its place: whatever has the word's type and leaves what the word
-- leaves may stand there, also when more names are known and another capability is held.
pub record Focus (D : ℕ) (S : Signatures) (N Γ : Env) (Ψ : Cap) (e : Exp) (τ : Ty) (Φ : Cap) (r : Redex) : Type 0 where
  pub σ : Ty
  pub mid : Cap
  pub word : RedexTyped D S N Γ Ψ mid r σ
  pub back : (N' : Env) (Ψ' : Cap) (e' : Exp) → N ⊆ N' → Typed D S N' Γ Ψ' e' σ mid → Typed D S N' Γ Ψ' (plug e e') τ Φ

focus_weakens : {D : ℕ} {S : Signatures} {N Γ : Env} {Ψ Ψ' Φ : Cap} {τ : Ty} {r : Redex} {e : Exp} → Ψ' ≥ᶜ Ψ → Focus D S N Γ Ψ e τ Φ r →
    Focus D S N Γ Ψ' e τ Φ r
focus_weakens a h = record { σ = h.σ; mid = h.mid; word = redex_weakens a h.word; back = h.back }

-- The expression is the word itself.
whole : {D : ℕ} {S : Signatures} {N Γ : Env} {Ψ Φ : Cap} {τ : Ty} {r s : Redex} (e : Exp) → RedexTyped D S N Γ Ψ Φ s τ → s ≡ r →
    ((e' : Exp) → plug e e' ≡ e') → Focus D S N Γ Ψ e τ Φ r
whole {Φ} {τ} e h q place = record { σ = τ; mid = Φ; word = rw q at h; back = λ N' Ψ' e' s k. rw (place e') k }

-- The expression is c around its part d, which has the word.
inside : {D : ℕ} {S : Signatures} {N Γ : Env} {Ψ Ψ₁ Φ : Cap} {σ τ : Ty} {r : Redex} (e d : Exp) (c : Exp → Exp) → Focus D S N Γ Ψ d σ Ψ₁ r →
    ((N' : Env) (Ψ' : Cap) (e' : Exp) → N ⊆ N' → Typed D S N' Γ Ψ' e' σ Ψ₁ → Typed D S N' Γ Ψ' (c e') τ Φ) →
    ((e' : Exp) → plug e e' ≡ c (plug d e')) → Focus D S N Γ Ψ e τ Φ r
inside e d c h around place = record {
  σ = h.σ;
  mid = h.mid;
  word = h.word;
  back = λ N' Ψ' e' s k. rw (place e') (around N' Ψ' (plug d e') s (h.back N' Ψ' e' s k));
}

-- ---- The next word of a typed expression

-- By induction on the typing. Where a word wants a part to be a value there are two cases: the part is one, and the expression
-- is the word itself, or the word is the part's and the rest of the expression stands around it.
pub focus : {D : ℕ} {S : Signatures} {N Γ : Env} {Ψ Φ : Cap} {e : Exp} {τ : Ty} {r : Redex} → Typed D S N Γ Ψ e τ Φ → next_word e ≡ at_word r →
    Focus D S N Γ Ψ e τ Φ r
focus (value_typed t h) q = word_is_no_value q refl
focus (var_typed t f h) q = variable_is_no_word refl q
focus (let_typed {x = x} {e₁ = e₁} {e₂ = e₂} a b) q =
    let place : Exp → Next → Exp = λ e' k. if_value k e' (let_in x (plug e₁ e') e₂) in
    once_is_word (next_word e₁) _ q
    (λ v n z. let (_, t, g) = typed_is_value a n in
    whole (let_in x e₁ e₂) (let_redex_typed t (typing_weakens b g ≥-refl)) (word_injective z) (λ e'. ap (place e') n))
    (λ n. inside (let_in x e₁ e₂) e₁ (λ d. let_in x d e₂) (focus a n) (λ N' Ψ' e' s k. let_typed k (typing_grows s (⊆-refl _) b))
    (λ e'. ap (place e') n))
focus (if_typed {e₁ = e₁} {e₂ = e₂} a b) q = whole (if e₁ e₂) (if_redex_typed a b) (word_injective q) (λ e'. refl)
focus (while_typed {e = e} a g h) q = whole (while e) (while_redex_typed a g h) (word_injective q) (λ e'. refl)
focus (spawn_typed {e₁ = e₁} {e₂ = e₂} a b h) q =
    let place : Exp → Next → Exp = λ e' k. if_value k e' (spawn (plug e₁ e') e₂) in
    once_is_word (next_word e₁) _ q
    (λ v n z. let (_, t, g) = typed_is_value a n in
    whole (spawn e₁ e₂) (spawn_redex_typed t b (pays_weakens h g ≥-refl)) (word_injective z) (λ e'. ap (place e') n))
    (λ n. inside (spawn e₁ e₂) e₁ (λ d. spawn d e₂) (focus a n) (λ N' Ψ' e' s k. spawn_typed k (typing_grows s (⊆-refl _) b) h)
    (λ e'. ap (place e') n))
focus (write_typed {e₁ = e₁} {e₂ = e₂} {ρ = ρ} a b g h) q =
    let first_place : Exp → Next → Exp = λ e' k. if_value k (if_value (next_word e₂) e' (write e₁ (plug e₂ e'))) (write (plug e₁ e') e₂) in
    let second_place : Exp → Next → Exp = λ e' k. if_value k e' (write e₁ (plug e₂ e')) in
    once_is_word (next_word e₁) _ q
    (λ v n z. let (is_v, t, i) = typed_is_value a n in
    once_is_word (next_word e₂) _ z
    (λ w m y. let (_, u, j) = typed_is_value b m in
    whole (write e₁ e₂) (write_redex_typed t u (le_trans g (le_trans (j.at ρ) (i.at ρ))) (≥-trans i (≥-trans j h))) (word_injective y)
    (λ e'. ap (first_place e') n ∙ ap (second_place e') m))
    (λ m. inside (write e₁ e₂) e₂ (λ d. write e₁ d) (focus_weakens i (focus b m))
    (λ N' Ψ' e' s k. write_typed (rw is_v (value_typed (value_grows s t) ≥-refl)) k g h)
    (λ e'. ap (first_place e') n ∙ ap (second_place e') m)))
    (λ n. inside (write e₁ e₂) e₁ (λ d. write d e₂) (focus a n) (λ N' Ψ' e' s k. write_typed k (typing_grows s (⊆-refl _) b) g h)
    (λ e'. ap (first_place e') n))
focus (unary_typed {o = o} {e = e} a b) q =
    let place : Exp → Next → Exp = λ e' k. if_value k e' (unary o (plug e e')) in
    once_is_word (next_word e) _ q
    (λ v n z. let (_, t, g) = typed_is_value a n in
    whole (unary o e) (unary_redex_typed t (unary_weakens b g ≥-refl)) (word_injective z) (λ e'. ap (place e') n))
    (λ n. inside (unary o e) e (λ d. unary o d) (focus a n) (λ N' Ψ' e' s k. unary_typed k b) (λ e'. ap (place e') n))
focus (nullary_typed {o = o} b) q = whole (nullary o) (nullary_redex_typed b) (word_injective q) (λ e'. refl)

-- A typed expression with no free variable does not come to one.
pub closed_has_no_variable : {D : ℕ} {S : Signatures} {N Γ : Env} {Ψ Φ : Cap} {e : Exp} {τ : Ty} {x : ℕ} → ((y : ℕ) → Γ y ≡ None) →
    Typed D S N Γ Ψ e τ Φ → next_word e ≡ at_variable x → ⊥
closed_has_no_variable c (value_typed t h) q = variable_is_no_value q refl
closed_has_no_variable c (var_typed {x = y} t f h) q = none_is_not_some (sym (c y) ∙ t)
closed_has_no_variable c (let_typed {e₁ = e₁} a b) q =
    once_is_variable (next_word e₁) _ q (λ v z. variable_is_no_word z refl) (closed_has_no_variable c a)
closed_has_no_variable c (if_typed a b) q = variable_is_no_word q refl
closed_has_no_variable c (while_typed a g h) q = variable_is_no_word q refl
closed_has_no_variable c (spawn_typed {e₁ = e₁} a b h) q =
    once_is_variable (next_word e₁) _ q (λ v z. variable_is_no_word z refl) (closed_has_no_variable c a)
closed_has_no_variable c (write_typed {e₁ = e₁} {e₂ = e₂} a b g h) q =
    once_is_variable (next_word e₁) _ q
    (λ v z. once_is_variable (next_word e₂) _ z (λ w y. variable_is_no_word y refl) (closed_has_no_variable c b)) (closed_has_no_variable c a)
closed_has_no_variable c (unary_typed {e = e} a o) q =
    once_is_variable (next_word e) _ q (λ v z. variable_is_no_word z refl) (closed_has_no_variable c a)
closed_has_no_variable c (nullary_typed o) q = variable_is_no_word q refl
