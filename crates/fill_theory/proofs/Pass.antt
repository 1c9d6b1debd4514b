-- At one location, whatever the bounds are: the pass finds a post for each step, what it finds passes, and its own post is all that is
-- in reach.
use Rattle.std.proofs.Common.{Some}
use mathlib.Core.Path.{◌≡◌, refl, ap, ap₂, sym, ◌∙◌}
use mathlib.Core.List.{List, ◌++◌}
use Prim.Native.Nat.{ℕ, suc, ◌+◌, ◌≤◌, min}
use native.Mathlib.Omega.{arith}
use lib.ListN.{length, length-append}
use Rattle.fill_theory.specs.Flow.{taking, Flow, alone, after, in_turn, branch, loop, fork, call, steps, Applies, Passes}
use Rattle.fill_theory.specs.Pass.{forth, back, own_post, attainable, pass}
use Rattle.fill_theory.specs.declared.Effect.{Effect}
use Rattle.fill_theory.proofs.Found.{some_injective, bind_through, demand_met, exact_met, apply_applies, apply_forth}
use Rattle.fill_theory.proofs.Along.{Along, along_shift, along_append, along_parts, along_own}

pub steps_positive : (f : Flow) → 1 ≤ steps f
unfolding steps
steps_positive (alone E) = omega arith
steps_positive (after E f) = omega arith
steps_positive (in_turn E f g) = omega arith
steps_positive (branch f g) = omega arith
steps_positive (loop f) = omega arith
steps_positive (fork s k f g) = omega arith
steps_positive (call b d f) = omega arith

pub applies_along : {E : Effect} {b b' c c' : ℕ} → b ≡ b' → c ≡ c' → Applies E b' c' → Applies E b c
applies_along p q t = record { balance = omega (arith, t.balance); enough = omega (arith, t.enough); lent = t.lent }

module _ (top : ℕ) where
  -- ------------------------------------------------------------------ how many posts there are

  pub pass_length : {ps : List ℕ} (pre c : ℕ) (f : Flow) → pass top pre c f ≡ Some ps → length ps ≡ steps f
  unfolding pass steps
  pass_length pre c (alone E) h =
      bind_through _ _ h λ p _ e.
      ap length (sym (some_injective e))
  pass_length pre c (after E f) h =
      bind_through _ _ h λ ps h₁ h'.
      bind_through _ _ h' λ p _ e.
      ap length (sym (some_injective e)) ∙ ap suc (pass_length {ps = ps} pre _ f h₁)
  pass_length pre c (in_turn E f g) h =
      bind_through _ _ h λ ps h₁ h'.
      bind_through _ _ h' λ qs h₂ h''.
      bind_through _ _ h'' λ p _ e.
      ap length (sym (some_injective e)) ∙ omega (arith, length-append ps qs, pass_length {ps = ps} pre _ f h₁, pass_length {ps = qs} (own_post ps) _ g h₂)
  pass_length pre c (branch f g) h =
      bind_through _ _ h λ ps h₁ h'.
      bind_through _ _ h' λ qs h₂ e.
      ap length (sym (some_injective e)) ∙ omega (arith, length-append ps qs, pass_length {ps = ps} pre top f h₁, pass_length {ps = qs} pre top g h₂)
  pass_length pre c (loop f) h =
      bind_through _ _ h λ ps h₁ h'.
      bind_through _ _ h' λ _ _ e.
      ap length (sym (some_injective e)) ∙ ap suc (pass_length {ps = ps} _ top f h₁)
  pass_length pre c (fork s k f g) h =
      bind_through _ _ h λ ps h₁ h'.
      bind_through _ _ h' λ qs h₂ h''.
      bind_through _ _ h'' λ _ _ h'''.
      bind_through _ _ h''' λ p _ e.
      ap length (sym (some_injective e)) ∙ omega (arith, length-append ps qs, pass_length {ps = ps} pre _ f h₁, pass_length {ps = qs} s top g h₂)
  pass_length pre c (call b d f) h =
      bind_through _ _ h λ ps h₁ h'.
      bind_through _ _ h' λ _ _ e.
      ap length (sym (some_injective e)) ∙ ap suc (pass_length {ps = ps} pre b f h₁)

  -- what stands in relation to all posts that the pass found stands in relation to the expression's own
  module _ (R : ℕ → ℕ → Type 0) (a : ℕ → ℕ) (i pre c : ℕ) (f : Flow) (ps : List ℕ) (found : pass top pre c f ≡ Some ps) where
    pub own_found : Along R a i ps → R (a i) (own_post ps)
    own_found h = along_own R a i ps (omega (arith, pass_length pre c f found, steps_positive f)) h

    both_found : (qs : List ℕ) → Along R a i (ps ++ qs) → R (a i) (own_post ps) × Along R a i ps × Along R a (i + steps f) qs
    both_found qs h =
        let (l, r) = along_parts R a i ps qs h in
        (own_found l, l, along_shift R a qs (ap (i +◌) (pass_length pre c f found)) r)

    pub found_both : (qs : List ℕ) → Along R a i ps → Along R a (i + steps f) qs → Along R a i (ps ++ qs)
    found_both qs l r = along_append R a i ps qs l (along_shift R a qs (ap (i +◌) (sym (pass_length pre c f found))) r)

  -- ------------------------------------------------------------------ what the pass finds passes

  -- any posts that are those of the pass from step i on
  pub pass_passes : (a : ℕ → ℕ) (i pre c : ℕ) (f : Flow) {ps : List ℕ} → pass top pre c f ≡ Some ps → Along ◌≡◌ a i ps → Passes a i pre f
  unfolding pass attainable Passes Along
  pass_passes a i pre c (alone E) h w =
      bind_through _ _ h λ p t e.
      let w' = rw (← some_injective e) at w in
      applies_along refl w'.0 (apply_applies _ pre t)
  pass_passes a i pre c (after E f) h w =
      bind_through _ _ h λ ps h₁ h'.
      bind_through _ _ h' λ p t e.
      let w' = rw (← some_injective e) at w in
      (pass_passes a (i + 1) pre _ f h₁ w'.1, applies_along (own_found ◌≡◌ a (i + 1) pre _ f ps h₁ w'.1) w'.0 (apply_applies _ (own_post ps) t))
  pass_passes a i pre c (in_turn E f g) h w =
      bind_through _ _ h λ ps h₁ h'.
      bind_through _ _ h' λ qs h₂ h''.
      bind_through _ _ h'' λ p t e.
      let w' = rw (← some_injective e) at w in
      let (o₁, w₁, w₂) = both_found ◌≡◌ a (i + 1) pre _ f ps h₁ qs w'.1 in
      let o₂ = own_found ◌≡◌ a _ (own_post ps) _ g qs h₂ w₂ in
      (pass_passes a (i + 1) pre _ f h₁ w₁, rw o₁ (pass_passes a _ (own_post ps) _ g h₂ w₂), applies_along o₂ w'.0 (apply_applies _ (own_post qs) t))
  pass_passes a i pre c (branch f g) h w =
      bind_through _ _ h λ ps h₁ h'.
      bind_through _ _ h' λ qs h₂ e.
      let w' = rw (← some_injective e) at w in
      let (o₁, w₁, w₂) = both_found ◌≡◌ a (i + 1) pre top f ps h₁ qs w'.1 in
      let o₂ = own_found ◌≡◌ a _ pre top g qs h₂ w₂ in
      (pass_passes a (i + 1) pre top f h₁ w₁, pass_passes a _ pre top g h₂ w₂, omega (arith, w'.0), omega (arith, w'.0))
  pass_passes a i pre c (loop f) h w =
      bind_through _ _ h λ ps h₁ h'.
      bind_through _ _ h' λ _ d e.
      let w' = rw (← some_injective e) at w in
      let o = own_found ◌≡◌ a (i + 1) _ top f ps h₁ w'.1 in
      let kept = demand_met _ (own_post ps) d in
      (rw w'.0 (pass_passes a (i + 1) _ top f h₁ w'.1), omega (arith, w'.0), omega (arith, w'.0, kept))
  pass_passes a i pre c (fork s k f g) h w =
      bind_through _ _ h λ ps h₁ h'.
      bind_through _ _ h' λ qs h₂ h''.
      bind_through _ _ h'' λ _ d h'''.
      bind_through _ _ h''' λ p t e.
      let w' = rw (← some_injective e) at w in
      let (o₁, w₁, w₂) = both_found ◌≡◌ a (i + 1) pre _ f ps h₁ qs w'.1 in
      let o₂ = own_found ◌≡◌ a _ s top g qs h₂ w₂ in
      let paid = demand_met k (own_post qs) d in
      (pass_passes a (i + 1) pre _ f h₁ w₁, pass_passes a _ s top g h₂ w₂, omega arith, applies_along o₁ w'.0 (apply_applies _ (own_post ps) t))
  pass_passes a i pre c (call b d f) h w =
      bind_through _ _ h λ ps h₁ h'.
      bind_through _ _ h' λ _ x e.
      let w' = rw (← some_injective e) at w in
      (pass_passes a (i + 1) pre b f h₁ w'.1, own_found ◌≡◌ a (i + 1) pre b f ps h₁ w'.1 ∙ exact_met (own_post ps) b x, w'.0)

  -- ------------------------------------------------------------------ the own post is all that is in reach

  pub pass_own : {ps : List ℕ} (pre c : ℕ) (f : Flow) → pass top pre c f ≡ Some ps → own_post ps ≡ attainable top pre c f
  unfolding pass attainable own_post
  pass_own pre c (alone E) h =
      bind_through _ _ h λ p t e.
      ap own_post (sym (some_injective e)) ∙ apply_forth E pre t
  pass_own pre c (after E f) h =
      bind_through _ _ h λ ps h₁ h'.
      bind_through _ _ h' λ p t e.
      ap own_post (sym (some_injective e)) ∙ apply_forth E (own_post ps) t ∙ ap (forth E) (pass_own {ps = ps} pre _ f h₁)
  pass_own pre c (in_turn E f g) h =
      bind_through _ _ h λ ps h₁ h'.
      bind_through _ _ h' λ qs h₂ h''.
      bind_through _ _ h'' λ p t e.
      let last = pass_own {ps = qs} (own_post ps) _ g h₂ ∙ ap (λ (x : ℕ). attainable top x (back E c) g) (pass_own {ps = ps} pre _ f h₁) in
      ap own_post (sym (some_injective e)) ∙ apply_forth E (own_post qs) t ∙ ap (forth E) last
  pass_own pre c (branch f g) h =
      bind_through _ _ h λ ps h₁ h'.
      bind_through _ _ h' λ qs h₂ e.
      ap own_post (sym (some_injective e)) ∙ ap₂ (λ (x y : ℕ). min c (min x y)) (pass_own {ps = ps} pre top f h₁) (pass_own {ps = qs} pre top g h₂)
  pass_own pre c (loop f) h =
      bind_through _ _ h λ ps h₁ h'.
      bind_through _ _ h' λ _ _ e.
      ap own_post (sym (some_injective e))
  pass_own pre c (fork s k f g) h =
      bind_through _ _ h λ ps h₁ h'.
      bind_through _ _ h' λ qs h₂ h''.
      bind_through _ _ h'' λ _ _ h'''.
      bind_through _ _ h''' λ p t e.
      ap own_post (sym (some_injective e)) ∙ apply_forth (taking s) (own_post ps) t ∙ ap (forth (taking s)) (pass_own {ps = ps} pre _ f h₁)
  pass_own pre c (call b d f) h =
      bind_through _ _ h λ ps h₁ h'.
      bind_through _ _ h' λ _ _ e.
      ap own_post (sym (some_injective e))
