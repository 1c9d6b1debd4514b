-- The first pair of a list that clashes: it is there, no pair before it clashes, and where there is none no pair clashes.
use Rattle.std.proofs.Common.{Option, None, Some, slice_get}
use Prim.Native.Nat.{ℕ, zero, suc, ◌≤◌, ◌<◌}
use mathlib.Core.Path.{◌≡◌, refl, sym, ◌∙◌, ap, subst}
use mathlib.Core.Logic.{◌⊎◌, inl, inr}
use mathlib.Core.Bool.{Bool, true, false}
use mathlib.Core.List.{List, [], ◌∷◌}
use native.Mathlib.Omega.{arith}
use Rattle.spec.specs.Choice.{when◌then◌else◌}
use Rattle.spec.proofs.Clashes.{true_is_not_false}
use Rattle.calculus.proofs.Laws.Maps.{some_injective, none_is_not_some, some_is_not_none}
use Rattle.replay_theory.specs.LowestPair.{Uses, clash, clashing, pair_or, lowest_among}

-- ---- The first that clashes

record Clashing (a : Uses) (us : List (ℕ × Uses)) (j : ℕ) : Type 0 where
  place : ℕ
  other : Uses
  there : slice_get us place ≡ Some (j, other)
  clashes : clash a other ≡ true
  least : (q : ℕ) (y : ℕ × Uses) → slice_get us q ≡ Some y → clash a y.1 ≡ true → place ≤ q

clashing_found : (a : Uses) (us : List (ℕ × Uses)) (j : ℕ) → clashing a us ≡ Some j → Clashing a us j
unfolding clashing
clashing_found a [] j h = none_is_not_some h
clashing_found a (u ∷ us) j h = by_cases (clash a u.1) refl h (clashing_found a us j)
  where
    by_cases : (b : Bool) → clash a u.1 ≡ b → (when b then Some u.0 else clashing a us) ≡ Some j →
        (clashing a us ≡ Some j → Clashing a us j) → Clashing a (u ∷ us) j
    by_cases true e q later = record {
      place = 0;
      other = u.1;
      there = ap (λ n. Some (n, u.1)) (some_injective q);
      clashes = e;
      least = λ k y z c. omega arith;
    }
    by_cases false e q later =
        let C = later q in
        record { place = suc C.place; other = C.other; there = C.there; clashes = C.clashes; least = least C }
      where
        least : (C : Clashing a us j) (k : ℕ) (y : ℕ × Uses) → slice_get (u ∷ us) k ≡ Some y → clash a y.1 ≡ true → suc C.place ≤ k
        least C zero y z c = true_is_not_false (sym c ∙ ap (λ (x : ℕ × Uses). clash a x.1) (sym (some_injective z)) ∙ e)
        least C (suc k) y z c = let below = C.least k y z c in omega (arith, below)

none_clashes : (a : Uses) (us : List (ℕ × Uses)) → clashing a us ≡ None → (q : ℕ) (y : ℕ × Uses) → slice_get us q ≡ Some y → clash a y.1 ≡ false
unfolding clashing
none_clashes a [] h q y z = none_is_not_some z
none_clashes a (u ∷ us) h q y z = by_cases (clash a u.1) refl h q z (none_clashes a us)
  where
    by_cases : (b : Bool) → clash a u.1 ≡ b → (when b then Some u.0 else clashing a us) ≡ None → (k : ℕ) → slice_get (u ∷ us) k ≡ Some y →
        (clashing a us ≡ None → (k : ℕ) (x : ℕ × Uses) → slice_get us k ≡ Some x → clash a x.1 ≡ false) → clash a y.1 ≡ false
    by_cases true e n k there later = some_is_not_none n
    by_cases false e n zero there later = ap (λ (x : ℕ × Uses). clash a x.1) (sym (some_injective there)) ∙ e
    by_cases false e n (suc k) there later = later n k y there

-- ---- The lowest pair, by places

pub record LowestPlaces (us : List (ℕ × Uses)) (i j : ℕ) : Type 0 where
  pub p : ℕ
  pub q : ℕ
  pub a : Uses
  pub b : Uses
  pub p_there : slice_get us p ≡ Some (i, a)
  pub q_there : slice_get us q ≡ Some (j, b)
  pub before : p < q
  pub clashes : clash a b ≡ true
  pub least : (p' q' : ℕ) (x y : ℕ × Uses) → p' < q' → slice_get us p' ≡ Some x → slice_get us q' ≡ Some y → clash x.1 y.1 ≡ true →
      (p < p') ⊎ ((p ≡ p') × (q ≤ q'))

pair_injective : {i j k l : ℕ} → ◌≡◌ {A = Option (ℕ × ℕ)} (Some (i, j)) (Some (k, l)) → (i ≡ k) × (j ≡ l)
pair_injective h = let e = some_injective h in (ap (λ (x : ℕ × ℕ). x.0) e, ap (λ (x : ℕ × ℕ). x.1) e)

first_is_lowest : (u : ℕ × Uses) (us : List (ℕ × Uses)) (j : ℕ) → Clashing u.1 us j → LowestPlaces (u ∷ us) u.0 j
first_is_lowest u us j C = record {
  p = 0;
  q = suc C.place;
  a = u.1;
  b = C.other;
  p_there = refl;
  q_there = C.there;
  before = omega arith;
  clashes = C.clashes;
  least = least;
}
  where
    least : (p' q' : ℕ) (x y : ℕ × Uses) → p' < q' → slice_get (u ∷ us) p' ≡ Some x → slice_get (u ∷ us) q' ≡ Some y → clash x.1 y.1 ≡ true →
        (0 < p') ⊎ ((0 ≡ p') × (suc C.place ≤ q'))
    least zero zero x y h s t c = absurd (omega (arith, h))
    least zero (suc q') x y h s t c =
        let below = C.least q' y t (ap (λ (z : ℕ × Uses). clash z.1 y.1) (some_injective s) ∙ c) in
        inr (refl, omega (arith, below))
    least (suc p') q' x y h s t c = inl (omega arith)

later_is_lowest : (u : ℕ × Uses) (us : List (ℕ × Uses)) (i j : ℕ) → clashing u.1 us ≡ None → LowestPlaces us i j → LowestPlaces (u ∷ us) i j
later_is_lowest u us i j free L = record {
  p = suc L.p;
  q = suc L.q;
  a = L.a;
  b = L.b;
  p_there = L.p_there;
  q_there = L.q_there;
  before = let h = L.before in omega (arith, h);
  clashes = L.clashes;
  least = least;
}
  where
    behind : (p' q' : ℕ) → (L.p < p') ⊎ ((L.p ≡ p') × (L.q ≤ q')) → (suc L.p < suc p') ⊎ ((suc L.p ≡ suc p') × (suc L.q ≤ suc q'))
    behind p' q' (inl h) = inl (omega (arith, h))
    behind p' q' (inr h) = let below = h.1 in inr (ap suc h.0, omega (arith, below))

    least : (p' q' : ℕ) (x y : ℕ × Uses) → p' < q' → slice_get (u ∷ us) p' ≡ Some x → slice_get (u ∷ us) q' ≡ Some y → clash x.1 y.1 ≡ true →
        (suc L.p < p') ⊎ ((suc L.p ≡ p') × (suc L.q ≤ q'))
    least p' zero x y h s t c = absurd (omega (arith, h))
    least zero (suc q') x y h s t c =
        true_is_not_false (sym c ∙ ap (λ (z : ℕ × Uses). clash z.1 y.1) (sym (some_injective s)) ∙ none_clashes u.1 us free q' y t)
    least (suc p') (suc q') x y h s t c = behind p' q' (L.least p' q' x y (omega (arith, h)) s t c)

pub lowest_found : (us : List (ℕ × Uses)) (i j : ℕ) → lowest_among us ≡ Some (i, j) → LowestPlaces us i j
unfolding lowest_among pair_or
lowest_found [] i j h = none_is_not_some h
lowest_found (u ∷ us) i j h = by_cases (clashing u.1 us) refl h (lowest_found us i j)
  where
    by_cases : (o : Option ℕ) → clashing u.1 us ≡ o → pair_or u.0 o (lowest_among us) ≡ Some (i, j) →
        (lowest_among us ≡ Some (i, j) → LowestPlaces us i j) → LowestPlaces (u ∷ us) i j
    by_cases None e q later = later_is_lowest u us i j e (later q)
    by_cases (Some k) e q later =
        let (same_i, same_j) = pair_injective q in
        subst (λ n. LowestPlaces (u ∷ us) n j) same_i
        (subst (LowestPlaces (u ∷ us) u.0) same_j (first_is_lowest u us k (clashing_found u.1 us k e)))

pub no_pair_clashes : (us : List (ℕ × Uses)) → lowest_among us ≡ None → (p q : ℕ) (x y : ℕ × Uses) → p < q → slice_get us p ≡ Some x → slice_get us q ≡ Some y →
    clash x.1 y.1 ≡ false
unfolding lowest_among pair_or
no_pair_clashes [] h p q x y l s t = none_is_not_some s
no_pair_clashes (u ∷ us) h p q x y l s t = by_cases (clashing u.1 us) refl h p q l s t (no_pair_clashes us)
  where
    by_cases : (o : Option ℕ) → clashing u.1 us ≡ o → pair_or u.0 o (lowest_among us) ≡ None → (p q : ℕ) → p < q →
        slice_get (u ∷ us) p ≡ Some x → slice_get (u ∷ us) q ≡ Some y →
        (lowest_among us ≡ None → (p q : ℕ) (x y : ℕ × Uses) → p < q → slice_get us p ≡ Some x → slice_get us q ≡ Some y → clash x.1 y.1 ≡ false) →
        clash x.1 y.1 ≡ false
    by_cases (Some k) e n p q l s t later = some_is_not_none n
    by_cases None e n p zero l s t later = absurd (omega (arith, l))
    by_cases None e n zero (suc q) l s t later =
        ap (λ (z : ℕ × Uses). clash z.1 y.1) (sym (some_injective s)) ∙ none_clashes u.1 us e q y t
    by_cases None e n (suc p) (suc q) l s t later = later n p q x y (omega (arith, l)) s t
