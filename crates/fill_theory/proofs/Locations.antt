-- Comparing and adding maps number by number is comparing and adding at every location; so a condition on maps holds exactly when
-- the effect that it states turns the numbers at every location.
use Rattle.std.proofs.Common.{None}
use mathlib.Core.Path.{◌≡◌, refl, ap, sym, ◌∙◌}
use mathlib.Core.Bool.{Bool, true, false}
use mathlib.Core.List.{[], ◌∷◌}
use mathlib.Core.Logic.{◌↔◌}
use Prim.Native.Nat.{ℕ, zero, suc, ◌+◌, ◌*◌, ◌≤◌, ◌<◌}
use native.Mathlib.Omega.{arith}
use lib.Dec.{eqb}
use lib.ListN.{length, get_or}
use lib.Seq.{ext_get_or}
use borrow.Author.Tests.{eqb-true, eq-eqb}
use Rattle.spec.specs.Choice.{when◌then◌else◌}
use Rattle.spec.specs.Split.{Map}
use Rattle.spec.specs.Maps.{◌=ᵐ◌, ◌≥ᵐ◌, ◌+ᵐ◌, ◌×ᵐ◌, share}
use Rattle.spec.specs.Figure5.{◌⊒◌, none as none⊒, more as more⊒}
use Rattle.spec.specs.declared.Location.{Location}
use Rattle.spec.proofs.Maps.{none_equal, equal_none, none_covers, covers_none, times_at}
use Rattle.fill_theory.specs.Flow.{unchanged, taking, giving, needing, lending, Applies}
use Rattle.fill_theory.specs.FlowOf.{asks}

-- ------------------------------------------------------------------ two maps

covers_at : {m n : Map} → m ⊒ n → (i : ℕ) → get_or n i 0 ≤ get_or m i 0
covers_at none⊒ i = omega arith
covers_at (more⊒ h c) zero = h
covers_at (more⊒ h c) (suc i) = covers_at c i

at_covers : (m n : Map) → length m ≡ length n → ((i : ℕ) → i < length m → get_or n i 0 ≤ get_or m i 0) → m ⊒ n
at_covers [] [] l h = none⊒
at_covers [] (b ∷ n) l h = absurd (omega (arith, l))
at_covers (a ∷ m) [] l h = absurd (omega (arith, l))
at_covers (a ∷ m) (b ∷ n) l h = more⊒ (h 0 (omega arith)) (at_covers m n (omega (arith, l)) (λ i q. h (suc i) (omega arith)))

sum_length : (m n : Map) → length m ≡ length n → length (m +ᵐ n) ≡ length m
unfolding ◌+ᵐ◌
sum_length [] n l = refl
sum_length (a ∷ m) [] l = absurd (omega (arith, l))
sum_length (a ∷ m) (b ∷ n) l = ap suc (sum_length m n (omega (arith, l)))

sum_at : (m n : Map) → length m ≡ length n → (i : ℕ) → get_or (m +ᵐ n) i 0 ≡ get_or m i 0 + get_or n i 0
unfolding ◌+ᵐ◌
sum_at [] [] l i = omega arith
sum_at [] (b ∷ n) l i = absurd (omega (arith, l))
sum_at (a ∷ m) [] l i = absurd (omega (arith, l))
sum_at (a ∷ m) (b ∷ n) l zero = refl
sum_at (a ∷ m) (b ∷ n) l (suc i) = sum_at m n (omega (arith, l)) i

times_length : (k : ℕ) (m : Map) → length (k ×ᵐ m) ≡ length m
unfolding ◌×ᵐ◌
times_length k [] = refl
times_length k (a ∷ m) = ap suc (times_length k m)

share_times : (k : ℕ) (m : Map) (p : Location) → share (k ×ᵐ m) p ≡ k * share m p
unfolding share
share_times k m p = times_at k m p.0

-- ------------------------------------------------------------------ access

-- so much at one location, and nothing elsewhere
asks_met : (here q : Location) (d : ℕ) (m : Map) → d ≤ share m q → asks here q d ≤ share m here
unfolding asks share
asks_met here q d m h = go (eqb q.0 here.0) refl
  where
    go : (b : Bool) → eqb q.0 here.0 ≡ b → (when b then d else 0) ≤ get_or m here.0 0
    go true e = let same : q.0 ≡ here.0 = eqb-true q.0 here.0 e in rw (← same) h
    go false e = omega arith

asked_there : (q : Location) (d : ℕ) → asks q q d ≡ d
unfolding asks
asked_there q d = rw (eq-eqb q.0 q.0 refl)

-- ------------------------------------------------------------------ every location

module _ (L : ℕ) where
  -- Q holds at each of L locations
  pub record Everywhere (Q : Location → Type 0) : Type 0 where
    pub at : (p : Location) → p.0 < L → Q p

  -- m is the map m', which has a number for each location
  pub record Known (m m' : Map) : Type 0 where
    pub same : m ≡ m'
    pub wide : length m' ≡ L

module _ {L : ℕ} where
  -- facts of every location, one by one and together
  pub together : {X Y : Type 0} {A B : Location → Type 0} → X ↔ Everywhere L A → Y ↔ Everywhere L B → (X × Y) ↔ Everywhere L (λ p. A p × B p)
  together f g = (
    λ h. let a = f.0 h.0 in let b = g.0 h.1 in record { at = λ p l. (a.at p l, b.at p l) },
    λ h. (f.1 (record { at = λ p l. (h.at p l).0 }), g.1 (record { at = λ p l. (h.at p l).1 })),
  )

  -- a last fact that says nothing
  pub lastly : {X : Type 0} {A : Location → Type 0} → X ↔ Everywhere L A → (X × Unit {0}) ↔ Everywhere L A
  lastly f = (λ h. f.0 h.0, λ h. (f.1 h, tt))

  pub restated : {X : Type 0} {A B : Location → Type 0} → ((p : Location) → A p ↔ B p) → X ↔ Everywhere L A → X ↔ Everywhere L B
  restated s f = (
    λ h. let a = f.0 h in record { at = λ p l. (s p).0 (a.at p l) },
    λ h. f.1 (record { at = λ p l. (s p).1 (h.at p l) }),
  )

  pub three : {X : Type 0} {A B C : Location → Type 0} → X ↔ Everywhere L (λ p. A p × (B p × C p)) → X ↔ Everywhere L (λ p. A p × B p × C p)
  three {A = A} {B = B} {C = C} f = restated {B = λ p. A p × B p × C p} (λ p. (λ h. (h.0, h.1.0, h.1.1), λ h. (h.0, (h.1, h.2)))) f

  module _ {m m' n n' : Map} (km : Known L m m') (kn : Known L n n') where
    pub equal_everywhere : (m =ᵐ n) ≡ None ↔ Everywhere L (λ p. share m' p ≡ share n' p)
    unfolding share
    equal_everywhere = rw (km.same, kn.same) (
      λ h. record { at = λ p l. ap (λ x. get_or x p.0 0) (none_equal h) },
      λ h. equal_none (ext_get_or 0 m' n' (omega (arith, km.wide, kn.wide)) (λ i l. h.at (record { 0 = i }) (omega (arith, km.wide)))),
    )

    pub least_everywhere : (m ≥ᵐ n) ≡ None ↔ Everywhere L (λ p. share n' p ≤ share m' p)
    unfolding share
    least_everywhere = rw (km.same, kn.same) (
      λ h. record { at = λ p l. covers_at (none_covers h) p.0 },
      λ h. covers_none (at_covers m' n' (omega (arith, km.wide, kn.wide)) (λ i l. h.at (record { 0 = i }) (omega (arith, km.wide)))),
    )

    known_sum : Known L (m +ᵐ n) (m' +ᵐ n')
    known_sum = record {
      same = rw (km.same, kn.same);
      wide = omega (arith, sum_length m' n' (omega (arith, km.wide, kn.wide)), km.wide);
    }

    share_sum : (p : Location) → share (m' +ᵐ n') p ≡ share m' p + share n' p
    unfolding share
    share_sum p = sum_at m' n' (omega (arith, km.wide, kn.wide)) p.0

  -- ------------------------------------------------------------------ conditions as effects

  module _ {m m' n n' : Map} (after : Known L m m') (before : Known L n n') where
    -- post = before
    pub keeps : (m =ᵐ n) ≡ None ↔ Everywhere L (λ p. Applies unchanged (share n' p) (share m' p))
    unfolding unchanged
    keeps = restated (λ p. (λ h. record { balance = omega arith; enough = omega arith; lent = omega arith }, λ t. omega (arith, t.balance))) (equal_everywhere after before)

    module _ {k k' : Map} (load : Known L k k') where
      -- post = before + K, of the numbers
      pub sums : (m =ᵐ n +ᵐ k) ≡ None ↔ Everywhere L (λ p. share m' p ≡ share n' p + share k' p)
      sums = restated (λ p. (λ h. h ∙ share_sum before load p, λ h. h ∙ sym (share_sum before load p))) (equal_everywhere after (known_sum before load))

      -- post = before + K
      pub gives : (m =ᵐ n +ᵐ k) ≡ None ↔ Everywhere L (λ p. Applies (giving (share k' p)) (share n' p) (share m' p))
      unfolding giving
      gives =
          restated (λ p. (
            λ h. record { balance = omega (arith, h, share_sum before load p); enough = omega arith; lent = omega arith },
            λ t. omega (arith, t.balance, share_sum before load p),
          ))
          (equal_everywhere after (known_sum before load))

      -- post + K = before
      pub takes : (m +ᵐ k =ᵐ n) ≡ None ↔ Everywhere L (λ p. Applies (taking (share k' p)) (share n' p) (share m' p))
      unfolding taking
      takes =
          restated (λ p. (
            λ h. record { balance = omega (arith, h, share_sum after load p); enough = omega arith; lent = omega arith },
            λ t. omega (arith, t.balance, share_sum after load p),
          ))
          (equal_everywhere (known_sum after load) before)

  known_times : {m m' : Map} (v : ℕ) → Known L m m' → Known L (v ×ᵐ m) (v ×ᵐ m')
  known_times {m' = m'} v km = record { same = ap (λ x. v ×ᵐ x) km.same; wide = times_length v m' ∙ km.wide }

  -- v times the share is at most the load, and post + load = before
  pub lends : {m m' n n' k k' r r' : Map} (v : ℕ) (after : Known L m m') (before : Known L n n') (load : Known L k k') (part : Known L r r')
      → (((k ≥ᵐ v ×ᵐ r) ≡ None) × (((m +ᵐ k =ᵐ n) ≡ None) × Unit {0}))
      ↔ Everywhere L (λ p. Applies (lending (v * share r' p) (share k' p)) (share n' p) (share m' p))
  unfolding lending taking
  lends {r' = r'} v after before load part =
      restated (λ p. (
        λ h. record { balance = h.1.balance; enough = h.1.enough; lent = omega (arith, h.0, share_times v r' p) },
        λ t. (omega (arith, t.lent, share_times v r' p), record { balance = t.balance; enough = t.enough; lent = omega arith }),
      ))
      (together (least_everywhere load (known_times v part)) (lastly (takes after before load)))

  -- post = before, and at least d at the location q, by a test
  pub needs : {m m' n n' : Map} (after : Known L m m') (before : Known L n n') (q q' : Location) → q ≡ q' → q'.0 < L
      → (d : ℕ) (test : Bool) → (test ≡ true) ↔ (d ≤ share m q)
      → (((m =ᵐ n) ≡ None) × ((test ≡ true) × Unit {0})) ↔ Everywhere L (λ p. Applies (needing (asks p q' d)) (share n' p) (share m' p))
  unfolding needing
  needs {m' = m'} after before q q' same within d test decides = (
    λ h.
        let e = (equal_everywhere after before).0 h.0 in
        let there : d ≤ share m' q' = rw (after.same, same) at (decides.0 h.1.0) in
        record { at = λ p l. record { balance = omega (arith, e.at p l); enough = asks_met p q' d m' there; lent = omega arith } },
    λ t.
        let there : d ≤ share m' q' = rw (asked_there q' d) at (t.at q' within).enough in
        ((equal_everywhere after before).1 (record { at = λ p l. omega (arith, (t.at p l).balance) }), (decides.1 (rw (after.same, same) there), tt)),
  )
