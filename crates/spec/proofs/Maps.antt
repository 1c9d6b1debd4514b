-- What the comparisons of maps find: nothing exactly when the maps compare as they should, else the lowest failing location.
use Rattle.std.proofs.Common.{Option, None, Some}
use mathlib.Core.Path.{◌≡◌, refl, sym, ◌∙◌}
use mathlib.Core.List.{[], ◌∷◌}
use mathlib.Core.Bool.{Bool, true, false}
use Prim.Native.Nat.{ℕ, zero, suc, ◌+◌, ◌*◌, ◌<◌, ◌≤◌, max}
use native.Mathlib.Nat.{mul-zero}
use native.Mathlib.Omega.{arith}
use lib.Dec.{eqb, leb}
use lib.ListN.{length, get_or}
use borrow.Author.Tests.{eqb-true, leb-true, leb-false, eq-eqb, le-leb}
use Rattle.spec.specs.Choice.{when◌then◌else◌}
use Rattle.spec.specs.Split.{Map}
use Rattle.spec.specs.Maps.{lowest, at_least, ◌=ᵐ◌, ◌≥ᵐ◌, holds_everywhere, ◌×ᵐ◌, over_whole}
use Rattle.spec.specs.Figure5.{◌⊒◌, none as none⊒, more as more⊒}
use Rattle.spec.specs.Accepted.{AtMost, none as none_at_most, more as more_at_most}
use Rattle.spec.proofs.Clashes.{true_is_not_false, none_is_not_some, not_true_false}

-- ------------------------------------------------------------------ nothing fails

pub nowhere_none : (o : Option ℕ) → holds_everywhere o ≡ true → o ≡ None
unfolding holds_everywhere
nowhere_none None h = refl
nowhere_none (Some l) h = true_is_not_false (sym h)

pub none_nowhere : (o : Option ℕ) → o ≡ None → holds_everywhere o ≡ true
unfolding holds_everywhere
none_nowhere o h = rw h

if_none : (t : Bool) (x : Option ℕ) (i : ℕ) → (when t then x else Some i) ≡ None → (t ≡ true) × (x ≡ None)
if_none true x i h = (refl, h)
if_none false x i h = none_is_not_some (sym h)

lowest_none_equal : (i : ℕ) (m n : Map) → lowest eqb i m n ≡ None → m ≡ n
unfolding lowest
lowest_none_equal i [] [] h = refl
lowest_none_equal i [] (b ∷ n) h = none_is_not_some (sym h)
lowest_none_equal i (a ∷ m) [] h = none_is_not_some (sym h)
lowest_none_equal i (a ∷ m) (b ∷ n) h =
    let both = if_none (eqb a b) (lowest eqb (i + 1) m n) i h in
    let first = eqb-true a b both.0 in
    let rest = lowest_none_equal (i + 1) m n both.1 in
    cc

lowest_itself_none : (i : ℕ) (m : Map) → lowest eqb i m m ≡ None
unfolding lowest
lowest_itself_none i [] = refl
lowest_itself_none i (a ∷ m) = rw (eq-eqb a a refl) (lowest_itself_none (i + 1) m)

pub none_equal : {m n : Map} → (m =ᵐ n) ≡ None → m ≡ n
unfolding ◌=ᵐ◌
none_equal {m} {n} h = lowest_none_equal 0 m n h

pub equal_none : {m n : Map} → m ≡ n → (m =ᵐ n) ≡ None
unfolding ◌=ᵐ◌
equal_none {m} {n} e = rw (← e) (lowest_itself_none 0 m)

lowest_none_covers : (i : ℕ) (m n : Map) → lowest at_least i m n ≡ None → m ⊒ n
unfolding lowest at_least
lowest_none_covers i [] [] h = none⊒
lowest_none_covers i [] (b ∷ n) h = none_is_not_some (sym h)
lowest_none_covers i (a ∷ m) [] h = none_is_not_some (sym h)
lowest_none_covers i (a ∷ m) (b ∷ n) h =
    let both = if_none (leb b a) (lowest at_least (i + 1) m n) i h in
    more⊒ (leb-true b a both.0) (lowest_none_covers (i + 1) m n both.1)

covers_lowest_none : (i : ℕ) {m n : Map} → m ⊒ n → lowest at_least i m n ≡ None
unfolding lowest at_least
covers_lowest_none i none⊒ = refl
covers_lowest_none i (more⊒ {a} {b} h c) = rw (le-leb b a h) (covers_lowest_none (i + 1) c)

pub none_covers : {m n : Map} → (m ≥ᵐ n) ≡ None → m ⊒ n
unfolding ◌≥ᵐ◌
none_covers {m} {n} h = lowest_none_covers 0 m n h

pub covers_none : {m n : Map} → m ⊒ n → (m ≥ᵐ n) ≡ None
unfolding ◌≥ᵐ◌
covers_none c = covers_lowest_none 0 c

pub covers_itself : (m : Map) → m ⊒ m
covers_itself [] = none⊒
covers_itself (a ∷ m) = more⊒ {a = a} {b = a} (omega arith) (covers_itself m)

pub times_at : (k : ℕ) (m : Map) (i : ℕ) → get_or (k ×ᵐ m) i 0 ≡ k * get_or m i 0
unfolding ◌×ᵐ◌
times_at k [] i = sym (mul-zero k)
times_at k (a ∷ m) zero = refl
times_at k (a ∷ m) (suc i) = times_at k m i

pub none_at_most_lem : (d i : ℕ) (m : Map) → over_whole d i m ≡ None → AtMost d m
unfolding over_whole
none_at_most_lem d i [] h = none_at_most
none_at_most_lem d i (a ∷ m) h =
    let both = if_none (leb a d) (over_whole d (i + 1) m) i h in
    more_at_most (leb-true a d both.0) (none_at_most_lem d (i + 1) m both.1)

pub at_most_none : (d i : ℕ) {m : Map} → AtMost d m → over_whole d i m ≡ None
unfolding over_whole
at_most_none d i none_at_most = refl
at_most_none d i (more_at_most {a} h u) = rw (le-leb a d h) (at_most_none d (i + 1) u)

-- ------------------------------------------------------------------ something fails

-- both maps have location j, and pass the test there
pub record PassesAt (test : ℕ → ℕ → Bool) (m n : Map) (j : ℕ) : Type 0 where
  pub first : j < length m
  pub second : j < length n
  pub passes : test (get_or m j 0) (get_or n j 0) ≡ true

-- location l is in one of the maps at least, they do not pass the test there, and they pass it at every location below
pub record LowestFailing (test : ℕ → ℕ → Bool) (m n : Map) (l : ℕ) : Type 0 where
  pub within : l < max (length m) (length n)
  pub fails : PassesAt test m n l → ⊥
  pub below : (j : ℕ) → j < l → PassesAt test m n j

fails_first : (test : ℕ → ℕ → Bool) (m n : Map) → 0 < max (length m) (length n) → (PassesAt test m n 0 → ⊥) → LowestFailing test m n 0
fails_first test m n h f = record { within = h; fails = f; below = λ j lt. absurd (omega arith) }

passes_later : (test : ℕ → ℕ → Bool) (a b : ℕ) (m n : Map) → test a b ≡ true → (j : ℕ) → ((k : ℕ) → j ≡ suc k → PassesAt test m n k)
    → PassesAt test (a ∷ m) (b ∷ n) j
passes_later test a b m n h zero p = record { first = omega arith; second = omega arith; passes = h }
passes_later test a b m n h (suc j) p =
    let q = p j refl in
    record { first = omega (arith, q.first); second = omega (arith, q.second); passes = q.passes }

fails_later : (test : ℕ → ℕ → Bool) (a b : ℕ) (m n : Map) (l : ℕ) → test a b ≡ true → LowestFailing test m n l
    → LowestFailing test (a ∷ m) (b ∷ n) (suc l)
fails_later test a b m n l h f = record {
  within = omega (arith, f.within);
  fails = λ p. f.fails (record { first = omega (arith, p.first); second = omega (arith, p.second); passes = p.passes });
  below = λ j lt. passes_later test a b m n h j (λ k e. f.below k (omega arith));
}

-- what `lowest` finds, counted from i
lowest_some : (test : ℕ → ℕ → Bool) (i l : ℕ) (m n : Map) → lowest test i m n ≡ Some l → (k : ℕ) × (l ≡ i + k) × LowestFailing test m n k
unfolding lowest
lowest_some test i l [] [] h = none_is_not_some h
lowest_some test i l [] (b ∷ n) h =
    let e : i ≡ l = cc in
    (0, omega arith, fails_first test [] (b ∷ n) (omega arith) (λ p. absurd (omega (arith, p.first))))
lowest_some test i l (a ∷ m) [] h =
    let e : i ≡ l = cc in
    (0, omega arith, fails_first test (a ∷ m) [] (omega arith) (λ p. absurd (omega (arith, p.second))))
lowest_some test i l (a ∷ m) (b ∷ n) h = go (test a b) refl h (lowest_some test (i + 1) l m n)
  where
    go : (t : Bool) → test a b ≡ t → (when t then lowest test (i + 1) m n else Some i) ≡ Some l
        → (lowest test (i + 1) m n ≡ Some l → (k : ℕ) × (l ≡ i + 1 + k) × LowestFailing test m n k)
        → (k : ℕ) × (l ≡ i + k) × LowestFailing test (a ∷ m) (b ∷ n) k
    go true e found rest =
        let r = rest found in
        (suc r.0, omega (arith, r.1), fails_later test a b m n r.0 e r.2)
    go false e found rest =
        let i≡l : i ≡ l = cc in
        (0, omega arith, fails_first test (a ∷ m) (b ∷ n) (omega arith) (λ p. true_is_not_false (sym p.passes ∙ e)))

lowest_fails : (test : ℕ → ℕ → Bool) (l : ℕ) (m n : Map) → lowest test 0 m n ≡ Some l → LowestFailing test m n l
lowest_fails test l m n h =
    let r = lowest_some test 0 l m n h in
    let e : r.0 ≡ l = omega (arith, r.1) in
    rw e at r.2

pub unequal_lowest : {m n : Map} {l : ℕ} → (m =ᵐ n) ≡ Some l → LowestFailing eqb m n l
unfolding ◌=ᵐ◌
unequal_lowest {m} {n} {l} h = lowest_fails eqb l m n h

pub uncovered_lowest : {m n : Map} {l : ℕ} → (m ≥ᵐ n) ≡ Some l → LowestFailing at_least m n l
unfolding ◌≥ᵐ◌
uncovered_lowest {m} {n} {l} h = lowest_fails at_least l m n h

-- location l has more than the whole, d parts, and no location below has
pub record LowestOver (d : ℕ) (m : Map) (l : ℕ) : Type 0 where
  pub within : l < length m
  pub over : d < get_or m l 0
  pub below : (j : ℕ) → j < l → get_or m j 0 ≤ d

over_whole_lowest : (d i : ℕ) (m : Map) → over_whole d i m ≡ lowest (λ a b. leb a d) i m m
unfolding over_whole lowest
over_whole_lowest d i [] = refl
over_whole_lowest d i (a ∷ m) = rw (over_whole_lowest d (i + 1) m)

pub over_lowest : (d l : ℕ) (m : Map) → over_whole d 0 m ≡ Some l → LowestOver d m l
over_lowest d l m h =
    let f = lowest_fails (λ a b. leb a d) l m m (sym (over_whole_lowest d 0 m) ∙ h) in
    let within : l < length m = omega (arith, f.within) in
    record {
      within = within;
      over = leb-false (get_or m l 0) d (not_true_false (leb (get_or m l 0) d) (λ t. f.fails (record { first = within; second = within; passes = t })));
      below = λ j lt. leb-true (get_or m j 0) d (f.below j lt).passes;
    }
