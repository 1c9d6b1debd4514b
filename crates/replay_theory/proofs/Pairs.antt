-- A run has a lowest pair exactly when its state has a race, and no pair of threads that race is lower.
use Rattle.std.proofs.Common.{Option, None, Some, slice_get}
use Prim.Native.Nat.{ℕ, zero, suc, ◌≤◌, ◌<◌}
use mathlib.Core.Path.{◌≡◌, refl, sym, ◌∙◌, ap}
use mathlib.Core.Logic.{◌≢◌, ◌⊎◌, inl, inr}
use mathlib.Core.Bool.{true}
use mathlib.Core.List.{List, [], ◌∷◌}
use native.Mathlib.Decide.{dec_lt}
use native.Mathlib.Omega.{arith}
use lib.ListN.{length}
use Rattle.spec.proofs.Clashes.{true_is_not_false}
use Rattle.calculus.specs.Expression.{next_word}
use Rattle.calculus.specs.State.{Slot, Thread}
use Rattle.calculus.specs.Reduction.{word_of}
use Rattle.calculus.specs.Claim.{ThreadAt, AboutToRead, AboutToWrite, Race, race, RaceFree}
use Rattle.calculus.proofs.Laws.Maps.{some_injective, none_is_not_some}
use Rattle.replay_theory.specs.Run.{Run}
use Rattle.replay_theory.specs.LowestPair.{Uses, uses_of, clash, uses_in, lowest_among, lowest_pair}
use Rattle.replay_theory.specs.Claim.{Meet, writes_it, reads_it, Racing}
use Rattle.replay_theory.proofs.Proper.{Proper}
use Rattle.replay_theory.proofs.Order.{order, same_place, place_order, not_below}
use Rattle.replay_theory.proofs.Races.{clash_sound, clash_complete, meet_is_race}
use Rattle.replay_theory.proofs.Lowest.{LowestPlaces, lowest_found, no_pair_clashes}

-- ---- Places and threads

record AtPlace (names : ℕ → Slot) (ns : List ℕ) (ts : List Thread) (p : ℕ) (x : ℕ × Uses) : Type 0 where
  thread : Thread
  number_there : slice_get ns p ≡ Some x.0
  thread_there : slice_get ts p ≡ Some thread
  its_uses : x.1 ≡ uses_of names (word_of (next_word thread.body))

at_place : (names : ℕ → Slot) (ns : List ℕ) (ts : List Thread) (p : ℕ) (x : ℕ × Uses) → slice_get (uses_in names ns ts) p ≡ Some x → AtPlace names ns ts p x
unfolding uses_in
at_place names [] ts p x h = none_is_not_some h
at_place names (n ∷ ns) [] p x h = none_is_not_some h
at_place names (n ∷ ns) (t ∷ ts) zero x h =
    let e = some_injective h in
    record { thread = t; number_there = ap (λ (z : ℕ × Uses). Some z.0) e; thread_there = refl; its_uses = ap (λ (z : ℕ × Uses). z.1) (sym e) }
at_place names (n ∷ ns) (t ∷ ts) (suc p) x h =
    let A = at_place names ns ts p x h in
    record { thread = A.thread; number_there = A.number_there; thread_there = A.thread_there; its_uses = A.its_uses }

placed : (names : ℕ → Slot) (ns : List ℕ) (ts : List Thread) (p : ℕ) (t : Thread) → length ns ≡ length ts → slice_get ts p ≡ Some t →
    (i : ℕ) × (slice_get ns p ≡ Some i) × (slice_get (uses_in names ns ts) p ≡ Some (i, uses_of names (word_of (next_word t.body))))
unfolding uses_in
placed names ns [] p t e h = none_is_not_some h
placed names [] (u ∷ ts) p t e h = absurd (omega (arith, e))
placed names (n ∷ ns) (u ∷ ts) zero t e h = (n, refl, ap (λ (z : Thread). Some (n, uses_of names (word_of (next_word z.body)))) (some_injective h))
placed names (n ∷ ns) (u ∷ ts) (suc p) t e h = placed names ns ts p t (omega (arith, e)) h

-- ---- Threads that race

pub racing_is_race : {r : Run} {i j : ℕ} → i ≢ j → Racing r i j → Race r.state
racing_is_race {r} apart R = meet_is_race r.state R.p R.q R.t R.u
    (λ e. apart (some_injective (sym R.i_there.number ∙ ap (slice_get r.numbers) e ∙ R.j_there.number))) R.i_there.thread R.j_there.thread R.meet

module _ (r : Run) where
  abbrev us : List (ℕ × Uses)
  us = uses_in r.state.names r.numbers r.state.threads

  places_race : (p q i j : ℕ) (a b : Uses) → slice_get us p ≡ Some (i, a) → slice_get us q ≡ Some (j, b) → clash a b ≡ true → Racing r i j
  places_race p q i j a b h k c =
      let A = at_place r.state.names r.numbers r.state.threads p (i, a) h in
      let B = at_place r.state.names r.numbers r.state.threads q (j, b) k in
      record {
        p = p;
        q = q;
        t = A.thread;
        u = B.thread;
        i_there = record { number = A.number_there; thread = A.thread_there };
        j_there = record { number = B.number_there; thread = B.thread_there };
        meet = clash_sound r.state A.thread B.thread ((λ z. clash (sym A.its_uses z) (sym B.its_uses z)) ∙ c);
      }

  -- No pair of a race-free state is found.
  pub race_free_has_no_pair : RaceFree r.state → lowest_pair r ≡ None
  unfolding lowest_pair
  race_free_has_no_pair free = by_cases (lowest_among us) refl
    where
      by_cases : (o : Option (ℕ × ℕ)) → lowest_among us ≡ o → o ≡ None
      by_cases None e = refl
      by_cases (Some (i, j)) e =
          let L = lowest_found us i j e in
          let A = at_place r.state.names r.numbers r.state.threads L.p (i, L.a) L.p_there in
          let B = at_place r.state.names r.numbers r.state.threads L.q (j, L.b) L.q_there in
          let before = L.before in
          absurd (free (meet_is_race r.state L.p L.q A.thread B.thread (λ z. omega (arith, before, z)) A.thread_there B.thread_there
          (clash_sound r.state A.thread B.thread ((λ z. clash (sym A.its_uses z) (sym B.its_uses z)) ∙ L.clashes))))

  module _ (proper : Proper r) where
    clash_at : (p q : ℕ) (t u : Thread) → p < q → ThreadAt r.state p t → ThreadAt r.state q u → Meet r.state t u → lowest_among us ≡ None → ⊥
    clash_at p q t u l a b m free =
        let (i, _, s) = placed r.state.names r.numbers r.state.threads p t proper.counted a in
        let (j, _, k) = placed r.state.names r.numbers r.state.threads q u proper.counted b in
        true_is_not_false (sym (clash_complete r.state t u m) ∙ no_pair_clashes us free p q _ _ l s k)

    -- Where no pair is found, the state has no race.
    pub no_pair_is_race_free : lowest_pair r ≡ None → RaceFree r.state
    unfolding lowest_pair
    no_pair_is_race_free free (race p q n t u d a b w x) = by_order (dec_lt p q)
      where
        turned : AboutToRead r.state u n ⊎ AboutToWrite r.state u n → Meet r.state u t
        turned (inl reads) = reads_it n reads w
        turned (inr writes) = writes_it n writes (inr w)

        by_order : Dec (p < q) → ⊥
        by_order (yes l) = clash_at p q t u l a b (writes_it n w x) free
        by_order (no l) = clash_at q p u t (omega (arith, l, d)) b a (turned x) free

    -- A pair that races is told by its places, so the lowest places have the lowest numbers.
    lowest_number : (i j : ℕ) (L : LowestPlaces us i j) → slice_get r.numbers L.p ≡ Some i → slice_get r.numbers L.q ≡ Some j →
        (i' j' : ℕ) → i' < j' → Racing r i' j' → (i < i') ⊎ ((i ≡ i') × (j ≤ j'))
    lowest_number i j L i-there j-there i' j' l R =
        let (k, _, s) = placed r.state.names r.numbers r.state.threads R.p R.t proper.counted R.i_there.thread in
        let (m, _, z) = placed r.state.names r.numbers r.state.threads R.q R.u proper.counted R.j_there.thread in
        by_places (L.least R.p R.q _ _ (place_order r proper R.p R.q i' j' l R.i_there.number R.j_there.number) s z
        (clash_complete r.state R.t R.u R.meet))
      where
        by_places : (L.p < R.p) ⊎ ((L.p ≡ R.p) × (L.q ≤ R.q)) → (i < i') ⊎ ((i ≡ i') × (j ≤ j'))
        by_places (inl b) = inl (order r proper L.p R.p i i' b i-there R.i_there.number)
        by_places (inr (e, b)) = inr (same_place r proper L.p R.p i i' e i-there R.i_there.number, not_below r proper L.q R.q j j' b j-there R.j_there.number)

    -- The pair that is found races, the smaller thread first, and is the lowest of those that do.
    pub pair_is_lowest : (i j : ℕ) → lowest_pair r ≡ Some (i, j) → (i < j) × Racing r i j
        × ((i' j' : ℕ) → i' < j' → Racing r i' j' → (i < i') ⊎ ((i ≡ i') × (j ≤ j')))
    unfolding lowest_pair places_race
    pair_is_lowest i j h =
        let L = lowest_found us i j h in
        let R = places_race L.p L.q i j L.a L.b L.p_there L.q_there L.clashes in
        (order r proper L.p L.q i j L.before R.i_there.number R.j_there.number, R, lowest_number i j L R.i_there.number R.j_there.number)
