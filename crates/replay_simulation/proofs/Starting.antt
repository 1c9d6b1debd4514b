-- The start on numbers is the machine's.
use Rattle.std.proofs.Common.{Some, slice_get}
use Prim.Native.Nat.{ℕ, zero, suc, ◌+◌, ◌*◌, ◌<◌, ◌≤◌}
use mathlib.Core.Path.{◌≡◌, refl, sym, ◌∙◌, ap}
use mathlib.Core.Logic.{◌≢◌}
use mathlib.Core.List.{List, [], ◌∷◌}
use native.Mathlib.Omega.{arith}
use native.Mathlib.Decide.{ℕ_discrete, dec_lt}
use borrow.Author.Tests.{lt-ltb, le-ltb}
use lib.ListN.{length, get_or, set, replicate, length-set}
use lib.Seq.{get_or-set_same, get_or-set_other}
use Rattle.spec.specs.Program.{Program}
use Rattle.calculus.specs.Expression.{int, choose}
use Rattle.calculus.specs.State.{unused, identifier, update}
use Rattle.calculus.proofs.Laws.Maps.{none_is_not_some, update_other}
use Rattle.replay_theory.specs.declared.Status.TheVariants.{Running}
use Rattle.threads.specs.declared.Record.{Record}
use Rattle.threads.specs.Records.{no_record}
use Rattle.threads.specs.Threads.{started}
use Rattle.replay_control.specs.Layout.{finish, environments_at, thing_counts_at, next_value_at, thing_kinds_at, space_size}
use Rattle.replay_control.specs.Control.{root_of, variable, entering}
use Rattle.replay_objects.specs.declared.Slot.{Slot}
use Rattle.replay_objects.specs.declared.Thing.TheVariants.{Unused, Identifier}
use Rattle.replay_objects.specs.Stored.{thing_of}
use Rattle.replay_objects.proofs.Stored.{Plain}
use Rattle.replay_step.specs.Slots.{thing_at}
use Rattle.replay_engine.specs.Steps.{zeroed, start_space, start_of}
use Rattle.replay_engine.proofs.Clearing.{zeroed_length, zeroed_before, zeroed_in}
use Rattle.replay_theory.specs.Run.{next_name, still_open}
use Rattle.replay_machine.specs.Control.{done, enter, open_calls}
use Rattle.replay_machine.proofs.Marks.{calls_counted, enter_tells}
use Rattle.replay_machine.specs.State.{MachineThread, running, start_machine}
use Rattle.replay_machine.specs.Replay.{Replay, start_replay}
use Rattle.replay_simulation.proofs.Bodies.{ProgramStands}
use Rattle.replay_simulation.proofs.Advancing.{same_all}
use Rattle.replay_simulation.proofs.Finding.{enters_word}
use Rattle.replay_simulation.proofs.Holds.{slot_at, thing_told, coded, kind_code, kind_low, NamesHeld, ThreadHeld, Holds}
use Rattle.replay_simulation.proofs.Proceeding.{Paused, proceeds}

record_behind : (n i : ℕ) (r : Record) → r.state ≡ Running → (get_or (replicate n r) i no_record).state ≡ Running
unfolding no_record
record_behind zero i r h = refl
record_behind (suc n) zero r h = h
record_behind (suc n) (suc i) r h = record_behind n i r h

-- the numbers of what is unused, and of an identifier
low_plain : (x : Slot) → x.kind ≤ 1 → Plain x
low_plain x h = record { known = omega (arith, h); closed = λ e. omega (arith, h, e); lower = λ e. omega (arith, h, e) }

module _ (p s : List ℕ) (long : length s ≡ space_size) where
  abbrev s₀ : List ℕ
  s₀ = zeroed (zeroed s environments_at 256) thing_counts_at 400

  abbrev s₁ : List ℕ
  s₁ = set (set s₀ (thing_kinds_at + 1) 1) next_value_at 2

  long₋ : length (zeroed s environments_at 256) ≡ space_size
  long₋ = zeroed_length s environments_at 256 ∙ long

  long₀ : length s₀ ≡ space_size
  long₀ = zeroed_length (zeroed s environments_at 256) thing_counts_at 400 ∙ long₋

  long₁ : length s₁ ≡ space_size
  long₁ = length-set (set s₀ (thing_kinds_at + 1) 1) next_value_at 2 ∙ length-set s₀ (thing_kinds_at + 1) 1 ∙ long₀

  -- the places that are cleared
  variable_clear : (x : ℕ) → x < 256 → get_or s₀ x 0 ≡ 0
  variable_clear x h =
      zeroed_before (zeroed s environments_at 256) thing_counts_at 400 x (omega (arith, h))
      ∙ zeroed_in s environments_at 256 x (omega (arith, long)) (omega arith) (omega (arith, h))

  thing_clear : (j : ℕ) → thing_counts_at ≤ j → j < thing_counts_at + 400 → get_or s₀ j 0 ≡ 0
  thing_clear j l h = zeroed_in (zeroed s environments_at 256) thing_counts_at 400 j (omega (arith, long₋)) l h

  elsewhere : (j : ℕ) → j ≢ thing_kinds_at + 1 → j ≢ next_value_at → get_or s₁ j 0 ≡ get_or s₀ j 0
  elsewhere j a b = get_or-set_other (set s₀ (thing_kinds_at + 1) 1) next_value_at j 2 0 b ∙ get_or-set_other s₀ (thing_kinds_at + 1) j 1 0 a

  kind_elsewhere : (v : ℕ) → v ≢ 1 → v < 322 → (slot_at s₁ v).kind ≡ 0
  unfolding slot_at
  kind_elsewhere v n l = rw (lt-ltb v 322 l) (elsewhere (thing_kinds_at + v) (λ e. n (omega (arith, e))) (λ e. omega (arith, e)) ∙ thing_clear (thing_kinds_at + v) (omega arith) (omega (arith, l)))

  kind_here : (slot_at s₁ 1).kind ≡ 1
  unfolding slot_at
  kind_here = get_or-set_other (set s₀ (thing_kinds_at + 1) 1) next_value_at (thing_kinds_at + 1) 2 0 (λ e. omega (arith, e)) ∙ get_or-set_same s₀ (thing_kinds_at + 1) 1 0 (omega (arith, long₀))

  unused_elsewhere : (v : ℕ) → v ≢ 1 → v < 322 → thing_at s₁ v ≡ Unused
  unfolding thing_of
  unused_elsewhere v n l = thing_told s₁ v ∙ rw (kind_elsewhere v n l)

  identifier_here : thing_at s₁ 1 ≡ Identifier
  unfolding thing_of
  identifier_here = thing_told s₁ 1 ∙ rw kind_here

  plain_start : (v : ℕ) → Plain (slot_at s₁ v)
  unfolding slot_at
  plain_start v = low_plain (slot_at s₁ v) (by_range (dec_lt v 322))
    where
      by_value : v < 322 → Dec (v ≡ 1) → (slot_at s₁ v).kind ≤ 1
      by_value l (yes e) = let k = ap (λ (u : ℕ). (slot_at s₁ u).kind) e ∙ kind_here in omega (arith, k)
      by_value l (no n) = let k = kind_elsewhere v n l in omega (arith, k)

      by_range : Dec (v < 322) → (slot_at s₁ v).kind ≤ 1
      by_range (yes l) = by_value l (ℕ_discrete v 1)
      by_range (no f) = rw (le-ltb v 322 (omega (arith, f))) (omega arith)

  names_start : NamesHeld s₁ (update (λ n. unused) 0 identifier) 1 (λ k. 0)
  unfolding next_name
  names_start = record {
    constant = unused_elsewhere 0 (λ e. omega (arith, e)) (omega arith);
    slots = λ n l. by_name n l (ℕ_discrete n 0);
    plain = plain_start;
    unused_from_lem = λ n l. update_other (λ m. unused) 0 n identifier (λ e. omega (arith, e, l));
    next_stored = get_or-set_same (set s₀ (thing_kinds_at + 1) 1) next_value_at 2 0 (let l = length-set s₀ (thing_kinds_at + 1) 1 in omega (arith, l, long₀));
    counted = λ k. let l = kind_low k in elsewhere (thing_counts_at + kind_code k) (λ e. omega (arith, e, l)) (λ e. omega (arith, e, l)) ∙ thing_clear (thing_counts_at + kind_code k) (omega arith) (omega (arith, l));
    few = λ k. omega arith;
    all = refl;
  }
    where
      by_name : (n : ℕ) → suc n < 322 → (d : Dec (n ≡ 0)) → thing_at s₁ (suc n) ≡ coded (choose d identifier unused)
      by_name n l (yes e) = ap (λ (m : ℕ). thing_at s₁ (suc m)) e ∙ identifier_here
      by_name n l (no f) = unused_elsewhere (suc n) (λ e. f (omega (arith, e))) l

  module _ (P : Program) (A : ProgramStands p P.procedures P.root) where
    abbrev ph : MachineThread
    ph = running 0 (done (int 0))

    abbrev R₀ : Replay
    R₀ = record { machine = record { procedures = P.procedures; threads = ph ∷ []; names = update (λ n. unused) 0 identifier; next = 1 }; things = λ k. 0 }

    paused : Paused p s₁ (started 1) R₀ 0 0
    unfolding started
    paused = record {
      long = long₁;
      bodies = A.bodies;
      names = names_start;
      sized = record { count = refl; fits = omega arith; records = refl; behind = λ i l h. record_behind 16 i (record { state = Running; tid = 1 }) refl };
      there = omega arith;
      was = refl;
      others = λ i th n h. none_there i th n h;
    }
      where
        none_there : (i : ℕ) (th : MachineThread) → i ≢ 0 → slice_get (ph ∷ []) i ≡ Some th → ThreadHeld p s₁ (started 1) i th
        none_there zero th n h = absurd (n refl)
        none_there (suc i) th n h = none_is_not_some h

    none_open : open_calls (enter (λ x. int 0) P.root []) ≤ 64
    unfolding still_open
    none_open = let z = sym (calls_counted (enter (λ x. int 0) P.root [])) ∙ ap length (sym (enter_tells (λ x. int 0) P.root [])) in omega (arith, z)

    pub start_held : Holds p (start_of p s).1 (start_of p s).0 (start_replay P)
    unfolding start_of start_space start_replay start_machine variable
    start_held =
        proceeds paused (entering 0 (root_of p)) (enter (λ x. int 0) P.root []) none_open
        (enters_word {t = 0} {c = finish} (record {
          low = omega arith;
          same = same_all 0 s₁;
          long = long₁;
          inside = (omega arith, omega arith);
          values = λ x h. elsewhere (0 + 256 * 0 + x) (λ z. omega (arith, z, h)) (λ z. omega (arith, z, h)) ∙ variable_clear (0 + 256 * 0 + x) (omega (arith, h));
          frames = (refl, refl);
        }) P.root A.root_stands)
