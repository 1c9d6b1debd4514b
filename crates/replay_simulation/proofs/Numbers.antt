-- What is held fixes the numbers themselves: the three of each name, and that of each thread's mode.
use Prim.Native.Nat.{ℕ, zero, suc, ◌+◌, ◌<◌, ◌≤◌}
use mathlib.Core.Path.{◌≡◌, refl, sym, ◌∙◌, ap, subst}
use mathlib.Core.Bool.{true, false, not}
use mathlib.Core.List.{List}
use native.Mathlib.Omega.{arith}
use lib.Dec.{eqb}
use lib.ListN.{get_or}
use Rattle.calculus.specs.Expression.{Value}
use Rattle.calculus.specs.State as calculus
use Rattle.calculus.specs.State.{opened, closed, readers, writer, unused, identifier, cell, a_lock, semaphore, rwlock}
use Rattle.threads.specs.declared.Threads.{Threads}
use Rattle.replay_control.specs.Layout.{control_point_modes_at}
use Rattle.replay_control.specs.declared.ControlPoint.{ControlPoint}
use Rattle.replay_control.specs.Modes.{mode_number}
use Rattle.replay_control.proofs.Modes.{mode_stored}
use Rattle.replay_objects.specs.declared.Thing.{Thing}
use Rattle.replay_objects.specs.declared.Thing.TheVariants.{Lock, Semaphore}
use Rattle.replay_objects.specs.declared.Slot.{Slot}
use Rattle.replay_objects.specs.Stored.{slot, numbers_of, thing_of}
use Rattle.replay_objects.proofs.Stored.{Plain}
use Rattle.replay_engine.specs.ControlPoints.{control_point_at}
use Rattle.replay_theory.specs.Run.{ObjectKind}
use Rattle.replay_machine.specs.Control.{done}
use Rattle.replay_machine.specs.State.{MachineThread}
use Rattle.replay_simulation.proofs.Held.{code_value, ControlAt}
use Rattle.replay_simulation.proofs.Holds.{slot_at, thing_told, coded, SlotIs, NamesHeld, ThreadHeld}
use Rattle.replay_simulation.proofs.Naming.{slot_of, slot_decodes}

-- ------------------------------------------------------------------ names

-- the kind is that of the thing that is read
kind_read : (k a b : ℕ) → k ≤ 6 → (numbers_of (thing_of (slot k a b))).kind ≡ k
unfolding numbers_of thing_of
kind_read zero a b l = refl
kind_read (suc zero) a b l = refl
kind_read (suc (suc zero)) a b l = refl
kind_read (suc (suc (suc zero))) a b l = refl
kind_read (suc (suc (suc (suc zero)))) a b l = refl
kind_read (suc (suc (suc (suc (suc zero))))) a b l = refl
kind_read (suc (suc (suc (suc (suc (suc zero)))))) a b l = refl
kind_read (suc (suc (suc (suc (suc (suc (suc k))))))) a b l = absurd (omega arith)

open_is : (a : ℕ) → a ≤ 1 → Lock (not (eqb a 0)) ≡ Lock false → a ≡ 0
open_is zero l e = refl
open_is (suc zero) l e = cc
open_is (suc (suc a)) l e = absurd (omega arith)

closed_is : (a : ℕ) → a ≤ 1 → Lock (not (eqb a 0)) ≡ Lock true → a ≡ 1
closed_is zero l e = cc
closed_is (suc zero) l e = refl
closed_is (suc (suc a)) l e = absurd (omega arith)

count_injective : {m n : ℕ} → Semaphore m ≡ Semaphore n → m ≡ n
count_injective e = cc

module _ (x : Slot) (P : Plain x) where
  kind_is : {t : Thing} → thing_of x ≡ t → x.kind ≡ (numbers_of t).kind
  kind_is e = sym (kind_read x.kind x.first x.second P.known) ∙ ap (λ (t : Thing). (numbers_of t).kind) e

  -- what is read from numbers of kind k
  of_kind : {t : Thing} {k : ℕ} → x.kind ≡ k → thing_of x ≡ t → thing_of (slot k x.first x.second) ≡ t
  of_kind {t} z e = subst (λ (k : ℕ). thing_of (slot k x.first x.second) ≡ t) z e

  -- the numbers of a thing that is read
  numbers_are : (sl : calculus.Slot) → thing_of x ≡ coded sl → SlotIs x sl
  unfolding numbers_of thing_of
  numbers_are unused e = kind_is e
  numbers_are identifier e = kind_is e
  numbers_are (cell v) e = let k = kind_is e in (k, ap (λ (t : Thing). (numbers_of t).first) (of_kind k e))
  numbers_are (a_lock opened) e = let k = kind_is e in (k, open_is x.first (P.closed k) (of_kind k e))
  numbers_are (a_lock closed) e = let k = kind_is e in (k, closed_is x.first (P.closed k) (of_kind k e))
  numbers_are (semaphore c) e = let k = kind_is e in (k, sym (count_injective (of_kind k e)), P.lower k)
  numbers_are (rwlock N (readers n)) e =
      let k = kind_is e in
      (k, ap (λ (t : Thing). (numbers_of t).first) (of_kind k e), ap (λ (t : Thing). (numbers_of t).second) (of_kind k e))
  numbers_are (rwlock N writer) e = let k = kind_is e in (k, ap (λ (t : Thing). (numbers_of t).first) (of_kind k e))

module _ {s : List ℕ} {names : ℕ → calculus.Slot} {next : ℕ} {things : ObjectKind → ℕ} (N : NamesHeld s names next things) where
  -- a constant names nothing
  pub constant_is : (slot_at s 0).kind ≡ 0
  constant_is = numbers_are (slot_at s 0) (N.plain 0) unused (sym (thing_told s 0) ∙ N.constant)

  pub slot_is : (n : ℕ) → suc n < 322 → SlotIs (slot_at s (suc n)) (names n)
  slot_is n l = numbers_are (slot_at s (suc n)) (N.plain (suc n)) (names n) (sym (thing_told s (suc n)) ∙ N.slots n l)

  -- of any value
  pub numbers_decode : (v : Value) → SlotIs (slot_at s (code_value v)) (slot_of names v)
  numbers_decode v = numbers_are (slot_at s (code_value v)) (N.plain (code_value v)) (slot_of names v) (sym (thing_told s (code_value v)) ∙ slot_decodes N v)

-- ------------------------------------------------------------------ threads

module _ {p s : List ℕ} {T : Threads} {i : ℕ} {th : MachineThread} (H : ThreadHeld p s T i th) where
  -- the number that is stored is that of the mode
  pub mode_is : get_or s (control_point_modes_at + i) 0 ≡ mode_number (control_point_at s i).mode
  unfolding control_point_at
  mode_is = sym (mode_stored (get_or s (control_point_modes_at + i) 0) H.plain)

  -- of a thread that has finished, 5
  pub finished_is : {v : Value} → th.control ≡ done v → get_or s (control_point_modes_at + i) 0 ≡ 5
  finished_is {v} e = mode_is ∙ ap (λ (f : ControlPoint). mode_number f.mode) (subst (ControlAt p s i (control_point_at s i)) e H.control)
