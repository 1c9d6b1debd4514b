-- 44 over the type lines, as the code goes through them, and for the split that the work space holds.
use Rattle.std.proofs.Common.{Ok, Err}
use mathlib.Core.Path.{◌≡◌, sym, ap, ◌∙◌}
use mathlib.Core.Bool.{true, false}
use mathlib.Core.List.{List}
use Prim.Native.Nat.{ℕ, zero, suc, ◌+◌, ◌-◌, ◌<◌, ◌≤◌}
use native.Mathlib.Omega.{arith}
use native.Mathlib.Numerals.{add-one}
use lib.ListN.{length, get_or, drop, drop_of_length-le}
use lib.Seq.{drop-cons}
use Rattle.spec.specs.Reading.{◌>>=◌, require}
use Rattle.spec.specs.Program.{Program}
use Rattle.spec.specs.Split.{Split, type_at}
use Rattle.spec.specs.Ranges.{InRange}
use Rattle.spec.specs.Verdict.{takes_enough, all_take_enough, locks_take_enough}
use Rattle.spec.specs.declared.Refusal.TheVariants.{LockTakesLess}
use Rattle.spec.specs.declared.TypeLine.TheVariants.{Int}
use Rattle.workspace.specs.Layout as layout
use Rattle.workspace.specs.Holds.{HoldsSplit}
use Rattle.conditions.specs.Outcome.{both}
use Rattle.conditions.specs.Agreement.{takes_enough_in}
use Rattle.conditions.specs.SheetOutcomes.{lock_outcome, locks_outcome}
use Rattle.conditions.proofs.Agreement.{takes_enough_shown}

-- ------------------------------------------------------------------ the lines

module _ (w : List ℕ) (n t types : ℕ) where
  locks_next : t < types → locks_outcome w n t (types - t) ≡ both (lock_outcome w n (record { 0 = t })) (locks_outcome w n (t + 1) (types - (t + 1)))
  unfolding locks_outcome
  locks_next h =
      let one : types - t ≡ suc (types - (t + 1)) = omega arith in
      ap (locks_outcome w n t) one

  pub locks_refused : t < types → takes_enough_in w n (layout.type_at w (record { 0 = t })) ≡ false → locks_outcome w n t (types - t) ≡ Err (LockTakesLess (t + 2))
  unfolding lock_outcome require both ◌>>=◌
  locks_refused h e = rw (locks_next h, e)

  pub locks_later : t < types → takes_enough_in w n (layout.type_at w (record { 0 = t })) ≡ true
      → locks_outcome w n t (types - t) ≡ locks_outcome w n (t + 1) (types - (t + 1))
  unfolding lock_outcome require both ◌>>=◌
  locks_later h e = rw (locks_next h, e)

  pub locks_done : types ≤ t → locks_outcome w n t (types - t) ≡ Ok tt
  unfolding locks_outcome
  locks_done h =
      let none_left : types - t ≡ 0 = omega arith in
      ap (locks_outcome w n t) none_left

-- ------------------------------------------------------------------ the split that the work space holds

module _ (w : List ℕ) (S : Split) (P : Program) (H : HoldsSplit w S) (R : InRange P S) (n : ℕ) (located : n ≡ S.header.locations) where
  types_left : (t k : ℕ) → t + k ≡ length S.types → locks_outcome w n t k ≡ all_take_enough S (t + 2) (drop t S.types)
  unfolding locks_outcome lock_outcome all_take_enough both type_at
  types_left t zero all = rw (drop_of_length-le S.types {i = t} (omega (arith, all)))
  types_left t (suc k) all =
      let asked = require (takes_enough S (get_or S.types t Int)) (LockTakesLess (t + 2)) in
      let next : t + 1 + 2 ≡ t + 2 + 1 = omega arith in
      ap (λ o. both o (locks_outcome w n (t + 1) k)) (line_shown t (omega (arith, all)))
      ∙ ap (both asked) (types_left (t + 1) k (omega (arith, all)) ∙ ap (λ l. all_take_enough S l (drop (t + 1) S.types)) next)
      ∙ ap (λ l. both asked (all_take_enough S (t + 2 + 1) (drop l S.types))) (add-one t)
      ∙ sym (ap (all_take_enough S (t + 2)) (drop-cons S.types t Int (omega (arith, all))))
    where
      line_shown : (t : ℕ) → t < length S.types → lock_outcome w n (record { 0 = t }) ≡ require (takes_enough S (get_or S.types t Int)) (LockTakesLess (t + 2))
      line_shown t h = ap (λ b. require b (LockTakesLess (t + 2))) (takes_enough_shown w S P H R n located (record { 0 = t }) h)

  pub locks_shown : (types : ℕ) → types ≡ S.header.types → locks_outcome w n 0 types ≡ locks_take_enough S
  unfolding locks_take_enough
  locks_shown types counted = types_left 0 types (omega (arith, counted, R.types_counted))
