-- The bounds over what the work space shows: what a step reaches, and the most that a step and its parts may leave.
use mathlib.Core.Path.{◌≡◌, refl, ap, sym, ◌∙◌}
use mathlib.Core.Logic.{inr}
use mathlib.Core.List.{List, []}
use Prim.Native.Nat.{ℕ, ◌+◌, ◌<◌, min}
use native.Mathlib.Omega.{arith}
use lib.ListN.{length, get_or, set}
use Rattle.workspace.specs.Region.{Region, ChangedWithin}
use Rattle.workspace.proofs.Region.{region_empty, region_append, region_front, region_kept, region_moved, changed_store, changed_then, changed_wider}
use Rattle.fill_theory.specs.declared.Effect.{Effect}
use Rattle.fill_theory.specs.Flow.{Flow, steps}
use Rattle.fill_theory.specs.Pass.{forth, back, ceiling, attainable}
use Rattle.fill_theory.proofs.Pass.{steps_positive}
use Rattle.fill_transfer.specs.declared.Column.{Column}
use Rattle.fill_theory.specs.declared.Transfer.TheVariants.{Leaf, Unary, Binary}
use Rattle.fill_theory.specs.declared.UnaryTransfer.{UnaryTransfer}
use Rattle.fill_theory.specs.declared.UnaryTransfer.TheVariants.{After, Loop, Call}
use Rattle.fill_theory.specs.declared.BinaryTransfer.{BinaryTransfer}
use Rattle.fill_transfer.specs.Transfers.{transfer_in}
use Rattle.fill_transfer.specs.Shows.{end_in, Shows}
use Rattle.fill_transfer.proofs.Light.{transfer_light}
use Rattle.fill_transfer.specs.Bounds.{top, part_upper_bound, last_upper_bound, first_upper_bound, unary_upper_bound, unary_ceiling, binary_ceiling, unary_attainable, binary_attainable}
use Rattle.fill_transfer.specs.AfterSteps.{second_pre}
use Rattle.fill_pass.specs.Bounds.{upper_bounds_of, Room, Reached, PartBounded, OwnUpperBound, Cappable, Capped}
use Rattle.fill_theory.proofs.Placed.{unary_steps, binary_steps}
use Rattle.fill_pass.proofs.Parts.{leaf_parts, unary_parts, binary_parts, own_upper_bound_of, first_upper_bound_of, upper_bounds_unary, upper_bounds_binary, ceiling_unary, ceiling_binary, attainable_unary, attainable_binary, upper_bounds_length, unary_upper_bound_lem, part_upper_bounds, binary_upper_bound, first_upper_bounds, last_upper_bounds}
use Rattle.fill_pass.proofs.Room.{part_upper_bound_room, last_upper_bound_room, first_upper_bound_room, top_room, ceiling_room}

-- ------------------------------------------------------------------ what a step reaches

module _ {w m : List ℕ} {column : Column} {k x : ℕ} where
  pub leaf_reached : {E : Effect} → transfer_in w column k ≡ Leaf E → {r : ℕ} → r ≡ forth E x → Reached w m column k x r
  unfolding attainable
  leaf_reached {E} seen e = record { answers = λ f c S C. e ∙ ap (attainable top x c) (sym (leaf_parts w column k E f S seen)) }

  module _ {transfer : UnaryTransfer} (seen : transfer_in w column k ≡ Unary transfer) {r : ℕ} where
    unary_reached : ((f : Flow) (c : ℕ) → Shows w column (k + 1) f → Region m (k + 1) (upper_bounds_of c f) → r ≡ unary_attainable transfer x (get_or m k 0) (attainable top x c f))
        → Reached w m column k x r
    unary_reached by = record {
      answers = λ f c S C.
          let U = unary_parts w column k transfer f S seen in
          let own = ap (λ (cap : ℕ). unary_attainable transfer x cap (attainable top x (part_upper_bound transfer c) U.part)) (unary_upper_bound_lem c transfer U.part U.is C) in
          by U.part (part_upper_bound transfer c) U.shown (part_upper_bounds c transfer U.part U.is C) ∙ own ∙ sym (ap (attainable top x c) U.is ∙ attainable_unary c x transfer U.part);
    }

    -- after its part
    pub after_reached : {E : Effect} {first : ℕ} → transfer ≡ After E → Reached w m column (k + 1) x first → r ≡ forth E first → Reached w m column k x r
    unfolding unary_attainable
    after_reached {E} is A e = unary_reached (λ f c S C. rw is (e ∙ ap (forth E) (A.answers f c S C)))

    -- the part of a loop is not looked at: what it can leave is in the loop's cap
    pub loop_reached : transfer ≡ Loop → r ≡ min x (get_or m k 0) → Reached w m column k x r
    unfolding unary_attainable
    loop_reached is e = unary_reached (λ f c S C. rw is e)

    -- nor is that of a call
    pub call_reached : {wanted left : ℕ} → transfer ≡ Call wanted left → r ≡ left → Reached w m column k x r
    unfolding unary_attainable
    call_reached is e = unary_reached (λ f c S C. rw is e)

  pub binary_reached : {transfer : BinaryTransfer} → transfer_in w column k ≡ Binary transfer → {first second next last r : ℕ} → Reached w m column (k + 1) x first
      → second ≡ end_in w (k + 1) → next ≡ second_pre transfer x first → Reached w m column second next last
      → r ≡ binary_attainable transfer (get_or m k 0) first last → Reached w m column k x r
  binary_reached {transfer} seen {first} {second} {next} {last} {r} A at from D e = record { answers = answers }
    where
      answers : (f : Flow) (c : ℕ) → Shows w column k f → Region m k (upper_bounds_of c f) → r ≡ attainable top x c f
      answers f c S C =
          let B = binary_parts w column k transfer f S seen in
          let a : first ≡ attainable top x (first_upper_bound_of transfer c B.second) B.first = A.answers B.first _ B.shown (first_upper_bounds c transfer B.first B.second B.is C) in
          let place : second ≡ k + 1 + steps B.first = at ∙ B.ends in
          let D' : Reached w m column (k + 1 + steps B.first) next last = rw place at D in
          let b : last ≡ attainable top next (last_upper_bound transfer c) B.second = D'.answers B.second _ B.behind (last_upper_bounds c transfer B.first B.second B.is C) in
          let start : next ≡ second_pre transfer x (attainable top x (first_upper_bound_of transfer c B.second) B.first) = from ∙ ap (second_pre transfer x) a in
          let capped : get_or m k 0 ≡ c = binary_upper_bound c transfer B.first B.second B.is C in
          e ∙ rw (capped, a, b, start) refl ∙ sym (ap (attainable top x c) B.is ∙ attainable_binary c x transfer B.first B.second)

-- ------------------------------------------------------------------ what the calls of the caps are asked for

module _ {w : List ℕ} {column : Column} {k c : ℕ} (R : Cappable w column k c) where
  pub cappable_inside : k < 256
  cappable_inside = omega (arith, R.inside, steps_positive R.flow)

  pub part_cappable : {transfer : UnaryTransfer} → transfer_in w column k ≡ Unary transfer → {part : ℕ} → part ≡ part_upper_bound transfer c → Cappable w column (k + 1) part
  part_cappable {transfer} seen e =
      let U = unary_parts w column k transfer R.flow R.shown seen in
      let counted : steps R.flow ≡ steps U.part + 1 = ap steps U.is ∙ unary_steps transfer U.part in
      record {
        flow = U.part;
        shown = U.shown;
        inside = omega (arith, R.inside);
        fits = R.fits;
        room = omega (arith, part_upper_bound_room transfer (steps U.part) c (transfer_light w column R.fits k seen) (omega (arith, R.inside)) (omega (arith, R.room)));
      }

  -- once the caps of its part stand
  pub part_looked_at : {transfer : UnaryTransfer} → transfer_in w column k ≡ Unary transfer → {part first : ℕ} {m m₁ : List ℕ} → part ≡ part_upper_bound transfer c
      → Capped w column (k + 1) part m m₁ first → PartBounded w m₁ column k
  part_looked_at {transfer} seen {part} e A =
      let U = unary_parts w column k transfer R.flow R.shown seen in
      let counted : steps R.flow ≡ steps U.part + 1 = ap steps U.is ∙ unary_steps transfer U.part in
      record {
        inside = cappable_inside;
        part = record {
          flow = U.part;
          cap = part;
          shown = U.shown;
          capped = (A.answers U.part U.shown).1;
          inside = omega (arith, R.inside);
          fits = R.fits;
          room = top_room (steps U.part) (omega (arith, R.inside));
        };
      }

  module _ {transfer : BinaryTransfer} (seen : transfer_in w column k ≡ Binary transfer) {second cap : ℕ} (at : second ≡ end_in w (k + 1)) (e : cap ≡ last_upper_bound transfer c) where
    pub last_cappable : (k < second) × Cappable w column second cap
    last_cappable =
        let B = binary_parts w column k transfer R.flow R.shown seen in
        let counted : steps R.flow ≡ steps B.first + steps B.second + 1 = ap steps B.is ∙ binary_steps transfer B.first B.second in
        let place : second ≡ k + 1 + steps B.first = at ∙ B.ends in
        let room = last_upper_bound_room transfer (steps B.second) c (transfer_light w column R.fits k seen) (omega (arith, R.inside)) (omega (arith, R.room)) in (
          omega arith,
          record {
            flow = B.second;
            shown = rw place B.behind;
            inside = omega (arith, R.inside);
            fits = R.fits;
            room = omega (arith, room);
          },
        )

    pub first_cappable : {last first : ℕ} {m m₁ : List ℕ} → Capped w column second cap m m₁ last → first ≡ first_upper_bound transfer c last
        → Cappable w column (k + 1) first
    first_cappable {last} {first} {m} {m₁} A from =
        let B = binary_parts w column k transfer R.flow R.shown seen in
        let f = B.first in
        let g = B.second in
        let counted : steps R.flow ≡ steps f + steps g + 1 = ap steps B.is ∙ binary_steps transfer f g in
        let place : second ≡ k + 1 + steps f = at ∙ B.ends in
        let light = transfer_light w column R.fits k seen in
        let A' : Capped w column (k + 1 + steps f) cap m m₁ last = rw place at A in
        let ended : last ≡ ceiling top (last_upper_bound transfer c) g = (A'.answers g B.behind).0 ∙ ap (λ (c : ℕ). ceiling top c g) e in
        let upper_bound_fits = last_upper_bound_room transfer (steps g + steps f) c light (omega (arith, R.inside)) (omega (arith, R.room)) in
        let last_fits : Room (steps f) (ceiling top (last_upper_bound transfer c) g) =
        ceiling_room w column R.fits (k + 1 + steps f) (last_upper_bound transfer c) (steps f) B.behind (omega (arith, R.inside)) upper_bound_fits in
        let room = first_upper_bound_room transfer (steps f) c last light (omega (arith, R.inside)) (omega (arith, R.room)) (omega (arith, ended)) in
        record {
          flow = f;
          shown = B.shown;
          inside = omega (arith, R.inside);
          fits = R.fits;
          room = omega (arith, room);
        }

-- ------------------------------------------------------------------ the most that a step and its parts may leave

own_changed : {m : List ℕ} (k : ℕ) (m₁ : List ℕ) (v : ℕ) (f : Flow) → ChangedWithin k (k + steps f) m m₁ → ChangedWithin k (k + steps f) m (set m₁ k v)
own_changed k m₁ v f h = changed_then k (k + steps f) h (changed_store k (k + steps f) m₁ k v (omega arith) (omega (arith, steps_positive f)))

module _ {w : List ℕ} {column : Column} {k c : ℕ} {m : List ℕ} where
  pub leaf_capped : {E : Effect} → transfer_in w column k ≡ Leaf E → {r : ℕ} → k < length m → r ≡ back E c → Capped w column k c m (set m k c) r
  unfolding ceiling upper_bounds_of
  leaf_capped {E} seen l e = record {
    answers = λ f S.
        let is = leaf_parts w column k E f S seen in
        (e ∙ ap (ceiling top c) (sym is), rw is (region_front m [] k c l (region_empty m (k + 1) (omega arith))));
    changed = λ f S. changed_store k (k + steps f) m k c (omega arith) (omega (arith, steps_positive f));
  }

  pub unary_capped : {transfer : UnaryTransfer} → transfer_in w column k ≡ Unary transfer → {part first own r : ℕ} {m₁ : List ℕ} → part ≡ part_upper_bound transfer c
      → Capped w column (k + 1) part m m₁ first → OwnUpperBound w m₁ column k transfer c first own → k < length m₁ → r ≡ unary_ceiling transfer first
      → Capped w column k c m (set m₁ k own) r
  unary_capped {transfer} seen {part} {first} {own} {r} {m₁} at A O l e = record { answers = answers; changed = changed }
    where
      B : Capped w column (k + 1) (part_upper_bound transfer c) m m₁ first
      B = rw at at A

      answers : (f : Flow) → Shows w column k f → (r ≡ ceiling top c f) × Region (set m₁ k own) k (upper_bounds_of c f)
      answers f S =
          let U = unary_parts w column k transfer f S seen in
          let (begins, stand) = B.answers U.part U.shown in
          let capped : own ≡ own_upper_bound_of transfer c U.part =
          O.answers U.part U.shown stand ∙ ap (λ (a : ℕ). unary_upper_bound transfer c a (attainable top top (part_upper_bound transfer c) U.part)) begins in (
            e ∙ ap (unary_ceiling transfer) begins ∙ sym (ap (ceiling top c) U.is ∙ ceiling_unary c transfer U.part),
            rw (U.is, upper_bounds_unary c transfer U.part, ← capped) (region_front m₁ (upper_bounds_of (part_upper_bound transfer c) U.part) k own l stand),
          )

      changed : (f : Flow) → Shows w column k f → ChangedWithin k (k + steps f) m (set m₁ k own)
      changed f S =
          let U = unary_parts w column k transfer f S seen in
          let counted : steps f ≡ steps U.part + 1 = ap steps U.is ∙ unary_steps transfer U.part in
          own_changed k m₁ own f (changed_wider k (k + steps f) (omega arith) (omega arith) (B.changed U.part U.shown))

  pub binary_capped : {transfer : BinaryTransfer} → transfer_in w column k ≡ Binary transfer → {second cap last part first r : ℕ} {m₁ m₂ : List ℕ} → second ≡ end_in w (k + 1)
      → cap ≡ last_upper_bound transfer c → Capped w column second cap m m₁ last → part ≡ first_upper_bound transfer c last → Capped w column (k + 1) part m₁ m₂ first
      → k < length m₂ → r ≡ binary_ceiling transfer first last → Capped w column k c m (set m₂ k c) r
  binary_capped {transfer} seen {second} {cap} {last} {part} {first} {r} {m₁} {m₂} at from A by D l e = record { answers = answers; changed = changed }
    where
      answers : (f : Flow) → Shows w column k f → (r ≡ ceiling top c f) × Region (set m₂ k c) k (upper_bounds_of c f)
      answers f S =
          let B = binary_parts w column k transfer f S seen in
          let f₁ = B.first in
          let f₂ = B.second in
          let place : second ≡ k + 1 + steps f₁ = at ∙ B.ends in
          let A' : Capped w column (k + 1 + steps f₁) (last_upper_bound transfer c) m m₁ last = rw (place, from) at A in
          let (last_begins, last_stand) = A'.answers f₂ B.behind in
          let D' : Capped w column (k + 1) (first_upper_bound_of transfer c f₂) m₁ m₂ first = rw (by, last_begins) at D in
          let (first_begins, first_stand) = D'.answers f₁ B.shown in
          let long = upper_bounds_length (first_upper_bound_of transfer c f₂) f₁ in
          let behind : Region m₂ (k + 1 + length (upper_bounds_of (first_upper_bound_of transfer c f₂) f₁)) (upper_bounds_of (last_upper_bound transfer c) f₂) =
          region_moved _ _ (omega arith) (region_kept (D'.changed f₁ B.shown) (inr (omega arith)) last_stand) in (
            e ∙ rw (first_begins, last_begins) refl ∙ sym (ap (ceiling top c) B.is ∙ ceiling_binary c transfer f₁ f₂),
            rw (B.is, upper_bounds_binary c transfer f₁ f₂) (region_front m₂ _ k c l (region_append _ _ first_stand behind)),
          )

      changed : (f : Flow) → Shows w column k f → ChangedWithin k (k + steps f) m (set m₂ k c)
      changed f S =
          let B = binary_parts w column k transfer f S seen in
          let counted : steps f ≡ steps B.first + steps B.second + 1 = ap steps B.is ∙ binary_steps transfer B.first B.second in
          let place : second ≡ k + 1 + steps B.first = at ∙ B.ends in
          let A' : Capped w column (k + 1 + steps B.first) cap m m₁ last = rw place at A in
          own_changed k m₂ c f (changed_then k (k + steps f)
          (changed_wider k (k + steps f) (omega arith) (omega arith) (A'.changed B.second B.behind))
          (changed_wider k (k + steps f) (omega arith) (omega arith) (D.changed B.first B.shown)))
