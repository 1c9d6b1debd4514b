-- What the calls of the pass and of the bounds are asked for comes from the flow that is known to be shown.
use Rattle.std.proofs.Common.{Some}
use mathlib.Core.Path.{◌≡◌, ap, ◌∙◌}
use mathlib.Core.List.{List}
use Prim.Native.Nat.{ℕ, ◌+◌, ◌<◌, ◌≤◌}
use native.Mathlib.Omega.{arith}
use Rattle.fill_theory.specs.Flow.{steps}
use Rattle.fill_theory.specs.Pass.{attainable, pass}
use Rattle.fill_theory.proofs.Pass.{steps_positive, pass_own}
use Rattle.fill_transfer.specs.declared.Column.{Column}
use Rattle.fill_theory.specs.declared.Transfer.TheVariants.{Unary, Binary}
use Rattle.fill_theory.specs.declared.UnaryTransfer.{UnaryTransfer}
use Rattle.fill_theory.specs.declared.UnaryTransfer.TheVariants.{After, Loop, Call}
use Rattle.fill_theory.specs.declared.BinaryTransfer.{BinaryTransfer}
use Rattle.fill_transfer.specs.Transfers.{transfer_in}
use Rattle.fill_transfer.specs.Shows.{end_in}
use Rattle.fill_transfer.proofs.Light.{transfer_light}
use Rattle.fill_transfer.specs.Bounds.{top, part_upper_bound, last_upper_bound}
use Rattle.fill_transfer.specs.AfterSteps.{part_pre, second_pre}
use Rattle.fill_pass.specs.Bounds.{Room, Bounded, Reached}
use Rattle.fill_pass.specs.Passed.{Passed}
use Rattle.fill_pass.proofs.Answers.{found_some}
use Rattle.fill_theory.proofs.Placed.{unary_steps, binary_steps}
use Rattle.fill_pass.proofs.Parts.{unary_parts, binary_parts, first_upper_bound_of, part_upper_bounds, first_upper_bounds, last_upper_bounds}
use Rattle.fill_pass.proofs.Room.{second_pre_room, attainable_room}

-- ------------------------------------------------------------------ a number that is bounded

module _ {w m : List ℕ} {column : Column} {k x : ℕ} (B : Bounded w m column k x) where
  pub bounded_inside : k < 256
  bounded_inside = omega (arith, B.inside, steps_positive B.flow)

  pub reached_small : {r : ℕ} → Reached w m column k x r → r < 9223372036854775808
  reached_small A =
      let room : Room 0 (attainable top x B.cap B.flow) = attainable_room w column B.fits k x B.cap 0 B.shown (omega (arith, B.inside)) (omega (arith, B.room)) in
      omega (arith, room, A.answers B.flow B.cap B.shown B.capped)

  part_bounded : (transfer : UnaryTransfer) → transfer_in w column k ≡ Unary transfer → (y : ℕ) → y ≤ x → Bounded w m column (k + 1) y
  part_bounded transfer seen y l =
      let U = unary_parts w column k transfer B.flow B.shown seen in
      let counted : steps B.flow ≡ steps U.part + 1 = ap steps U.is ∙ unary_steps transfer U.part in
      record {
        flow = U.part;
        cap = part_upper_bound transfer B.cap;
        shown = U.shown;
        capped = part_upper_bounds B.cap transfer U.part U.is B.capped;
        inside = omega (arith, B.inside);
        fits = B.fits;
        room = omega (arith, B.room);
      }

  pub whole_bounded : {transfer : UnaryTransfer} → transfer_in w column k ≡ Unary transfer → Bounded w m column (k + 1) x
  whole_bounded {transfer} seen = part_bounded transfer seen x (omega arith)

  module _ {transfer : BinaryTransfer} (seen : transfer_in w column k ≡ Binary transfer) where
    pub first_bounded : Bounded w m column (k + 1) x
    first_bounded =
        let P = binary_parts w column k transfer B.flow B.shown seen in
        let counted : steps B.flow ≡ steps P.first + steps P.second + 1 = ap steps P.is ∙ binary_steps transfer P.first P.second in
        record {
          flow = P.first;
          cap = first_upper_bound_of transfer B.cap P.second;
          shown = P.shown;
          capped = first_upper_bounds B.cap transfer P.first P.second P.is B.capped;
          inside = omega (arith, B.inside);
          fits = B.fits;
          room = omega (arith, B.room);
        }

    -- the second part stands behind its step
    pub second_bounded : {first second next : ℕ} → Reached w m column (k + 1) x first → second ≡ end_in w (k + 1) → next ≡ second_pre transfer x first
        → (k < second) × Bounded w m column second next
    second_bounded {first} {second} {next} A at from =
        let P = binary_parts w column k transfer B.flow B.shown seen in
        let f = P.first in
        let g = P.second in
        let counted : steps B.flow ≡ steps f + steps g + 1 = ap steps P.is ∙ binary_steps transfer f g in
        let place : second ≡ k + 1 + steps f = at ∙ P.ends in
        let reached : first ≡ attainable top x (first_upper_bound_of transfer B.cap g) f = A.answers f _ P.shown (first_upper_bounds B.cap transfer P.first P.second P.is B.capped) in
        let room : Room (steps g) (attainable top x (first_upper_bound_of transfer B.cap g) f) =
        attainable_room w column B.fits (k + 1) x _ (steps g) P.shown (omega (arith, B.inside)) (omega (arith, B.room)) in
        let start = second_pre_room transfer (steps g) x first (transfer_light w column B.fits k seen) (omega (arith, B.inside)) (omega (arith, B.room)) (omega arith) in (
          omega arith,
          record {
            flow = g;
            cap = last_upper_bound transfer B.cap;
            shown = rw place P.behind;
            capped = rw place (last_upper_bounds B.cap transfer P.first P.second P.is B.capped);
            inside = omega (arith, B.inside);
            fits = B.fits;
            room = omega (arith, start);
          },
        )

-- ------------------------------------------------------------------ the pass

-- a post that is found is all that is in reach
pub passed_reached : {w m : List ℕ} {column : Column} {k pre x : ℕ} {q q' : List ℕ} → Passed w m column k pre q q' (Some x)
    → Reached w m column k pre x
passed_reached {k = k} {pre = pre} {q' = q'} A = record {
  answers = λ f c S C.
      let (ps, found, own, _) = found_some (pass top pre c f) k q' (A.answers f c S C) in
      own ∙ pass_own top pre c f found;
}

part_pre_below : (transfer : UnaryTransfer) (pre cap : ℕ) → part_pre transfer pre cap ≤ pre
unfolding part_pre
part_pre_below (After E) pre cap = omega arith
part_pre_below Loop pre cap = omega arith
part_pre_below (Call wanted left) pre cap = omega arith

module _ {w m : List ℕ} {column : Column} {k pre : ℕ} (B : Bounded w m column k pre) where
  pub unary_ready : {transfer : UnaryTransfer} → transfer_in w column k ≡ Unary transfer → {before : ℕ} (cap : ℕ) → before ≡ part_pre transfer pre cap
      → Bounded w m column (k + 1) before
  unary_ready {transfer} seen {before} cap from = part_bounded B transfer seen before (omega (arith, part_pre_below transfer pre cap))

  -- what is found is below 2^63
  pub passed_small : {x : ℕ} {q q' : List ℕ} → Passed w m column k pre q q' (Some x) → x < 9223372036854775808
  passed_small A = reached_small B (passed_reached A)
