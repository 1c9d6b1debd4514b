-- How far a number can go: a step moves less than 2^34, so a number with room for a flow's steps and n more leaves the flow with room
-- for n.
use mathlib.Core.List.{List}
use Prim.Native.Nat.{ℕ, ◌+◌, ◌*◌, ◌≤◌, ◌<◌}
use native.Mathlib.Omega.{arith}
use lib.ListN.{get_or}
use Rattle.fill_theory.specs.declared.Effect.{Effect}
use Rattle.fill_theory.specs.Flow.{taking, Flow, steps, unary_flow, binary_flow}
use Rattle.fill_theory.specs.Pass.{forth, back, weight, ceiling, attainable}
use Rattle.fill_transfer.specs.declared.Column.{Column}
use Rattle.fill_theory.specs.declared.Transfer.TheVariants.{Unary, Binary}
use Rattle.fill_theory.specs.declared.UnaryTransfer.{UnaryTransfer}
use Rattle.fill_theory.specs.declared.UnaryTransfer.TheVariants.{After, Loop, Call}
use Rattle.fill_theory.specs.declared.BinaryTransfer.{BinaryTransfer}
use Rattle.fill_theory.specs.declared.BinaryTransfer.TheVariants.{InTurn, Branch, Fork}
use Rattle.fill_transfer.specs.Shows.{Shows, leaf_shown, unary_shown, binary_shown}
use Rattle.fill_transfer.proofs.Light.{moved, Light, transfer_light}
use Rattle.fill_transfer.specs.Bounds.{top, part_upper_bound, last_upper_bound, first_upper_bound, unary_ceiling, binary_ceiling, unary_attainable, binary_attainable}
use Rattle.fill_transfer.specs.AfterSteps.{second_pre}
use Rattle.fill_pass.specs.Bounds.{Room}
use Rattle.fill_theory.proofs.Placed.{unary_steps, binary_steps}
use Rattle.fill_pass.proofs.Parts.{own_upper_bound_of, first_upper_bound_of, ceiling_unary, ceiling_binary, attainable_unary, attainable_binary}

-- ------------------------------------------------------------------ by the transfer function of a step

pub forth_room : (E : Effect) (n x : ℕ) → E.takes + E.gives < 17179869184 → Room (n + 1) x → Room n (forth E x)
unfolding forth
forth_room E n x l r = omega (arith, l)

pub back_room : (E : Effect) (n c : ℕ) → E.takes + E.gives < 17179869184 → Room (n + 1) c → Room n (back E c)
unfolding back
back_room E n c l r = omega (arith, l)

pub top_room : (n : ℕ) → n ≤ 256 → Room n top
unfolding top
top_room n l = omega arith

pub part_upper_bound_room : (transfer : UnaryTransfer) (n c : ℕ) → Light (Unary transfer) → n ≤ 256 → Room (n + 1) c → Room n (part_upper_bound transfer c)
unfolding part_upper_bound moved
part_upper_bound_room (After E) n c l few r = back_room E n c l r
part_upper_bound_room Loop n c l few r = top_room n few
part_upper_bound_room (Call wanted left) n c l few r = omega (arith, l)

pub last_upper_bound_room : (transfer : BinaryTransfer) (n c : ℕ) → Light (Binary transfer) → n ≤ 256 → Room (n + 1) c → Room n (last_upper_bound transfer c)
unfolding last_upper_bound moved
last_upper_bound_room (InTurn E) n c l few r = back_room E n c l r
last_upper_bound_room Branch n c l few r = top_room n few
last_upper_bound_room (Fork start due) n c l few r = top_room n few

pub first_upper_bound_room : (transfer : BinaryTransfer) (n c last : ℕ) → Light (Binary transfer) → n ≤ 256 → Room (n + 1) c → Room n last → Room n (first_upper_bound transfer c last)
unfolding first_upper_bound moved taking
first_upper_bound_room (InTurn E) n c last l few r s = s
first_upper_bound_room Branch n c last l few r s = top_room n few
first_upper_bound_room (Fork start due) n c last l few r s = back_room (taking start) n c (omega arith) r

unary_ceiling_room : (transfer : UnaryTransfer) (n first : ℕ) → n ≤ 256 → Room n first → Room n (unary_ceiling transfer first)
unfolding unary_ceiling
unary_ceiling_room (After E) n first few r = r
unary_ceiling_room Loop n first few r = top_room n few
unary_ceiling_room (Call wanted left) n first few r = r

binary_ceiling_room : (transfer : BinaryTransfer) (n first last : ℕ) → Room n first → Room n (binary_ceiling transfer first last)
unfolding binary_ceiling
binary_ceiling_room (InTurn E) n first last r = r
binary_ceiling_room Branch n first last r = omega arith
binary_ceiling_room (Fork start due) n first last r = r

unary_attainable_room : (transfer : UnaryTransfer) (n x cap first : ℕ) → Light (Unary transfer) → n ≤ 256 → Room n x → Room (n + 1) first → Room n (unary_attainable transfer x cap first)
unfolding unary_attainable moved
unary_attainable_room (After E) n x cap first l few r s = forth_room E n first l s
unary_attainable_room Loop n x cap first l few r s = omega arith
unary_attainable_room (Call wanted left) n x cap first l few r s = omega (arith, l)

binary_attainable_room : (transfer : BinaryTransfer) (n cap first last : ℕ) → Light (Binary transfer) → Room (n + 1) first → Room (n + 1) last
    → Room n (binary_attainable transfer cap first last)
unfolding binary_attainable moved taking
binary_attainable_room (InTurn E) n cap first last l r s = forth_room E n last l s
binary_attainable_room Branch n cap first last l r s = omega arith
binary_attainable_room (Fork start due) n cap first last l r s = forth_room (taking start) n first (omega arith) r

pub second_pre_room : (transfer : BinaryTransfer) (n x first : ℕ) → Light (Binary transfer) → n ≤ 256 → Room n x → Room n first → Room n (second_pre transfer x first)
unfolding second_pre moved
second_pre_room (InTurn E) n x first l few r f = f
second_pre_room Branch n x first l few r f = r
second_pre_room (Fork start due) n x first l few r f = omega (arith, l)

unary_weight : (transfer : UnaryTransfer) (f : Flow) → weight (unary_flow transfer f) ≤ weight f + moved (Unary transfer)
unfolding weight unary_flow moved
unary_weight (After E) f = omega arith
unary_weight Loop f = omega arith
unary_weight (Call wanted left) f = omega arith

binary_weight : (transfer : BinaryTransfer) (f g : Flow) → weight (binary_flow transfer f g) ≤ weight f + weight g + moved (Binary transfer)
unfolding weight binary_flow moved
binary_weight (InTurn E) f g = omega arith
binary_weight Branch f g = omega arith
binary_weight (Fork start due) f g = omega arith

-- ------------------------------------------------------------------ through a flow

module _ (w : List ℕ) (column : Column) (fits : (i : ℕ) → get_or w i 0 < 4294967296) where
  pub ceiling_room : {f : Flow} (k c n : ℕ) → Shows w column k f → steps f + n ≤ 256 → Room (steps f + n) c → Room n (ceiling top c f)
  unfolding ceiling steps moved
  ceiling_room k c n (leaf_shown {E = E} shown) few r = back_room E n c (transfer_light w column fits k shown) (omega arith)
  ceiling_room k c n (unary_shown {f = f} transfer shown s) few r =
      let counted = unary_steps transfer f in
      let cap = part_upper_bound_room transfer (steps f + n) c (transfer_light w column fits k shown) (omega arith) (omega arith) in
      rw (ceiling_unary c transfer f) (unary_ceiling_room transfer n _ (omega arith) (ceiling_room (k + 1) (part_upper_bound transfer c) n s (omega arith) cap))
  ceiling_room k c n (binary_shown {f = f} {g = g} transfer shown s ends t) few r =
      let counted = binary_steps transfer f g in
      let light = transfer_light w column fits k shown in
      let cap = last_upper_bound_room transfer (steps g + (steps f + n)) c light (omega arith) (omega arith) in
      let last = ceiling_room (k + 1 + steps f) (last_upper_bound transfer c) (steps f + n) t (omega arith) cap in
      let first = first_upper_bound_room transfer (steps f + n) c (ceiling top (last_upper_bound transfer c) g) light (omega arith) (omega arith) last in
      rw (ceiling_binary c transfer f g) (binary_ceiling_room transfer n _ (ceiling top (last_upper_bound transfer c) g) (ceiling_room (k + 1) (first_upper_bound_of transfer c g) n s (omega arith) first))

  pub attainable_room : {f : Flow} (k x c n : ℕ) → Shows w column k f → steps f + n ≤ 256 → Room (steps f + n) x → Room n (attainable top x c f)
  unfolding attainable steps moved
  attainable_room k x c n (leaf_shown {E = E} shown) few r = forth_room E n x (transfer_light w column fits k shown) (omega arith)
  attainable_room k x c n (unary_shown {f = f} transfer shown s) few r =
      let counted = unary_steps transfer f in
      let first = attainable_room (k + 1) x (part_upper_bound transfer c) (n + 1) s (omega arith) (omega arith) in
      rw (attainable_unary c x transfer f) (unary_attainable_room transfer n x (own_upper_bound_of transfer c f) _ (transfer_light w column fits k shown) (omega arith) (omega arith) first)
  attainable_room k x c n (binary_shown {f = f} {g = g} transfer shown s ends t) few r =
      let counted = binary_steps transfer f g in
      let light = transfer_light w column fits k shown in
      let a = attainable top x (first_upper_bound_of transfer c g) f in
      let first : Room (steps g + (n + 1)) a = attainable_room (k + 1) x (first_upper_bound_of transfer c g) (steps g + (n + 1)) s (omega arith) (omega arith) in
      let next = second_pre_room transfer (steps g + (n + 1)) x a light (omega arith) (omega arith) first in
      let last = attainable_room (k + 1 + steps f) (second_pre transfer x a) (last_upper_bound transfer c) (n + 1) t (omega arith) next in
      rw (attainable_binary c x transfer f g) (binary_attainable_room transfer n c a _ light (omega arith) last)

  -- no flow that is shown has more weight than its steps can move
  pub flow_light : {f : Flow} (k : ℕ) → Shows w column k f → weight f ≤ 17179869184 * steps f
  unfolding weight steps moved
  flow_light k (leaf_shown {E = E} shown) = omega (arith, transfer_light w column fits k shown)
  flow_light k (unary_shown {f = f} transfer shown s) = omega (arith, unary_weight transfer f, unary_steps transfer f, transfer_light w column fits k shown, flow_light (k + 1) s)
  flow_light k (binary_shown {f = f} {g = g} transfer shown s ends t) =
      omega (arith, binary_weight transfer f g, binary_steps transfer f g, transfer_light w column fits k shown, flow_light (k + 1) s, flow_light (k + 1 + steps f) t)

-- 2^62 is more than 256 steps can move
pub light_enough : (pre n s : ℕ) → pre < 4294967296 → n ≤ 17179869184 * s → s ≤ 256 → pre + n ≤ top
unfolding top
light_enough pre n s p l few = omega arith
