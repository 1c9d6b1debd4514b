-- A step with parts: the parts that the work space shows of it, and the bounds and the pass of its flow by its transfer function.
use Rattle.std.proofs.Common.{Option, None, Some}
use mathlib.Core.Path.{◌≡◌, refl, ap, ap₂, sym, ◌∙◌, subst}
use mathlib.Core.Bool.{Bool, true, false}
use mathlib.Core.List.{List, ◌∷◌, ◌++◌}
use Prim.Native.Nat.{ℕ, suc, ◌+◌, ◌<◌}
use native.Mathlib.Omega.{arith}
use lib.Dec.{leb, eqb}
use lib.ListN.{length, get_or, length-append}
use Rattle.workspace.specs.Region.{Region}
use Rattle.workspace.proofs.Region.{region_moved, region_first, region_behind, region_left, region_right}
use Rattle.fill_theory.specs.declared.Effect.{Effect}
use Rattle.fill_theory.specs.Found.{◌>>=◌, require}
use Rattle.fill_theory.specs.Flow.{taking, Flow, alone, after, in_turn, branch, loop, fork, call, steps, unary_flow, binary_flow}
use Rattle.fill_theory.specs.Pass.{back, apply, own_post, ceiling, attainable, pass}
use Rattle.fill_theory.proofs.Pass.{steps_positive}
use Rattle.fill_transfer.specs.declared.Column.{Column}
use Rattle.fill_theory.specs.declared.Transfer.TheVariants.{Leaf, Unary, Binary}
use Rattle.fill_theory.specs.declared.UnaryTransfer.{UnaryTransfer}
use Rattle.fill_theory.specs.declared.UnaryTransfer.TheVariants.{After, Loop, Call}
use Rattle.fill_theory.specs.declared.BinaryTransfer.{BinaryTransfer}
use Rattle.fill_theory.specs.declared.BinaryTransfer.TheVariants.{InTurn, Branch, Fork}
use Rattle.fill_transfer.specs.Transfers.{transfer_in}
use Rattle.fill_transfer.specs.Shows.{end_in, Shows, leaf_shown, unary_shown, binary_shown}
use Rattle.fill_transfer.specs.Bounds.{top, part_upper_bound, last_upper_bound, first_upper_bound, unary_upper_bound, unary_ceiling, binary_ceiling, unary_attainable, binary_attainable}
use Rattle.fill_transfer.specs.AfterSteps.{part_pre, after_unary, second_pre, after_binary}
use Rattle.fill_pass.specs.Bounds.{upper_bounds_of}

-- ------------------------------------------------------------------ the parts that are shown

pub record UnaryParts (w : List ℕ) (column : Column) (k : ℕ) (transfer : UnaryTransfer) (f : Flow) : Type 0 where
  pub part : Flow
  pub is : f ≡ unary_flow transfer part
  pub shown : Shows w column (k + 1) part

pub record BinaryParts (w : List ℕ) (column : Column) (k : ℕ) (transfer : BinaryTransfer) (f : Flow) : Type 0 where
  pub first : Flow
  pub second : Flow
  pub is : f ≡ binary_flow transfer first second
  pub shown : Shows w column (k + 1) first
  pub ends : end_in w (k + 1) ≡ k + 1 + steps first
  pub behind : Shows w column (k + 1 + steps first) second

module _ (w : List ℕ) (column : Column) where
  pub leaf_parts : (k : ℕ) (E : Effect) (f : Flow) → Shows w column k f → transfer_in w column k ≡ Leaf E → f ≡ alone E
  leaf_parts k E f (leaf_shown {E = F} e) h = let same : F ≡ E = cc in ap alone same
  leaf_parts k E f (unary_shown transfer e s) h = let clash : ◌≡◌ {A = ℕ} 0 1 = cc in absurd (omega arith)
  leaf_parts k E f (binary_shown transfer e s ends t) h = let clash : ◌≡◌ {A = ℕ} 0 1 = cc in absurd (omega arith)

  pub unary_parts : (k : ℕ) (transfer : UnaryTransfer) (f : Flow) → Shows w column k f → transfer_in w column k ≡ Unary transfer → UnaryParts w column k transfer f
  unary_parts k transfer f (leaf_shown e) h = let clash : ◌≡◌ {A = ℕ} 0 1 = cc in absurd (omega arith)
  unary_parts k transfer f (unary_shown {f = g} shape e s) h =
      let same : shape ≡ transfer = cc in
      record { part = g; is = ap (λ transfer. unary_flow transfer g) same; shown = s }
  unary_parts k transfer f (binary_shown shape e s ends t) h = let clash : ◌≡◌ {A = ℕ} 0 1 = cc in absurd (omega arith)

  pub binary_parts : (k : ℕ) (transfer : BinaryTransfer) (f : Flow) → Shows w column k f → transfer_in w column k ≡ Binary transfer → BinaryParts w column k transfer f
  binary_parts k transfer f (leaf_shown e) h = let clash : ◌≡◌ {A = ℕ} 0 1 = cc in absurd (omega arith)
  binary_parts k transfer f (unary_shown shape e s) h = let clash : ◌≡◌ {A = ℕ} 0 1 = cc in absurd (omega arith)
  binary_parts k transfer f (binary_shown {f = g} {g = h'} shape e s ends t) h =
      let same : shape ≡ transfer = cc in
      record {
        first = g;
        second = h';
        is = ap (λ transfer. binary_flow transfer g h') same;
        shown = s;
        ends = ends;
        behind = t;
      }

-- one flow is shown
pub shows_same : {w : List ℕ} {column : Column} {k : ℕ} {f : Flow} (g : Flow) → Shows w column k f → Shows w column k g → f ≡ g
shows_same {w} {column} {k} g (leaf_shown {E = E} seen) T = sym (leaf_parts w column k E g T seen)
shows_same {w} {column} {k} g (unary_shown transfer seen s) T =
    let U = unary_parts w column k transfer g T seen in
    ap (unary_flow transfer) (shows_same U.part s U.shown) ∙ sym U.is
shows_same {w} {column} {k} g (binary_shown {f = f₁} {g = f₂} transfer seen s ends t) T =
    let B = binary_parts w column k transfer g T seen in
    let first = shows_same B.first s B.shown in
    let behind : Shows w column (k + 1 + steps f₁) B.second = rw (← first) at B.behind in
    ap₂ (binary_flow transfer) first (shows_same B.second t behind) ∙ sym B.is

-- ------------------------------------------------------------------ the bounds by the transfer function

-- the most that a step may leave, by what its part may start with and can leave
abbrev pub own_upper_bound_of : UnaryTransfer → (c : ℕ) → Flow → ℕ
own_upper_bound_of transfer c f = unary_upper_bound transfer c (ceiling top (part_upper_bound transfer c) f) (attainable top top (part_upper_bound transfer c) f)

-- the most that the first part may leave, by what the second may start with
abbrev pub first_upper_bound_of : BinaryTransfer → (c : ℕ) → Flow → ℕ
first_upper_bound_of transfer c g = first_upper_bound transfer c (ceiling top (last_upper_bound transfer c) g)

module _ (c : ℕ) where
  pub upper_bounds_unary : (transfer : UnaryTransfer) (f : Flow) → upper_bounds_of c (unary_flow transfer f) ≡ own_upper_bound_of transfer c f ∷ upper_bounds_of (part_upper_bound transfer c) f
  unfolding upper_bounds_of unary_flow part_upper_bound unary_upper_bound
  upper_bounds_unary (After E) f = refl
  upper_bounds_unary Loop f = refl
  upper_bounds_unary (Call wanted left) f = refl

  pub upper_bounds_binary : (transfer : BinaryTransfer) (f g : Flow) → upper_bounds_of c (binary_flow transfer f g) ≡ c ∷ (upper_bounds_of (first_upper_bound_of transfer c g) f ++ upper_bounds_of (last_upper_bound transfer c) g)
  unfolding upper_bounds_of binary_flow last_upper_bound first_upper_bound
  upper_bounds_binary (InTurn E) f g = refl
  upper_bounds_binary Branch f g = refl
  upper_bounds_binary (Fork start due) f g = refl

  pub ceiling_unary : (transfer : UnaryTransfer) (f : Flow) → ceiling top c (unary_flow transfer f) ≡ unary_ceiling transfer (ceiling top (part_upper_bound transfer c) f)
  unfolding ceiling unary_flow part_upper_bound unary_ceiling
  ceiling_unary (After E) f = refl
  ceiling_unary Loop f = refl
  ceiling_unary (Call wanted left) f = refl

  pub ceiling_binary : (transfer : BinaryTransfer) (f g : Flow)
      → ceiling top c (binary_flow transfer f g) ≡ binary_ceiling transfer (ceiling top (first_upper_bound_of transfer c g) f) (ceiling top (last_upper_bound transfer c) g)
  unfolding ceiling binary_flow last_upper_bound first_upper_bound binary_ceiling
  ceiling_binary (InTurn E) f g = refl
  ceiling_binary Branch f g = refl
  ceiling_binary (Fork start due) f g = refl

  pub attainable_unary : (x : ℕ) (transfer : UnaryTransfer) (f : Flow)
      → attainable top x c (unary_flow transfer f) ≡ unary_attainable transfer x (own_upper_bound_of transfer c f) (attainable top x (part_upper_bound transfer c) f)
  unfolding attainable unary_flow part_upper_bound unary_upper_bound unary_attainable
  attainable_unary x (After E) f = refl
  attainable_unary x Loop f = refl
  attainable_unary x (Call wanted left) f = refl

  pub attainable_binary : (x : ℕ) (transfer : BinaryTransfer) (f g : Flow) → let first = attainable top x (first_upper_bound_of transfer c g) f in
      attainable top x c (binary_flow transfer f g) ≡ binary_attainable transfer c first (attainable top (second_pre transfer x first) (last_upper_bound transfer c) g)
  unfolding attainable binary_flow last_upper_bound first_upper_bound binary_attainable second_pre
  attainable_binary x (InTurn E) f g = refl
  attainable_binary x Branch f g = refl
  attainable_binary x (Fork start due) f g = refl

pub upper_bounds_length : (c : ℕ) (f : Flow) → length (upper_bounds_of c f) ≡ steps f
unfolding upper_bounds_of steps
upper_bounds_length c (alone E) = refl
upper_bounds_length c (after E f) = ap suc (upper_bounds_length _ f)
upper_bounds_length c (in_turn E f g) =
    omega (arith, length-append (upper_bounds_of (ceiling top (back E c) g) f) (upper_bounds_of (back E c) g), upper_bounds_length (ceiling top (back E c) g) f, upper_bounds_length (back E c) g)
upper_bounds_length c (branch f g) = omega (arith, length-append (upper_bounds_of top f) (upper_bounds_of top g), upper_bounds_length top f, upper_bounds_length top g)
upper_bounds_length c (loop f) = ap suc (upper_bounds_length top f)
upper_bounds_length c (fork s k f g) =
    omega (arith, length-append (upper_bounds_of (back (taking s) c) f) (upper_bounds_of top g), upper_bounds_length (back (taking s) c) f, upper_bounds_length top g)
upper_bounds_length c (call b d f) = ap suc (upper_bounds_length b f)

-- a step's own cap stands at its place, those of its parts behind it
module _ {m : List ℕ} {k : ℕ} (c : ℕ) where
  pub upper_bounds_stored : (f : Flow) → Region m k (upper_bounds_of c f) → k < length m
  upper_bounds_stored f C = omega (arith, C.fits, upper_bounds_length c f, steps_positive f)

  module _ (transfer : UnaryTransfer) (part : Flow) {f : Flow} (is : f ≡ unary_flow transfer part) (C : Region m k (upper_bounds_of c f)) where
    stands : Region m k (own_upper_bound_of transfer c part ∷ upper_bounds_of (part_upper_bound transfer c) part)
    stands = rw (is, upper_bounds_unary c transfer part) at C

    pub unary_upper_bound_lem : get_or m k 0 ≡ own_upper_bound_of transfer c part
    unary_upper_bound_lem = region_first stands

    pub part_upper_bounds : Region m (k + 1) (upper_bounds_of (part_upper_bound transfer c) part)
    part_upper_bounds = region_behind stands

  module _ (transfer : BinaryTransfer) (first second : Flow) {f : Flow} (is : f ≡ binary_flow transfer first second) (C : Region m k (upper_bounds_of c f)) where
    both_stand : Region m k (c ∷ (upper_bounds_of (first_upper_bound_of transfer c second) first ++ upper_bounds_of (last_upper_bound transfer c) second))
    both_stand = rw (is, upper_bounds_binary c transfer first second) at C

    pub binary_upper_bound : get_or m k 0 ≡ c
    binary_upper_bound = region_first both_stand

    pub first_upper_bounds : Region m (k + 1) (upper_bounds_of (first_upper_bound_of transfer c second) first)
    first_upper_bounds = region_left (upper_bounds_of (first_upper_bound_of transfer c second) first) (upper_bounds_of (last_upper_bound transfer c) second) (region_behind both_stand)

    pub last_upper_bounds : Region m (k + 1 + steps first) (upper_bounds_of (last_upper_bound transfer c) second)
    last_upper_bounds =
        region_moved _ _ (ap (k + 1 +◌) (upper_bounds_length (first_upper_bound_of transfer c second) first))
        (region_right (upper_bounds_of (first_upper_bound_of transfer c second) first) (upper_bounds_of (last_upper_bound transfer c) second) (region_behind both_stand))

-- ------------------------------------------------------------------ the pass by the transfer function

pub nothing_bind : {A B : Type 0} (m : Option A) (f : A → Option B) → m ≡ None → (m >>= f) ≡ None
unfolding ◌>>=◌
nothing_bind m f e = rw e

bind_same : {A B : Type 0} (m : Option A) (f g : A → Option B) → ((a : A) → f a ≡ g a) → (m >>= f) ≡ (m >>= g)
unfolding ◌>>=◌
bind_same None f g h = refl
bind_same (Some a) f g h = h a

-- what a test lets pass comes first as if the test came first
tested : (b : Bool) (o : Option ℕ) (ps : List ℕ) → (require b >>= λ met. o >>= λ p. Some (p ∷ ps)) ≡ ((require b >>= λ met. o) >>= λ p. Some (p ∷ ps))
unfolding ◌>>=◌ require
tested true o ps = refl
tested false o ps = refl

pub pass_unary : (pre c before : ℕ) (transfer : UnaryTransfer) (f : Flow) → before ≡ part_pre transfer pre (own_upper_bound_of transfer c f)
    → pass top pre c (unary_flow transfer f)
    ≡ (pass top before (part_upper_bound transfer c) f >>= λ ps. after_unary transfer before (own_post ps) >>= λ p. Some (p ∷ ps))
unfolding pass attainable unary_flow part_upper_bound unary_upper_bound part_pre after_unary ◌>>=◌
pass_unary pre c before transfer f e =
    subst (λ (b : ℕ). pass top pre c (unary_flow transfer f) ≡ (pass top b (part_upper_bound transfer c) f >>= λ ps. after_unary transfer b (own_post ps) >>= λ p. Some (p ∷ ps))) (sym e) (by transfer)
  where
    by : (transfer : UnaryTransfer) → let b = part_pre transfer pre (own_upper_bound_of transfer c f) in
        pass top pre c (unary_flow transfer f) ≡ (pass top b (part_upper_bound transfer c) f >>= λ ps. after_unary transfer b (own_post ps) >>= λ p. Some (p ∷ ps))
    by (After E) = refl
    by Loop =
        let most = attainable top pre c (loop f) in
        bind_same (pass top most top f) _ _ (λ ps. tested (leb most (own_post ps)) (Some most) ps)
    by (Call wanted left) = bind_same (pass top pre wanted f) _ _ (λ ps. tested (eqb (own_post ps) wanted) (Some left) ps)

pub pass_binary : (pre c : ℕ) (transfer : BinaryTransfer) (f g : Flow)
    → pass top pre c (binary_flow transfer f g)
    ≡ (pass top pre (first_upper_bound_of transfer c g) f >>= λ ps. pass top (second_pre transfer pre (own_post ps)) (last_upper_bound transfer c) g >>= λ qs.
    after_binary transfer c (own_post ps) (own_post qs) >>= λ p. Some (p ∷ (ps ++ qs)))
unfolding pass binary_flow last_upper_bound first_upper_bound second_pre after_binary ◌>>=◌
pass_binary pre c (InTurn E) f g = refl
pass_binary pre c Branch f g = refl
pass_binary pre c (Fork start due) f g =
    bind_same (pass top pre (back (taking start) c) f) _ _ (λ ps.
    bind_same (pass top start top g) _ _ (λ qs.
    tested (leb due (own_post qs)) (apply (taking start) (own_post ps)) (ps ++ qs)))
