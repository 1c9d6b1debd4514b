-- The flow that the work space shows is that of the sheets that it holds.
use mathlib.Core.Path.{◌≡◌, refl, ap, sym, ◌∙◌}
use mathlib.Core.Bool.{Bool, true, false}
use mathlib.Core.List.{List}
use Prim.Native.Nat.{ℕ, ◌+◌, ◌≤◌, ◌<◌}
use native.Mathlib.Omega.{arith}
use lib.ListN.{length, get_or}
use Rattle.spec.specs.Choice.{when◌then◌else◌}
use Rattle.spec.specs.Words.{calls}
use Rattle.spec.specs.Expression.{Expr, leaf, unary, binary, size, Position, index_of}
use Rattle.spec.specs.Program.{Program}
use Rattle.spec.specs.Split.{Split, no_row}
use Rattle.spec.specs.Kinds.{ref_location, first_map, second_map}
use Rattle.spec.specs.Table as entry
use Rattle.spec.specs.Table.{MapTerm, pre, s, post_of, K, «in», out, r, before, after, table}
use Rattle.spec.specs.Conditions.{step_number, body_start, kept_back, map_at, row, type, kind}
use Rattle.spec.specs.Ranges.{InRange}
use Rattle.spec.proofs.Fits.{first_fits, second_fits}
use Rattle.spec.proofs.Listing.{size_positive}
use Rattle.spec.specs.Maps.{share}
use Rattle.spec.specs.declared.Location.{Location}
use Rattle.spec.specs.declared.Word.{Word}
use Rattle.spec.specs.declared.Word.TheVariants as word
use Rattle.spec.specs.declared.LeafWord.{LeafWord}
use Rattle.spec.specs.declared.UnaryWord.{UnaryWord}
use Rattle.spec.specs.declared.BinaryWord.{BinaryWord}
use Rattle.workspace.specs.Layout.{words_at, values_at, code_of, word_of}
use Rattle.workspace.specs.Holds.{HoldsSplit}
use Rattle.workspace.proofs.Codes.{word_of_code}
use Rattle.workspace.proofs.Shown.{type_number, type_shown, map_stands, has_shown, row_at, row_type_lem, start_at, before_at, after_at}
use Rattle.workspace.proofs.Expression.{Here, here_index, leaf_code_lem, leaf_number_lem, unary_number_lem, binary_number_lem, here_called, unary_code_lem, binary_code_lem, here_part, here_first, here_second, here_end}
use Rattle.fill_theory.specs.Flow.{steps}
use Rattle.fill_theory.specs.FlowOf.{asks, Given, effect_of, part_transfer, binary_transfer, before_here, after_here, has_here, given_here, call_here, flow_of}
use Rattle.fill_theory.specs.declared.Transfer.TheVariants.{Leaf, Unary, Binary}
use Rattle.fill_theory.specs.declared.UnaryTransfer.TheVariants.{Call}
use Rattle.fill_theory.proofs.Placed.{flow_steps}
use Rattle.fill_transfer.specs.declared.Column.{Column}
use Rattle.fill_transfer.specs.Transfers.{cell_in, type_line_in, first_in, second_in, start_number_in, before_in, after_in, calling_in, access_in, has_in, given_in, transfer_of, transfer_in}
use Rattle.fill_transfer.specs.Shows.{end_in, Shows, leaf_shown, unary_shown, binary_shown}

module _ (w : List ℕ) (column : Column) (P : Program) (S : Split) (H : HoldsSplit w S) (R : InRange P S)
    (within : column.location.0 < S.header.locations) (given : column.denominator ≡ S.header.denominator) where
  abbrev p : Location
  p = column.location

  -- ------------------------------------------------------------------ constants

  -- the step with index i
  module _ (e : Expr) (i : ℕ) (index : index_of e ≡ i) (h : i < length S.rows) where
    type_in_lem : (row S e).type.0 < length S.types
    type_in_lem = rw (row_at w S P H R e i index h) at (R.row_type i no_row h)

    kind_held : type_line_in w i ≡ kind S e
    unfolding type_line_in kind type
    kind_held = rw (type_number (row_type_lem w S P H R e i index h)) (type_shown w S P H R (row S e).type type_in_lem)

    first_held : first_in w column i ≡ share (map_at S (first_map (kind S e))) p
    unfolding first_in cell_in kind type
    first_held = rw kind_held (has_shown w S P H R p (map_stands w S P H R _ (first_fits R (row S e).type)) within)

    second_held : second_in w column i ≡ share (map_at S (second_map (kind S e))) p
    unfolding second_in cell_in kind type
    second_held = rw kind_held (has_shown w S P H R p (map_stands w S P H R _ (second_fits R (row S e).type)) within)

    start_held : start_number_in w column i ≡ share (body_start S e) p
    unfolding start_number_in cell_in
    start_held = has_shown w S P H R p (start_at w S P H R e i index h) within

    access_held : (d : ℕ) → access_in w column i d ≡ asks p (ref_location (kind S e)) d
    unfolding access_in
    access_held d = rw kind_held

  -- procedure f
  module _ (f : ℕ) (h : f < length S.signatures) where
    pub before_held : before_in w column f ≡ before_here S p f
    unfolding before_in cell_in before_here
    before_held = has_shown w S P H R p (before_at w S P H R f h refl) within

    pub after_held : after_in w column f ≡ after_here S p f
    unfolding after_in cell_in after_here
    after_held = has_shown w S P H R p (after_at w S P H R f h refl) within

  -- the step e with index k, whose K, in, out, r, w and p are those of the type of a, which has index i
  module _ (e : Expr) (k : ℕ) (index : index_of e ≡ k) (h : k < length S.rows) (numbered : get_or w (values_at + k) 0 ≡ step_number e) where
    module _ (a : Expr) (i : ℕ) (indexed : index_of a ≡ i) (l : i < length S.rows) where
      has_held : (t : MapTerm) → has_in w column k i t ≡ has_here S p e a t
      unfolding has_in has_here
      has_held pre = refl
      has_held (post_of n) = refl
      has_held s = start_held e k index h
      has_held K = first_held a i indexed l
      has_held «in» = first_held a i indexed l
      has_held out = second_held a i indexed l
      has_held r = first_held a i indexed l
      has_held entry.w = second_held a i indexed l
      has_held before = refl
      has_held after = refl

      given_held : given_in w column k i ≡ given_here S p e a
      unfolding given_in given_here
      given_held = λ j. record {
        number = numbered j;
        denominator = given j;
        has = λ t. has_held t j;
        needs = λ d. access_held a i indexed l d j;
      }

    call_held : step_number e < length S.signatures → calling_in w column k ≡ call_here S p e
    unfolding calling_in call_here kept_back
    call_held there =
        rw (numbered, before_held (step_number e) there, after_held (step_number e) there)
        (ap (λ (x : ℕ). Call (before_here S p (step_number e) + x) (after_here S p (step_number e) + x)) (start_held e k index h))

  -- ------------------------------------------------------------------ a step

  -- the way of the word with a code
  by_code : (k : ℕ) (x : Word) → get_or w (words_at + k) 0 ≡ code_of x → transfer_in w column k ≡ transfer_of x w column k
  unfolding transfer_in
  by_code k x e = ap (λ (y : Word). transfer_of y w column k) (ap word_of e ∙ word_of_code x)

  module _ (count k : ℕ) {inside : List (ℕ × ℕ)} {vars : List ℕ} where
    leaf_held : (x : LeafWord) (l : Position) (v : ℕ) → Here w count k inside vars (leaf x l v) → k < length S.rows
        → Shows w column k (flow_of S p (leaf x l v))
    unfolding flow_of transfer_of
    leaf_held x l v C h =
        let e = leaf x l v in
        let index = here_index e C in
        leaf_shown (by_code k (word.Leaf x) (leaf_code_lem x l v C)
        ∙ ap (λ (g : Given). Leaf (effect_of g (table (word.Leaf x)))) (given_held e k index h (leaf_number_lem x l v C) e k index h))

    -- a step with parts, with what it is given
    unary_transfer : (x : UnaryWord) (l : Position) (v : ℕ) (e₁ : Expr) → Here w count k inside vars (unary x l v e₁) → count ≤ length S.signatures
        → k < length S.rows → given_in w column k (k + 1) ≡ given_here S p (unary x l v e₁) e₁ → (b : Bool) → calls x ≡ b
        → (when b then calling_in w column k else part_transfer (given_in w column k (k + 1)) x)
        ≡ (when b then call_here S p (unary x l v e₁) else part_transfer (given_here S p (unary x l v e₁) e₁) x)
    unary_transfer x l v e₁ C few h same true q =
        call_held (unary x l v e₁) k (here_index (unary x l v e₁) C) h (unary_number_lem x l v e₁ C) (omega (arith, here_called x l v e₁ q C))
    unary_transfer x l v e₁ C few h same false q = ap (λ (g : Given). part_transfer g x) same

    unary_held : (x : UnaryWord) (l : Position) (v : ℕ) (e₁ : Expr) → Here w count k inside vars (unary x l v e₁) → count ≤ length S.signatures
        → k + 1 < length S.rows → Shows w column (k + 1) (flow_of S p e₁)
        → Shows w column k (flow_of S p (unary x l v e₁))
    unfolding flow_of transfer_of
    unary_held x l v e₁ C few h shown =
        let e = unary x l v e₁ in
        let D = here_part x l v e₁ C in
        let same = given_held e k (here_index e C) (omega arith) (unary_number_lem x l v e₁ C) e₁ (k + 1) (here_index e₁ D) h in
        unary_shown _ (by_code k (word.Unary x) (unary_code_lem x l v e₁ C) ∙ ap Unary (unary_transfer x l v e₁ C few (omega arith) same (calls x) refl)) shown

    binary_held : (x : BinaryWord) (l : Position) (v : ℕ) (e₁ e₂ : Expr) → Here w count k inside vars (binary x l v e₁ e₂)
        → k + 1 < length S.rows → Shows w column (k + 1) (flow_of S p e₁) → Shows w column (k + 1 + size e₁) (flow_of S p e₂)
        → Shows w column k (flow_of S p (binary x l v e₁ e₂))
    unfolding flow_of transfer_of end_in
    binary_held x l v e₁ e₂ C h first second =
        let e = binary x l v e₁ e₂ in
        let D = here_first x l v e₁ e₂ C in
        let same = given_held e k (here_index e C) (omega arith) (binary_number_lem x l v e₁ e₂ C) e₁ (k + 1) (here_index e₁ D) h in
        let behind : Shows w column (k + 1 + steps (flow_of S p e₁)) (flow_of S p e₂) = rw (flow_steps S p e₁) second in
        binary_shown _ (by_code k (word.Binary x) (binary_code_lem x l v e₁ e₂ C) ∙ ap (λ (g : Given). Binary (binary_transfer g x)) same) first
        (here_end e₁ D ∙ ap (k + 1 +◌) (sym (flow_steps S p e₁))) behind

  -- ------------------------------------------------------------------ the flow

  pub held_shows : (count k : ℕ) (inside : List (ℕ × ℕ)) (vars : List ℕ) (e : Expr) → Here w count k inside vars e → count ≤ length S.signatures → k + size e ≤ length S.rows
      → Shows w column k (flow_of S p e)
  unfolding size
  held_shows count k inside vars (leaf x l v) C few i = leaf_held count k x l v C (omega arith)
  held_shows count k inside vars (unary x l v e₁) C few i =
      unary_held count k x l v e₁ C few (omega (arith, size_positive e₁))
      (held_shows count (k + 1) inside vars e₁ (here_part x l v e₁ C) few (omega arith))
  held_shows count k inside vars (binary x l v e₁ e₂) C few i =
      binary_held count k x l v e₁ e₂ C (omega (arith, size_positive e₁))
      (held_shows count (k + 1) inside vars e₁ (here_first x l v e₁ e₂ C) few (omega arith))
      (held_shows count (k + 1 + size e₁) _ _ e₂ (here_second x l v e₁ e₂ C) few (omega arith))
