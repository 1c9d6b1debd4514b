-- Where an expression stands among the steps of a program, and what a split shows there: one with maps filled in, or a whole one.
use mathlib.Core.Path.{◌≡◌, refl, ap, sym, ◌∙◌}
use mathlib.Core.List.{List, [], ◌∷◌, map, append-nil}
use Prim.Native.Nat.{ℕ, zero, suc, ◌+◌, ◌≤◌, ◌<◌}
use native.Mathlib.Omega.{arith}
use lib.ListN.{length, get_or, length-append}
use Rattle.spec.specs.Expression.{Step, Position, Expr, leaf, unary, binary, size, index_of, Item, step, steps_among, Procedure}
use Rattle.spec.specs.Program.{Program}
use Rattle.spec.specs.WellFormed.{prefix, IndexesFrom, items_of, listing, WellFormedProgram}
use Rattle.spec.specs.Split.{Map, Row, no_row, Split, map_at}
use Rattle.spec.specs.Kinds.{ref_location, first_map, second_map}
use Rattle.spec.specs.Conditions.{row, kind, post, body_start, kept_back, signature, start_map}
use Rattle.spec.specs.Ranges.{InRange}
use Rattle.spec.specs.declared.Location.{Location}
use Rattle.spec.specs.declared.UnaryWord.{UnaryWord}
use Rattle.spec.specs.declared.BinaryWord.{BinaryWord}
use Rattle.spec.proofs.Wide.{map_wide_lem, start_wide, kept_wide, before_wide, after_wide}
use Rattle.spec.proofs.Listing.{size_positive, prefix_length, steps_among_lem}
use Rattle.fill_theory.specs.declared.UnaryTransfer.{UnaryTransfer}
use Rattle.fill_theory.specs.declared.UnaryTransfer.TheVariants.{After, Loop, Call}
use Rattle.fill_theory.specs.declared.BinaryTransfer.{BinaryTransfer}
use Rattle.fill_theory.specs.declared.BinaryTransfer.TheVariants.{InTurn, Branch, Fork}
use Rattle.fill_theory.specs.Filled.{filled}
use Rattle.fill_theory.specs.AfterMaps.{shown_maps}
use Rattle.fill_theory.specs.Flow.{Flow, unary_flow, binary_flow, steps, steps_of}
use Rattle.fill_theory.specs.FlowOf.{flow_of, roots_from}
use Rattle.fill_theory.proofs.Kept.{kind_kept, place_within, first_wide, second_wide, start_map_wide, start_map_kept, start_kept, before_kept, after_kept, first_kept, second_kept, post_new}
use Rattle.fill_theory.proofs.Locations.{Known}

-- a step stands in front of its parts
pub unary_steps : (transfer : UnaryTransfer) (f : Flow) → steps (unary_flow transfer f) ≡ steps f + 1
unfolding steps unary_flow
unary_steps (After E) f = omega arith
unary_steps Loop f = omega arith
unary_steps (Call wanted left) f = omega arith

pub binary_steps : (transfer : BinaryTransfer) (f g : Flow) → steps (binary_flow transfer f g) ≡ steps f + steps g + 1
unfolding steps binary_flow
binary_steps (InTurn E) f g = omega arith
binary_steps Branch f g = omega arith
binary_steps (Fork start due) f g = omega arith

-- a flow has the steps of its expression
pub flow_steps : (S : Split) (p : Location) (e : Expr) → steps (flow_of S p e) ≡ size e
unfolding steps flow_of size
flow_steps S p (leaf x k v) = refl
flow_steps S p (unary x k v e₁) = unary_steps _ (flow_of S p e₁) ∙ omega (arith, flow_steps S p e₁)
flow_steps S p (binary x k v e₁ e₂) = binary_steps _ (flow_of S p e₁) (flow_of S p e₂) ∙ omega (arith, flow_steps S p e₁, flow_steps S p e₂)

-- ------------------------------------------------------------------ places

-- in a program with the steps ss, the first step of e has index i
pub record Placed (ss : List Step) (i : ℕ) (e : Expr) : Type 0 where
  pub indexed : IndexesFrom i e
  pub within : i + size e ≤ length ss

index_at : {ss : List Step} {i : ℕ} {e : Expr} → Placed ss i e → index_of e ≡ i
unfolding IndexesFrom index_of
index_at {e = leaf w k v} P = P.indexed
index_at {e = unary w k v e} P = P.indexed.0
index_at {e = binary w k v e₁ e₂} P = P.indexed.0

module _ {ss : List Step} {i : ℕ} {k : Position} {v : ℕ} where
  pub part : {w : UnaryWord} {e₁ : Expr} → Placed ss i (unary w k v e₁) → Placed ss (i + 1) e₁
  unfolding IndexesFrom size
  part P = record { indexed = P.indexed.1; within = omega (arith, P.within) }

  pub first : {w : BinaryWord} {e₁ e₂ : Expr} → Placed ss i (binary w k v e₁ e₂) → Placed ss (i + 1) e₁
  unfolding IndexesFrom size
  first P = record { indexed = P.indexed.1; within = omega (arith, P.within) }

  pub second : {w : BinaryWord} {e₁ e₂ : Expr} → Placed ss i (binary w k v e₁ e₂) → Placed ss (i + 1 + size e₁) e₂
  unfolding IndexesFrom size
  second P = record { indexed = P.indexed.2; within = omega (arith, P.within) }

-- ------------------------------------------------------------------ how many steps

-- the steps of procedures and of the root
unfoldable pub size_of : List Procedure → (root : Expr) → ℕ
size_of [] root = size root
size_of (p ∷ ps) root = size p.body + size_of ps root

pub roots_steps : (S : Split) (here : Location) (f : ℕ) (ps : List Procedure) (root : Expr) → steps_of (roots_from S here f ps root) ≡ size_of ps root
unfolding steps_of roots_from size_of
roots_steps S here f [] root = omega (arith, flow_steps S here root)
roots_steps S here f (p ∷ ps) root = omega (arith, flow_steps S here p.body, roots_steps S here (f + 1) ps root)

steps_listed : (ps : List Procedure) (root : Expr) → length (steps_among (listing ps root)) ≡ size_of ps root
unfolding listing items_of steps_among size_of
steps_listed [] root =
    ap (λ (l : List Item). length (steps_among l)) (sym (append-nil (map step (prefix root))))
    ∙ ap length (steps_among_lem (prefix root) [] ∙ append-nil (prefix root))
    ∙ prefix_length root
steps_listed (p ∷ ps) root =
    let body = prefix p.body in
    ap length (steps_among_lem body (listing ps root))
    ∙ omega (arith, length-append body (steps_among (listing ps root)), prefix_length p.body, steps_listed ps root)

pub steps_sized : {text : List ℕ} (P : Program) → WellFormedProgram text P → length P.steps ≡ size_of P.procedures P.root
steps_sized P W = ap length W.stepped ∙ steps_listed P.procedures P.root

-- ------------------------------------------------------------------ what a split shows

-- after step i the split T shows the map i of σ, and otherwise what S shows: each with a number for each location
pub record Showing (ss : List Step) (S : Split) (σ : List Map) (T : Split) : Type 0 where
  pub posts : {i : ℕ} (e : Expr) → Placed ss i e → Known S.header.locations (post T e) (get_or σ i [])
  pub starts : (e : Expr) → Known S.header.locations (body_start T e) (body_start S e)
  pub kepts : (e : Expr) → Known S.header.locations (kept_back T e) (kept_back S e)
  pub befores : (f : ℕ) → Known S.header.locations (map_at T (signature T f).before) (map_at S (signature S f).before)
  pub afters : (f : ℕ) → Known S.header.locations (map_at T (signature T f).after) (map_at S (signature S f).after)
  pub firsts : (e : Expr) → Known S.header.locations (map_at T (first_map (kind T e))) (map_at S (first_map (kind S e)))
  pub seconds : (e : Expr) → Known S.header.locations (map_at T (second_map (kind T e))) (map_at S (second_map (kind S e)))
  pub places : (e : Expr) → ref_location (kind T e) ≡ ref_location (kind S e)
  pub within : (e : Expr) → (ref_location (kind S e)).0 < S.header.locations
  pub first : Known S.header.locations (start_map T) (start_map S)
  pub denominator : T.header.denominator ≡ S.header.denominator

-- S is a split in range for the program P, and σ has a map for each step, with a number for each location
pub record Given (P : Program) (S : Split) (σ : List Map) : Type 0 where
  pub in_range : InRange P S
  pub counted : length σ ≡ length P.steps
  pub wide : (i : ℕ) → i < length σ → length (get_or σ i []) ≡ S.header.locations

pub filled_shows : {P : Program} {S : Split} {σ : List Map} → Given P S σ → Showing P.steps S σ (filled S σ)
unfolding filled kept_back
filled_shows {σ = σ} G = let R = G.in_range in record {
  posts = λ {i} e P. record {
    same = post_new R σ e i (index_at P) (omega (arith, P.within, size_positive e, R.rows_counted));
    wide = G.wide i (omega (arith, P.within, size_positive e, G.counted));
  };
  starts = λ e. record { same = start_kept R σ e; wide = start_wide R e };
  kepts = λ e. record { same = start_kept R σ e; wide = start_wide R e };
  befores = λ f. record { same = before_kept R σ f; wide = before_wide R f };
  afters = λ f. record { same = after_kept R σ f; wide = after_wide R f };
  firsts = λ e. record { same = first_kept R σ e; wide = first_wide R e };
  seconds = λ e. record { same = second_kept R σ e; wide = second_wide R e };
  places = λ e. ap ref_location (kind_kept _ σ e);
  within = place_within R;
  first = record { same = start_map_kept R σ; wide = start_map_wide R };
  denominator = refl;
}

map_at_lem : {A B : Type 0} (f : A → B) (xs : List A) (i : ℕ) (d : A) (d' : B) → i < length xs → get_or (map f xs) i d' ≡ f (get_or xs i d)
map_at_lem f [] i d d' l = absurd (omega arith)
map_at_lem f (x ∷ xs) zero d d' l = refl
map_at_lem f (x ∷ xs) (suc i) d d' l = map_at_lem f xs i d d' (omega arith)

-- a whole sheet shows its own maps
pub shown_map : {P : Program} {S : Split} → InRange P S → (i : ℕ) → i < length S.rows
    → Known S.header.locations (map_at S (get_or S.rows i no_row).post) (get_or (shown_maps S) i [])
unfolding shown_maps
shown_map {S = S} R i here =
    rw (map_at_lem (λ (r : Row). map_at S r.post) S.rows i no_row [] here)
    (record { same = refl; wide = map_wide_lem R _ (R.row_post i no_row here) })

pub split_shows : {P : Program} {S : Split} → InRange P S → Showing P.steps S (shown_maps S) S
unfolding post row
split_shows R = record {
  posts = λ {i} e P.
      rw (index_at P) (shown_map R i (omega (arith, P.within, size_positive e, R.rows_counted)));
  starts = λ e. record { same = refl; wide = start_wide R e };
  kepts = λ e. record { same = refl; wide = kept_wide R e };
  befores = λ f. record { same = refl; wide = before_wide R f };
  afters = λ f. record { same = refl; wide = after_wide R f };
  firsts = λ e. record { same = refl; wide = first_wide R e };
  seconds = λ e. record { same = refl; wide = second_wide R e };
  places = λ e. refl;
  within = place_within R;
  first = record { same = refl; wide = start_map_wide R };
  denominator = refl;
}
