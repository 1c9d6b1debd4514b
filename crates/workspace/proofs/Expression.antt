-- Where an expression stands in the work space: its steps from index k on, its parts behind them.
use mathlib.Core.Path.{◌≡◌, ap, subst, ◌∙◌}
use mathlib.Core.Bool.{Bool, true}
use mathlib.Core.Logic.{inl}
use mathlib.Core.List.{List, ◌++◌, map, map-append}
use Prim.Native.Nat.{ℕ, ◌+◌, ◌<◌, ◌≤◌}
use native.Mathlib.Omega.{arith}
use lib.ListN.{length, get_or, length-map}
use Rattle.spec.specs.Expression.{Step, Position, Expr, leaf, unary, binary, size, index_of, line_of, among}
use Rattle.spec.specs.Choice.{when◌then◌else◌}
use Rattle.spec.specs.Words.{role, binding, calls}
use Rattle.spec.specs.WellFormed.{prefix, IndexesFrom, StepInside, UsedInside}
use Rattle.spec.proofs.Listing.{prefix_length}
use Rattle.spec.specs.declared.Role.{Role}
use Rattle.spec.specs.declared.Role.TheVariants.{Uses, Calls, Neither}
use Rattle.spec.specs.declared.Word.{Word}
use Rattle.spec.specs.declared.Word.TheVariants.{Leaf, Unary, Binary}
use Rattle.spec.specs.declared.LeafWord.{LeafWord}
use Rattle.spec.specs.declared.UnaryWord.{UnaryWord}
use Rattle.spec.specs.declared.BinaryWord.{BinaryWord}
use Rattle.workspace.specs.Layout.{words_at, values_at, ends_at, lets_at, lines_at, pres_at, leaf_code, unary_code, binary_code, code_of}
use Rattle.workspace.specs.Region.{Region, ChangedWithin}
use Rattle.workspace.specs.Holds.{ends, let_in, let_of, lets}
use Rattle.workspace.proofs.Region.{region_moved, region_first, region_behind, region_left, region_right, region_kept}
use Rattle.workspace.proofs.Held.{ends_length, lets_length}

-- the codes of an expression's words, in line order
unfoldable pub codes : Expr → List ℕ
codes e = map (λ (s : Step). code_of s.word) (prefix e)

codes_length : (e : Expr) → length (codes e) ≡ size e
unfolding codes
codes_length e = length-map (prefix e) (λ (s : Step). code_of s.word) ∙ prefix_length e

-- and their numbers v
unfoldable pub values : Expr → List ℕ
values e = map (λ (s : Step). s.value) (prefix e)

values_length : (e : Expr) → length (values e) ≡ size e
unfolding values
values_length e = length-map (prefix e) (λ (s : Step). s.value) ∙ prefix_length e

-- and their lines
unfoldable pub lines_of : Expr → List ℕ
lines_of e = map (λ (s : Step). s.line) (prefix e)

lines_length : (e : Expr) → length (lines_of e) ≡ size e
unfolding lines_of
lines_length e = length-map (prefix e) (λ (s : Step). s.line) ∙ prefix_length e

-- an expression stands at index k: its words, numbers and lines, where its steps end, and that it says so
pub record Standing (w : List ℕ) (k : ℕ) (e : Expr) : Type 0 where
  pub words : Region w (words_at + k) (codes e)
  pub numbers : Region w (values_at + k) (values e)
  pub lined : Region w (lines_at + k) (lines_of e)
  pub ended : Region w (ends_at + k) (ends k e)
  pub indexed : IndexesFrom k e

-- and its variables have their lets, its calls their procedures, of which there are so many
pub record Here (w : List ℕ) (count k : ℕ) (inside : List (ℕ × ℕ)) (vars : List ℕ) (e : Expr) : Type 0 where
  pub standing : Standing w k e
  pub bound : Region w (lets_at + k) (lets k inside e)
  pub used : UsedInside count vars e

-- the expression stays where only maps before steps are changed
pub here_kept : {w w' : List ℕ} {count k : ℕ} {inside : List (ℕ × ℕ)} {vars : List ℕ} {e : Expr}
    → ChangedWithin pres_at (pres_at + 256) w w' → k + size e ≤ 256 → Here w count k inside vars e → Here w' count k inside vars e
here_kept {k = k} {inside = inside} {e = e} x h H = record {
  standing = record {
    words = region_kept x (inl (omega (arith, codes_length e))) H.standing.words;
    numbers = region_kept x (inl (omega (arith, values_length e))) H.standing.numbers;
    lined = region_kept x (inl (omega (arith, lines_length e))) H.standing.lined;
    ended = region_kept x (inl (omega (arith, ends_length k e))) H.standing.ended;
    indexed = H.standing.indexed;
  };
  bound = region_kept x (inl (omega (arith, lets_length k inside e))) H.bound;
  used = H.used;
}

-- ------------------------------------------------------------------ its first step

-- the step with word x, position p and number v is stored at index k
pub record Head (w : List ℕ) (k : ℕ) (x : Word) (p : Position) (v : ℕ) : Type 0 where
  pub code : get_or w (words_at + k) 0 ≡ code_of x
  pub value : get_or w (values_at + k) 0 ≡ v
  pub line : get_or w (lines_at + k) 0 ≡ p.line
  pub index : p.index ≡ k

module _ {w : List ℕ} {k : ℕ} where
  pub leaf_head : (x : LeafWord) (p : Position) (v : ℕ) → Standing w k (leaf x p v) → Head w k (Leaf x) p v
  unfolding codes values lines_of prefix IndexesFrom
  leaf_head x p v s = record {
    code = region_first s.words;
    value = region_first s.numbers;
    line = region_first s.lined;
    index = s.indexed;
  }

  pub unary_head : (x : UnaryWord) (p : Position) (v : ℕ) (e : Expr) → Standing w k (unary x p v e) → Head w k (Unary x) p v
  unfolding codes values lines_of prefix IndexesFrom
  unary_head x p v e s = record {
    code = region_first s.words;
    value = region_first s.numbers;
    line = region_first s.lined;
    index = s.indexed.0;
  }

  pub binary_head : (x : BinaryWord) (p : Position) (v : ℕ) (e₁ e₂ : Expr) → Standing w k (binary x p v e₁ e₂) → Head w k (Binary x) p v
  unfolding codes values lines_of prefix IndexesFrom
  binary_head x p v e₁ e₂ s = record {
    code = region_first s.words;
    value = region_first s.numbers;
    line = region_first s.lined;
    index = s.indexed.0;
  }

  -- the end of an expression
  pub standing_end : (e : Expr) → Standing w k e → get_or w (ends_at + k) 0 ≡ k + size e
  unfolding ends size
  standing_end (leaf x p v) s = region_first s.ended
  standing_end (unary x p v e) s = region_first s.ended
  standing_end (binary x p v e₁ e₂) s = region_first s.ended

  -- ---------------------------------------------------------------- its parts

  -- the one part of a step, and the first of two, stand just behind it
  pub standing_part : (x : UnaryWord) (p : Position) (v : ℕ) (e : Expr) → Standing w k (unary x p v e) → Standing w (k + 1) e
  unfolding codes values lines_of prefix ends IndexesFrom
  standing_part x p v e s = record {
    words = region_moved _ _ (omega arith) (region_behind s.words);
    numbers = region_moved _ _ (omega arith) (region_behind s.numbers);
    lined = region_moved _ _ (omega arith) (region_behind s.lined);
    ended = region_moved _ _ (omega arith) (region_behind s.ended);
    indexed = s.indexed.1;
  }

  module _ (x : BinaryWord) (p : Position) (v : ℕ) (e₁ e₂ : Expr) (s : Standing w k (binary x p v e₁ e₂)) where
    codes_parts : Region w (words_at + k + 1) (codes e₁ ++ codes e₂)
    unfolding codes prefix
    codes_parts = rw (map-append (λ (s : Step). code_of s.word) (prefix e₁) (prefix e₂)) at (region_behind s.words)

    values_parts : Region w (values_at + k + 1) (values e₁ ++ values e₂)
    unfolding values prefix
    values_parts = rw (map-append (λ (s : Step). s.value) (prefix e₁) (prefix e₂)) at (region_behind s.numbers)

    lines_parts : Region w (lines_at + k + 1) (lines_of e₁ ++ lines_of e₂)
    unfolding lines_of prefix
    lines_parts = rw (map-append (λ (s : Step). s.line) (prefix e₁) (prefix e₂)) at (region_behind s.lined)

    ends_parts : Region w (ends_at + k + 1) (ends (k + 1) e₁ ++ ends (k + 1 + size e₁) e₂)
    unfolding ends
    ends_parts = region_behind s.ended

    pub standing_first : Standing w (k + 1) e₁
    unfolding IndexesFrom
    standing_first = record {
      words = region_moved _ _ (omega arith) (region_left _ _ codes_parts);
      numbers = region_moved _ _ (omega arith) (region_left _ _ values_parts);
      lined = region_moved _ _ (omega arith) (region_left _ _ lines_parts);
      ended = region_moved _ _ (omega arith) (region_left _ _ ends_parts);
      indexed = s.indexed.1;
    }

    -- the second part stands at the end of the first
    pub standing_second : Standing w (k + 1 + size e₁) e₂
    unfolding IndexesFrom
    standing_second = record {
      words = region_moved _ _ (omega (arith, codes_length e₁)) (region_right (codes e₁) _ codes_parts);
      numbers = region_moved _ _ (omega (arith, values_length e₁)) (region_right (values e₁) _ values_parts);
      lined = region_moved _ _ (omega (arith, lines_length e₁)) (region_right (lines_of e₁) _ lines_parts);
      ended = region_moved _ _ (omega (arith, ends_length (k + 1) e₁)) (region_right (ends (k + 1) e₁) _ ends_parts);
      indexed = s.indexed.2;
    }

-- ------------------------------------------------------------------ with its lets

module _ {w : List ℕ} {count k : ℕ} {inside : List (ℕ × ℕ)} {vars : List ℕ} where
  -- the index and the line of an expression
  pub here_index : (e : Expr) → Here w count k inside vars e → index_of e ≡ k
  unfolding index_of
  here_index (leaf x p v) H = (leaf_head x p v H.standing).index
  here_index (unary x p v e) H = (unary_head x p v e H.standing).index
  here_index (binary x p v e₁ e₂) H = (binary_head x p v e₁ e₂ H.standing).index

  pub here_line : (e : Expr) → Here w count k inside vars e → get_or w (lines_at + k) 0 ≡ line_of e
  unfolding line_of
  here_line (leaf x p v) H = (leaf_head x p v H.standing).line
  here_line (unary x p v e) H = (unary_head x p v e H.standing).line
  here_line (binary x p v e₁ e₂) H = (binary_head x p v e₁ e₂ H.standing).line

  pub leaf_code_lem : (x : LeafWord) (p : Position) (v : ℕ) → Here w count k inside vars (leaf x p v) → get_or w (words_at + k) 0 ≡ leaf_code x
  leaf_code_lem x p v H = (leaf_head x p v H.standing).code

  pub unary_code_lem : (x : UnaryWord) (p : Position) (v : ℕ) (e : Expr) → Here w count k inside vars (unary x p v e) → get_or w (words_at + k) 0 ≡ unary_code x
  unary_code_lem x p v e H = (unary_head x p v e H.standing).code

  pub binary_code_lem : (x : BinaryWord) (p : Position) (v : ℕ) (e₁ e₂ : Expr) → Here w count k inside vars (binary x p v e₁ e₂)
      → get_or w (words_at + k) 0 ≡ binary_code x
  binary_code_lem x p v e₁ e₂ H = (binary_head x p v e₁ e₂ H.standing).code

  -- the number of a step without parts
  pub leaf_number_lem : (x : LeafWord) (p : Position) (v : ℕ) → Here w count k inside vars (leaf x p v) → get_or w (values_at + k) 0 ≡ v
  leaf_number_lem x p v H = (leaf_head x p v H.standing).value

  -- that of a step with one part, and of one that calls a procedure
  pub unary_number_lem : (x : UnaryWord) (p : Position) (v : ℕ) (e : Expr) → Here w count k inside vars (unary x p v e) → get_or w (values_at + k) 0 ≡ v
  unary_number_lem x p v e H = (unary_head x p v e H.standing).value

  pub here_called : (x : UnaryWord) (p : Position) (f : ℕ) (e : Expr) → calls x ≡ true → Here w count k inside vars (unary x p f e) → f < count
  unfolding UsedInside StepInside role
  here_called x p f e q H = subst (λ (b : Bool). StepInside count vars (when b then Calls else Neither) f) q H.used.0

  -- that of a step with two parts
  pub binary_number_lem : (x : BinaryWord) (p : Position) (v : ℕ) (e₁ e₂ : Expr) → Here w count k inside vars (binary x p v e₁ e₂) → get_or w (values_at + k) 0 ≡ v
  binary_number_lem x p v e₁ e₂ H = (binary_head x p v e₁ e₂ H.standing).value

  -- of a step that uses a variable: the variable is in scope, and the step has its let
  pub here_used : (x : LeafWord) (p : Position) (v : ℕ) → role (Leaf x) ≡ Uses → Here w count k inside vars (leaf x p v) → among v vars ≡ true
  unfolding UsedInside StepInside
  here_used x p v u H = subst (λ (r : Role). StepInside count vars r v) u H.used

  pub here_let : (x : LeafWord) (p : Position) (v : ℕ) → role (Leaf x) ≡ Uses → Here w count k inside vars (leaf x p v) → get_or w (lets_at + k) 0 ≡ let_in inside v
  unfolding lets let_of
  here_let x p v u H = region_first H.bound ∙ ap (λ (r : Role). let_of r inside v) u

  pub here_part : (x : UnaryWord) (p : Position) (v : ℕ) (e : Expr) → Here w count k inside vars (unary x p v e) → Here w count (k + 1) inside vars e
  unfolding lets UsedInside
  here_part x p v e H = record {
    standing = standing_part x p v e H.standing;
    bound = region_moved _ _ (omega arith) (region_behind H.bound);
    used = H.used.1;
  }

  module _ (x : BinaryWord) (p : Position) (v : ℕ) (e₁ e₂ : Expr) (H : Here w count k inside vars (binary x p v e₁ e₂)) where
    lets_parts : Region w (lets_at + k + 1) (lets (k + 1) inside e₁ ++ lets (k + 1 + size e₁) (binding (role (Binary x)) (v, k) inside) e₂)
    unfolding lets
    lets_parts = region_behind H.bound

    pub here_first : Here w count (k + 1) inside vars e₁
    unfolding UsedInside
    here_first = record {
      standing = standing_first x p v e₁ e₂ H.standing;
      bound = region_moved _ _ (omega arith) (region_left _ _ lets_parts);
      used = H.used.1;
    }

    pub here_second : Here w count (k + 1 + size e₁) (binding (role (Binary x)) (v, k) inside) (binding (role (Binary x)) v vars) e₂
    unfolding UsedInside
    here_second = record {
      standing = standing_second x p v e₁ e₂ H.standing;
      bound = region_moved _ _
          (omega (arith, lets_length (k + 1) inside e₁)) (region_right (lets (k + 1) inside e₁) _ lets_parts);
      used = H.used.2;
    }

  pub here_end : (e : Expr) → Here w count k inside vars e → get_or w (ends_at + k) 0 ≡ k + size e
  here_end e H = standing_end e H.standing

-- where the second of two parts stands, by the end of the first
pub here_second_at : {w : List ℕ} {count k : ℕ} {inside : List (ℕ × ℕ)} {vars : List ℕ} (x : BinaryWord) (p : Position) (v : ℕ) (e₁ e₂ : Expr)
    → Here w count k inside vars (binary x p v e₁ e₂) → get_or w (ends_at + 1 + k) 0 ≡ k + 1 + size e₁
here_second_at {w} x p v e₁ e₂ H = ap (λ (i : ℕ). get_or w i 0) (omega arith) ∙ here_end e₁ (here_first x p v e₁ e₂ H)
