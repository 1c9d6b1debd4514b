-- What counts of one step of an expression that the work space holds, and what the step hands down to its parts: the maps
-- before them.
use mathlib.Core.Path.{◌≡◌, refl, ap}
use mathlib.Core.List.{List}
use Prim.Native.Nat.{ℕ, ◌+◌, ◌≤◌}
use native.Mathlib.Omega.{arith}
use lib.ListN.{length, get_or}
use Rattle.spec.specs.Expression.{Position, Expr, leaf, unary, binary, size, line_of}
use Rattle.spec.specs.Program.{Program}
use Rattle.spec.specs.Split.{Map, Split}
use Rattle.spec.specs.Conditions.{Env, post, body_start}
use Rattle.spec.specs.Words.{pre_of_part, pre_of_second}
use Rattle.spec.specs.StepContexts.{claims_at}
use Rattle.spec.specs.Ranges.{InRange}
use Rattle.spec.specs.declared.MapNumber.{MapNumber}
use Rattle.spec.specs.declared.Purpose.{Purpose}
use Rattle.spec.specs.declared.Word.TheVariants.{Leaf, Unary, Binary}
use Rattle.spec.specs.declared.LeafWord.{LeafWord}
use Rattle.spec.specs.declared.UnaryWord.{UnaryWord}
use Rattle.spec.specs.declared.UnaryWord.TheVariants.{While, Join, Ref, Read, Lock, Unlock, Post, Wait, Rdlock, Rdunlock, Wrlock, Wrunlock, Call}
use Rattle.spec.specs.declared.BinaryWord.{BinaryWord}
use Rattle.spec.specs.declared.BinaryWord.TheVariants.{Let, If, Spawn, Write}
use Rattle.spec.proofs.Listing.{size_positive}
use Rattle.workspace.specs.Layout.{posts_at, starts_at, pres_at}
use Rattle.workspace.proofs.Codes.{word_of_code}
use Rattle.workspace.proofs.Shown.{Stands, post_at, start_at}
use Rattle.workspace.proofs.Expression.{here_index, leaf_code_lem, unary_code_lem, binary_code_lem, here_first, here_second_at}
use Rattle.rule_rows.specs.StepView.{cell}
use Rattle.rule_table.specs.Outcome.{step_outcome}
use Rattle.rule_table.proofs.OneStep.{Ready, below, step_shown}
use Rattle.step_walk.specs.Walk.{counted, put_pre, pass_word, pass_on}
use Rattle.step_walk.proofs.Asked.{row_counted}
use Rattle.step_walk.proofs.Claims.{first_asked}

-- the numbers of the maps before step k and before its parts
abbrev pub pre_number : (w : List ℕ) (k : ℕ) → MapNumber
pre_number w k = record { 0 = cell w pres_at k }

abbrev pub part_number : (w : List ℕ) (k : ℕ) → UnaryWord → MapNumber
part_number w k x = pre_of_part x (pre_number w k) (record { 0 = cell w posts_at k })

abbrev pub second_number : (w : List ℕ) (k : ℕ) → BinaryWord → MapNumber
second_number w k x =
    pre_of_second x (pre_number w k) (record { 0 = cell w (posts_at + 1) k }) (record { 0 = cell w starts_at k })

-- handed down by number or as maps, they are the same
of_part : {w : List ℕ} {S : Split} {a b : MapNumber} {pre post : Map} (x : UnaryWord) → Stands w S a pre → Stands w S b post
    → Stands w S (pre_of_part x a b) (pre_of_part x pre post)
unfolding pre_of_part
of_part While p q = q
of_part Join p q = p
of_part Ref p q = p
of_part Read p q = p
of_part Lock p q = p
of_part Unlock p q = p
of_part Post p q = p
of_part Wait p q = p
of_part Rdlock p q = p
of_part Rdunlock p q = p
of_part Wrlock p q = p
of_part Wrunlock p q = p
of_part Call p q = p

of_second : {w : List ℕ} {S : Split} {a b c : MapNumber} {pre post₁ body_start : Map} (x : BinaryWord) → Stands w S a pre
    → Stands w S b post₁ → Stands w S c body_start → Stands w S (pre_of_second x a b c) (pre_of_second x pre post₁ body_start)
unfolding pre_of_second
of_second Let p q r = q
of_second If p q r = p
of_second Spawn p q r = r
of_second Write p q r = q

module _ (S : Split) (P : Program) (R : InRange P S) (few : length S.rows ≤ 256)
    {w : List ℕ} {k : ℕ} {inside : List (ℕ × ℕ)} {vars : List ℕ} {Γ : Env} {pre : Map} where
  pub step_counted : (purpose : Purpose) (e : Expr) → Ready S P R few w k inside vars Γ pre e
      → counted purpose (step_outcome w S.header.locations S.header.denominator k)
      ≡ first_asked purpose (claims_at S (record { Γ = Γ; pre = pre; step = e }))
  unfolding claims_at
  step_counted purpose e r = rw (step_shown S P R few e r) (row_counted (line_of e) purpose S Γ pre e)

  -- ---------------------------------------------------------------- what a step hands down

  pub leaf_passes : (x : LeafWord) (l : Position) (v : ℕ) → Ready S P R few w k inside vars Γ pre (leaf x l v) → pass_on w k ≡ w
  unfolding pass_on pass_word
  leaf_passes x l v r = rw (leaf_code_lem x l v r.here, word_of_code (Leaf x))

  pub unary_passes : (x : UnaryWord) (l : Position) (v : ℕ) (e₁ : Expr) → Ready S P R few w k inside vars Γ pre (unary x l v e₁)
      → pass_on w k ≡ put_pre w (k + 1) (part_number w k x)
  unfolding pass_on pass_word
  unary_passes x l v e₁ r = rw (unary_code_lem x l v e₁ r.here, word_of_code (Unary x))

  pub binary_passes : (x : BinaryWord) (l : Position) (v : ℕ) (e₁ e₂ : Expr) → Ready S P R few w k inside vars Γ pre (binary x l v e₁ e₂)
      → pass_on w k ≡ put_pre (put_pre w (k + 1) (pre_number w k)) (k + 1 + size e₁) (second_number w k x)
  unfolding pass_on pass_word
  binary_passes x l v e₁ e₂ r =
      rw (binary_code_lem x l v e₁ e₂ r.here, word_of_code (Binary x), here_second_at x l v e₁ e₂ r.here)

  -- the numbers handed down stand for the maps before the parts
  pub part_stands : (x : UnaryWord) (l : Position) (v : ℕ) (e₁ : Expr) → Ready S P R few w k inside vars Γ pre (unary x l v e₁)
      → Stands w S (part_number w k x) (pre_of_part x pre (post S (unary x l v e₁)))
  part_stands x l v e₁ r =
      of_part x r.pre_stands (post_at w S P r.split R (unary x l v e₁) k (here_index _ r.here) (below S P R few _ r) refl)

  pub second_stands : (x : BinaryWord) (l : Position) (v : ℕ) (e₁ e₂ : Expr) → Ready S P R few w k inside vars Γ pre (binary x l v e₁ e₂)
      → Stands w S (second_number w k x) (pre_of_second x pre (post S e₁) (body_start S (binary x l v e₁ e₂)))
  unfolding size
  second_stands x l v e₁ e₂ r =
      of_second x r.pre_stands
      (post_at w S P r.split R e₁ (k + 1) (here_index e₁ (here_first x l v e₁ e₂ r.here))
      (omega (arith, size_positive e₁, r.room)) (ap (λ (i : ℕ). get_or w i 0) (omega arith)))
      (start_at w S P r.split R (binary x l v e₁ e₂) k (here_index _ r.here) (below S P R few _ r))
