-- The column of continuations, once the steps of an expression are linked: the expression stands at its first step.
use Prim.Native.Nat.{ℕ, zero, suc, ◌+◌, ◌<◌, ◌≤◌}
use mathlib.Core.Path.{◌≡◌, refl, sym, ◌∙◌, ap, subst}
use mathlib.Core.Logic.{inl, inr}
use mathlib.Core.List.{List, ◌∷◌, ◌++◌}
use native.Mathlib.Omega.{arith}
use lib.ListN.{length, get_or, set, length-set, length-append, length-map}
use lib.Seq.{get_or-set_same, get_or-set_other}
use Rattle.spec.specs.Expression.{Position, Expr, leaf, unary, binary, size}
use Rattle.spec.specs.declared.Word.TheVariants.{Leaf, Unary, Binary}
use Rattle.spec.specs.declared.LeafWord.{LeafWord}
use Rattle.spec.specs.declared.LeafWord.TheVariants.{Var, Int, Newtid, Newlock, Newsem, Newrwlock}
use Rattle.spec.specs.declared.UnaryWord.{UnaryWord}
use Rattle.spec.specs.declared.UnaryWord.TheVariants.{While, Join, Ref, Read, Lock, Unlock, Post, Wait, Rdlock, Rdunlock, Wrlock, Wrunlock, Call}
use Rattle.spec.specs.declared.BinaryWord.{BinaryWord}
use Rattle.spec.specs.declared.BinaryWord.TheVariants.{Let, If, Spawn, Write}
use Rattle.workspace.specs.Layout.{rule_of, code_of, printed}
use Rattle.workspace.specs.Region.{Region, ChangedWithin}
use Rattle.workspace.proofs.Region.{region_moved, region_first, region_behind, region_left, region_right, region_append, region_kept, changed_nothing, changed_store, changed_then, changed_wider}
use Rattle.spec.specs.Expression.{Step}
use Rattle.spec.specs.WellFormed.{prefix}
use Rattle.spec.proofs.Listing.{prefix_length}
use Rattle.workspace.proofs.Held.{ends_length}
use Rattle.workspace.proofs.Expression.{codes, values, lines_of, Standing, leaf_head, unary_head, binary_head, standing_end, standing_part, standing_first, standing_second}
use Rattle.replay_control.specs.Layout.{continuations_at, procedures_at, program_size}
use Rattle.replay_control.specs.Shapes.{shape_at}
use Rattle.replay_control.specs.Control.{continuation, second}
use Rattle.replay_control.specs.Continuations.{continuations, joined, linked_parts, linked_step, linked_from}
use Rattle.replay_simulation.proofs.Held.{Small, after_first, after_second, Stands}

-- the numbers of an expression's steps are small enough
abbrev pub Ranged : (procedures : ℕ) → Expr → Type 0
Ranged m (leaf w q v) = Small m (Leaf w) v
Ranged m (unary w q v e) = Small m (Unary w) v × Ranged m e
Ranged m (binary w q v e₁ e₂) = Small m (Binary w) v × Ranged m e₁ × Ranged m e₂

-- ------------------------------------------------------------------ the columns hold the expression

continuations_binary : (w : BinaryWord) (c k v : ℕ) (q : Position) (e₁ e₂ : Expr) →
    continuations c k (binary w q v e₁ e₂) ≡ c ∷ (continuations (after_first w k c) (k + 1) e₁ ++ continuations (after_second w k c) (k + 1 + size e₁) e₂)
unfolding continuations
continuations_binary Let c k v q e₁ e₂ = refl
continuations_binary If c k v q e₁ e₂ = refl
continuations_binary Spawn c k v q e₁ e₂ = refl
continuations_binary Write c k v q e₁ e₂ = refl

pub continuations_length : (e : Expr) (c k : ℕ) → length (continuations c k e) ≡ size e
unfolding continuations size
continuations_length (leaf w q v) c k = refl
continuations_length (unary w q v e) c k = ap suc (continuations_length e k (k + 1))
continuations_length (binary w q v e₁ e₂) c k =
    ap length (continuations_binary w c k v q e₁ e₂)
    ∙ ap suc (length-append (continuations (after_first w k c) (k + 1) e₁) (continuations (after_second w k c) (k + 1 + size e₁) e₂)
    ∙ (let a = continuations_length e₁ (after_first w k c) (k + 1) in let b = continuations_length e₂ (after_second w k c) (k + 1 + size e₁) in omega (arith, a, b)))

module _ {p : List ℕ} where
  pub standing_stands : (e : Expr) (c k : ℕ) → Standing p k e → Ranged (get_or p procedures_at 0) e → k + size e ≤ 256 → Region p (continuations_at + k) (continuations c k e) → Stands p c k e
  unfolding size continuations continuation second
  standing_stands (leaf w q v) c k S r h L =
      let d = leaf_head w q v S in
      record { below = omega (arith, h); index = d.index; code = d.code; number = d.value; next = region_first L; small = r; far = tt }
  standing_stands (unary w q v e) c k S (r, r₁) h L =
      let d = unary_head w q v e S in (
        record { below = omega (arith, h); index = d.index; code = d.code; number = d.value; next = region_first L; small = r; far = tt },
        standing_stands e k (k + 1) (standing_part w q v e S) r₁ (omega (arith, h)) (region_moved (continuations_at + k + 1) (continuations_at + (k + 1)) (omega arith) (region_behind L)),
      )
  standing_stands (binary w q v e₁ e₂) c k S (r, r₁, r₂) h L =
      let d = binary_head w q v e₁ e₂ S in
      let L' = subst (Region p (continuations_at + k)) (continuations_binary w c k v q e₁ e₂) L in
      let parts = region_behind L' in
      let z : get_or p (544 + 1 + k) 0 ≡ k + 1 + size e₁ = ap (λ (i : ℕ). get_or p i 0) (omega arith) ∙ standing_end e₁ (standing_first w q v e₁ e₂ S) in
      let n = continuations_length e₁ (after_first w k c) (k + 1) in (
        record { below = omega (arith, h); index = d.index; code = d.code; number = d.value; next = region_first L'; small = r; far = (omega (arith, z)) },
        standing_stands e₁ (after_first w k c) (k + 1) (standing_first w q v e₁ e₂ S) r₁ (omega (arith, h)) (region_moved (continuations_at + k + 1) (continuations_at + (k + 1)) (omega arith) (region_left _ _ parts)),
        z,
        subst (λ (j : ℕ). Stands p (after_second w k c) j e₂) (sym z)
            (standing_stands e₂ (after_second w k c) (k + 1 + size e₁) (standing_second w q v e₁ e₂ S) r₂ (omega (arith, h))
            (region_moved (continuations_at + k + 1 + length (continuations (after_first w k c) (k + 1) e₁)) (continuations_at + (k + 1 + size e₁)) (omega (arith, n)) (region_right (continuations (after_first w k c) (k + 1) e₁) _ parts))),
      )

-- ------------------------------------------------------------------ what linking does not touch

pub standing_kept : {p p' : List ℕ} {hi : ℕ} (e : Expr) (k : ℕ) → ChangedWithin continuations_at hi p p' → k + size e ≤ 256 → Standing p k e → Standing p' k e
unfolding codes values lines_of
standing_kept e k x h S =
    let n = prefix_length e in
    record {
      words = region_kept x (inl (omega (arith, h, n, length-map (prefix e) (λ (s : Step). code_of s.word)))) S.words;
      numbers = region_kept x (inl (omega (arith, h, n, length-map (prefix e) (λ (s : Step). s.value)))) S.numbers;
      lined = region_kept x (inl (omega (arith, h, n, length-map (prefix e) (λ (s : Step). s.line)))) S.lined;
      ended = region_kept x (inl (omega (arith, h, ends_length k e))) S.ended;
      indexed = S.indexed;
    }

pub linked_split : (p : List ℕ) (k n m : ℕ) → linked_from p k (n + m) ≡ linked_from (linked_from p k n) (k + n) m
unfolding linked_from
linked_split p k zero m = let a : zero + m ≡ m = omega arith in let b : k + zero ≡ k = omega arith in rw (a, b)
linked_split p k (suc n) m =
    let a : suc n + m ≡ suc (n + m) = omega arith in
    let b : k + suc n ≡ k + 1 + n = omega arith in
    rw (a, b) (linked_split (linked_step p k) (k + 1) n m)

-- ------------------------------------------------------------------ what a step's parts get

leaf_linked : (p : List ℕ) (k : ℕ) (w : LeafWord) → get_or p (0 + k) 0 ≡ code_of (Leaf w) → linked_step p k ≡ p
unfolding linked_step linked_parts shape_at rule_of printed
leaf_linked p k Var e = rw e
leaf_linked p k Int e = rw e
leaf_linked p k Newtid e = rw e
leaf_linked p k Newlock e = rw e
leaf_linked p k Newsem e = rw e
leaf_linked p k Newrwlock e = rw e

unary_linked : (p : List ℕ) (k : ℕ) (w : UnaryWord) → get_or p (0 + k) 0 ≡ code_of (Unary w) → linked_step p k ≡ joined p (k + 1) k
unfolding linked_step linked_parts shape_at rule_of printed
unary_linked p k While e = rw e
unary_linked p k Join e = rw e
unary_linked p k Ref e = rw e
unary_linked p k Read e = rw e
unary_linked p k Lock e = rw e
unary_linked p k Unlock e = rw e
unary_linked p k Post e = rw e
unary_linked p k Wait e = rw e
unary_linked p k Rdlock e = rw e
unary_linked p k Rdunlock e = rw e
unary_linked p k Wrlock e = rw e
unary_linked p k Wrunlock e = rw e
unary_linked p k Call e = rw e

binary_linked : (p : List ℕ) (k : ℕ) (w : BinaryWord) → get_or p (0 + k) 0 ≡ code_of (Binary w) →
    linked_step p k ≡ joined (joined p (k + 1) (after_first w k (continuation p k))) (second p k) (after_second w k (continuation p k))
unfolding linked_step linked_parts shape_at rule_of printed
binary_linked p k Let e = rw e
binary_linked p k If e = rw e
binary_linked p k Spawn e = rw e
binary_linked p k Write e = rw e

-- ------------------------------------------------------------------ linking

-- the continuations of an expression at k have been stored behind its own
pub record Links (p p' : List ℕ) (c k : ℕ) (e : Expr) : Type 0 where
  pub region : Region p' (continuations_at + k) (continuations c k e)
  pub changed : ChangedWithin (continuations_at + k + 1) (continuations_at + k + size e) p p'

region_cons : {p : List ℕ} {b x : ℕ} {xs : List ℕ} → get_or p b 0 ≡ x → b < length p → Region p (b + 1) xs → Region p b (x ∷ xs)
region_cons {p} {b} {x} {xs} e l r = record { fits = omega (arith, r.fits); at = at }
  where
    at : (i : ℕ) → i < length (x ∷ xs) → get_or p (b + i) 0 ≡ get_or (x ∷ xs) i 0
    at zero h = ap (λ (j : ℕ). get_or p j 0) (omega arith) ∙ e
    at (suc i) h = ap (λ (j : ℕ). get_or p j 0) (omega arith) ∙ r.at i (omega (arith, h))

-- an expression at k that stands in the columns and has its own continuation
pub record Unlinked (p : List ℕ) (c k : ℕ) (e : Expr) : Type 0 where
  pub standing : Standing p k e
  pub long : length p ≡ program_size
  pub fits : k + size e ≤ 256
  pub own : continuation p k ≡ c

abbrev pub Linking : (c k : ℕ) → Expr → Type 0
Linking c k e = (p : List ℕ) → Unlinked p c k e → Links p (linked_from p k (size e)) c k e

pub some_steps : (e : Expr) → 1 ≤ size e
unfolding size
some_steps (leaf w q v) = omega arith
some_steps (unary w q v e) = omega arith
some_steps (binary w q v e₁ e₂) = omega arith

unary_links : (w : UnaryWord) (q : Position) (v : ℕ) (e : Expr) (c k : ℕ) → Linking k (k + 1) e → Linking c k (unary w q v e)
unfolding linked_from continuations size continuation joined
unary_links w q v e c k rec p U =
    subst (λ (p₁ : List ℕ). Links p (linked_from p₁ (k + 1) (size e)) c k (unary w q v e)) (sym (unary_linked p k w (unary_head w q v e U.standing).code))
    (record {
      region = region_cons (rest.changed.kept (continuations_at + k) (inl (omega arith)) ∙ get_or-set_other p a (continuations_at + k) k 0 (λ y. omega (arith, y)) ∙ U.own)
          (let l = rest.changed.long in omega (arith, l, long₁, U.fits)) (region_moved a (continuations_at + k + 1) (omega arith) rest.region);
      changed = changed_then lo hi (changed_store lo hi p a k (omega arith) (let n = some_steps e in omega (arith, n))) (changed_wider lo hi (omega arith) (omega arith) rest.changed);
    })
  where
    a : ℕ
    a = continuations_at + (k + 1)

    lo : ℕ
    lo = continuations_at + k + 1

    hi : ℕ
    hi = continuations_at + k + suc (size e)

    long₁ : length (set p a k) ≡ program_size
    long₁ = length-set p a k ∙ U.long

    rest : Links (set p a k) (linked_from (set p a k) (k + 1) (size e)) k (k + 1) e
    rest =
        let n = some_steps e in
        let l = U.fits in
        rec (set p a k) (record {
          standing = standing_kept e (k + 1) (changed_store continuations_at procedures_at p a k (omega arith) (omega arith)) (omega arith) (standing_part w q v e U.standing);
          long = long₁;
          fits = omega arith;
          own = get_or-set_same p a k 0 (omega (arith, U.long));
        })

module _ {w : BinaryWord} {q : Position} {v : ℕ} {e₁ e₂ : Expr} {c k : ℕ} {p : List ℕ} (U : Unlinked p c k (binary w q v e₁ e₂))
    (rec₁ : Linking (after_first w k c) (k + 1) e₁) (rec₂ : Linking (after_second w k c) (k + 1 + size e₁) e₂) where
  abbrev a : ℕ
  a = continuations_at + (k + 1)

  abbrev b : ℕ
  b = continuations_at + (k + 1 + size e₁)

  abbrev p₀ : List ℕ
  p₀ = set p a (after_first w k c)

  abbrev p₁ : List ℕ
  p₁ = set p₀ b (after_second w k c)

  abbrev p₂ : List ℕ
  p₂ = linked_from p₁ (k + 1) (size e₁)

  abbrev p₃ : List ℕ
  p₃ = linked_from p₂ (k + 1 + size e₁) (size e₂)

  h : k + suc (size e₁ + size e₂) ≤ 256
  unfolding size
  h = U.fits

  z : get_or p (continuations_at + k) 0 ≡ c
  unfolding continuation
  z = U.own

  -- the step's own turn
  stored : linked_step p k ≡ p₁
  unfolding continuation second joined
  stored =
      let y : get_or p (544 + 1 + k) 0 ≡ k + 1 + size e₁ = ap (λ (i : ℕ). get_or p i 0) (omega arith) ∙ standing_end e₁ (standing_first w q v e₁ e₂ U.standing) in
      binary_linked p k w (binary_head w q v e₁ e₂ U.standing).code ∙ rw (z, y)

  long₁ : length p₁ ≡ program_size
  long₁ = length-set p₀ b (after_second w k c) ∙ length-set p a (after_first w k c) ∙ U.long

  within : (lo hi : ℕ) → lo ≤ a → b < hi → ChangedWithin lo hi p p₁
  within lo hi l m =
      let n = some_steps e₁ in
      changed_then lo hi (changed_store lo hi p a (after_first w k c) l (omega (arith, m))) (changed_store lo hi p₀ b (after_second w k c) (omega (arith, l)) m)

  first : Links p₁ p₂ (after_first w k c) (k + 1) e₁
  unfolding continuation
  first =
      let n = some_steps e₁ in
      let m = some_steps e₂ in
      let l = h in
      rec₁ p₁ (record {
        standing = standing_kept e₁ (k + 1) (within continuations_at procedures_at (omega arith) (omega arith)) (omega arith) (standing_first w q v e₁ e₂ U.standing);
        long = long₁;
        fits = omega arith;
        own = get_or-set_other p₀ b a (after_second w k c) 0 (λ y. omega (arith, y, n)) ∙ get_or-set_same p a (after_first w k c) 0 (omega (arith, U.long));
      })

  long₂ : length p₂ ≡ program_size
  long₂ = first.changed.long ∙ long₁

  rest : Links p₂ p₃ (after_second w k c) (k + 1 + size e₁) e₂
  unfolding continuation
  rest =
      let m = some_steps e₂ in
      let l = h in
      rec₂ p₂ (record {
        standing = standing_kept e₂ (k + 1 + size e₁)
            (changed_then continuations_at procedures_at (within continuations_at procedures_at (omega arith) (omega arith)) (changed_wider continuations_at procedures_at (omega arith) (omega arith) first.changed))
            (omega arith) (standing_second w q v e₁ e₂ U.standing);
        long = long₂;
        fits = omega arith;
        own = first.changed.kept b (inr (omega arith)) ∙ get_or-set_same p₀ b (after_second w k c) 0 (let n = length-set p a (after_first w k c) in omega (arith, n, U.long));
      })

  own : get_or p₃ (continuations_at + k) 0 ≡ c
  own =
      rest.changed.kept (continuations_at + k) (inl (omega arith))
      ∙ first.changed.kept (continuations_at + k) (inl (omega arith))
      ∙ get_or-set_other p₀ b (continuations_at + k) (after_second w k c) 0 (λ y. omega (arith, y))
      ∙ get_or-set_other p a (continuations_at + k) (after_first w k c) 0 (λ y. omega (arith, y))
      ∙ z

  abbrev lo : ℕ
  lo = continuations_at + k + 1

  abbrev hi : ℕ
  hi = continuations_at + k + suc (size e₁ + size e₂)

  both_linked : Links p p₃ c k (binary w q v e₁ e₂)
  unfolding size
  both_linked =
      let n = continuations_length e₁ (after_first w k c) (k + 1) in
      let m = some_steps e₂ in
      let l = rest.changed.long in
      record {
        region = subst (Region p₃ (continuations_at + k)) (sym (continuations_binary w c k v q e₁ e₂))
            (region_cons own (omega (arith, l, long₂, h))
            (region_append (continuations (after_first w k c) (k + 1) e₁) (continuations (after_second w k c) (k + 1 + size e₁) e₂)
            (region_moved a lo (omega arith) (region_kept rest.changed (inl (omega (arith, n))) first.region))
            (region_moved b (lo + length (continuations (after_first w k c) (k + 1) e₁)) (omega (arith, n)) rest.region)));
        changed = changed_then lo hi (within lo hi (omega arith) (omega (arith, m)))
            (changed_then lo hi (changed_wider lo hi (omega arith) (omega arith) first.changed) (changed_wider lo hi (omega arith) (omega arith) rest.changed));
      }

binary_links : (w : BinaryWord) (q : Position) (v : ℕ) (e₁ e₂ : Expr) (c k : ℕ) → Linking (after_first w k c) (k + 1) e₁ → Linking (after_second w k c) (k + 1 + size e₁) e₂ →
    Linking c k (binary w q v e₁ e₂)
unfolding linked_from size
binary_links w q v e₁ e₂ c k rec₁ rec₂ p U =
    subst (λ (p' : List ℕ). Links p p' c k (binary w q v e₁ e₂))
    (sym (ap (λ (p' : List ℕ). linked_from p' (k + 1) (size e₁ + size e₂)) (stored U rec₁ rec₂) ∙ linked_split (p₁ U rec₁ rec₂) (k + 1) (size e₁) (size e₂)))
    (both_linked U rec₁ rec₂)

leaf_links : (w : LeafWord) (q : Position) (v c k : ℕ) → Linking c k (leaf w q v)
unfolding linked_from continuations size continuation
leaf_links w q v c k p U =
    subst (λ (p' : List ℕ). Links p p' c k (leaf w q v)) (sym (leaf_linked p k w (leaf_head w q v U.standing).code))
    (record {
      region = region_cons U.own (omega (arith, U.long, U.fits)) (record { fits = omega (arith, U.long, U.fits); at = λ i l. absurd (omega (arith, l)) });
      changed = changed_nothing (continuations_at + k + 1) (continuations_at + k + 1) p;
    })

pub links : (e : Expr) (c k : ℕ) → Linking c k e
links (leaf w q v) c k = leaf_links w q v c k
links (unary w q v e) c k = unary_links w q v e c k (links e k (k + 1))
links (binary w q v e₁ e₂) c k = binary_links w q v e₁ e₂ c k (links e₁ (after_first w k c) (k + 1)) (links e₂ (after_second w k c) (k + 1 + size e₁))
