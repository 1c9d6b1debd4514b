-- The laws of type agreement: two types agree exactly when they are the same tree, and the tree of a type is that of its line.
-- What else is shown of agreement goes by these laws.
use mathlib.Core.Path.{◌≡◌, refl, sym, ap, ◌∙◌}
use mathlib.Core.List.{List, [], ◌∷◌, ◌++◌, map}
use mathlib.Core.Bool.{Bool, true, false, ◌&&◌}
use mathlib.Core.Logic.{◌↔◌}
use Prim.Native.Nat.{ℕ, zero, suc, ◌+◌, ◌<◌}
use native.Mathlib.Omega.{arith}
use native.Mathlib.Decide.{dec_lt}
use lib.ListN.{length, get_or, length-append, get_or-append, get_or-eq_default}
use lib.Seq.{get_or-append_seam}
use lib.Dec.{eqb}
use borrow.Author.Tests.{eqb-true, eq-eqb}
use Rattle.spec.specs.Choice.{when◌then◌else◌}
use Rattle.spec.specs.Program.{Program}
use Rattle.spec.specs.Split.{Map, Split, type_at, map_at}
use Rattle.spec.specs.Ranges.{InRange}
use Rattle.spec.specs.Maps.{◌=ᵐ◌, holds_everywhere, same_numbers}
use Rattle.spec.specs.Kinds.{int, ref, kind_of, same_kind, is, ref_location, content, maps}
use Rattle.spec.specs.Agreement.{Tree, plain, ref_to, same_maps, same_tree, tree_of, trees, tree, agree}
use Rattle.spec.specs.declared.TypeNumber.{TypeNumber}
use Rattle.spec.specs.declared.MapNumber.{MapNumber}
use Rattle.spec.specs.declared.Location.{Location}
use Rattle.spec.specs.declared.TypeLine.{TypeLine}
use Rattle.spec.specs.declared.TypeLine.TheVariants.{Int, Ref, Lock}
use Rattle.spec.proofs.Clashes.{true_is_not_false}
use Rattle.spec.proofs.Tests.{both_true}
use Rattle.spec.proofs.TypeKinds.{same_kind_equal, same_kind_itself, is_of}
use Rattle.spec.proofs.Maps.{nowhere_none, none_equal, equal_none}

-- ------------------------------------------------------------------ the same tree

pub same_numbers_equal : (m n : Map) → same_numbers m n ≡ true → m ≡ n
unfolding same_numbers
same_numbers_equal m n h = none_equal (nowhere_none (m =ᵐ n) h)

pub same_numbers_itself : (m : Map) → same_numbers m m ≡ true
unfolding same_numbers holds_everywhere
same_numbers_itself m = rw (equal_none {m = m} {n = m} refl)

same_maps_equal : (ms ns : List Map) → same_maps ms ns ≡ true → ms ≡ ns
unfolding same_maps
same_maps_equal [] [] h = refl
same_maps_equal [] (n ∷ ns) h = true_is_not_false (sym h)
same_maps_equal (m ∷ ms) [] h = true_is_not_false (sym h)
same_maps_equal (m ∷ ms) (n ∷ ns) h =
    let both = both_true _ (same_maps ms ns) h in
    ap (λ x. x ∷ ms) (same_numbers_equal m n both.0) ∙ ap (λ xs. n ∷ xs) (same_maps_equal ms ns both.1)

same_maps_itself : (ms : List Map) → same_maps ms ms ≡ true
unfolding same_maps
same_maps_itself [] = refl
same_maps_itself (m ∷ ms) = rw (same_numbers_itself m) (same_maps_itself ms)

pub same_tree_equal : (a b : Tree) → same_tree a b ≡ true → a ≡ b
unfolding same_tree
same_tree_equal (plain k ms) (plain l ns) h =
    let both = both_true _ (same_maps ms ns) h in
    ap (λ x. plain x ms) (same_kind_equal k l both.0) ∙ ap (plain l) (same_maps_equal ms ns both.1)
same_tree_equal (plain k ms) (ref_to q d) h = true_is_not_false (sym h)
same_tree_equal (ref_to p c) (plain l ns) h = true_is_not_false (sym h)
same_tree_equal (ref_to p c) (ref_to q d) h =
    let both = both_true _ (same_tree c d) h in
    let located : p ≡ q = ap (λ l. record { 0 = l }) (eqb-true p.0 q.0 both.0) in
    ap (λ l. ref_to l c) located ∙ ap (ref_to q) (same_tree_equal c d both.1)

pub same_tree_itself : (a : Tree) → same_tree a a ≡ true
unfolding same_tree
same_tree_itself (plain k ms) = rw (same_kind_itself k) (same_maps_itself ms)
same_tree_itself (ref_to p c) = rw (eq-eqb p.0 p.0 refl) (same_tree_itself c)

-- the content of a ref has a smaller number than n
abbrev ContentBelow : (n : ℕ) → TypeLine → Type 0
ContentBelow n x = is ref x ≡ true → (content x).0 < n

lock_without_content : (n : ℕ) {x : TypeLine} {i o : MapNumber} → x ≡ Lock i o → ContentBelow n x
unfolding is same_kind
lock_without_content n e h = true_is_not_false (sym (rw e at h))

-- ------------------------------------------------------------------ agreement

module _ (S : Split) where
  pub agree_same_tree : (t u : TypeNumber) → agree S t u ≡ true ↔ tree S t ≡ tree S u
  unfolding agree
  agree_same_tree t u = (same_tree_equal (tree S t) (tree S u), λ e. rw e (same_tree_itself (tree S u)))

  pub agree_reflexive : (t : TypeNumber) → agree S t t ≡ true
  agree_reflexive t = (agree_same_tree t t).1 refl

  pub agree_symmetric : (t u : TypeNumber) → agree S t u ≡ true → agree S u t ≡ true
  agree_symmetric t u h = (agree_same_tree u t).1 (sym ((agree_same_tree t u).0 h))

  pub agree_transitive : (t u v : TypeNumber) → agree S t u ≡ true → agree S u v ≡ true → agree S t v ≡ true
  agree_transitive t u v h k = (agree_same_tree t v).1 ((agree_same_tree t u).0 h ∙ (agree_same_tree u v).0 k)

  -- ------------------------------------------------------------------ the tree of a line

  -- what is before stays
  trees_kept : (before : List Tree) (xs : List TypeLine) (i : ℕ) → i < length before → get_or (trees S before xs) i (plain int []) ≡ get_or before i (plain int [])
  unfolding trees
  trees_kept before [] i h = refl
  trees_kept before (x ∷ xs) i h =
      trees_kept (before ++ tree_of S before x ∷ []) xs i (omega (arith, length-append before (tree_of S before x ∷ [])))
      ∙ get_or-append before (tree_of S before x ∷ []) (plain int []) i h

  trees_counted : (before : List Tree) (xs : List TypeLine) → length (trees S before xs) ≡ length before + length xs
  unfolding trees
  trees_counted before [] = omega arith
  trees_counted before (x ∷ xs) =
      omega (arith, trees_counted (before ++ tree_of S before x ∷ []) xs, length-append before (tree_of S before x ∷ []))

  -- a line has the same tree among all trees as among those before it
  tree_of_more : (before : List Tree) (xs : List TypeLine) (x : TypeLine) → ContentBelow (length before) x
      → tree_of S before x ≡ tree_of S (trees S before xs) x
  unfolding tree_of
  tree_of_more before xs x h = by_kind (is ref x) refl
    where
      by_kind : (b : Bool) → is ref x ≡ b
          → (when b then ref_to (ref_location x) (get_or before (content x).0 (plain int [])) else plain (kind_of x) (map (map_at S) (maps x)))
          ≡ (when b then ref_to (ref_location x) (get_or (trees S before xs) (content x).0 (plain int [])) else plain (kind_of x) (map (map_at S) (maps x)))
      by_kind true e = ap (ref_to (ref_location x)) (sym (trees_kept before xs (content x).0 (h e)))
      by_kind false e = refl

  trees_at : (before : List Tree) (xs : List TypeLine) (j : ℕ) → j < length xs → ContentBelow (length before + j) (get_or xs j Int)
      → get_or (trees S before xs) (length before + j) (plain int []) ≡ tree_of S (trees S before xs) (get_or xs j Int)
  unfolding trees
  trees_at before [] j l h = absurd (omega arith)
  trees_at before (x ∷ xs) zero l h =
      let more = before ++ tree_of S before x ∷ [] in
      let long : length more ≡ length before + 1 = length-append before (tree_of S before x ∷ []) in
      let here : length before + 0 ≡ length before = omega arith in
      rw here
      (trees_kept more xs (length before) (omega (arith, long))
      ∙ get_or-append_seam before (tree_of S before x) [] (plain int [])
      ∙ tree_of_more before (x ∷ xs) x (rw here at h))
  trees_at before (x ∷ xs) (suc j) l h =
      let more = before ++ tree_of S before x ∷ [] in
      let long : length before + suc j ≡ length more + j = omega (arith, length-append before (tree_of S before x ∷ [])) in
      rw long (trees_at more xs j (omega arith) (rw long at h))

  -- the tree of a type is that of its line
  tree_of_line : (t : TypeNumber) → ContentBelow t.0 (type_at S t) → tree S t ≡ tree_of S (trees S [] S.types) (type_at S t)
  unfolding tree type_at tree_of is same_kind
  tree_of_line t h = by_cases (dec_lt t.0 (length S.types))
    where
      by_cases : Dec (t.0 < length S.types)
          → get_or (trees S [] S.types) t.0 (plain int []) ≡ tree_of S (trees S [] S.types) (get_or S.types t.0 Int)
      by_cases (yes l) =
          let z : 0 + t.0 ≡ t.0 = omega arith in
          rw z at (trees_at [] S.types t.0 l (rw z h))
      by_cases (no l) =
          let none_there = get_or-eq_default S.types Int {n = t.0} (omega arith) in
          rw none_there
          (get_or-eq_default (trees S [] S.types) (plain int []) {n = t.0} (omega (arith, trees_counted [] S.types)))

  -- two locks that agree have maps of equal numbers
  pub locks_same_maps : (t u : TypeNumber) {i o j p : MapNumber} → type_at S t ≡ Lock i o → type_at S u ≡ Lock j p → agree S t u ≡ true
      → (map_at S i ≡ map_at S j) × (map_at S o ≡ map_at S p)
  unfolding agree same_tree tree_of same_maps is same_kind
  locks_same_maps t u {i} {o} {j} {p} x y h =
      let trees_agree : same_tree (tree_of S (trees S [] S.types) (Lock i o)) (tree_of S (trees S [] S.types) (Lock j p)) ≡ true =
      rw (tree_of_line t (lock_without_content _ x), tree_of_line u (lock_without_content _ y), x, y) at h in
      let (first, rest) = both_true (same_numbers (map_at S i) (map_at S j)) (same_numbers (map_at S o) (map_at S p) && true) trees_agree in
      (same_numbers_equal _ _ first, same_numbers_equal _ _ (both_true _ true rest).0)

-- ------------------------------------------------------------------ a sheet's types

module _ {P : Program} (S : Split) (R : InRange P S) where
  -- a type line that is no int has a number of the sheet
  pub numbered : (t : TypeNumber) (x : TypeLine) → type_at S t ≡ x → (x ≡ Int → ⊥) → t.0 < length S.types
  unfolding type_at
  numbered t x e other = by_cases (dec_lt t.0 (length S.types))
    where
      by_cases : Dec (t.0 < length S.types) → t.0 < length S.types
      by_cases (yes h) = h
      by_cases (no h) = absurd (other (sym e ∙ get_or-eq_default S.types Int (omega arith)))

  pub content_smaller : (t : TypeNumber) (p : Location) (c : TypeNumber) → type_at S t ≡ Ref p c → c.0 < t.0
  unfolding type_at
  content_smaller t p c e =
      (R.ref_place t.0 p c (numbered t (Ref p c) e (λ z. let clash : ◌≡◌ {A = ℕ} 0 1 = cc in omega arith)) e).1

  content_below : (t : TypeNumber) (x : TypeLine) → type_at S t ≡ x → ContentBelow t.0 x
  content_below t x e h = content_smaller t (ref_location x) (content x) (e ∙ is_of ref x h)

  -- the tree of a type is that of its line, with its content among all the trees
  pub tree_of_type : (t : TypeNumber) (x : TypeLine) → type_at S t ≡ x → tree S t ≡ tree_of S (trees S [] S.types) x
  tree_of_type t x e = tree_of_line S t (rw e (content_below t x e)) ∙ ap (tree_of S (trees S [] S.types)) e

  -- ------------------------------------------------------------------ agreement, line by line

  module _ (t u : TypeNumber) where
    pub agree_refs : (p q : Location) (c d : TypeNumber) → type_at S t ≡ Ref p c → type_at S u ≡ Ref q d
        → agree S t u ≡ (eqb p.0 q.0 && agree S c d)
    unfolding agree same_tree tree_of tree is same_kind ref_location content
    agree_refs p q c d e g = rw (tree_of_type t (Ref p c) e, tree_of_type u (Ref q d) g)

    pub agree_plain_lem : (x y : TypeLine) → type_at S t ≡ x → type_at S u ≡ y → is ref x ≡ false → is ref y ≡ false
        → agree S t u ≡ (same_kind (kind_of x) (kind_of y) && same_maps (map (map_at S) (maps x)) (map (map_at S) (maps y)))
    unfolding agree same_tree tree_of
    agree_plain_lem x y e g p q = rw (tree_of_type t x e, tree_of_type u y g, p, q)
