-- Agreement of types in the work space: how it goes down a pair of refs, and that it is document 02's for the split that the
-- work space holds.
use mathlib.Core.Path.{◌≡◌, refl, sym}
use mathlib.Core.List.{List, [], ◌∷◌, map}
use mathlib.Core.Bool.{Bool, true, false, ◌&&◌}
use Prim.Native.Nat.{ℕ, zero, suc, ◌<◌, ◌≤◌}
use native.Mathlib.Omega.{arith}
use lib.Dec.{eqb, ltb}
use lib.ListN.{length, get_or}
use borrow.Author.Tests.{eq-eqb, eqb-true, ne_eqb, lt-ltb, le-ltb, ltb-true}
use Rattle.spec.specs.Choice.{when◌then◌else◌}
use Rattle.spec.specs.Program.{Program}
use Rattle.spec.specs.Split.{Split, type_at, map_at}
use Rattle.spec.specs.Maps.{holds_everywhere, same_numbers, ◌≥ᵐ◌}
use Rattle.spec.specs.Agreement.{Tree, plain, ref_to, same_maps, same_tree, tree_of, trees, tree, agree}
use Rattle.spec.specs.Kinds.{int, ref, kind_of, same_kind, is, ref_location, content, maps}
use Rattle.spec.specs.Conditions.{contains, looser_lock, may_show}
use Rattle.spec.specs.Verdict.{takes_enough}
use Rattle.spec.specs.Ranges.{AllBelow, InRange}
use Rattle.spec.specs.declared.Location.{Location}
use Rattle.spec.specs.declared.MapNumber.{MapNumber}
use Rattle.spec.specs.declared.TypeNumber.{TypeNumber}
use Rattle.spec.specs.declared.TypeLine.{TypeLine}
use Rattle.spec.specs.declared.TypeLine.TheVariants.{Ref}
use Rattle.spec.proofs.Fits.{maps_fit, first_fits, second_fits}
use Rattle.spec.proofs.TypeKinds.{is_same, kind_is, is_turned, is_of}
use Rattle.spec.proofs.Agreement.{content_smaller, tree_of_type, agree_reflexive}
use Rattle.workspace.specs.Layout as layout
use Rattle.workspace.specs.Holds.{HoldsSplit}
use Rattle.workspace.proofs.Shown.{type_shown, map_stands}
use Rattle.conditions.specs.Relation.{everywhere}
use Rattle.conditions.specs.Agreement.{maps_agree, lines_agree, agree_below, agree_in, may_show_in, takes_enough_in}
use Rattle.conditions.specs.declared.Relation.TheVariants.{Equal, AtLeast}
use Rattle.conditions.proofs.Shown.{equal_shown, at_least_shown}

-- ------------------------------------------------------------------ down a pair of types

module _ (w : List ℕ) (n : ℕ) where
  lines_same : (f g : TypeNumber → TypeNumber → Bool) → ((c d : TypeNumber) → f c d ≡ g c d) → (x y : TypeLine)
      → lines_agree w n f x y ≡ lines_agree w n g x y
  unfolding lines_agree
  lines_same f g h x y = rw (h (content x) (content y))

  -- contents are compared in two refs alone
  plain_lines : (f g : TypeNumber → TypeNumber → Bool) (x y : TypeLine) → (is ref x && is ref y) ≡ false → lines_agree w n f x y ≡ lines_agree w n g x y
  unfolding lines_agree
  plain_lines f g x y = either (is ref x) refl
    where
      either : (b : Bool) → is ref x ≡ b → (b && is ref y) ≡ false
          → (is (kind_of x) y && (when b then eqb (ref_location x).0 (ref_location y).0 && f (content x) (content y) else maps_agree w n (maps x) (maps y)))
          ≡ (is (kind_of x) y && (when b then eqb (ref_location x).0 (ref_location y).0 && g (content x) (content y) else maps_agree w n (maps x) (maps y)))
      either true e h = rw (kind_is ref x e, h)
      either false e h = refl

  -- any bound above the first type's number will do
  any_bound : (b b' : ℕ) (t u : TypeNumber) → t.0 < b → t.0 < b' → agree_below w n b t u ≡ agree_below w n b' t u
  unfolding agree_below
  any_bound zero b' t u p q = absurd (omega arith)
  any_bound (suc b) zero t u p q = absurd (omega arith)
  any_bound (suc b) (suc b') t u p q =
      rw (lines_same _ _ (λ c d. either c d (λ l. any_bound b b' c d (omega arith) (omega arith)) (ltb c.0 t.0) refl) (layout.type_at w t) (layout.type_at w u))
    where
      either : (c d : TypeNumber) → (c.0 < t.0 → agree_below w n b c d ≡ agree_below w n b' c d) → (s : Bool) → ltb c.0 t.0 ≡ s
          → (s && agree_below w n b c d) ≡ (s && agree_below w n b' c d)
      either c d h true e = h (ltb-true c.0 t.0 e)
      either c d h false e = refl

  -- one type
  pub itself_agrees : (t u : TypeNumber) → t.0 ≡ u.0 → agree_in w n t u ≡ true
  unfolding agree_in agree_below
  itself_agrees t u h = rw (eq-eqb _ _ h)

  -- two types that are not both refs
  pub plain_agree : (t u : TypeNumber) → (t.0 ≡ u.0 → ⊥) → (is ref (layout.type_at w t) && is ref (layout.type_at w u)) ≡ false
      → agree_in w n t u ≡ lines_agree w n (λ c d. false) (layout.type_at w t) (layout.type_at w u)
  unfolding agree_in agree_below
  plain_agree t u two h = rw (ne_eqb _ _ two) (plain_lines _ _ (layout.type_at w t) (layout.type_at w u) h)

  -- two refs: at another location, with a content that is not smaller, with contents to compare
  module _ (t u : TypeNumber) {p q : Location} {c d : TypeNumber} (two : t.0 ≡ u.0 → ⊥) (e : layout.type_at w t ≡ Ref p c) (g : layout.type_at w u ≡ Ref q d) where
    pub refs_apart : (p.0 ≡ q.0 → ⊥) → agree_in w n t u ≡ false
    unfolding agree_in agree_below lines_agree is same_kind ref_location
    refs_apart h = rw (ne_eqb _ _ two, e, g, ne_eqb _ _ h)

    pub refs_not_smaller : p.0 ≡ q.0 → t.0 ≤ c.0 → agree_in w n t u ≡ false
    unfolding agree_in agree_below lines_agree is same_kind ref_location content
    refs_not_smaller h l = rw (ne_eqb _ _ two, e, g, eq-eqb _ _ h, le-ltb _ _ l)

    pub refs_by_contents : p.0 ≡ q.0 → c.0 < t.0 → agree_in w n t u ≡ agree_in w n c d
    unfolding agree_in agree_below lines_agree is same_kind ref_location content
    refs_by_contents h l =
        rw (ne_eqb _ _ two, e, g, eq-eqb _ _ h, lt-ltb _ _ l) (any_bound t.0 (suc c.0) c d l (omega arith))

-- ------------------------------------------------------------------ the split that the work space holds

-- two types with one number are one type, and agree
one_agrees : (S : Split) (t u : TypeNumber) → t.0 ≡ u.0 → agree S t u ≡ true
one_agrees S t u e =
    let one : t ≡ u = λ i. record { 0 = e i } in
    rw (← one) (agree_reflexive S t)

one_or_two : (S : Split) (t u : TypeNumber) (b : Bool) → b ≡ agree S t u → (when eqb t.0 u.0 then true else b) ≡ agree S t u
one_or_two S t u b h = either (eqb t.0 u.0) refl
  where
    either : (one : Bool) → eqb t.0 u.0 ≡ one → (when one then true else b) ≡ agree S t u
    either true e = sym (one_agrees S t u (eqb-true _ _ e))
    either false e = h

module _ (w : List ℕ) (S : Split) (P : Program) (H : HoldsSplit w S) (R : InRange P S) (n : ℕ) (located : n ≡ S.header.locations) where
  same_numbers_shown : (k h : MapNumber) → k.0 < length S.maps → h.0 < length S.maps
      → everywhere w n (Equal k h) ≡ same_numbers (map_at S k) (map_at S h)
  unfolding everywhere same_numbers
  same_numbers_shown k h p q = rw (equal_shown located (map_stands w S P H R k p) (map_stands w S P H R h q))

  not_below_shown : (k h : MapNumber) → k.0 < length S.maps → h.0 < length S.maps
      → everywhere w n (AtLeast k h) ≡ holds_everywhere (map_at S k ≥ᵐ map_at S h)
  unfolding everywhere
  not_below_shown k h p q = rw (at_least_shown located (map_stands w S P H R k p) (map_stands w S P H R h q))

  maps_shown : (ks ms : List MapNumber) → AllBelow (length S.maps) ks → AllBelow (length S.maps) ms
      → maps_agree w n ks ms ≡ same_maps (map (map_at S) ks) (map (map_at S) ms)
  unfolding maps_agree same_maps
  maps_shown [] [] i j = refl
  maps_shown [] (m ∷ ms) i j = refl
  maps_shown (k ∷ ks) [] i j = refl
  maps_shown (k ∷ ks) (m ∷ ms) i j = rw (same_numbers_shown k m i.0 j.0, maps_shown ks ms i.1 j.1)

  -- lines whose contents and maps are shown
  lines_shown : (all : List Tree) (f : TypeNumber → TypeNumber → Bool) (x y : TypeLine)
      → AllBelow (length S.maps) (maps x) → AllBelow (length S.maps) (maps y)
      → ((p q : Location) (c d : TypeNumber) → x ≡ Ref p c → y ≡ Ref q d → f c d ≡ same_tree (get_or all c.0 (plain int [])) (get_or all d.0 (plain int [])))
      → lines_agree w n f x y ≡ same_tree (tree_of S all x) (tree_of S all y)
  unfolding lines_agree same_tree tree_of
  lines_shown all f x y i j h = by_kind (is ref x) (is ref y) refl refl
    where
      by_kind : (a b : Bool) → is ref x ≡ a → is ref y ≡ b
          → (is (kind_of x) y && (when a then eqb (ref_location x).0 (ref_location y).0 && f (content x) (content y) else maps_agree w n (maps x) (maps y)))
          ≡ same_tree
          (when a then ref_to (ref_location x) (get_or all (content x).0 (plain int [])) else plain (kind_of x) (map (map_at S) (maps x)))
          (when b then ref_to (ref_location y) (get_or all (content y).0 (plain int [])) else plain (kind_of y) (map (map_at S) (maps y)))
      by_kind true true e g = rw (kind_is ref x e, g, h _ _ _ _ (is_of ref x e) (is_of ref y g))
      by_kind true false e g = rw (kind_is ref x e, g)
      by_kind false true e g = rw (is_turned x y, kind_is ref y g, e)
      by_kind false false e g = rw (is_same (kind_of x) y, maps_shown (maps x) (maps y) i j)

  below_shown : (b : ℕ) (t u : TypeNumber) → t.0 < b → t.0 < length S.types → u.0 < length S.types
      → agree_below w n b t u ≡ agree S t u
  unfolding agree_below agree tree
  below_shown zero t u l i j = absurd (omega arith)
  below_shown (suc b) t u l i j =
      one_or_two S t u (lines_agree w n (λ c d. ltb c.0 t.0 && agree_below w n b c d) (layout.type_at w t) (layout.type_at w u))
      (rw (
        type_shown w S P H R t i,
        type_shown w S P H R u j,
        tree_of_type S R t _ refl,
        tree_of_type S R u _ refl,
      )
      (lines_shown (trees S [] S.types) _ (type_at S t) (type_at S u) (maps_fit R t) (maps_fit R u)
      (λ p q c d e g. down p q c d e g (below_shown b c d))))
    where
      down : (p q : Location) (c d : TypeNumber) → type_at S t ≡ Ref p c → type_at S u ≡ Ref q d
          → (c.0 < b → c.0 < length S.types → d.0 < length S.types → agree_below w n b c d ≡ same_tree (tree S c) (tree S d))
          → (ltb c.0 t.0 && agree_below w n b c d) ≡ same_tree (tree S c) (tree S d)
      down p q c d e g h =
          let c<t = content_smaller S R t p c e in
          let d<u = content_smaller S R u q d g in
          rw (lt-ltb _ _ c<t) (h (omega arith) (omega arith) (omega arith))

  pub agree_shown : (t u : TypeNumber) → t.0 < length S.types → u.0 < length S.types → agree_in w n t u ≡ agree S t u
  unfolding agree_in
  agree_shown t u i j = below_shown (suc t.0) t u (omega arith) i j

  pub may_show_shown : (t u : TypeNumber) → t.0 < length S.types → u.0 < length S.types → may_show_in w n t u ≡ may_show S t u
  unfolding may_show_in may_show looser_lock
  may_show_shown t u i j =
      rw (
        type_shown w S P H R t i,
        type_shown w S P H R u j,
        not_below_shown _ _ (first_fits R u) (first_fits R t),
        not_below_shown _ _ (second_fits R t) (second_fits R u),
        agree_shown t u i j,
      )

  pub takes_enough_shown : (t : TypeNumber) → t.0 < length S.types → takes_enough_in w n (layout.type_at w t) ≡ takes_enough S (type_at S t)
  unfolding takes_enough_in takes_enough
  takes_enough_shown t h = rw (type_shown w S P H R t h, not_below_shown _ _ (second_fits R t) (first_fits R t))

  pub contains_shown : (t u : TypeNumber) → t.0 < length S.types → u.0 < length S.types
      → contains (agree_in w n) (type_at S t) u ≡ contains (agree S) (type_at S t) u
  unfolding contains
  contains_shown t u i j = by_kind (is ref (type_at S t)) refl
    where
      by_kind : (b : Bool) → is ref (type_at S t) ≡ b → (b && agree_in w n (content (type_at S t)) u) ≡ (b && agree S (content (type_at S t)) u)
      by_kind true e =
          let smaller = content_smaller S R t _ (content (type_at S t)) (is_of ref (type_at S t) e) in
          agree_shown (content (type_at S t)) u (omega arith) j
      by_kind false e = refl
