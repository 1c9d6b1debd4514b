-- When two types of a split agree. A type is read as a tree, in which contents and maps stand themselves, not by number; two types
-- agree when their trees are the same.
use Rattle.std.specs.Prelude.{List, [], ◌∷◌, ◌++◌, map, Bool, true, false, ◌&&◌, eqb, get_or}
use Rattle.spec.specs.Choice.{when◌then◌else◌}
use Rattle.spec.specs.Split.{Map, Split, map_at}
use Rattle.spec.specs.Kinds.{Kind, int, ref, kind_of, same_kind, is, ref_location, content, maps}
use Rattle.spec.specs.Maps.{same_numbers}
use Rattle.spec.specs.declared.TypeNumber.{TypeNumber}
use Rattle.spec.specs.declared.Location.{Location}
use Rattle.spec.specs.declared.TypeLine.{TypeLine}

-- ------------------------------------------------------------------ types as trees

-- a type without a content has the maps of its line, in their order; a ref has a location and a content
pub data Tree : Type 0 where
  plain : Kind → List Map → Tree
  ref_to : Location → (content : Tree) → Tree

unfoldable pub same_maps : List Map → List Map → Bool
same_maps [] [] = true
same_maps [] (n ∷ ns) = false
same_maps (m ∷ ms) [] = false
same_maps (m ∷ ms) (n ∷ ns) = same_numbers m n && same_maps ms ns

-- "Two types now agree when their kinds agree and their maps hold equal numbers; refs must have the same location, and their
-- contents are compared the same way, down to the last."
unfoldable pub same_tree : Tree → Tree → Bool
same_tree (plain k ms) (plain l ns) = same_kind k l && same_maps ms ns
same_tree (plain k ms) (ref_to q d) = false
same_tree (ref_to p c) (plain l ns) = false
same_tree (ref_to p c) (ref_to q d) = eqb p.0 q.0 && same_tree c d

-- ------------------------------------------------------------------ the types of a split

module _ (S : Split) where
  -- the tree of a type line. A content has a smaller number than its ref, so its tree is among those of the lines before,
  -- and the tree of int that stands for a missing one is never seen.
  unfoldable pub tree_of : (before : List Tree) → TypeLine → Tree
  tree_of before x =
      when is ref x
      then ref_to (ref_location x) (get_or before (content x).0 (plain int []))
      else plain (kind_of x) (map (map_at S) (maps x))

  -- the trees of the lines before, then those of the lines given, one after the other
  unfoldable pub trees : (before : List Tree) → List TypeLine → List Tree
  trees before [] = before
  trees before (x ∷ xs) = trees (before ++ tree_of before x ∷ []) xs

  -- the tree of a type; int past the last, which 22 refuses
  unfoldable pub tree : TypeNumber → Tree
  tree t = get_or (trees [] S.types) t.0 (plain int [])

  unfoldable pub agree : TypeNumber → TypeNumber → Bool
  agree t u = same_tree (tree t) (tree u)
