-- A split whose step lines leave the after-maps out, with maps filled in. It is read as a split whose rows show map 0 for their
-- posts; nothing here looks at those.
use Rattle.std.specs.Prelude.{List, [], ◌∷◌, ◌++◌, ℕ, ◌+◌, length}
use Rattle.spec.specs.Split.{Map, Row, Split}

-- each row shows a map of its own, numbered from m upward
unfoldable pub with_posts : (m : ℕ) → List Row → List Row
with_posts m [] = []
with_posts m (r ∷ rs) = record { type = r.type; post = record { 0 = m }; start = r.start } ∷ with_posts (m + 1) rs

-- "a new map for each step in step order after the given ones [..]. The rest of each line is kept, and M grows by n"
unfoldable pub filled : Split → List Map → Split
filled S σ = let H = S.header in record {
  header = record {
    heading = H.heading;
    denominator = H.denominator;
    locations = H.locations;
    types = H.types;
    maps = H.maps + length σ;
    start = H.start;
  };
  types = S.types;
  maps = S.maps ++ σ;
  signatures = S.signatures;
  rows = with_posts H.maps S.rows;
}
