-- What the parts of `fill_maps` ask and promise of the new maps, a location at a time.
use Rattle.std.specs.Prelude.{◌≡◌, Bool, true, List, ℕ, ◌+◌, ◌*◌, ◌≤◌, ◌<◌, length, get_or, Option, None, Some, Result, Ok, Err}
use Rattle.spec.specs.Program.{Program}
use Rattle.spec.specs.Split.{Split}
use Rattle.workspace.specs.Layout.{posts_at, maps_at, stride, empty_map, map_cell}
use Rattle.workspace.specs.Region.{ChangedWithin}
use Rattle.spec.specs.declared.Header.{Header}
use Rattle.sheets.specs.Answers.{HoldsBoth}
use Rattle.fill_theory.specs.GreatestMaps as greatest
use Rattle.fill_theory.specs.Answer.{number_limit, map_at_most}
use Rattle.spec.specs.declared.Refusal.{Refusal}
use Rattle.spec.specs.declared.Refusal.TheVariants.{NoAfterMaps}
use Rattle.fill.specs.Stages.{MapsGiven}

-- ------------------------------------------------------------------ storing

-- there is room for the new maps
pub record Room (posts : List ℕ) (maps location : ℕ) : Type 0 where
  pub room : maps + length posts ≤ empty_map
  pub within : location < stride

-- only new maps change, and they at one location
pub record OneColumn (maps location : ℕ) (w w' : List ℕ) : Type 0 where
  pub behind : ChangedWithin (maps_at + stride * maps) (maps_at + stride * empty_map) w w'
  pub others : (m l : ℕ) → l < stride → (l ≡ location → ⊥) → map_cell w' (record { 0 = m }) l ≡ map_cell w (record { 0 = m }) l

-- the new maps have the posts at the location
pub record ColumnStored (w : List ℕ) (maps location : ℕ) (posts : List ℕ) : Type 0 where
  pub at : (i : ℕ) → i < length posts → map_cell w (record { 0 = maps + i }) location ≡ get_or posts i 0

-- the posts are stored if no post is larger than a map can have
pub record PostsStored (posts : List ℕ) (maps location : ℕ) (r : Bool) (w w' : List ℕ) : Type 0 where
  pub fits : r ≡ map_at_most number_limit posts
  pub one : OneColumn maps location w w'
  pub stored : r ≡ true → ColumnStored w' maps location posts

-- each step shows a new map of its own, and nothing else changes
pub record PostsShown (steps maps : ℕ) (w w' : List ℕ) : Type 0 where
  pub changed : ChangedWithin posts_at (posts_at + 256) w w'
  pub shown : (i : ℕ) → i < steps → get_or w' (posts_at + i) 0 ≡ maps + i

-- ------------------------------------------------------------------ a column

-- some sheets are held, and they have the location
pub record ColumnGiven (w : List ℕ) (header : Header) (steps procedures location : ℕ) : Type 0 where
  pub given : MapsGiven w header steps procedures
  pub within : location < header.locations

-- 41 if there are no posts, else whether none is too large; if so, they are stored
module _ (maps location : ℕ) (w : List ℕ) where
  abbrev pub ColumnFound : Option (List ℕ) → Result Bool Refusal → Type 0
  ColumnFound None r = r ≡ Err NoAfterMaps
  ColumnFound (Some ps) r = (r ≡ Ok (map_at_most number_limit ps)) × (map_at_most number_limit ps ≡ true → ColumnStored w maps location ps)

-- from w to w', for whichever sheets w holds
pub record ColumnFilled (w : List ℕ) (header : Header) (steps procedures location : ℕ) (r : Result Bool Refusal) (w' : List ℕ) : Type 0 where
  pub one : OneColumn header.maps location w w'
  pub answers : (P : Program) (S : Split) → HoldsBoth w header steps procedures P S → location < header.locations
      → ColumnFound header.maps location w' (greatest.posts_at P S location) r
