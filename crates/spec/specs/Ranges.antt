-- What the ranges of a split sheet's lines come to: every number that is used as one of its kind is one of its kind.
-- This is no part of document 01's meaning, and no promise reaches it: it need not be believed. Well-formed sheets have it
-- (proofs/Ranges.antt), and so does a split that filling has filled in, which is no sheet yet. It stands here because what the work
-- space holds (crates/workspace) and what can be written (crates/text_theory) are both said with it, and of the crates below them there is
-- only this one.
use Rattle.std.specs.Prelude.{◌≡◌, List, [], ◌∷◌, ℕ, ◌≤◌, ◌<◌, length, get_or, Some}
use Rattle.spec.specs.Program.{Program}
use Rattle.spec.specs.Split.{Row, Split}
use Rattle.spec.specs.declared.Signature.{Signature}
use Rattle.spec.specs.Kinds.{maps}
use Rattle.spec.specs.declared.TypeNumber.{TypeNumber}
use Rattle.spec.specs.declared.MapNumber.{MapNumber}
use Rattle.spec.specs.declared.Location.{Location}
use Rattle.spec.specs.declared.TypeLine.TheVariants as declared_type

-- each of some maps has a number below n
abbrev pub AllBelow : (n : ℕ) → List MapNumber → Type 0
AllBelow n [] = Unit {0}
AllBelow n (m ∷ ms) = (m.0 < n) × AllBelow n ms

pub record InRange (P : Program) (S : Split) : Type 0 where
  pub denominator : (1 ≤ S.header.denominator) × (S.header.denominator ≤ 1000000000)
  pub locations : (1 ≤ S.header.locations) × (S.header.locations ≤ 16)
  pub types_counted : length S.types ≡ S.header.types
  pub types_few : (1 ≤ S.header.types) × (S.header.types ≤ 64)
  pub maps_counted : length S.maps ≡ S.header.maps
  pub maps_few : (1 ≤ S.header.maps) × (S.header.maps ≤ 512)
  pub start : S.header.start.0 < length S.maps
  pub signatures_counted : length S.signatures ≡ length P.procedures
  pub rows_counted : length S.rows ≡ length P.steps
  -- a map has a number for each location
  pub map_wide : (m : ℕ) → m < length S.maps → length (get_or S.maps m []) ≡ S.header.locations
  -- the numbers on a type line
  pub ref_place : (t : ℕ) (p : Location) (c : TypeNumber) → t < length S.types
      → get_or S.types t declared_type.Int ≡ declared_type.Ref p c → (p.0 < S.header.locations) × (c.0 < t)
  pub type_maps : (t : ℕ) → t < length S.types → AllBelow (length S.maps) (maps (get_or S.types t declared_type.Int))
  -- the numbers on a procedure's line
  pub before_map : (f : ℕ) (d : Signature) → f < length S.signatures → (get_or S.signatures f d).before.0 < length S.maps
  pub argument_type : (f : ℕ) (d : Signature) → f < length S.signatures → (get_or S.signatures f d).argument.0 < length S.types
  pub after_map : (f : ℕ) (d : Signature) → f < length S.signatures → (get_or S.signatures f d).after.0 < length S.maps
  pub result_type : (f : ℕ) (d : Signature) → f < length S.signatures → (get_or S.signatures f d).result.0 < length S.types
  -- the numbers on a row
  pub row_type : (i : ℕ) (d : Row) → i < length S.rows → (get_or S.rows i d).type.0 < length S.types
  pub row_post : (i : ℕ) (d : Row) → i < length S.rows → (get_or S.rows i d).post.0 < length S.maps
  pub row_start : (i : ℕ) (d : Row) (m : MapNumber) → i < length S.rows → (get_or S.rows i d).start ≡ Some m → m.0 < length S.maps
