-- What `fill_maps` promises: the greatest after-maps, filled in where the work space holds the sheets.
use Rattle.std.specs.Prelude.{◌≡◌, List, ℕ, Result, Ok, Err}
use Rattle.spec.specs.Reading.{◌>>=◌, require}
use Rattle.spec.specs.Program.{Program}
use Rattle.spec.specs.Split.{Map, Split}
use Rattle.workspace.specs.Sheets.{HoldsSheets}
use Rattle.spec.specs.declared.Header.{Header}
use Rattle.sheets.specs.Answers.{HoldsBoth}
use Rattle.fill_theory.specs.Filled.{filled}
use Rattle.fill_theory.specs.GreatestMaps.{greatest_maps}
use Rattle.fill_theory.specs.Answer.{number_limit, all_at_most, found_or}
use Rattle.spec.specs.declared.Refusal.{Refusal}
use Rattle.spec.specs.declared.Refusal.TheVariants.{NoAfterMaps, TooLarge}

-- the greatest after-maps; 41 if there are none, 42 if one has a number that is too large
unfoldable pub small_maps : Program → Split → Result (List Map) Refusal
small_maps P S = do
  γ ← found_or NoAfterMaps (greatest_maps P S)
  small ← require (all_at_most number_limit γ) TooLarge
  Ok γ

-- a refusal; or the sheets with these maps filled in
module _ (header : Header) (steps procedures : ℕ) (P : Program) (S : Split) (w : List ℕ) where
  abbrev pub FilledAs : Result (List Map) Refusal → Result (Unit {0}) Refusal → Type 0
  FilledAs (Err e) r = r ≡ Err e
  FilledAs (Ok γ) r = (r ≡ Ok tt) × HoldsSheets w steps procedures header.denominator header.locations header.start.0 P (filled S γ)

-- from w to w', for whichever sheets w holds
pub record FilledMaps (w : List ℕ) (header : Header) (steps procedures : ℕ) (r : Result (Unit {0}) Refusal) (w' : List ℕ) : Type 0 where
  pub answers : (P : Program) (S : Split) → HoldsBoth w header steps procedures P S → FilledAs header steps procedures P S w' (small_maps P S) r
