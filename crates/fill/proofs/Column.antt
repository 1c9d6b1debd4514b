-- A column of the new maps: from the posts that are found at a location to those that are stored.
use Rattle.std.proofs.Common.{Option, None, Some, Ok, Err}
use mathlib.Core.Path.{◌≡◌, refl, sym, ap, ◌∙◌}
use mathlib.Core.Bool.{Bool, true, false}
use mathlib.Core.List.{List}
use Prim.Native.Nat.{ℕ, ◌≤◌, ◌<◌}
use native.Mathlib.Omega.{arith}
use lib.ListN.{length, take}
use lib.Seq.{length-take-le}
use Rattle.spec.specs.Program.{Program}
use Rattle.spec.specs.Split.{Split}
use Rattle.spec.specs.declared.Location.{Location}
use Rattle.spec.specs.declared.MapNumber.{MapNumber}
use Rattle.workspace.specs.Sheets.{HoldsSheets}
use Rattle.spec.specs.declared.Header.{Header}
use Rattle.workspace.proofs.Region.{region_part, changed_nothing}
use Rattle.sheets.specs.Answers.{HoldsBoth}
use Rattle.fill_theory.specs.GreatestMaps.{posts_at}
use Rattle.fill_theory.specs.FlowOf.{roots_of}
use Rattle.fill_theory.specs.Answer.{number_limit, map_at_most}
use Rattle.fill_theory.proofs.Roots.{roots_counted}
use Rattle.fill_theory.proofs.Placed.{roots_steps, steps_sized}
use Rattle.fill_transfer.specs.declared.Column.{Column}
use Rattle.fill_pass.specs.declared.Given.{Given}
use Rattle.fill_pass.specs.Roots.{Stored}
use Rattle.fill_pass.specs.Contract.{ColumnReady, FilledHere}
use Rattle.spec.specs.declared.Refusal.TheVariants.{NoAfterMaps}
use Rattle.fill.specs.Columns.{Room, PostsStored, ColumnGiven, ColumnFound, ColumnFilled}

-- a post for each step
pub posts_counted : {w ps : List ℕ} {steps procedures denominator locations start : ℕ} (P : Program) (S : Split) (l : ℕ)
    → HoldsSheets w steps procedures denominator locations start P S → posts_at P S l ≡ Some ps → length ps ≡ steps
unfolding posts_at roots_of
posts_counted P S l H found =
    roots_counted (roots_of S (record { 0 = l }) P) found
    ∙ roots_steps S (record { 0 = l }) 0 P.procedures P.root
    ∙ sym (H.steps_counted ∙ steps_sized P H.well_formed)

-- as many posts as steps stand in front of 256 places
pub front_long : (steps : ℕ) (q : List ℕ) → steps ≤ 256 → length q ≡ 256 → length (take steps q) ≡ steps
front_long steps q few long = length-take-le steps q (omega arith)

-- the column of a location in sheets with this denominator
abbrev column_of : Location → (denominator : ℕ) → Column
column_of p denominator = record { location = p; denominator = denominator }

abbrev given_of : (procedures : ℕ) → MapNumber → Given
given_of procedures start = record { procedures = procedures; start = start }

module _ (w : List ℕ) (header : Header) (steps procedures : ℕ) (p : Location) where
  pub column_fillable : ColumnGiven w header steps procedures p.0 → ColumnReady w (column_of p header.denominator) (given_of procedures header.start)
  column_fillable G = record {
    P = G.given.sheets.P;
    S = G.given.sheets.S;
    held = record { steps = steps; locations = header.locations; sheets = G.given.sheets.holds.sheets; within = G.within };
  }

  pub column_room : (posts : List ℕ) → ColumnGiven w header steps procedures p.0 → length posts ≡ steps → Room posts header.maps p.0
  column_room posts G long =
      let sheets = G.given.sheets in
      record {
        room = omega (arith, sheets.few, G.given.few_maps);
        within = omega (arith, G.within, sheets.small.locations);
      }

  module _ (q : List ℕ) (r : Bool) (F : FilledHere w (column_of p header.denominator) (given_of procedures header.start) q r) where
    posts_here : (P : Program) (S : Split) → HoldsBoth w header steps procedures P S → p.0 < header.locations → Stored (posts_at P S p.0) 0 q r
    posts_here P S H l = F.answers P S (record { steps = steps; locations = header.locations; sheets = H.sheets; within = l })

    pub column_nothing : r ≡ false → ColumnFilled w header steps procedures p.0 (Err NoAfterMaps) w
    column_nothing e = record {
      one = record { behind = changed_nothing _ _ w; others = λ m l h n. refl };
      answers = λ P S H l. not_found (posts_at P S p.0) (posts_here P S H l);
    }
      where
        not_found : (o : Option (List ℕ)) → Stored o 0 q r → ColumnFound header.maps p.0 w o (Err NoAfterMaps)
        not_found None s = refl
        not_found (Some ps) s = let clash : ◌≡◌ {A = ℕ} 0 1 = cc in absurd (omega arith)

    -- the posts that are found stand in front
    pub column_stored : r ≡ true → (w' : List ℕ) (s : Bool) → PostsStored (take steps q) header.maps p.0 s w w' → ColumnFilled w header steps procedures p.0 (Ok s) w'
    column_stored e w' s T = record {
      one = T.one;
      answers = λ P S H l. go P S H (posts_at P S p.0) refl (posts_here P S H l);
    }
      where
        go : (P : Program) (S : Split) → HoldsBoth w header steps procedures P S → (o : Option (List ℕ)) → posts_at P S p.0 ≡ o → Stored o 0 q r
            → ColumnFound header.maps p.0 w' (posts_at P S p.0) (Ok s)
        go P S H None h t = let clash : ◌≡◌ {A = ℕ} 0 1 = cc in absurd (omega arith)
        go P S H (Some ps) h t =
            let front : take steps q ≡ ps = ap (λ (n : ℕ). take n q) (sym (posts_counted P S p.0 H.sheets h)) ∙ region_part q 0 ps t.1 in
            let fits : s ≡ map_at_most number_limit ps = rw front at T.fits in
            rw h (ap Ok fits, λ small. rw front at (T.stored (fits ∙ small)))
