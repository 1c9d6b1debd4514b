-- The limits of 42 and of 43, each at its end and one past it. The tests compute, so that no proof repeats a limit; each ends in `refl`,
-- so that under another limit the two answers are shown.
use Rattle.std.proofs.Common.{Some, Ok, Err}
use mathlib.Core.Path.{◌≡◌, refl}
use mathlib.Core.Bool.{true}
use mathlib.Core.List.{List, [], ◌∷◌}
use Prim.Native.Nat.{ℕ, ◌≤◌, min}
use lib.ListN.{length}
use borrow.Author.Tests.{le-leb}
use Rattle.spec.specs.Reading.{◌>>=◌, require}
use Rattle.spec.specs.Program.{Program}
use Rattle.spec.specs.Split.{Map, Split, split_limit}
use Rattle.spec.specs.Workspace.{workspace_size}
use Rattle.spec.specs.Verdict.{sheets, locks_take_enough, start_at_most_one, type_conditions_hold}
use Rattle.spec.specs.declared.Purpose.TheVariants.{Fill}
use Rattle.spec.specs.declared.Refusal.TheVariants.{TooLarge, TooManyMaps}
use Rattle.text_theory.specs.Sheet.{sheet_text}
use Rattle.fill_theory.specs.Filled.{filled}
use Rattle.fill_theory.specs.GreatestMaps.{greatest_maps}
use Rattle.fill_theory.specs.Answer.{given_limit, number_limit, map_at_most, all_at_most, found_or, filled_text, fill}

module _ (P : Program) (S : Split) (γ : List Map) (found : greatest_maps P S ≡ Some γ) where
  -- in a buffer with room for more, a text of 65,536 bytes is written and one of 65,537 is not
  module _ (small : all_at_most number_limit γ ≡ true) where
    pub longest_written : length (sheet_text (filled S γ)) ≡ 65536 → filled_text 65537 P S ≡ Ok (sheet_text (filled S γ))
    unfolding filled_text found_or ◌>>=◌ require split_limit
    longest_written e = rw (found, small, e) refl

    pub longer_refused : length (sheet_text (filled S γ)) ≡ 65537 → filled_text 65537 P S ≡ Err TooLarge
    unfolding filled_text found_or ◌>>=◌ require split_limit
    longer_refused e = rw (found, small, e) refl

  -- a greatest number of 1,000,000,000 is written where the text fits, one more is not
  pub largest_written : γ ≡ (1000000000 ∷ []) ∷ [] → (buffer : ℕ) → length (sheet_text (filled S γ)) ≤ min split_limit buffer
      → filled_text buffer P S ≡ Ok (sheet_text (filled S γ))
  unfolding filled_text found_or ◌>>=◌ require number_limit map_at_most all_at_most
  largest_written e buffer short =
      let small : all_at_most number_limit γ ≡ true = rw e in
      rw (found, small, le-leb _ _ short) refl

  pub larger_refused : γ ≡ (1000000001 ∷ []) ∷ [] → (buffer : ℕ) → filled_text buffer P S ≡ Err TooLarge
  unfolding filled_text found_or ◌>>=◌ require number_limit map_at_most all_at_most
  larger_refused e buffer = rw (found, e) refl

-- 256 given maps are let through to what is judged behind 43, and 257 are not
module _ (room buffer : ℕ) (p s : List ℕ) (enough : workspace_size ≤ room) (P : Program) (S : Split) (reads : sheets Fill p s ≡ Ok (P, S)) where
  pub most_given : S.header.maps ≡ 256
      → fill room buffer p s ≡ (locks_take_enough S >>= λ locks. start_at_most_one P S >>= λ whole. type_conditions_hold P S >>= λ types_hold. filled_text buffer P S)
  unfolding fill ◌>>=◌ require given_limit
  most_given e = rw (le-leb _ _ enough, reads, e) refl

  pub more_refused : S.header.maps ≡ 257 → fill room buffer p s ≡ Err TooManyMaps
  unfolding fill ◌>>=◌ require given_limit
  more_refused e = rw (le-leb _ _ enough, reads, e) refl
