-- The reasons to stop of filling, one after the other: which answer a pair gets once all before it are passed. The limits are
-- written out.
use Rattle.std.proofs.Common.{None, Some, Result, Ok, Err}
use mathlib.Core.Path.{◌≡◌}
use mathlib.Core.Bool.{true, false}
use mathlib.Core.List.{List}
use Prim.Native.Nat.{ℕ, ◌≤◌, ◌<◌, min}
use lib.ListN.{length}
use borrow.Author.Tests.{le-leb, lt-leb}
use Rattle.spec.specs.Reading.{◌>>=◌, require}
use Rattle.spec.specs.Program.{Program}
use Rattle.spec.specs.Split.{Map, Split, split_limit}
use Rattle.spec.specs.Workspace.{workspace_size}
use Rattle.spec.specs.Verdict.{sheets, locks_take_enough, start_at_most_one, type_conditions_hold}
use Rattle.spec.specs.declared.Purpose.TheVariants.{Fill}
use Rattle.spec.specs.declared.Refusal.{Refusal}
use Rattle.spec.specs.declared.Refusal.TheVariants.{ShortWorkspace, NoAfterMaps, TooLarge}
use Rattle.text_theory.specs.Sheet.{sheet_text}
use Rattle.fill_theory.specs.Filled.{filled}
use Rattle.fill_theory.specs.GreatestMaps.{greatest_maps}
use Rattle.fill_theory.specs.Answer.{given_limit, number_limit, all_at_most, found_or, filled_text, fill}

-- ------------------------------------------------------------------ 41 and 42

module _ (buffer : ℕ) (P : Program) (S : Split) where
  pub no_after_maps : greatest_maps P S ≡ None → filled_text buffer P S ≡ Err NoAfterMaps
  unfolding filled_text found_or ◌>>=◌
  no_after_maps e = rw e

  module _ (γ : List Map) (found : greatest_maps P S ≡ Some γ) where
    pub large_number_lem : all_at_most 1000000000 γ ≡ false → filled_text buffer P S ≡ Err TooLarge
    unfolding filled_text found_or ◌>>=◌ require number_limit
    large_number_lem h = rw (found, h)

    module _ (small : all_at_most 1000000000 γ ≡ true) where
      pub long_text : min 65536 buffer < length (sheet_text (filled S γ)) → filled_text buffer P S ≡ Err TooLarge
      unfolding filled_text found_or ◌>>=◌ require number_limit split_limit
      long_text h = rw (found, small, lt-leb _ _ h)

      pub text_written : length (sheet_text (filled S γ)) ≤ min 65536 buffer
          → filled_text buffer P S ≡ Ok (sheet_text (filled S γ))
      unfolding filled_text found_or ◌>>=◌ require number_limit split_limit
      text_written h = rw (found, small, le-leb _ _ h)

-- ------------------------------------------------------------------ before them

module _ (room buffer : ℕ) (p s : List ℕ) where
  abbrev answered : Result (List ℕ) Refusal
  answered = fill room buffer p s

  pub short_workspace : room < 16384 → answered ≡ Err ShortWorkspace
  unfolding fill require ◌>>=◌ workspace_size
  short_workspace h = rw (lt-leb _ _ h)

  module _ (enough : 16384 ≤ room) where
    pub sheets_refused : (r : Refusal) → sheets Fill p s ≡ Err r → answered ≡ Err r
    unfolding fill require ◌>>=◌ workspace_size
    sheets_refused r e = rw (le-leb _ _ enough, e)

    module _ (P : Program) (S : Split) (reads : sheets Fill p s ≡ Ok (P, S)) where
      pub locks_decide : S.header.maps ≤ given_limit
          → answered ≡ (locks_take_enough S >>= λ locks. start_at_most_one P S >>= λ whole. type_conditions_hold P S >>= λ types_hold. filled_text buffer P S)
      unfolding fill require ◌>>=◌ workspace_size
      locks_decide few = rw (le-leb _ _ enough, reads, le-leb _ _ few)
