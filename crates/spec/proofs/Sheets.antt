-- Both sheets, read in turn: they are read exactly when both are well formed, and else the first reason stops them. The limits are
-- written out.
use Rattle.std.proofs.Common.{Result, Ok, Err}
use mathlib.Core.Path.{◌≡◌, refl, ◌∙◌}
use mathlib.Core.Path.{subst as along}
use mathlib.Core.List.{List}
use Prim.Native.Nat.{ℕ, ◌≤◌, ◌<◌}
use lib.Dec.{leb}
use lib.ListN.{length}
use borrow.Author.Tests.{leb-true, le-leb, lt-leb}
use Rattle.spec.specs.Reading.{◌>>=◌, require}
use Rattle.spec.specs.Program.{Program, program, program_limit}
use Rattle.spec.specs.Split.{Split, split, split_limit}
use Rattle.spec.specs.WellFormed.{WellFormedSheets}
use Rattle.spec.specs.Verdict.{sheets, numbers4, returned, on_conditions}
use Rattle.spec.specs.declared.Purpose.{Purpose}
use Rattle.spec.specs.declared.Refusal.{Refusal}
use Rattle.spec.specs.declared.Refusal.TheVariants.{LongProgram, LongSplit}
use Rattle.spec.proofs.Outcomes.{on_injective, bind_on, bind_bind, bind_alike, bind_through, goes_on_bind, demand_goes_on, goes_on_demand}
use Rattle.spec.proofs.WellFormed.{program_well_formed, well_formed_program, split_well_formed, well_formed_split}
use Rattle.spec.proofs.EarlyRefusals.{Early, early_bind, early_demand, program_early, split_early}

program_limit_lem : program_limit ≡ 16384
unfolding program_limit
program_limit_lem = refl

split_limit_lem : split_limit ≡ 65536
unfolding split_limit
split_limit_lem = refl

module _ (purpose : Purpose) (p s : List ℕ) where
  pub sheets_well_formed : {P : Program} {S : Split} → sheets purpose p s ≡ Ok (P, S) → WellFormedSheets purpose p s P S
  unfolding sheets
  sheets_well_formed h =
      bind_through _ _ h λ fits small h₁.
      bind_through _ _ h₁ λ P reads h₂.
      bind_through _ _ h₂ λ fits' small' h₃.
      bind_through _ _ h₃ λ S splits h₄.
      let formed : WellFormedSheets purpose p s P S = record {
        program = program_well_formed p (leb-true _ _ (demand_goes_on _ _ small)) reads;
        split = split_well_formed purpose P s (leb-true _ _ (demand_goes_on _ _ small')) splits;
      } in
      along (λ found. WellFormedSheets purpose p s found.0 found.1) (on_injective h₄) formed

  pub well_formed_sheets : {P : Program} {S : Split} → WellFormedSheets purpose p s P S → sheets purpose p s ≡ Ok (P, S)
  unfolding sheets
  well_formed_sheets {P} {S} F =
      goes_on_bind _ _ (goes_on_demand _ _ (le-leb _ _ F.program.fits))
      (goes_on_bind _ _ (well_formed_program p F.program)
      (goes_on_bind _ _ (goes_on_demand _ _ (le-leb _ _ F.split.fits))
      (goes_on_bind _ _ (well_formed_split purpose P s F.split) refl)))

  -- what is judged of both, once they are read
  pub sheets_then : {A : Type 0} (f : Program × Split → Result A Refusal) → (sheets purpose p s >>= f)
      ≡ (require (leb (length p) program_limit) LongProgram >>= λ fits. program p >>= λ P.
      require (leb (length s) split_limit) LongSplit >>= λ fits'. split purpose P s >>= λ S. f (P, S))
  unfolding sheets
  sheets_then f =
      bind_bind _ _ f ∙ bind_alike _ _ _ λ _ _.
      bind_bind _ _ f ∙ bind_alike _ _ _ λ P _.
      bind_bind _ _ f ∙ bind_alike _ _ _ λ _ _.
      bind_bind _ _ f ∙ bind_alike _ _ _ λ S _. bind_on (P, S) f

  -- what stops them is no condition
  pub sheets_early : Early (sheets purpose p s)
  unfolding sheets returned numbers4 on_conditions
  sheets_early =
      early_bind _ _ (early_demand _ _ refl) λ fits.
      early_bind _ _ (program_early p) λ P.
      early_bind _ _ (early_demand _ _ refl) λ fits'.
      early_bind _ _ (split_early purpose P s) λ S. tt

  pub long_program : 16384 < length p → sheets purpose p s ≡ Err LongProgram
  unfolding sheets require ◌>>=◌
  long_program h = rw (program_limit_lem, lt-leb _ _ h)

  module _ (fits : length p ≤ 16384) where
    pub program_refused : (r : Refusal) → program p ≡ Err r → sheets purpose p s ≡ Err r
    unfolding sheets require ◌>>=◌
    program_refused r e = rw (program_limit_lem, le-leb _ _ fits, e)

    module _ (P : Program) (reads : program p ≡ Ok P) where
      pub long_split : 65536 < length s → sheets purpose p s ≡ Err LongSplit
      unfolding sheets require ◌>>=◌
      long_split h = rw (program_limit_lem, le-leb _ _ fits, reads, split_limit_lem, lt-leb _ _ h)

      module _ (fits' : length s ≤ 65536) where
        pub split_refused : (r : Refusal) → split purpose P s ≡ Err r → sheets purpose p s ≡ Err r
        unfolding sheets require ◌>>=◌
        split_refused r e = rw (program_limit_lem, le-leb _ _ fits, reads, split_limit_lem, le-leb _ _ fits', e)

        pub sheets_read : (S : Split) → split purpose P s ≡ Ok S → sheets purpose p s ≡ Ok (P, S)
        unfolding sheets require ◌>>=◌
        sheets_read S e = rw (program_limit_lem, le-leb _ _ fits, reads, split_limit_lem, le-leb _ _ fits', e)
