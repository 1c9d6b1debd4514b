-- What the readers of the two sheets found, put together.
use Rattle.std.proofs.Common.{Result, Ok, Err}
use mathlib.Core.Path.{◌≡◌}
use mathlib.Core.Path.{subst as along}
use mathlib.Core.List.{List}
use Prim.Native.Nat.{ℕ, ◌≤◌, ◌<◌}
use native.Mathlib.Omega.{arith}
use lib.ListN.{length}
use Rattle.spec.specs.Program.{Program, program_limit}
use Rattle.spec.specs.Split.{Split, split_limit, split}
use Rattle.spec.specs.WellFormed.{WellFormedProgram}
use Rattle.spec.specs.Verdict.{sheets}
use Rattle.spec.specs.declared.Purpose.{Purpose}
use Rattle.spec.specs.declared.Refusal.{Refusal}
use Rattle.spec.specs.declared.Refusal.TheVariants.{LongSplit}
use Rattle.spec.proofs.WellFormed.{well_formed_program, split_well_formed}
use Rattle.spec.proofs.Sheets.{long_split, split_refused, sheets_read}
use Rattle.spec.proofs.Ranges.{well_formed_in_range}
use Rattle.workspace.specs.Layout.{row_types_at, work_size}
use Rattle.workspace.specs.Region.{ChangedWithin}
use Rattle.workspace.specs.Holds.{HoldsProgram, HoldsSplit}
use Rattle.workspace.proofs.Held.{program_kept}
use Rattle.spec.specs.declared.Header.{Header}
use Rattle.workspace.specs.Sheets.{Small}
use Rattle.split.proofs.Found.{denominator_decodes, locations_decodes, start_decodes}
use Rattle.sheets.specs.Answers.{SheetsHeld, SheetsAnswered}
use Rattle.sheets.specs.declared.Held.{Held}

-- a program that is well formed, and the split's text
module _ (purpose : Purpose) (p s : List ℕ) {P : Program} (F : WellFormedProgram p P) where
  pub too_long : 65536 < length s → sheets purpose p s ≡ Err LongSplit
  unfolding program_limit
  too_long h = long_split purpose p s F.fits P (well_formed_program p F) h

  module _ (fits : length s ≤ 65536) where
    pub split_stops : {r : Refusal} → split purpose P s ≡ Err r → sheets purpose p s ≡ Err r
    unfolding program_limit
    split_stops e = split_refused purpose p s F.fits P (well_formed_program p F) fits _ e

    -- the split is read into the work space behind the program
    pub both_held : {w w' : List ℕ} {n k : ℕ} (header : Header) {S : Split} → split purpose P s ≡ Ok S
        → ChangedWithin row_types_at work_size w w' → HoldsProgram w P → HoldsSplit w' S → n ≡ length P.steps → n ≤ 256
        → k ≡ length P.procedures → k ≤ 16
        → S.header ≡ header → Small header → SheetsHeld purpose p s w' n k header
    unfolding program_limit split_limit
    both_held header {S} e changed holds holds' counted few procs few_procs headed small = record {
      P = P;
      S = S;
      read = sheets_read purpose p s F.fits P (well_formed_program p F) fits S e;
      holds = record {
        sheets = record {
          program_text = p;
          well_formed = F;
          in_range = well_formed_in_range (split_well_formed purpose P s fits e);
          program = program_kept changed F.stepped (omega (arith, counted, few)) (omega (arith, procs, few_procs)) holds;
          split = holds';
          steps_counted = counted;
          procedures_counted = procs;
          denominator_given = denominator_decodes S header headed;
          locations_given = locations_decodes S header headed;
          start_given = start_decodes S header headed;
        };
        headed = headed;
      };
      few = few;
      few_procedures = few_procs;
      small = small;
    }

-- ------------------------------------------------------------------ what an answer says

module _ (purpose : Purpose) (p s w : List ℕ) (answer : Result Held Refusal) (told : SheetsAnswered purpose p s w answer) where
  pub refused_by : {r : Refusal} → answer ≡ Err r → sheets purpose p s ≡ Err r
  refused_by e = along (SheetsAnswered purpose p s w) e told

  pub held_by : {held : Held} → answer ≡ Ok held → SheetsHeld purpose p s w held.steps held.procedures held.header
  held_by e = along (SheetsAnswered purpose p s w) e told
