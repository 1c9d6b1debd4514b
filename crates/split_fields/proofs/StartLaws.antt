-- How a line without an s is refused where it needs one.
use Rattle.std.proofs.Common.{Err}
use mathlib.Core.Path.{◌≡◌}
use mathlib.Core.List.{List}
use mathlib.Core.Bool.{Bool, true, false}
use Prim.Native.Nat.{ℕ}
use Rattle.spec.specs.Choice.{when◌then◌else◌}
use Rattle.spec.specs.Text.{Line}
use Rattle.spec.specs.Reading.{split_sheet, LineResult, bad, no_start, no_kept, faulty, passed}
use Rattle.spec.specs.Split.{empty_fault}
use Rattle.spec.specs.Words.{keeps_back}
use Rattle.spec.specs.declared.Refusal.TheVariants.{NoStart, NoKept}
use Rattle.spec.specs.declared.Word.{Word}
use Rattle.split_fields.specs.Starts.{empty_refusal}

-- an empty s that may not be, as the line shows it
pub shows_empty : {A : Type 0} (k : ℕ) (l : List Line) (w : Word) {s : LineResult A} → s ≡ bad (empty_fault w) → passed split_sheet k l s ≡ Err (empty_refusal w k)
unfolding faulty passed empty_fault empty_refusal
shows_empty {A = A} k l w e = go (keeps_back w) e
  where
    go : (x : Bool) {s : LineResult A} → s ≡ bad (when x then no_kept else no_start) → passed split_sheet k l s ≡ Err (when x then NoKept k else NoStart k)
    go true e = rw e
    go false e = rw e
