-- A space whose front was lent: what is there afterwards.
use Rattle.std.proofs.Common.{Result}
use Prim.Native.Nat.{ℕ, ◌≤◌}
use mathlib.Core.Path.{◌∙◌}
use mathlib.Core.List.{List, ◌++◌}
use native.Mathlib.Omega.{arith}
use lib.ListN.{length, take, drop, get_or-append}
use lib.Seq.{length-take-le}
use Rattle.program.specs.Sheet.{ProgramIs}
use Rattle.program.specs.declared.Counts.{Counts}
use Rattle.spec.specs.declared.Refusal.{Refusal}
use Rattle.replay_control.specs.Layout.{continuations_at}
use Rattle.replay.specs.Start.{SheetIn}

-- The first N numbers of s are lent, and come back as x. N is a variable here, since `take 16384` would be computed.
pub sheet_in : (N : ℕ) → continuations_at ≤ N → (text s x : List ℕ) (r : Result Counts Refusal) → N ≤ length s → ProgramIs text (take N s) x r → SheetIn text (x ++ drop N s) r
sheet_in N enough text s x r h told =
    let first = told.long ∙ length-take-le N s h in
    record {
      work = x;
      answer = told.answer;
      front = λ i l. get_or-append x (drop N s) 0 i (omega (arith, first, enough, l));
    }
