-- A refusal has a number of its own, never that of ACCEPT.
use Prim.Native.Nat.{◌≤◌}
use native.Mathlib.Omega.{arith}
use Rattle.spec.specs.Verdict.{returned, numbers4}
use Rattle.spec.specs.declared.Answer.TheVariants.{Refuse}
use Rattle.spec.specs.declared.Refusal.{Refusal}
use Rattle.spec.specs.declared.Refusal.TheVariants.{ShortWorkspace, LongProgram, ProgramForm, ProgramRange, ProgramLines, Unbound, Rebound, LongSplit, SplitForm, SplitRange, SplitLines, NoStart, OverOne, TypeFalse, FlowFalse, AccessFalse, NoAfterMaps, TooLarge, TooManyMaps, LockTakesLess, Freelock, NoProcedure, NoKept}

-- a refusal's number is not 0
pub refusal_number : (r : Refusal) → 1 ≤ (returned (Refuse r)).number
unfolding returned numbers4
refusal_number ShortWorkspace = omega arith
refusal_number LongProgram = omega arith
refusal_number (ProgramForm k) = omega arith
refusal_number (ProgramRange k) = omega arith
refusal_number (ProgramLines k) = omega arith
refusal_number (Unbound k) = omega arith
refusal_number (Rebound k) = omega arith
refusal_number LongSplit = omega arith
refusal_number (SplitForm k) = omega arith
refusal_number (SplitRange k) = omega arith
refusal_number (SplitLines k) = omega arith
refusal_number (NoStart k) = omega arith
refusal_number (OverOne k l) = omega arith
refusal_number (TypeFalse k i) = omega arith
refusal_number (FlowFalse k i l) = omega arith
refusal_number (AccessFalse k i p) = omega arith
refusal_number NoAfterMaps = omega arith
refusal_number TooLarge = omega arith
refusal_number TooManyMaps = omega arith
refusal_number (LockTakesLess k) = omega arith
refusal_number (Freelock k) = omega arith
refusal_number (NoProcedure k) = omega arith
refusal_number (NoKept k) = omega arith
